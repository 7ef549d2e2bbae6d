use Rattle.std.proofs.Common.{◌≡◌, ℕ, List, [], ◌∷◌, ◌++◌, ap, ◌∙◌}
use Rattle.amm_model.specs.Ledger.{is_listed}
use Rattle.amm_state.specs.Book.{BookView, with_ledger, with_token}
use Rattle.amm_state.proofs.BookLemmas.{insert_key-new}
use Rattle.amm_state.proofs.book.Book.add_token.Goals as goal
use Rattle.amm_state.proofs.book.Book.add_token.Goals.{in-Ok, in-Err}

pub returns-clause-ok : goal.returns-clause-ok
returns-clause-ok c = elim c.match-insert.branch [
  | in-Ok w ↦
      let new = insert_key-new c.self.inside.tokens.keys c.args.token.now (ap (λ (b : BookView). is_listed b.ledger.tokens c.args.token.now) c.self.view_is ∙ c.requires) in
      let keys : c.insert.new.self.keys ≡ c.self.inside.tokens.keys ++ c.args.token.now ∷ [] = w.in-Ok.ensures.keys ∙ new in
      rw w.result-is
      (ap (λ (k : List (List ℕ)). record { ledger = record { holdings = c.self.inside.assets.holdings; tokens = k; pairs = c.self.inside.pairs.entries; fee_to = c.self.inside.fee_to; setter = c.self.inside.setter; time = c.self.inside.time; quotes = c.self.inside.quotes.items; observations = c.self.inside.observations }; rows = c.self.inside.assets.rows }) keys
      ∙ ap (λ (b : BookView). with_ledger b (with_token b.ledger c.args.token.now)) c.self.view_is)
  | in-Err w ↦ rw w.result-is tt
]
