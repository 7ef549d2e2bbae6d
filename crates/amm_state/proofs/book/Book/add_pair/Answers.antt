use Rattle.std.proofs.Common.{◌≡◌, [], ◌∷◌, ◌++◌, None, ap, ◌∙◌}
use Rattle.indexmap.proofs.CallerLemmas.{insert_entry-new}
use Rattle.amm_model.specs.Ledger.{Pairs, pair_of, zero_pair}
use Rattle.amm_state.specs.Book.{BookView, with_ledger, with_pairs}
use Rattle.amm_state.proofs.book.Book.add_pair.Goals as goal
use Rattle.amm_state.proofs.book.Book.add_pair.Goals.{in-Ok, in-Err}

pub returns-clause-ok : goal.returns-clause-ok
returns-clause-ok c = elim c.match-insert.branch [
  | in-Ok w ↦
      let none : pair_of c.self.inside.pairs.entries c.args.pool.now ≡ None = ap (λ (b : BookView). pair_of b.ledger.pairs c.args.pool.now) c.self.view_is ∙ c.requires in
      let pairs : c.insert.new.self.entries ≡ c.self.inside.pairs.entries ++ (c.args.pool.now, zero_pair) ∷ [] =
      w.in-Ok.ensures.entries ∙ insert_entry-new _ c.self.inside.pairs c.args.pool.now zero_pair none in
      rw w.result-is
      (ap (λ (k : Pairs). record { ledger = record { holdings = c.self.inside.assets.holdings; tokens = c.self.inside.tokens.keys; pairs = k; fee_to = c.self.inside.fee_to; setter = c.self.inside.setter; time = c.self.inside.time; quotes = c.self.inside.quotes.items; observations = c.self.inside.observations }; rows = c.self.inside.assets.rows }) pairs
      ∙ ap (λ (b : BookView). with_ledger b (with_pairs b.ledger (b.ledger.pairs ++ (c.args.pool.now, zero_pair) ∷ []))) c.self.view_is)
  | in-Err w ↦ rw w.result-is tt
]
