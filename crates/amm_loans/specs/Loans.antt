-- The legs of a cycle run as nested loans.
use Rattle.std.specs.Prelude.{◌≡◌, false, List, [], ◌∷◌, map, All}
use Rattle.amm_names.specs.Names.{Name}
use Rattle.amm_model.specs.declared.problem.ProblemPool.{ProblemPool}
use Rattle.amm_model.specs.declared.route.Leg.{Leg}
use Rattle.amm_model.specs.Outcome.{◌>>=◌, Outcome, ledger_only}
use Rattle.amm_model.specs.Ledger.{Ledger, pair_of}
use Rattle.amm_model.specs.Legs.{leg_pool}
use Rattle.amm_model.specs.Market.{IsPoolIn}
use Rattle.amm_model.specs.Settlement.{is_locked}
use Rattle.amm_model.specs.CommandView.{Move}
use Rattle.amm_model.specs.Cycles.{nested_loans}
use Rattle.amm_model.specs.Meaning.{meaning}

-- The pools of the legs are in the ledger as the problem has them, and none of them is locked.
pub record AreReady (ledger : Ledger) (pools : List ProblemPool) (legs : List Leg) : Type 0 where
  pub kept : All (λ (pool : ProblemPool). IsPoolIn ledger pool) (map (leg_pool pools) legs)
  pub free : All (λ (pool : ProblemPool). is_locked (pair_of ledger.pairs pool.name) ≡ false) (map (leg_pool pools) legs)

-- A step is the nested loans of legs, of which there is one at least.
abbrev pub AreLoansOf : List ProblemPool → List Leg → Move → Type 0
AreLoansOf pools [] step = ⊥
AreLoansOf pools (first ∷ later) step = step ≡ nested_loans pools first later

-- The nested loans of legs, run for the actor. No leg does nothing.
unfoldable pub run_loans : Ledger → (actor : Name) → List ProblemPool → List Leg → Outcome (Unit {0})
run_loans ledger actor pools [] = ledger_only ledger
run_loans ledger actor pools (first ∷ later) = do
  made ← meaning ledger actor (nested_loans pools first later)
  ledger_only made.ledger
