-- What any number of accepted steps leave of a ledger, inside a loan or outside.
use Rattle.std.specs.Prelude.{◌≡◌, true, Some, IsSome}
use Rattle.amm_names.specs.Names.{Name}
use Rattle.amm_model.specs.declared.pair.PairRecord.{PairRecord}
use Rattle.amm_model.specs.Ledger.{Ledger, pair_of}
use Rattle.amm_model.specs.Laws.{TokenTotalsKept}
use Rattle.amm_model.specs.Sound.{IsSound}

-- Time, settings, tokens, quotes and observations are the same. Every pair stays, a locked one with
-- its record, and no other is locked. The totals of tokens stay, and a sound ledger stays sound.
pub record Later (old new : Ledger) : Type 0 where
  pub time : new.time ≡ old.time
  pub fee_to : new.fee_to ≡ old.fee_to
  pub setter : new.setter ≡ old.setter
  pub tokens : new.tokens ≡ old.tokens
  pub quotes : new.quotes ≡ old.quotes
  pub observations : new.observations ≡ old.observations
  pub stays : (pool : Name) → IsSome (pair_of old.pairs pool) → IsSome (pair_of new.pairs pool)
  pub locked : (pool : Name) (pair : PairRecord) → pair_of old.pairs pool ≡ Some pair → pair.locked ≡ true → pair_of new.pairs pool ≡ Some pair
  pub no_other : (pool : Name) (pair : PairRecord) → pair_of new.pairs pool ≡ Some pair → pair.locked ≡ true → pair_of old.pairs pool ≡ Some pair
  pub totals : TokenTotalsKept old new
  pub sound : IsSound old → IsSound new
