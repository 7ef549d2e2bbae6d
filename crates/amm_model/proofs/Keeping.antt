-- What every accepted step keeps: the locks, what the zero holder has, and the totals of tokens.
use Rattle.std.proofs.Common.{◌≡◌, ℕ, true, false, List, Option, Some, IsSome, Ok, inl, inr, refl, sym, ap, ◌∙◌, subst, arith}
use Rattle.std.proofs.lemmas.Bool.{cases_Bool}
use Rattle.amm_names.specs.declared.holder.Holder.{Holder}
use Rattle.amm_names.specs.declared.holder.Holder.TheVariants as holders
use Rattle.amm_names.specs.declared.holder.Asset.{Asset}
use Rattle.amm_names.specs.declared.holder.Asset.TheVariants as assets
use Rattle.amm_model.specs.declared.pair.PairRecord.{PairRecord}
use Rattle.amm_model.specs.Ledger.{Ledger, Pairs, pair_of}
use Rattle.amm_model.specs.Outcome.{Made}
use Rattle.amm_model.specs.Postings.{transfer}
use Rattle.amm_model.specs.Laws.{ZeroKept, TokenTotalsKept}
use Rattle.amm_model.specs.Sound.{IsSound, IsAtRest}
use Rattle.amm_model.proofs.Names.{name_cases, some_there, one_value}
use Rattle.amm_model.proofs.Transfers.{transfer_sent}
use Rattle.amm_model.proofs.Soundness.{OnlyAt, share_not_token}
use Rattle.amm_model.proofs.PlainSound.{Plain, transfer_plain, transfer_totals}

-- Every pair stays, a locked one with its record, and no other is locked; no asset of the zero
-- holder falls; the totals of tokens stay.
pub record Keeps (old new : Ledger) : Type 0 where
  pub stays : (pool : List ℕ) → IsSome (pair_of old.pairs pool) → IsSome (pair_of new.pairs pool)
  pub locked : (pool : List ℕ) (pair : PairRecord) → pair_of old.pairs pool ≡ Some pair → pair.locked ≡ true → pair_of new.pairs pool ≡ Some pair
  pub no_other : (pool : List ℕ) (pair : PairRecord) → pair_of new.pairs pool ≡ Some pair → pair.locked ≡ true → pair_of old.pairs pool ≡ Some pair
  pub zero : ZeroKept old new
  pub totals : TokenTotalsKept old new

-- Tokens, settings, time, quotes and observations are the same.
pub record SameSettings (old new : Ledger) : Type 0 where
  pub tokens : new.tokens ≡ old.tokens
  pub fee_to : new.fee_to ≡ old.fee_to
  pub setter : new.setter ≡ old.setter
  pub time : new.time ≡ old.time
  pub quotes : new.quotes ≡ old.quotes
  pub observations : new.observations ≡ old.observations

pub same_settings : (a : Ledger) → SameSettings a a
same_settings a = record { tokens = refl; fee_to = refl; setter = refl; time = refl; quotes = refl; observations = refl }

pub only_same_settings : (pool : List ℕ) (old new : Ledger) → OnlyAt pool old new → SameSettings old new
only_same_settings pool old new only = record { tokens = only.tokens; fee_to = only.fee_to; setter = only.setter; time = only.time; quotes = only.quotes; observations = only.observations }

pub free_not_locked : (x y : PairRecord) → x.locked ≡ false → x ≡ y → y.locked ≡ true → ⊥
free_not_locked x y free same shut = let e : y.locked ≡ false = ap (λ (p : PairRecord). p.locked) (sym same) ∙ free in cc

-- where every pair is as it was
pub keeps_same_pairs : (old new : Ledger) → new.pairs ≡ old.pairs → ZeroKept old new → TokenTotalsKept old new → Keeps old new
keeps_same_pairs old new same zero totals = record {
  stays = λ pool is. subst (λ (ps : Pairs). IsSome (pair_of ps pool)) (sym same) is;
  locked = λ pool pair is shut. ap (λ (ps : Pairs). pair_of ps pool) same ∙ is;
  no_other = λ pool pair is shut. ap (λ (ps : Pairs). pair_of ps pool) (sym same) ∙ is;
  zero = zero;
  totals = totals;
}

pub keeps_same : (a : Ledger) → Keeps a a
keeps_same a = keeps_same_pairs a a refl (λ q. omega arith) (λ token. refl)

-- where one pool changed, which was free and is free again
pub keeps_at : (pool : List ℕ) (old new : Ledger) (was now : PairRecord) → OnlyAt pool old new → pair_of old.pairs pool ≡ Some was → was.locked ≡ false → pair_of new.pairs pool ≡ Some now → now.locked ≡ false → Keeps old new
keeps_at pool old new was now only there free written freed = record {
  stays = λ other is. elim (name_cases other pool) [
    | inl e ↦ some_there (pair_of new.pairs other) now (ap (pair_of new.pairs) e ∙ written)
    | inr apart ↦ subst (λ (o : Option PairRecord). IsSome o) (sym (only.pairs other apart)) is
  ];
  locked = λ other pair is shut. elim (name_cases other pool) [
    | inl e ↦ absurd (free_not_locked was pair free (one_value (pair_of old.pairs pool) was pair there (ap (pair_of old.pairs) (sym e) ∙ is)) shut)
    | inr apart ↦ only.pairs other apart ∙ is
  ];
  no_other = λ other pair is shut. elim (name_cases other pool) [
    | inl e ↦ absurd (free_not_locked now pair freed (one_value (pair_of new.pairs pool) now pair written (ap (pair_of new.pairs) (sym e) ∙ is)) shut)
    | inr apart ↦ sym (only.pairs other apart) ∙ is
  ];
  zero = only.zero;
  totals = λ token. only.totals (assets.Token token) (share_not_token pool token);
}

-- a ledger at rest stays at rest, where no pair became locked
pub rest_kept : (old new : Ledger) → IsAtRest old → ((pool : List ℕ) (pair : PairRecord) → pair_of new.pairs pool ≡ Some pair → pair.locked ≡ true → pair_of old.pairs pool ≡ Some pair) → IsSound new
    → IsAtRest new
rest_kept old new rest no_other sound = record {
  sound = sound;
  unlocked = λ pool pair is. elim (cases_Bool pair.locked) [
    | inl shut ↦ rest.unlocked pool pair (no_other pool pair is shut)
    | inr free ↦ free
  ];
}

-- ---- where every pair stays as it is

pub plain_keeps : (old new : Ledger) → Plain old new → TokenTotalsKept old new → Keeps old new
plain_keeps old new plain totals = keeps_same_pairs old new plain.pairs plain.zero totals

module _ (old : Ledger) (asset : Asset) (user : List ℕ) (to : Holder) (n : ℕ) (made : Made (Unit {0})) (is : transfer old asset (holders.User user) to n ≡ Ok made) where
  pub transfer_keeps : Keeps old made.ledger
  transfer_keeps = plain_keeps old made.ledger (transfer_plain old asset user to n made is) (transfer_totals old asset user to n made is)

  pub transfer_same_settings : SameSettings old made.ledger
  transfer_same_settings =
      let rest = (transfer_sent old asset (holders.User user) to n made is).rest in
      record { tokens = rest.tokens; fee_to = rest.fee_to; setter = rest.setter; time = rest.time; quotes = rest.quotes; observations = rest.observations }
