-- Ledgers at rest that get one pair more, and reserves for a pair without shares.
use Rattle.std.proofs.Common.{◌≡◌, ◌<◌, ◌≤◌, ◌^◌, ℕ, Bool, true, false, cond, Ok, Some, None, inl, inr, arith, refl, ap, sym, subst, ◌∙◌}
use Rattle.std.specs.Prelude.{Option, IsSome}
use Rattle.amm_names.specs.declared.holder.Asset.TheVariants as assets
use Rattle.amm_names.specs.Pools.{pool_token0, pool_token1}
use Rattle.amm_model.specs.declared.pair.PairRecord.{PairRecord}
use Rattle.amm_model.specs.Formulas.{IsBacked}
use Rattle.amm_model.specs.Ledger.{Ledger, is_listed, pair_of, with_pair}
use Rattle.amm_model.specs.Outcome.{Made, ledger_only}
use Rattle.amm_model.specs.Postings.{add_pair}
use Rattle.amm_model.specs.Pools.{held0, held1, same_name, supply}
use Rattle.amm_names.specs.Names.{Name}
use Rattle.amm_model.specs.Sound.{IsAtRest}
use Rattle.amm_model.proofs.Names.{pair_of-set_here, pair_of-set_pair}
use Rattle.amm_model.proofs.PairSound.{add_pair_made, add_pair_sound, one_more_pair, pair_cases}
use Rattle.amm_model.proofs.Soundness.{sound_but_at, with_pair_only}

pub created_rest : (old : Ledger) (pool : Name) (made : Made (Unit {0})) → add_pair old pool ≡ Ok made → pair_of old.pairs pool ≡ None →
    is_listed old.tokens (pool_token0 pool) ≡ true → is_listed old.tokens (pool_token1 pool) ≡ true → IsAtRest old → IsAtRest made.ledger
created_rest old pool made is absent first second rest = record {
  sound = add_pair_sound old pool made is absent first second rest.sound;
  unlocked = λ q pair found. free q pair (subst (λ (l : Ledger). pair_of l.pairs q ≡ Some pair) (add_pair_made old pool made is).1 found);
} where
  free : (q : Name) (pair : PairRecord) → pair_of (one_more_pair old pool).pairs q ≡ Some pair → pair.locked ≡ false
  free q pair found = elim (pair_cases old pool q pair absent found) [
    | inl was ↦ rest.unlocked q pair was
    | inr new ↦ ap (λ (p : PairRecord). p.locked) new.1
  ]

-- a record with these reserves and nothing else
abbrev pub with_reserves : ℕ → ℕ → PairRecord
with_reserves r0 r1 = record { r0 = r0; r1 = r1; last = 0; acc0 = 0; acc1 = 0; k_last = 0; locked = false }

filled : (l : Ledger) (pool : Name) (r0 r1 : ℕ) → IsSome (pair_of l.pairs pool) → supply l pool ≡ 0 → (r0 ≤ held0 l pool) × (r0 < 2 ^ 48) → (r1 ≤ held1 l pool) × (r1 < 2 ^ 48) →
    IsAtRest l → IsAtRest (with_pair l pool (with_reserves r0 r1))
filled l pool r0 r1 there none first second rest = record {
  sound = sound_but_at pool l (with_pair l pool new) new rest.sound (with_pair_only l pool new there) (pair_of-set_here l.pairs pool new there) (rest.sound.totals (assets.Share pool)) (record {
    listed = listed (pair_of l.pairs pool) refl there;
    small = record { r0 = omega (arith, first.1); r1 = omega (arith, second.1); last = omega arith; acc0 = omega arith; acc1 = omega arith };
    covered = λ free. record { first = first.0; second = second.0 };
    backed = subst (λ (n : ℕ). IsBacked n r0 r1 0) (sym none) (record { backed = omega arith; kept = λ some. absurd (some refl) });
    kept = inl none;
  });
  unlocked = λ q pair found. free q pair (same_name pool q) (sym (pair_of-set_pair l.pairs pool new q there) ∙ found);
} where
  new : PairRecord
  new = with_reserves r0 r1

  listed : (o : Option PairRecord) → pair_of l.pairs pool ≡ o → IsSome o → (is_listed l.tokens (pool_token0 pool) ≡ true) × (is_listed l.tokens (pool_token1 pool) ≡ true)
  listed None e some = absurd cc
  listed (Some pair) e some = (rest.sound.pairs pool pair e).listed

  free : (q : Name) (pair : PairRecord) (b : Bool) → cond b (Some new) (pair_of l.pairs q) ≡ Some pair → pair.locked ≡ false
  free q pair true e = let same : pair ≡ new = cc in ap (λ (p : PairRecord). p.locked) same
  free q pair false e = rest.unlocked q pair e

pub filled_rest : (l : Ledger) (pool : Name) (r0 r1 : ℕ) (made : Made (Unit {0})) → ledger_only (with_pair l pool (with_reserves r0 r1)) ≡ Ok made → IsSome (pair_of l.pairs pool) → supply l pool ≡ 0 →
    (r0 ≤ held0 l pool) × (r0 < 2 ^ 48) → (r1 ≤ held1 l pool) × (r1 < 2 ^ 48) → IsAtRest l → IsAtRest made.ledger
filled_rest l pool r0 r1 made is there none first second rest =
    let after : Made (Unit {0}) = record { ledger = with_pair l pool (with_reserves r0 r1); answer = tt } in
    let same : after ≡ made = cc in
    subst (λ (m : Made (Unit {0})). IsAtRest m.ledger) same (filled l pool r0 r1 there none first second rest)
