-- How a mint and a burn end: the pair's record gets the reserves that the pool then has, and the
-- product if the fee is taken.
use Rattle.std.proofs.Common.{◌≡◌, ◌≤◌, ◌<◌, ◌+◌, ◌*◌, ℕ, Bool, true, false, List, Some, IsSome, refl, sym, ap, ◌∙◌, subst, arith}
use Rattle.amm_model.specs.declared.pair.PairRecord.{PairRecord}
use Rattle.amm_model.specs.Formulas.{IsBacked}
use Rattle.amm_model.specs.Ledger.{Ledger, pair_of, with_pair}
use Rattle.amm_model.specs.Pools.{held0, held1, supply}
use Rattle.amm_model.specs.declared.limits.TheConstants.{RESERVE_LIMIT}
use Rattle.amm_model.specs.Operations.{renewed_record, is_nobody, with_product, PerShareKept}
use Rattle.amm_model.specs.Sound.{IsSmall, IsSound}
use Rattle.amm_model.proofs.Names.{some_there, one_value, pair_of-set_here}
use Rattle.amm_model.proofs.Soundness.{OnlyAt, only_at_then, with_pair_only}
use Rattle.amm_model.proofs.Laters.{Kept, kept_at}
use Rattle.amm_pair.proofs.Operations.{Found, Renewed, renewed_small, settled_sound, IsKept}
use Rattle.amm_pair.proofs.Minting.{square_small}

-- the record at the end of a mint or a burn
record Closed (s b0 b1 : ℕ) (final : PairRecord) : Type 0 where
  pub small : IsSmall final
  pub r0 : final.r0 ≡ b0
  pub r1 : final.r1 ≡ b1
  pub backed : IsBacked s final.r0 final.r1 final.k_last

closed : (nobody : Bool) (pair : PairRecord) (time s b0 b1 : ℕ) → IsSmall pair → b0 ≤ RESERVE_LIMIT → b1 ≤ RESERVE_LIMIT → s * s ≤ b0 * b1
    → Closed s b0 b1 (with_product nobody (renewed_record pair time b0 b1))
closed true pair time s b0 b1 small s0 s1 square =
    let fine = renewed_small pair time b0 b1 small s0 s1 in
    record {
      small = record { r0 = fine.r0; r1 = fine.r1; last = fine.last; acc0 = fine.acc0; acc1 = fine.acc1 };
      r0 = refl;
      r1 = refl;
      backed = record { backed = square; kept = λ some. absurd (some refl) };
    }
closed false pair time s b0 b1 small s0 s1 square =
    let fine = renewed_small pair time b0 b1 small s0 s1 in
    record {
      small = record { r0 = fine.r0; r1 = fine.r1; last = fine.last; acc0 = fine.acc0; acc1 = fine.acc1 };
      r0 = refl;
      r1 = refl;
      backed = record { backed = square; kept = λ some. (square, omega arith) };
    }

-- and its lock is as it was
same_lock : (nobody : Bool) (pair : PairRecord) (time b0 b1 : ℕ) → (with_product nobody (renewed_record pair time b0 b1)).locked ≡ pair.locked
same_lock nobody pair time b0 b1 = refl

-- what came before left the record of the pool, which was free, and all other pools
pub record Ended (old : Ledger) (pool : List ℕ) (made : Ledger) : Type 0 where
  pub was : PairRecord
  pub found : Found old pool was
  pub mid : Ledger
  pub only : OnlyAt pool old mid
  pub still : pair_of mid.pairs pool ≡ Some was
  pub now : PairRecord
  pub renewed : Renewed mid pool was now
  pub after : made ≡ with_pair mid pool (with_product (is_nobody old.fee_to) now)

module _ (old : Ledger) (pool : List ℕ) (made : Ledger) (e : Ended old pool made) where
  abbrev nobody : Bool
  nobody = is_nobody old.fee_to

  abbrev final : PairRecord
  final = with_product nobody (renewed_record e.was e.mid.time (held0 e.mid pool) (held1 e.mid pool))

  made_is : made ≡ with_pair e.mid pool final
  made_is = e.after ∙ ap (λ (p : PairRecord). with_pair e.mid pool (with_product nobody p)) e.renewed.is

  there : IsSome (pair_of e.mid.pairs pool)
  there = some_there (pair_of e.mid.pairs pool) e.was e.still

  written : pair_of made.pairs pool ≡ Some final
  written = ap (λ (k : Ledger). pair_of k.pairs pool) made_is ∙ pair_of-set_here e.mid.pairs pool final there

  ended_only : OnlyAt pool old made
  ended_only = subst (OnlyAt pool old) (sym made_is) (only_at_then pool old e.mid (with_pair e.mid pool final) e.only (with_pair_only e.mid pool final there))

  pub ended_kept : (IsSound old → IsSound made) → Kept old made
  ended_kept sound = kept_at pool old made e.was final ended_only e.found.there e.found.free written (same_lock nobody e.was e.mid.time (held0 e.mid pool) (held1 e.mid pool) ∙ e.found.free) sound

  -- where the supply is within the root of the product
  module _ (sound : IsSound old) (square : supply e.mid pool * supply e.mid pool ≤ held0 e.mid pool * held1 e.mid pool) where
    final_closed : Closed (supply e.mid pool) (held0 e.mid pool) (held1 e.mid pool) final
    final_closed =
        closed nobody e.was e.mid.time (supply e.mid pool) (held0 e.mid pool) (held1 e.mid pool) (sound.pairs pool e.was e.found.there).small e.renewed.small0 e.renewed.small1 square

    pub ended_sound : IsKept e.mid pool → IsSound made
    ended_sound kept = subst IsSound (sym made_is)
        (settled_sound pool old e.mid e.was final sound e.found.there e.only e.still
        (omega (arith, square_small (supply e.mid pool) (held0 e.mid pool) (held1 e.mid pool) square e.renewed.small0 e.renewed.small1))
        final_closed.small final_closed.r0 final_closed.r1 final_closed.backed kept)

    -- the product for each squared share, against a supply with the fee
    pub ended_per_share : (fee : ℕ)
        → (0 < supply old pool + fee → (e.was.r0 * e.was.r1) * (supply e.mid pool * supply e.mid pool) ≤ (held0 e.mid pool * held1 e.mid pool) * ((supply old pool + fee) * (supply old pool + fee)))
        → PerShareKept old made pool fee
    ended_per_share fee product was now at_old at_new pos =
        let s : ℕ = supply old pool + fee in
        let e0 : e.was ≡ was = one_value (pair_of old.pairs pool) e.was was e.found.there at_old in
        let e1 : final ≡ now = one_value (pair_of made.pairs pool) final now written at_new in
        let t : supply made pool ≡ supply e.mid pool = ap (λ (k : Ledger). supply k pool) made_is in
        subst (λ (p : PairRecord). (p.r0 * p.r1) * (supply made pool * supply made pool) ≤ (now.r0 * now.r1) * (s * s)) e0
        (subst (λ (p : PairRecord). (e.was.r0 * e.was.r1) * (supply made pool * supply made pool) ≤ (p.r0 * p.r1) * (s * s)) e1
        (subst (λ (k : ℕ). (e.was.r0 * e.was.r1) * (k * k) ≤ (final.r0 * final.r1) * (s * s)) (sym t)
        (subst (λ (k : ℕ). (e.was.r0 * e.was.r1) * (supply e.mid pool * supply e.mid pool) ≤ (k * final.r1) * (s * s)) (sym final_closed.r0)
        (subst (λ (k : ℕ). (e.was.r0 * e.was.r1) * (supply e.mid pool * supply e.mid pool) ≤ (held0 e.mid pool * k) * (s * s)) (sym final_closed.r1) (product pos)))))
