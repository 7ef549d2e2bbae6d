-- A leg whose pool is as it was quoted is performed.
use Rattle.std.proofs.Common.{◌≡◌, ◌≢◌, ◌≤◌, ◌<◌, ◌+◌, ◌-◌, ◌^◌, ℕ, Bool, true, false, cond, List, length, get_or, inl, inr, refl, sym, ap, ◌∙◌, arith, subst}
use Rattle.std.specs.Prelude.{AllPairs}
use Rattle.std.specs.Str.{bytes_eq}
use Rattle.std.proofs.lemmas.Bool.{cases_lt}
use Rattle.std.proofs.lemmas.Slice.Eq.{bytes_eq-Decides}
use Rattle.amm_names.specs.declared.holder.Holder.TheVariants as holders
use Rattle.amm_names.specs.declared.holder.Asset.TheVariants as assets
use Rattle.amm_model.specs.declared.problem.ProblemPool.{ProblemPool}
use Rattle.amm_model.specs.declared.route.Leg.{Leg}
use Rattle.amm_model.specs.Ledger.{Ledger, balance}
use Rattle.amm_model.specs.Outcome.{ledger_only}
use Rattle.amm_model.specs.Swap.{amount_out_of}
use Rattle.amm_model.specs.Routing.{IsBefore, fee_of, no_pool}
use Rattle.amm_names.specs.Names.{Name}
use Rattle.amm_model.specs.Legs.{Inventory, IsLeg, leg_pool, token_in, token_out, reserve_in, reserve_out, balance_in, after_leg}
use Rattle.amm_model.specs.Settlement.{perform_leg}
use Rattle.amm_model.proofs.Names.{same_name_itself}
use Rattle.amm_model.proofs.Problems.{before-apart}
use Rattle.amm_settle.proofs.Trading.{IsAsKept, IsSoundPool, IsTraded}
use Rattle.amm_settle.proofs.ZeroSide.{zero_done}
use Rattle.amm_settle.proofs.OneSide.{one_done}

-- A leg was performed.
pub record LegDone (old : Ledger) (actor : Name) (pools : List ProblemPool) (leg : Leg) : Type 0 where
  pub ledger : Ledger
  pub is : perform_leg old actor pools leg ≡ ledger_only ledger
  pub traded : IsTraded (leg_pool pools leg) actor (token_in pools leg) (token_out pools leg) leg.input leg.output old ledger

pub leg_done : (ledger : Ledger) (actor : Name) (pools : List ProblemPool) (used : List ℕ) (held : Inventory) (leg : Leg) → IsSoundPool (leg_pool pools leg) → IsAsKept ledger (leg_pool pools leg)
    → IsLeg pools used held leg → leg.input ≤ balance ledger (assets.Token (token_in pools leg)) (holders.User actor) → LegDone ledger actor pools leg
unfolding perform_leg
leg_done ledger actor pools used held leg sound kept legal funds = by_side leg.pool leg.zero_in leg.input leg.output sound kept legal.positive legal.gives legal.pays legal.room legal.admissible funds
  where
    by_side : (place : ℕ) (zero_in : Bool) (input output : ℕ) → (let l : Leg = record { pool = place; zero_in = zero_in; input = input; output = output } in
        IsSoundPool (leg_pool pools l) → IsAsKept ledger (leg_pool pools l) → 1 ≤ input → 1 ≤ output
        → output ≡ amount_out_of (fee_of (leg_pool pools l)) input (reserve_in pools l) (reserve_out pools l) → balance_in pools l + input < 2 ^ 48
        → ((leg_pool pools l).b0 < 2 ^ 48) × ((leg_pool pools l).b1 < 2 ^ 48) → input ≤ balance ledger (assets.Token (token_in pools l)) (holders.User actor) → LegDone ledger actor pools l)
    by_side place true input output sound kept some gives pays room admissible funds =
        let d = zero_done ledger (get_or pools place no_pool) actor input output kept sound some gives pays room admissible.1 funds in
        record { ledger = d.ledger; is = d.is; traded = d.traded }
    by_side place false input output sound kept some gives pays room admissible funds =
        let d = one_done ledger (get_or pools place no_pool) actor input output kept sound some gives pays room admissible.0 funds in
        record { ledger = d.ledger; is = d.is; traded = d.traded }

-- ---- what the actor has, token by token

by_tests : (h o n x w : ℕ) (b c : Bool) → (b ≡ true → (x ≤ h) × (n + x ≡ o)) → (b ≡ true → c ≡ true → ⊥) → (c ≡ true → n ≡ o + w) → (b ≡ false → c ≡ false → n ≡ o)
    → n + h ≡ o + ((h - cond b x 0) + cond c w 0)
by_tests h o n x w true true from never to rest = absurd (never refl refl)
by_tests h o n x w true false from never to rest = let f = from refl in omega (arith, f.0, f.1)
by_tests h o n x w false true from never to rest = omega (arith, to refl)
by_tests h o n x w false false from never to rest = omega (arith, rest refl refl)

-- where the test says no, the names differ
told_no : (x y : Name) → bytes_eq x y ≡ false → x ≢ y
told_no x y test e = let yes : bytes_eq x y ≡ true = ap (bytes_eq x) (sym e) ∙ same_name_itself x in cc

-- a leg moves what the actor has as it moves the holdings
pub leg_tokens : (pools : List ProblemPool) (held : Inventory) (leg : Leg) (actor : Name) (old new : Ledger) → token_in pools leg ≢ token_out pools leg → leg.input ≤ held (token_in pools leg)
    → IsTraded (leg_pool pools leg) actor (token_in pools leg) (token_out pools leg) leg.input leg.output old new → (y : Name)
    → balance new (assets.Token y) (holders.User actor) + held y ≡ balance old (assets.Token y) (holders.User actor) + after_leg pools held leg y
leg_tokens pools held leg actor old new apart within traded y =
    by_tests (held y) (balance old (assets.Token y) (holders.User actor)) (balance new (assets.Token y) (holders.User actor)) leg.input leg.output (bytes_eq y (token_in pools leg)) (bytes_eq y (token_out pools leg))
    (λ b. let e : token_in pools leg ≡ y = sym ((bytes_eq-Decides y (token_in pools leg)).0 b) in (
      subst (λ (t : Name). leg.input ≤ held t) e within,
      subst (λ (t : Name). balance new (assets.Token t) (holders.User actor) + leg.input ≡ balance old (assets.Token t) (holders.User actor)) e traded.less,
    ))
    (λ b c. apart (sym ((bytes_eq-Decides y (token_in pools leg)).0 b) ∙ (bytes_eq-Decides y (token_out pools leg)).0 c))
    (λ c. subst (λ (t : Name). balance new (assets.Token t) (holders.User actor) ≡ balance old (assets.Token t) (holders.User actor) + leg.output) (sym ((bytes_eq-Decides y (token_out pools leg)).0 c)) traded.more)
    (λ b c. traded.own (assets.Token y) (λ e. told_no y (token_in pools leg) b (let same : y ≡ token_in pools leg = cc in same)) (λ e. told_no y (token_out pools leg) c (let same : y ≡ token_out pools leg = cc in same)))

-- ---- pools

-- pools at two places have two names
pub pools_apart : (pools : List ProblemPool) → AllPairs (λ (a b : ProblemPool). IsBefore a.name b.name) pools → (i j : ℕ) → i < length pools → j < length pools → i ≢ j
    → (get_or pools i no_pool).name ≢ (get_or pools j no_pool).name
pools_apart pools names i j il jl apart = elim (cases_lt i j) [
  | inl less ↦ before-apart _ _ (names i j no_pool less jl)
  | inr past ↦ elim (cases_lt j i) [
    | inl less ↦ λ e. before-apart _ _ (names j i no_pool less il) (sym e)
    | inr past2 ↦ absurd (apart (omega arith))
  ]
]
