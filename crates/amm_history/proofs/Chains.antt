-- Ledgers that lines leave, one after the other: how the readings of a pair grow through them.
use Rattle.std.proofs.Common.{◌≡◌, ◌≤◌, ◌<◌, ◌+◌, ◌-◌, ◌*◌, ◌/◌, ◌%◌, ◌^◌, ℕ, zero, suc, nat_eq, Bool, true, false, List, [], ◌∷◌, take, drop, Option, Some, None, ◌⊎◌, inl, inr, refl, sym, ap, ◌∙◌, subst, arith}
use Rattle.std.specs.Prelude.{if◌then◌else◌}
use Rattle.std.proofs.Math.Nat.{div-le_self, mul-le-mul_left}
use Rattle.amm_names.specs.Names.{Name}
use Rattle.amm_model.specs.declared.pair.PairRecord.{PairRecord}
use Rattle.amm_model.specs.declared.limits.TheConstants.{RESERVE_LIMIT}
use Rattle.amm_model.specs.Formulas.{elapsed_seconds}
use Rattle.amm_model.specs.Ledger.{Ledger, Pairs, pair_of, observation_at}
use Rattle.amm_model.specs.Sound.{IsAtRest}
use Rattle.amm_model.specs.WeightedPrices.{spot_price, spot0, spot1, price0, price1, weighted_sum, end_time}
use Rattle.amm_history.proofs.Readings.{reading, reading0, reading1}
use Rattle.amm_history.proofs.Lines.{Remembers, Onward, Stands, Sets}

-- each ledger is left by a line from the one before, and at rest
abbrev pub Chain : Ledger → List Ledger → Type 0
Chain old [] = Unit {0}
Chain old (next ∷ later) = Onward old next × IsAtRest next × Chain next later

-- the last of them
abbrev pub end_of : Ledger → List Ledger → Ledger
end_of old [] = old
end_of old (next ∷ later) = end_of next later

pub end_time_is : (old : Ledger) (later : List Ledger) → end_time old later ≡ (end_of old later).time
end_time_is old [] = refl
end_time_is old (next ∷ later) = end_time_is next later

pub chain_take : (n : ℕ) (old : Ledger) (later : List Ledger) → Chain old later → Chain old (take n later)
chain_take zero old later chain = tt
chain_take (suc n) old [] chain = tt
chain_take (suc n) old (next ∷ later) chain = (chain.0, chain.1, chain_take n next later chain.2)

pub chain_drop : (n : ℕ) (old : Ledger) (later : List Ledger) → Chain old later → Chain (end_of old (take n later)) (drop n later)
chain_drop zero old later chain = chain
chain_drop (suc n) old [] chain = tt
chain_drop (suc n) old (next ∷ later) chain = chain_drop n next later chain.2

end_none : (n : ℕ) (old : Ledger) → end_of old (take n []) ≡ old
end_none zero old = refl
end_none (suc n) old = refl

-- some ledgers, and then more of them
pub end_more : (m d : ℕ) (old : Ledger) (later : List Ledger) → end_of (end_of old (take m later)) (take d (drop m later)) ≡ end_of old (take (m + d) later)
end_more zero d old later = ap (λ (n : ℕ). end_of old (take n later)) (same d)
  where
    same : (n : ℕ) → n ≡ 0 + n
    same n = omega arith
end_more (suc m) d old [] = end_none d old ∙ sym (end_none (suc m + d) old)
end_more (suc m) d old (next ∷ later) = end_more m d next later ∙ ap (λ (n : ℕ). end_of old (take n (next ∷ later))) (same m d)
  where
    same : (n k : ℕ) → suc (n + k) ≡ suc n + k
    same n k = omega arith

onward_time : (old new : Ledger) → Stands old new ⊎ Sets old new → old.time ≤ new.time
onward_time old new (inl stands) = omega (arith, stands.time)
onward_time old new (inr sets) = sets.time

pub time_grows : (old : Ledger) (later : List Ledger) → Chain old later → old.time ≤ end_time old later
time_grows old [] chain = omega arith
time_grows old (next ∷ later) chain = omega (arith, onward_time old next chain.0.moves, time_grows next later chain.2)

pub chain_remembers : (old : Ledger) (later : List Ledger) → Chain old later → Remembers old (end_of old later)
chain_remembers old [] chain number o is = is
chain_remembers old (next ∷ later) chain number o is = chain_remembers next later chain.2 number o (chain.0.kept number o is)

-- what was observed in one is remembered in each later one
pub remembers_between : (m n : ℕ) (old : Ledger) (later : List Ledger) → m ≤ n → Chain old later → Remembers (end_of old (take m later)) (end_of old (take n later))
remembers_between m n old later within chain number o is =
    let whole : m + (n - m) ≡ n = omega (arith, within) in
    let mid = end_of old (take m later) in
    let there = chain_remembers mid (take (n - m) (drop m later)) (chain_take (n - m) mid (drop m later) (chain_drop m old later chain)) number o is in
    subst (λ (l : Ledger). observation_at l.observations number ≡ Some o) (end_more m (n - m) old later ∙ ap (λ (i : ℕ). end_of old (take i later)) whole) there

-- and it was no later
pub time_between : (m n : ℕ) (old : Ledger) (later : List Ledger) → m ≤ n → Chain old later → (end_of old (take m later)).time ≤ (end_of old (take n later)).time
time_between m n old later within chain =
    let whole : m + (n - m) ≡ n = omega (arith, within) in
    let mid = end_of old (take m later) in
    let more : List Ledger = take (n - m) (drop m later) in
    let grows = time_grows mid more (chain_take (n - m) mid (drop m later) (chain_drop m old later chain)) in
    let same : (end_of mid more).time ≡ (end_of old (take n later)).time = ap (λ (l : Ledger). l.time) (end_more m (n - m) old later ∙ ap (λ (i : ℕ). end_of old (take i later)) whole) in
    omega (arith, grows, end_time_is mid more, same)

-- ---- arithmetic

elapsed_is : (from time : ℕ) → from ≤ time → time < from + 2 ^ 32 → elapsed_seconds time (from % 2 ^ 32) ≡ time - from
elapsed_is from time past near = omega arith

both_more : (x y z : ℕ) → x % 2 ^ 128 ≡ y % 2 ^ 128 → (x + z) % 2 ^ 128 ≡ (y + z) % 2 ^ 128
both_more x y z same = omega arith

-- what an accumulator reads later, at the same price
later_reading : (acc s from u v b : ℕ) → from ≤ u → u ≤ v → (acc + s * (u - from)) % 2 ^ 128 ≡ b % 2 ^ 128 → (acc + s * (v - from)) % 2 ^ 128 ≡ (b + (v - u) * s) % 2 ^ 128
later_reading acc s from u v b past later same =
    let whole : acc + s * (v - from) ≡ (acc + s * (u - from)) + (v - u) * s = parts (v - from) (u - from) (v - u) (omega arith) in
    ap (λ (n : ℕ). n % 2 ^ 128) whole ∙ both_more (acc + s * (u - from)) b ((v - u) * s) same
  where
    parts : (all first second : ℕ) → all ≡ first + second → acc + s * all ≡ (acc + s * first) + second * s
    parts all first second e = ap (λ (n : ℕ). acc + s * n) e ∙ omega arith

-- ---- readings through a chain

-- The pool's pair was last updated at begun or later, and its accumulators read these numbers.
pub record Since (pool : Name) (begun base0 base1 : ℕ) (ledger : Ledger) : Type 0 where
  pub pair : PairRecord
  pub there : pair_of ledger.pairs pool ≡ Some pair
  pub from : ℕ
  pub after : begun ≤ from
  pub past : from ≤ ledger.time
  pub last : pair.last ≡ from % 2 ^ 32
  pub first : reading0 ledger.time pair ≡ base0 % 2 ^ 128
  pub second : reading1 ledger.time pair ≡ base1 % 2 ^ 128

module _ (pool : Name) (begun base0 base1 : ℕ) (old new : Ledger) (since : Since pool begun base0 base1 old) where
  no_weight : (b p : ℕ) → new.time ≡ old.time → b % 2 ^ 128 ≡ (b + (new.time - old.time) * p) % 2 ^ 128
  no_weight b p same = ap (λ (n : ℕ). n % 2 ^ 128) (none (new.time - old.time) (omega (arith, same)))
    where
      none : (n : ℕ) → n ≡ 0 → b ≡ b + n * p
      none n e = rw e (omega arith)

  since_stands : Stands old new → Since pool begun (base0 + (new.time - old.time) * price0 pool old) (base1 + (new.time - old.time) * price1 pool old) new
  since_stands stands =
      let d = stands.pairs pool since.pair since.there in
      let at : (reading0 new.time d.now ≡ reading0 old.time d.now) × (reading1 new.time d.now ≡ reading1 old.time d.now) =
      (ap (λ (t : ℕ). reading0 t d.now) stands.time, ap (λ (t : ℕ). reading1 t d.now) stands.time) in
      by d.now d.there d.drift.last (at.0 ∙ d.drift.first ∙ since.first ∙ no_weight base0 (price0 pool old) stands.time)
      (at.1 ∙ d.drift.second ∙ since.second ∙ no_weight base1 (price1 pool old) stands.time)
    where
      by : (now : PairRecord) → pair_of new.pairs pool ≡ Some now → (now.last ≡ since.pair.last) ⊎ (now.last ≡ old.time % 2 ^ 32)
          → reading0 new.time now ≡ (base0 + (new.time - old.time) * price0 pool old) % 2 ^ 128 → reading1 new.time now ≡ (base1 + (new.time - old.time) * price1 pool old) % 2 ^ 128
          → Since pool begun (base0 + (new.time - old.time) * price0 pool old) (base1 + (new.time - old.time) * price1 pool old) new
      by now there (inl same) first second = record {
        pair = now;
        there = there;
        from = since.from;
        after = since.after;
        past = omega (arith, since.past, stands.time);
        last = same ∙ since.last;
        first = first;
        second = second;
      }
      by now there (inr updated) first second = record {
        pair = now;
        there = there;
        from = old.time;
        after = omega (arith, since.after, since.past);
        past = omega (arith, stands.time);
        last = updated;
        first = first;
        second = second;
      }

  module _ (sets : Sets old new) (near : new.time < begun + 2 ^ 32) where
    grown : (acc units per base : ℕ) → reading acc units per (elapsed_seconds old.time since.pair.last) ≡ base % 2 ^ 128
        → reading acc units per (elapsed_seconds new.time since.pair.last) ≡ (base + (new.time - old.time) * spot_price units per) % 2 ^ 128
    grown acc units per base was =
        let u : elapsed_seconds old.time since.pair.last ≡ old.time - since.from =
        ap (elapsed_seconds old.time) since.last ∙ elapsed_is since.from old.time since.past (omega (arith, near, since.after, sets.time)) in
        let v : elapsed_seconds new.time since.pair.last ≡ new.time - since.from =
        ap (elapsed_seconds new.time) since.last ∙ elapsed_is since.from new.time (omega (arith, since.past, sets.time)) (omega (arith, near, since.after)) in
        ap (reading acc units per) v
        ∙ later_reading acc (spot_price units per) since.from old.time new.time base since.past sets.time (ap (reading acc units per) (sym u) ∙ was)

    since_sets : Since pool begun (base0 + (new.time - old.time) * price0 pool old) (base1 + (new.time - old.time) * price1 pool old) new
    since_sets =
        let pair = since.pair in
        let p0 : spot_price pair.r1 pair.r0 ≡ price0 pool old = ap spot0 (sym since.there) in
        let p1 : spot_price pair.r0 pair.r1 ≡ price1 pool old = ap spot1 (sym since.there) in
        record {
          pair = pair;
          there = ap (λ (ps : Pairs). pair_of ps pool) sets.pairs ∙ since.there;
          from = since.from;
          after = since.after;
          past = omega (arith, since.past, sets.time);
          last = since.last;
          first = grown pair.acc0 pair.r1 pair.r0 base0 since.first ∙ ap (λ (p : ℕ). (base0 + (new.time - old.time) * p) % 2 ^ 128) p0;
          second = grown pair.acc1 pair.r0 pair.r1 base1 since.second ∙ ap (λ (p : ℕ). (base1 + (new.time - old.time) * p) % 2 ^ 128) p1;
        }

  since_line : Stands old new ⊎ Sets old new → new.time < begun + 2 ^ 32 → Since pool begun (base0 + (new.time - old.time) * price0 pool old) (base1 + (new.time - old.time) * price1 pool old) new
  since_line (inl stands) near = since_stands stands
  since_line (inr sets) near = since_sets sets near

pub since_chain : (pool : Name) (begun base0 base1 : ℕ) (old : Ledger) (later : List Ledger) → Chain old later → end_time old later < begun + 2 ^ 32 → Since pool begun base0 base1 old
    → Since pool begun (base0 + weighted_sum (price0 pool) old later) (base1 + weighted_sum (price1 pool) old later) (end_of old later)
since_chain pool begun base0 base1 old [] chain near since = moved base0 base1 (omega arith) (omega arith) since
  where
    moved : (c0 c1 : ℕ) → c0 ≡ base0 + 0 → c1 ≡ base1 + 0 → Since pool begun c0 c1 old → Since pool begun (base0 + 0) (base1 + 0) old
    moved c0 c1 e0 e1 s = subst (λ (n : ℕ). Since pool begun n (base1 + 0) old) e0 (subst (λ (n : ℕ). Since pool begun c0 n old) e1 s)
since_chain pool begun base0 base1 old (next ∷ later) chain near since =
    let grows = time_grows next later chain.2 in
    let w0 : ℕ = (next.time - old.time) * price0 pool old in
    let w1 : ℕ = (next.time - old.time) * price1 pool old in
    let s0 : ℕ = weighted_sum (price0 pool) next later in
    let s1 : ℕ = weighted_sum (price1 pool) next later in
    let one = since_line pool begun base0 base1 old next since chain.0.moves (omega (arith, grows, near)) in
    let e0 : (base0 + w0) + s0 ≡ base0 + (w0 + s0) = omega arith in
    let e1 : (base1 + w1) + s1 ≡ base1 + (w1 + s1) = omega arith in
    subst (λ (n : ℕ). Since pool begun n (base1 + (w1 + s1)) (end_of next later)) e0
    (subst (λ (n : ℕ). Since pool begun ((base0 + w0) + s0) n (end_of next later)) e1
    (since_chain pool begun (base0 + w0) (base1 + w1) next later chain.2 near one))

-- ---- the sum fits an accumulator

price_small : (units per : ℕ) → units ≤ RESERVE_LIMIT → spot_price units per ≤ 2 ^ 96
price_small units per small = by (nat_eq units 0) (nat_eq per 0)
  where
    by : (b c : Bool) → (if b then 0 else (if c then 0 else units * 2 ^ 48 / per)) ≤ 2 ^ 96
    by true c = omega arith
    by false true = omega arith
    by false false = omega (arith, div-le_self (units * 2 ^ 48) per)

pub price0_small : (pool : Name) (ledger : Ledger) → IsAtRest ledger → price0 pool ledger ≤ 2 ^ 96
price0_small pool ledger rest = by (pair_of ledger.pairs pool) refl
  where
    by : (o : Option PairRecord) → pair_of ledger.pairs pool ≡ o → spot0 o ≤ 2 ^ 96
    by None is = omega arith
    by (Some pair) is = price_small pair.r1 pair.r0 (rest.sound.pairs pool pair is).small.r1

pub price1_small : (pool : Name) (ledger : Ledger) → IsAtRest ledger → price1 pool ledger ≤ 2 ^ 96
price1_small pool ledger rest = by (pair_of ledger.pairs pool) refl
  where
    by : (o : Option PairRecord) → pair_of ledger.pairs pool ≡ o → spot1 o ≤ 2 ^ 96
    by None is = omega arith
    by (Some pair) is = price_small pair.r0 pair.r1 (rest.sound.pairs pool pair is).small.r0

pub sum_small : (price : Ledger → ℕ) → ((l : Ledger) → IsAtRest l → price l ≤ 2 ^ 96) → (old : Ledger) (later : List Ledger) → IsAtRest old → Chain old later
    → weighted_sum price old later ≤ (end_time old later - old.time) * 2 ^ 96
sum_small price small old [] rest chain = omega arith
sum_small price small old (next ∷ later) rest chain =
    let here : (next.time - old.time) * price old ≤ (next.time - old.time) * 2 ^ 96 = mul-le-mul_left (next.time - old.time) (small old rest) in
    let there = sum_small price small next later chain.1 chain.2 in
    let t = onward_time old next chain.0.moves in
    let g = time_grows next later chain.2 in
    omega (arith, here, there, t, g)
