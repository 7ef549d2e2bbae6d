-- What is kept before the first leg, and after one more.
use Rattle.std.proofs.Common.{◌≡◌, ◌≢◌, ℕ, ◌+◌, ◌-◌, ◌*◌, ◌^◌, ◌<◌, ◌≤◌, Bool, true, false, cond, nat_eq, List, [], ◌∷◌, length, map, take, arith, zero, suc, refl, sym, ap, subst, ◌∙◌, get_or, set}
use Rattle.std.specs.Prelude.{◌↔◌, All, AllPairs, if◌then◌else◌}
use Rattle.std.specs.Str.{bytes_eq}
use Rattle.std.proofs.lemmas.Bool.Decides.{nat_tests}
use Rattle.std.proofs.lemmas.Slice.Eq.{bytes_eq-Decides}
use Rattle.std.proofs.lemmas.List.{get_or-map, get_or-set_same, get_or-set_other, length-take, take_all}
use Rattle.std.proofs.lemmas.List.Elements.{All-cons, All-tail}
use Rattle.std.proofs.Math.ListN.{length-set}
use Rattle.amm_model.specs.declared.problem.Part.{Part}
use Rattle.amm_model.specs.declared.problem.ProblemPool.{ProblemPool}
use Rattle.amm_model.specs.declared.problem.TokenPlaces.{TokenPlaces}
use Rattle.amm_model.specs.declared.route.Leg.{Leg}
use Rattle.amm_model.specs.Swap.{amount_out_of}
use Rattle.amm_model.specs.Routing.{OpenView, IsBefore, IsOpenProblem, fee_of, given_by_parts, part_place, places_of, token_place, no_pool, token0_of, token1_of, amount_given}
use Rattle.amm_names.specs.Names.{Name}
use Rattle.amm_model.specs.Legs.{Inventory, IsLeg, after_legs, used_after, no_leg, leg_pool, token_in, token_out}
use Rattle.amm_model.proofs.Swap.{amount_out-lt}
use Rattle.amm_model.proofs.Problems.{before-apart, no_part, once_tokens, parts_there, tokens_there, tokens_few, token_at, same_at}
use Rattle.amm_model.proofs.LegLaw.{legs_few}
use Rattle.amm_legs.specs.Progress.{Follows, IsNext}
use Rattle.amm_legs.proofs.Legs.{after_legs-more, legs-more, used_after-more}
use Rattle.amm_legs.proofs.Places.{read_set, moved}

-- one part more is given
given-more : (parts : List Part) (i : ℕ) → i < length parts → AllPairs (λ (a b : Part). IsBefore a.token b.token) parts → (y : Name) →
    given_by_parts (take (suc i) parts) y ≡ (if bytes_eq y (get_or parts i no_part).token then (get_or parts i no_part).amount else given_by_parts (take i parts) y)
given-more [] i below rising y = absurd (omega arith)
given-more (part ∷ parts) zero below rising y = refl
given-more (part ∷ parts) (suc i) below rising y =
    pick (bytes_eq y part.token) (bytes_eq y (get_or parts i no_part).token) (bytes_eq-Decides y part.token).0 (bytes_eq-Decides y (get_or parts i no_part).token).0
    (before-apart part.token (get_or parts i no_part).token (rising 0 (suc i) no_part (omega arith) below))
    (given-more parts i (omega arith) (λ a b d ab under. rising (suc a) (suc b) d (omega arith) (omega arith)) y)
  where
    pick : (b c : Bool) → (b ≡ true → y ≡ part.token) → (c ≡ true → y ≡ (get_or parts i no_part).token) → part.token ≢ (get_or parts i no_part).token →
        given_by_parts (take (suc i) parts) y ≡ cond c (get_or parts i no_part).amount (given_by_parts (take i parts) y) →
        cond b part.amount (given_by_parts (take (suc i) parts) y) ≡ cond c (get_or parts i no_part).amount (cond b part.amount (given_by_parts (take i parts) y))
    pick true true first other apart rest = absurd (apart (sym (first refl) ∙ other refl))
    pick true false first other apart rest = refl
    pick false true first other apart rest = rest
    pick false false first other apart rest = rest

-- What is held of each token after so many parts.
pub record Gives (problem : OpenView) (n : ℕ) (held : List ℕ) : Type 0 where
  pub long : length held ≡ 521
  pub amounts : (j : ℕ) → j < length problem.tokens → get_or held j 0 ≡ given_by_parts (take n problem.parts) (get_or problem.tokens j [])
  pub below : (j : ℕ) → get_or held j 0 ≤ 2 ^ 52

-- the place of a part
part_at : (problem : OpenView) (places : List ℕ) (i : ℕ) → i < length problem.parts → places ≡ map (part_place problem.tokens) problem.parts →
    get_or places i 0 ≡ token_place problem.tokens (get_or problem.parts i no_part).token
part_at problem places i below places-are = ap (λ (ps : List ℕ). get_or ps i 0) places-are ∙ get_or-map (part_place problem.tokens) problem.parts i no_part 0 below

pub part_place-lt : (problem : OpenView) → IsOpenProblem problem → (places : List ℕ) (i : ℕ) → i < length problem.parts →
    places ≡ map (part_place problem.tokens) problem.parts → get_or places i 0 < 521
part_place-lt problem sound places i below places-are =
    omega (arith, part_at problem places i below places-are, parts_there problem sound i no_part below, tokens_few problem sound)

pub gives_next : (problem : OpenView) → IsOpenProblem problem → (places held : List ℕ) (i amount : ℕ) → i < length problem.parts →
    places ≡ map (part_place problem.tokens) problem.parts → amount ≡ (get_or problem.parts i no_part).amount → Gives problem i held →
    Gives problem (suc i) (set held (get_or places i 0) amount)
gives_next problem sound places held i amount below places-are amount-is gives = record {
  long = length-set held place amount ∙ gives.long;
  amounts = λ j there. read_set held place amount j inside
      ∙ ap (λ (b : Bool). cond b amount (get_or held j 0)) (ap (nat_eq j) place-is ∙ sym (same_at problem.tokens (once_tokens problem sound) part.token (parts_there problem sound i no_part below) j there))
      ∙ ap (λ (n : ℕ). cond (bytes_eq (get_or problem.tokens j []) part.token) n (get_or held j 0)) amount-is
      ∙ ap (λ (n : ℕ). cond (bytes_eq (get_or problem.tokens j []) part.token) part.amount n) (gives.amounts j there)
      ∙ sym (given-more problem.parts i below sound.parts.rising (get_or problem.tokens j []));
  below = λ j. rw (read_set held place amount j inside) (small (nat_eq j place) (get_or held j 0) (gives.below j));
}
  where
    part : Part
    part = get_or problem.parts i no_part

    place : ℕ
    place = get_or places i 0

    place-is : place ≡ token_place problem.tokens part.token
    place-is = part_at problem places i below places-are

    inside : place < length held
    inside = omega (arith, gives.long, part_place-lt problem sound places i below places-are)

    small : (b : Bool) (n : ℕ) → n ≤ 2 ^ 52 → cond b amount n ≤ 2 ^ 52
    small true n under = omega (arith, amount-is, (sound.parts.amounts i no_part below).1)
    small false n under = under

pub follows_start : (problem : OpenView) → IsOpenProblem problem → (held : List ℕ) (unmarked : List Bool) (n : ℕ) → length problem.parts ≤ n → length unmarked ≡ 256 →
    ((place : ℕ) → get_or unmarked place false ≡ false) → Gives problem n held → Follows problem [] held unmarked
follows_start problem sound held unmarked n all wide false_all gives = record {
  long = gives.long;
  wide = wide;
  legal = tt;
  amounts = λ j below. gives.amounts j below ∙ ap (λ (parts : List Part). given_by_parts parts (get_or problem.tokens j [])) (take_all n problem.parts all);
  below = λ j. omega (arith, gives.below j);
  marks = λ place inside. ((λ _ k e below. absurd (omega arith)), λ _. false_all place);
}

abbrev pub no_places : TokenPlaces
no_places = record { zero = 0; one = 0 }

-- the places of a leg's two tokens
pub side_places : (tokens : List Name) (pools : List ProblemPool) (places : List TokenPlaces) (leg : Leg) (from to : ℕ) →
    places ≡ map (places_of tokens) pools → leg.pool < length pools →
    from ≡ (if leg.zero_in then (get_or places leg.pool no_places).zero else (get_or places leg.pool no_places).one) →
    to ≡ (if leg.zero_in then (get_or places leg.pool no_places).one else (get_or places leg.pool no_places).zero) →
    (from ≡ token_place tokens (token_in pools leg)) × (to ≡ token_place tokens (token_out pools leg))
side_places tokens pools places leg from to places-are there from-is to-is = let both = by_side leg.zero_in in (from-is ∙ both.0, to-is ∙ both.1)
  where
    is : get_or places leg.pool no_places ≡ places_of tokens (get_or pools leg.pool no_pool)
    is = ap (λ (l : List TokenPlaces). get_or l leg.pool no_places) places-are ∙ get_or-map (places_of tokens) pools leg.pool no_pool no_places there

    by_side : (z : Bool) → (cond z (get_or places leg.pool no_places).zero (get_or places leg.pool no_places).one ≡ token_place tokens (cond z (token0_of (leg_pool pools leg)) (token1_of (leg_pool pools leg))))
        × (cond z (get_or places leg.pool no_places).one (get_or places leg.pool no_places).zero ≡ token_place tokens (cond z (token1_of (leg_pool pools leg)) (token0_of (leg_pool pools leg))))
    by_side true = (ap (λ (p : TokenPlaces). p.zero) is, ap (λ (p : TokenPlaces). p.one) is)
    by_side false = (ap (λ (p : TokenPlaces). p.one) is, ap (λ (p : TokenPlaces). p.zero) is)

-- a leg's two tokens are among those of the problem
pub leg_tokens_there : (problem : OpenView) → IsOpenProblem problem → (leg : Leg) → leg.pool < length problem.pools →
    (token_place problem.tokens (token_in problem.pools leg) < length problem.tokens) × (token_place problem.tokens (token_out problem.pools leg) < length problem.tokens)
leg_tokens_there problem sound leg there = by_side leg.zero_in
  where
    both : (token_place problem.tokens (token0_of (leg_pool problem.pools leg)) < length problem.tokens) × (token_place problem.tokens (token1_of (leg_pool problem.pools leg)) < length problem.tokens)
    both = tokens_there problem sound leg.pool no_pool there

    by_side : (z : Bool) → (token_place problem.tokens (cond z (token0_of (leg_pool problem.pools leg)) (token1_of (leg_pool problem.pools leg))) < length problem.tokens)
        × (token_place problem.tokens (cond z (token1_of (leg_pool problem.pools leg)) (token0_of (leg_pool problem.pools leg))) < length problem.tokens)
    by_side true = (both.0, both.1)
    by_side false = (both.1, both.0)

-- an output is below its reserve
pub output-lt : (problem : OpenView) (used : List ℕ) (held : Inventory) (leg : Leg) → IsOpenProblem problem → IsLeg problem.pools used held leg → leg.output < 2 ^ 48
output-lt problem used held leg sound legal = by_side leg.zero_in legal.pays
  where
    by_side : (z : Bool) → leg.output ≡ amount_out_of (fee_of (leg_pool problem.pools leg)) leg.input (cond z (leg_pool problem.pools leg).r0 (leg_pool problem.pools leg).r1) (cond z (leg_pool problem.pools leg).r1 (leg_pool problem.pools leg).r0) →
        leg.output < 2 ^ 48
    by_side true pays =
        let r = sound.parts.reserves leg.pool no_pool legal.there in
        let below = amount_out-lt (fee_of (leg_pool problem.pools leg)) leg.input (leg_pool problem.pools leg).r0 (leg_pool problem.pools leg).r1 r.0 r.2 in
        omega (arith, r.3)
    by_side false pays =
        let r = sound.parts.reserves leg.pool no_pool legal.there in
        let below = amount_out-lt (fee_of (leg_pool problem.pools leg)) leg.input (leg_pool problem.pools leg).r1 (leg_pool problem.pools leg).r0 r.2 r.0 in
        omega (arith, r.1)

-- the marks with one more
marked : (used : List Bool) (p : ℕ) (before : List ℕ) → length used ≡ 256 → p < 256 →
    ((place : ℕ) → place < 256 → (get_or used place false ≡ false) ↔ All (λ (q : ℕ). q ≢ place) before) →
    (place : ℕ) → place < 256 → (get_or (set used p true) place false ≡ false) ↔ All (λ (q : ℕ). q ≢ place) (p ∷ before)
marked used p before long inside marks place within = pick (nat_eq p place) refl
  where
    pick : (b : Bool) → nat_eq p place ≡ b → (get_or (set used p true) place false ≡ false) ↔ All (λ (q : ℕ). q ≢ place) (p ∷ before)
    pick true e =
        let same : p ≡ place = grind (arith, nat_tests) in
        let set_here : get_or (set used p true) place false ≡ true = subst (λ (k : ℕ). get_or (set used p true) k false ≡ true) same (get_or-set_same used p true false (omega arith)) in
        ((λ unmarked. absurd cc), λ all. absurd (all 0 0 (omega arith) same))
    pick false e =
        let apart : p ≢ place = grind (arith, nat_tests) in
        let kept : get_or (set used p true) place false ≡ get_or used place false = get_or-set_other used p place true false (λ same. apart (sym same)) in
        ((λ unmarked. All-cons (λ (q : ℕ). q ≢ place) p before apart ((marks place within).0 (sym kept ∙ unmarked))), λ all. kept ∙ (marks place within).1 (All-tail (λ (q : ℕ). q ≢ place) p before all))

-- one leg more
pub follows_next : (problem : OpenView) → IsOpenProblem problem → (legs : List Leg) (i : ℕ) → i < length legs → (held : List ℕ) (used : List Bool) →
    Follows problem (take i legs) held used → IsNext problem legs i → (from to : ℕ) →
    from ≡ token_place problem.tokens (token_in problem.pools (get_or legs i no_leg)) → to ≡ token_place problem.tokens (token_out problem.pools (get_or legs i no_leg)) →
    Follows problem (take (suc i) legs)
    (set (set held from (get_or held from 0 - (get_or legs i no_leg).input)) to (get_or (set held from (get_or held from 0 - (get_or legs i no_leg).input)) to 0 + (get_or legs i no_leg).output))
    (set used (get_or legs i no_leg).pool true)
follows_next problem sound legs i inside held used follows next from to from-is to-is = record {
  long = length-set _ to _ ∙ length-set held from _ ∙ follows.long;
  wide = length-set used leg.pool true ∙ follows.wide;
  legal = legs-more problem.pools [] (amount_given problem) legs i inside follows.legal next;
  amounts = λ j below. moved held from to leg.input leg.output j from-in to-in
      ∙ ap (λ (b : Bool). (get_or held j 0 - cond b leg.input 0) + cond (nat_eq j to) leg.output 0) (ap (nat_eq j) from-is ∙ sym (same_at problem.tokens once (token_in problem.pools leg) there.0 j below))
      ∙ ap (λ (b : Bool). (get_or held j 0 - cond (bytes_eq (get_or problem.tokens j []) (token_in problem.pools leg)) leg.input 0) + cond b leg.output 0)
      (ap (nat_eq j) to-is ∙ sym (same_at problem.tokens once (token_out problem.pools leg) there.1 j below))
      ∙ ap (λ (n : ℕ). (n - cond (bytes_eq (get_or problem.tokens j []) (token_in problem.pools leg)) leg.input 0) + cond (bytes_eq (get_or problem.tokens j []) (token_out problem.pools leg)) leg.output 0)
      (follows.amounts j below)
      ∙ sym (after_legs-more problem.pools (amount_given problem) legs i (get_or problem.tokens j []) inside);
  below = λ j. rw (moved held from to leg.input leg.output j from-in to-in, one_more) (small (nat_eq j from) (nat_eq j to) j (follows.below j));
  marks = λ place within. rw (used_after-more [] legs i inside) (marked used leg.pool (used_after [] (take i legs)) follows.wide (omega (arith, next.there, sound.parts.few)) follows.marks place within);
}
  where
    leg : Leg
    leg = get_or legs i no_leg

    one_more : length (take (suc i) legs) ≡ suc (length (take i legs))
    one_more = omega (arith, length-take (suc i) legs, length-take i legs)

    once : AllPairs (λ (a b : Name). a ≢ b) problem.tokens
    once = once_tokens problem sound

    there : (token_place problem.tokens (token_in problem.pools leg) < length problem.tokens) × (token_place problem.tokens (token_out problem.pools leg) < length problem.tokens)
    there = leg_tokens_there problem sound leg next.there

    from-in : from < length held
    from-in = omega (arith, follows.long, there.0, tokens_few problem sound)

    to-in : to < length held
    to-in = omega (arith, follows.long, there.1, tokens_few problem sound)

    small : (b c : Bool) (j : ℕ) → get_or held j 0 ≤ 2 ^ 52 + length (take i legs) * 2 ^ 48 →
        (get_or held j 0 - cond b leg.input 0) + cond c leg.output 0 ≤ 2 ^ 52 + suc (length (take i legs)) * 2 ^ 48
    small b true j low = let m = output-lt problem (used_after [] (take i legs)) (after_legs problem.pools (amount_given problem) (take i legs)) leg sound next in omega arith
    small b false j low = omega arith

-- what stands at the place of a token that goes in
pub held_at : (problem : OpenView) → IsOpenProblem problem → (legs : List Leg) (held : List ℕ) (used : List Bool) → Follows problem legs held used →
    (leg : Leg) (from : ℕ) → leg.pool < length problem.pools → from ≡ token_place problem.tokens (token_in problem.pools leg) →
    get_or held from 0 ≡ after_legs problem.pools (amount_given problem) legs (token_in problem.pools leg)
held_at problem sound legs held used follows leg from inside from-is =
    let there = (leg_tokens_there problem sound leg inside).0 in
    let token : get_or problem.tokens from [] ≡ token_in problem.pools leg = ap (λ (j : ℕ). get_or problem.tokens j []) from-is ∙ token_at problem.tokens (token_in problem.pools leg) there in
    follows.amounts from (rw from-is there) ∙ ap (after_legs problem.pools (amount_given problem) legs) token

-- the output has room where it goes
pub room_left : (problem : OpenView) → IsOpenProblem problem → (legs : List Leg) (i : ℕ) (held : List ℕ) (used : List Bool) → i < length legs →
    Follows problem (take i legs) held used → IsNext problem legs i → (from to : ℕ) → from ≡ token_place problem.tokens (token_in problem.pools (get_or legs i no_leg)) →
    get_or (set held from (get_or held from 0 - (get_or legs i no_leg).input)) to 0 + (get_or legs i no_leg).output < 2 ^ 64
room_left problem sound legs i held used inside follows next from to from-is =
    let there = (leg_tokens_there problem sound (get_or legs i no_leg) next.there).0 in
    let few = legs_few problem [] (amount_given problem) (take i legs) sound follows.legal in
    let out = output-lt problem (used_after [] (take i legs)) (after_legs problem.pools (amount_given problem) (take i legs)) (get_or legs i no_leg) sound next in
    rw (read_set held from (get_or held from 0 - (get_or legs i no_leg).input) to (omega (arith, follows.long, tokens_few problem sound))) (small (nat_eq to from) few out)
  where
    small : (b : Bool) → length (take i legs) ≤ 256 → (get_or legs i no_leg).output < 2 ^ 48 →
        cond b (get_or held from 0 - (get_or legs i no_leg).input) (get_or held to 0) + (get_or legs i no_leg).output < 2 ^ 64
    small true few out = omega (arith, follows.below from)
    small false few out = omega (arith, follows.below to)
