-- Parts in turn: their legs deliver what they give, and that is determined.
use Rattle.std.proofs.Common.{◌≡◌, ◌≢◌, ℕ, ◌+◌, ◌-◌, ◌<◌, ◌≤◌, ◌⊎◌, inl, inr, ◌++◌, Bool, true, false, cond, List, [], ◌∷◌, arith, suc, refl, ap, sym, subst, ◌∙◌, length, append_assoc, get_or, map, below_more}
use Rattle.std.specs.Prelude.{All, AllPairs, Contains}
use Rattle.std.specs.Str.{bytes_eq}
use Rattle.std.proofs.Math.ListN.{get_or-append}
use Rattle.std.proofs.lemmas.List.{append-nil, get_or-append-add, get_or-map, get_or_default, length-append}
use Rattle.std.proofs.lemmas.List.Elements.{All-tail}
use Rattle.std.proofs.lemmas.List.Sums.{sum_by-cons}
use Rattle.std.proofs.lemmas.Slice.Eq.{bytes_eq-Decides}
use Rattle.amm_model.specs.declared.problem.Part.{Part}
use Rattle.amm_model.specs.declared.problem.ProblemPool.{ProblemPool}
use Rattle.amm_model.specs.declared.route.Hop.{Hop}
use Rattle.amm_model.specs.declared.route.Leg.{Leg}
use Rattle.amm_names.specs.Names.{Name}
use Rattle.amm_model.specs.Routing.{OpenView, IsBefore, IsOpenProblem, amount_given, part_place, token_place}
use Rattle.amm_model.specs.Baskets.{AtLeastPartValues, HasNoBasket, IsBestWay, IsSequentialValue, IsValueOfPart, IsWayOfPart}
use Rattle.amm_model.specs.Legs.{AreLegs, Delivers, Inventory, after_legs, used_after}
use Rattle.amm_model.specs.Paths.{ComesBefore, gives, hop_places, legs_along}
use Rattle.amm_model.specs.Values.{AtLeastTheWays, IsOneOrTwoWayValue}
use Rattle.amm_model.proofs.Problems.{before-apart, none_given, parts_there, target_there, token_at}
use Rattle.amm_legs.specs.Portions.{Portion, given_by, legs_of}
use Rattle.amm_legs.proofs.Portions.{portions-legal}
use Rattle.amm_graph.proofs.Sides.{name_at}
use Rattle.amm_split.proofs.Determined.{before-not-after}
use Rattle.amm_split.proofs.OneOrTwo.{eq-self, given-at, not-same}
use Rattle.amm_basket.specs.Candidates.{AreCandidates, GoesWhole, no_part}
use Rattle.amm_basket.specs.declared.candidates.Candidates.{Candidates}
use Rattle.amm_basket.proofs.Frames.{framed, joined, off_path}

-- the parts in turn with their legs
abbrev pub IsSequence : List ProblemPool → (t : Name) → (used : List ℕ) → List Part → List Leg → (value : ℕ) → Type 0
IsSequence pools t used [] legs value = (legs ≡ []) × (value ≡ 0)
IsSequence pools t used (part ∷ parts) legs value =
    (((path : List Hop) → IsWayOfPart pools t used part path → ⊥) × IsSequence pools t used parts legs value)
    ⊎ ((path : List Hop) × (rest : ℕ) × (more : List Leg) × IsBestWay pools t used part path
    × IsSequence pools t (used ++ hop_places path) parts more rest × (legs ≡ legs_along pools path part.amount ++ more) × (value ≡ gives pools path part.amount + rest))

value_of : (pools : List ProblemPool) (t : Name) (used : List ℕ) (parts : List Part) (legs : List Leg) (value : ℕ) → IsSequence pools t used parts legs value → IsSequentialValue pools t used parts value
value_of pools t used [] legs value is = is.1
value_of pools t used (part ∷ parts) legs value (inl (none, is)) = inl (none, value_of pools t used parts legs value is)
value_of pools t used (part ∷ parts) legs value (inr (path, rest, more, best, is, legs-are, value-is)) =
    inr (path, rest, best, value_of pools t (used ++ hop_places path) parts more rest is, value-is)

-- ---- the value is determined

-- of two best ways each is the other
one_way : (pools : List ProblemPool) (t : Name) (used : List ℕ) (part : Part) (a b : List Hop) → IsBestWay pools t used part a → IsBestWay pools t used part b → a ≡ b
one_way pools t used part a b first second = by_both (first.best b second.way) (second.best a first.way)
  where
    by_both : (gives pools b part.amount < gives pools a part.amount) ⊎ ((gives pools b part.amount ≡ gives pools a part.amount) × (ComesBefore (hop_places a) (hop_places b) ⊎ (a ≡ b))) →
        (gives pools a part.amount < gives pools b part.amount) ⊎ ((gives pools a part.amount ≡ gives pools b part.amount) × (ComesBefore (hop_places b) (hop_places a) ⊎ (b ≡ a))) → a ≡ b
    by_both (inr (same, inr is)) other = is
    by_both (inl less) (inl more) = absurd (omega arith)
    by_both (inl less) (inr (same, order)) = absurd (omega (arith, same))
    by_both (inr (same, inl before)) (inl more) = absurd (omega (arith, same))
    by_both (inr (same, inl before)) (inr (again, inl after)) = absurd (before-not-after (hop_places a) (hop_places b) before after)
    by_both (inr (same, inl before)) (inr (again, inr is)) = sym is

pub value_once : (pools : List ProblemPool) (t : Name) (used : List ℕ) (parts : List Part) (v w : ℕ) → IsSequentialValue pools t used parts v → IsSequentialValue pools t used parts w → v ≡ w
value_once pools t used [] v w first second = first ∙ sym second
value_once pools t used (part ∷ parts) v w (inl (none, first)) (inl (never, second)) = value_once pools t used parts v w first second
value_once pools t used (part ∷ parts) v w (inl (none, first)) (inr (path, rest, best, second, is)) = absurd (none path best.way)
value_once pools t used (part ∷ parts) v w (inr (path, rest, best, first, is)) (inl (none, second)) = absurd (none path best.way)
value_once pools t used (part ∷ parts) v w (inr (path, rest, best, first, is)) (inr (way, left, greatest, second, other-is)) =
    let same = one_way pools t used part path way best greatest in
    let rests = value_once pools t (used ++ hop_places path) parts rest left first
    (subst (λ (hops : List Hop). IsSequentialValue pools t (used ++ hop_places hops) parts left) (sym same) second) in
    let alike : gives pools path part.amount ≡ gives pools way part.amount = ap (λ (hops : List Hop). gives pools hops part.amount) same in
    omega (arith, is, other-is)

-- ---- the legs deliver it

-- the legs of a part on its way: what they bring, and that no other part's token is taken
record IsDone (pools : List ProblemPool) (t : Name) (u : List ℕ) (held : Inventory) (part : Part) (legs : List Leg) (amount : ℕ) : Type 0 where
  legal : AreLegs pools u held legs
  gain : after_legs pools held legs t ≡ held t + amount
  rest : (y : Name) → y ≢ part.token → held y ≤ after_legs pools held legs y

done : (pools : List ProblemPool) (t : Name) (used u : List ℕ) (held : Inventory) (part : Part) (path : List Hop) → part.token ≢ t →
    ((p : ℕ) → All (λ (q : ℕ). p ≢ q) used → All (λ (q : ℕ). p ≢ q) u) → part.amount ≤ held part.token → IsWayOfPart pools t used part path →
    IsDone pools t u held part (legs_along pools path part.amount) (gives pools path part.amount)
done pools t used u held part path ends covers enough way = record {
  legal = (on held enough).0;
  gain = (on held enough).1;
  rest = λ y apart. (
      let all = framed pools u held own (λ n. held n - own n) (legs_along pools path part.amount) (λ n. split n (bytes_eq n part.token) (bytes_eq-Decides n part.token).0) (on own own-enough).0 y in
      let nothing : own y ≡ 0 = ap (λ (b : Bool). cond b part.amount 0) (not-same y part.token apart) in
      omega arith
      );
}
  where
    portions : List Portion
    portions = record { path = path; input = part.amount } ∷ []

    given : given_by pools portions ≡ gives pools path part.amount
    given = omega (arith, sum_by-cons (λ (portion : Portion). gives pools portion.path portion.input) (record { path = path; input = part.amount }) [])

    on : (some : Inventory) → part.amount ≤ some part.token →
        AreLegs pools u some (legs_along pools path part.amount) × (after_legs pools some (legs_along pools path part.amount) t ≡ some t + gives pools path part.amount)
    on some within =
        let is = portions-legal pools part.token t used u part.amount some portions ends covers within (way.path_of, way.apart, omega arith, way.some, tt) in
        subst (λ (legs : List Leg). AreLegs pools u some legs × (after_legs pools some legs t ≡ some t + gives pools path part.amount)) (append-nil (legs_along pools path part.amount))
        (subst (λ (n : ℕ). AreLegs pools u some (legs_of pools portions) × (after_legs pools some (legs_of pools portions) t ≡ some t + n)) given is)

    own : Inventory
    own n = cond (bytes_eq n part.token) part.amount 0

    own-enough : part.amount ≤ own part.token
    own-enough = let e : own part.token ≡ part.amount = ap (λ (b : Bool). cond b part.amount 0) (eq-self part.token) in omega arith

    split : (n : Name) (b : Bool) → (b ≡ true → n ≡ part.token) → held n ≡ cond b part.amount 0 + (held n - cond b part.amount 0)
    split n true says = let some = subst (λ (m : Name). part.amount ≤ held m) (sym (says refl)) enough in omega arith
    split n false says = omega arith

all_left : (p : ℕ) (xs ys : List ℕ) → All (λ (q : ℕ). p ≢ q) (xs ++ ys) → All (λ (q : ℕ). p ≢ q) xs
all_left p xs ys all k d below = subst (λ (q : ℕ). p ≢ q) (get_or-append xs ys d k below) (all k d (omega (arith, length-append xs ys)))

all_right : (p : ℕ) (xs ys : List ℕ) → All (λ (q : ℕ). p ≢ q) (xs ++ ys) → All (λ (q : ℕ). p ≢ q) ys
all_right p xs ys all k d below = subst (λ (q : ℕ). p ≢ q) (get_or-append-add xs ys k d) (all (length xs + k) d (omega (arith, length-append xs ys)))

sequence_legal : (pools : List ProblemPool) (t : Name) (used u : List ℕ) (held : Inventory) (parts : List Part) (legs : List Leg) (value : ℕ) →
    AllPairs (λ (a b : Part). IsBefore a.token b.token) parts → All (λ (part : Part). part.token ≢ t) parts →
    ((p : ℕ) → All (λ (q : ℕ). p ≢ q) used → All (λ (q : ℕ). p ≢ q) u) → All (λ (part : Part). part.amount ≤ held part.token) parts →
    IsSequence pools t used parts legs value → AreLegs pools u held legs × (after_legs pools held legs t ≡ held t + value)
sequence_legal pools t used u held [] legs value rising apart covers enough (none, nothing) =
    subst (λ (l : List Leg). AreLegs pools u held l × (after_legs pools held l t ≡ held t + value)) (sym none) (tt, omega arith)
sequence_legal pools t used u held (part ∷ parts) legs value rising apart covers enough (inl (none, is)) =
    sequence_legal pools t used u held parts legs value (λ i j d ij below. rising (suc i) (suc j) d (omega arith) (omega arith))
    (All-tail (λ (p : Part). p.token ≢ t) part parts apart) covers (All-tail (λ (p : Part). p.amount ≤ held p.token) part parts enough) is
sequence_legal pools t used u held (part ∷ parts) legs value rising apart covers enough (inr (path, rest, more, best, is, legs-are, value-is)) =
    let first = legs_along pools path part.amount in
    let sold = done pools t used u held part path (apart 0 part (omega arith)) covers (enough 0 part (omega arith)) best.way in
    let others = sequence_legal pools t (used ++ hop_places path) (used_after u first) (after_legs pools held first) parts more rest
    (λ i j d ij below. rising (suc i) (suc j) d (omega arith) (omega arith))
    (All-tail (λ (p : Part). p.token ≢ t) part parts apart)
    (λ p all. off_path pools u path part.amount p (covers p (all_left p used (hop_places path) all)) (all_right p used (hop_places path) all))
    (λ i d below. omega (
      arith,
      enough (suc i) d (omega arith),
      sold.rest (get_or parts i d).token (λ e. before-apart part.token (get_or parts i d).token (rising 0 (suc i) d (omega arith) (omega arith)) (sym e)),
    )) is in
    let both = joined pools u held first more sold.legal others.0 in
    let end : after_legs pools held (first ++ more) t ≡ after_legs pools (after_legs pools held first) more t = ap (λ (h : Inventory). h t) both.1 in
    subst (λ (l : List Leg). AreLegs pools u held l × (after_legs pools held l t ≡ held t + value)) (sym legs-are) (both.0, omega (arith, others.1, sold.gain, value-is))

sequence_delivers : (problem : OpenView) (legs : List Leg) (value : ℕ) → IsOpenProblem problem → IsSequence problem.pools problem.t [] problem.parts legs value → Delivers problem legs value
sequence_delivers problem legs value sound is =
    let none = none_given problem.parts problem.t sound.parts.apart in
    let legal = sequence_legal problem.pools problem.t [] [] (amount_given problem) problem.parts legs value sound.parts.rising sound.parts.apart (λ p all. all)
    (λ i d below. omega (arith, given-at problem.parts i d below sound.parts.rising)) is in
    (legal.0, omega (arith, legal.1))

-- ---- part by part

-- so far: the legs of some parts, with which those of the parts that are left are a sequence
abbrev pub Selling : OpenView → (left : List Part) → (used : List ℕ) → List Leg → Type 0
Selling problem left used legs =
    (sum : ℕ) × ((more : List Leg) (value : ℕ) → IsSequence problem.pools problem.t used left more value → IsSequence problem.pools problem.t [] problem.parts (legs ++ more) (sum + value))

pub nothing_sold : (problem : OpenView) (used : List ℕ) (legs : List Leg) → used ≡ [] → legs ≡ [] → Selling problem problem.parts used legs
nothing_sold problem used legs free none = (
  0,
  λ more value is.
      (let same : value ≡ 0 + value = omega arith in
      let start = subst (λ (u : List ℕ). IsSequence problem.pools problem.t u problem.parts more value) free is in
      subst (λ (l : List Leg). IsSequence problem.pools problem.t [] problem.parts (l ++ more) (0 + value)) (sym none) (subst (λ (n : ℕ). IsSequence problem.pools problem.t [] problem.parts more n) same start)),
)

pub one_sold : (problem : OpenView) (part : Part) (left : List Part) (used used_after : List ℕ) (legs legs_after : List Leg) → GoesWhole problem part used used_after legs legs_after →
    Selling problem (part ∷ left) used legs → Selling problem left used_after legs_after
one_sold problem part left used used_after legs legs_after (inl (none, used-are, legs-are)) (sum, so_far) = (
  sum,
  λ more value is. subst (λ (l : List Leg). IsSequence problem.pools problem.t [] problem.parts (l ++ more) (sum + value)) (sym legs-are)
      (so_far more value (inl (none, subst (λ (u : List ℕ). IsSequence problem.pools problem.t u left more value) used-are is))),
)
one_sold problem part left used used_after legs legs_after (inr (path, best, used-are, legs-are)) (sum, so_far) = (
  sum + gives problem.pools path part.amount,
  λ more value is.
      (let whole = so_far (legs_along problem.pools path part.amount ++ more) (gives problem.pools path part.amount + value)
      (inr (path, value, more, best, subst (λ (u : List ℕ). IsSequence problem.pools problem.t u left more value) used-are is, refl, refl)) in
      let legs-same : legs ++ (legs_along problem.pools path part.amount ++ more) ≡ legs_after ++ more = sym (append_assoc legs (legs_along problem.pools path part.amount) more) ∙ ap (λ (l : List Leg). l ++ more) (sym legs-are) in
      let sums : sum + (gives problem.pools path part.amount + value) ≡ (sum + gives problem.pools path part.amount) + value = omega arith in
      subst (λ (l : List Leg). IsSequence problem.pools problem.t [] problem.parts l ((sum + gives problem.pools path part.amount) + value)) legs-same
      (subst (λ (n : ℕ). IsSequence problem.pools problem.t [] problem.parts (legs ++ (legs_along problem.pools path part.amount ++ more)) n) sums whole)),
)

pub all_sold : (problem : OpenView) (used : List ℕ) (legs : List Leg) → IsOpenProblem problem → Selling problem [] used legs →
    (value : ℕ) × IsSequentialValue problem.pools problem.t [] problem.parts value × Delivers problem legs value
all_sold problem used legs sound (sum, so_far) =
    let is = subst (λ (l : List Leg). IsSequence problem.pools problem.t [] problem.parts l (sum + 0)) (append-nil legs) (so_far [] 0 (refl, refl)) in
    (sum + 0, value_of problem.pools problem.t [] problem.parts legs (sum + 0) is, sequence_delivers problem legs (sum + 0) sound is)

-- ---- names by their places

pub part_named : (problem : OpenView) (places : List ℕ) (i : ℕ) → IsOpenProblem problem → i < length problem.parts → places ≡ map (part_place problem.tokens) problem.parts →
    name_at problem (get_or places i 0) ≡ (get_or problem.parts i no_part).token
part_named problem places i sound below are =
    ap (name_at problem) (ap (λ (ps : List ℕ). get_or ps i 0) are ∙ get_or-map (part_place problem.tokens) problem.parts i no_part 0 below)
    ∙ token_at problem.tokens (get_or problem.parts i no_part).token (parts_there problem sound i no_part below)

pub target_named : (problem : OpenView) (to : ℕ) → IsOpenProblem problem → to ≡ token_place problem.tokens problem.t → name_at problem to ≡ problem.t
target_named problem to sound is = ap (name_at problem) is ∙ token_at problem.tokens problem.t (target_there problem sound)

-- ---- the parts alone

-- one part more
pub most_more : (problem : OpenView) (part : Part) (i less amount : ℕ) → part ≡ get_or problem.parts i no_part → less ≤ amount →
    ((k : ℕ) → k < i → AtLeastTheWays problem.pools (get_or problem.parts k no_part).token problem.t (get_or problem.parts k no_part).amount less) →
    AtLeastTheWays problem.pools part.token problem.t part.amount amount →
    (k : ℕ) → k < i + 1 → AtLeastTheWays problem.pools (get_or problem.parts k no_part).token problem.t (get_or problem.parts k no_part).amount amount
most_more problem part i less amount is more before here = below_more (λ (k : ℕ). AtLeastTheWays problem.pools (get_or problem.parts k no_part).token problem.t (get_or problem.parts k no_part).amount amount) i
    (λ k lt value given. omega (arith, before k lt value given))
    (subst (λ (p : Part). AtLeastTheWays problem.pools p.token problem.t p.amount amount) is here)

-- all parts
pub most_of_all : (problem : OpenView) (n amount : ℕ) → length problem.parts ≤ n →
    ((k : ℕ) → k < n → AtLeastTheWays problem.pools (get_or problem.parts k no_part).token problem.t (get_or problem.parts k no_part).amount amount) →
    (value : ℕ) → IsValueOfPart problem value → value ≤ amount
most_of_all problem n amount all most value is = at is.part is.is_part is.given
  where
    at : (part : Part) → Contains problem.parts part → IsOneOrTwoWayValue problem.pools part.token problem.t part.amount value → value ≤ amount
    at part (k, below, same) given =
        let here : get_or problem.parts k no_part ≡ part = get_or_default problem.parts k no_part part below ∙ same in
        most k (omega arith) value (subst (λ (p : Part). IsOneOrTwoWayValue problem.pools p.token problem.t p.amount value) (sym here) given)

-- a value of a part is something
some_value : (problem : OpenView) (value : ℕ) → IsValueOfPart problem value → 1 ≤ value
some_value problem value is = by_ways is.part is.given
  where
    by_ways : (part : Part) → IsOneOrTwoWayValue problem.pools part.token problem.t part.amount value → 1 ≤ value
    by_ways part (inl one) = one.some
    by_ways part (inr two) = omega (arith, two.given, two.first_gives, two.second_gives)

one_of : (problem : OpenView) (amount : ℕ) → (amount ≡ 0) ⊎ IsValueOfPart problem amount → (amount ≡ 0 → ⊥) → IsValueOfPart problem amount
one_of problem amount (inl none) some = absurd (some none)
one_of problem amount (inr is) some = is

-- nothing alone is nothing at all, and something alone is a value
pub nothing_alone : (problem : OpenView) (candidates : Candidates) → AreCandidates problem candidates → candidates.alone.amount ≡ 0 → (value : ℕ) → IsValueOfPart problem value → ⊥
nothing_alone problem candidates is none value given = let most = is.most value given in let some = some_value problem value given in absurd (omega arith)

pub something_alone : (problem : OpenView) (candidates : Candidates) → AreCandidates problem candidates → (candidates.alone.amount ≡ 0 → ⊥) → HasNoBasket problem → ⊥
something_alone problem candidates is some none = none candidates.alone.amount (one_of problem candidates.alone.amount is.value some)

-- what is at least every value of both kinds
pub at_least : (problem : OpenView) (amount : ℕ) → ((value : ℕ) → IsSequentialValue problem.pools problem.t [] problem.parts value → value ≤ amount)
    → ((value : ℕ) → IsValueOfPart problem value → value ≤ amount) → AtLeastPartValues problem amount
at_least problem amount in_turn alone value (inl is) = in_turn value is
at_least problem amount in_turn alone value (inr is) = alone value is
