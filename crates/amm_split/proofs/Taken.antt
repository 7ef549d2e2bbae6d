-- Shares that are taken are portions, whose legs deliver what the shares give.
use Rattle.std.proofs.Common.{◌≡◌, ◌≢◌, ℕ, ◌+◌, ◌-◌, ◌*◌, ◌<◌, ◌≤◌, ◌⊎◌, inl, inr, ◌++◌, List, [], ◌∷◌, length, map, arith, zero, suc, refl, ap, sym, subst, ◌∙◌, get_or, append_assoc}
use Rattle.std.specs.Prelude.{sum_by}
use Rattle.std.proofs.Math.ListN.{length-map}
use Rattle.std.proofs.lemmas.Bool.{cases_lt}
use Rattle.std.proofs.lemmas.List.{append-nil, get_or-map}
use Rattle.std.proofs.lemmas.List.Sums.{sum_by-cons}
use Rattle.amm_model.specs.declared.route.Hop.{Hop}
use Rattle.amm_model.specs.declared.route.Leg.{Leg}
use Rattle.amm_model.specs.Routing.{IsProblem, ProblemView}
use Rattle.amm_model.specs.Paths.{AreAllPaths, ComesBefore, IsPath, gives, hop_places, legs_along}
use Rattle.amm_model.specs.Spreads.{AreTaken, CanBeTaken, IsPreferred, Share, Spread, gain, share_input, share_output}
use Rattle.amm_model.specs.Values.{sixteenths}
use Rattle.amm_legs.specs.Portions.{ArePortions, Portion, given_by, legs_of}
use Rattle.amm_legs.proofs.Portions.{portions-deliver}
use Rattle.amm_graph.specs.declared.path.Path.{Path}
use Rattle.amm_graph.specs.Hops.{hops_of}
use Rattle.amm_split.specs.declared.rows.Row.{Row}
use Rattle.amm_split.specs.declared.shares.Terms.{Terms}
use Rattle.amm_split.specs.declared.shares.Choice.{Choice}
use Rattle.amm_split.specs.Pairs.{no_path}
use Rattle.amm_split.specs.Shares.{AreRows, AreTerms, Fits, IsBest, IsSpreadRoute, amounts_at, gain_on, hops_at, spread_on}

-- a problem's two tokens differ
pub ends-of : (problem : ProblemView) → IsProblem problem → problem.s ≢ problem.t
ends-of problem sound = sound.parts.apart 0 (record { token = problem.s; amount = problem.d }) (omega arith)

abbrev pub portion_of : Spread → Share → Portion
portion_of spread share = record { path = share.path; input = share_input spread share }

abbrev pub portions_of : Spread → List Share → List Portion
portions_of spread shares = map (portion_of spread) shares

-- a part and what it leaves are no more than the whole
parts-le : (d left k : ℕ) → k ≤ left → sixteenths d k + sixteenths d (left - k) ≤ sixteenths d left
parts-le d left k within = go (left - k) (omega arith)
  where
    go : (rest : ℕ) → k + rest ≡ left → sixteenths d k + sixteenths d rest ≤ sixteenths d left
    go rest e = let whole = ap (λ (n : ℕ). d * n) e in omega arith

-- what gains gives something
gain-some : (spread : Spread) (share : Share) → 1 ≤ gain spread share → 1 ≤ share_output spread share
gain-some spread share some = go (share_output spread share) (share_input spread share) some
  where
    go : (y x : ℕ) → 1 ≤ spread.price_out * y - spread.price_in * x → 1 ≤ y
    go zero x g = absurd (omega arith)
    go (suc y) x g = omega arith

taken-portions : (spread : Spread) (left : ℕ) (used : List ℕ) (amount : ℕ) (shares : List Share) →
    AreTaken spread left used shares → sixteenths spread.d left ≤ amount → ArePortions spread.pools spread.from spread.to used amount (portions_of spread shares)
taken-portions spread left used amount [] taken enough = tt
taken-portions spread left used amount (share ∷ shares) taken enough =
    let is = taken.0 in
    let parts = parts-le spread.d left share.parts is.within in (
      is.path,
      is.apart,
      omega arith,
      gain-some spread share taken.1,
      taken-portions spread (left - share.parts) (used ++ hop_places share.path) (amount - share_input spread share) shares taken.3 (omega arith),
    )

given-shares : (spread : Spread) (shares : List Share) → given_by spread.pools (portions_of spread shares) ≡ sum_by (share_output spread) shares
given-shares spread [] = refl
given-shares spread (share ∷ shares) = omega (
  arith,
  sum_by-cons (share_output spread) share shares,
  sum_by-cons (λ (portion : Portion). gives spread.pools portion.path portion.input) (portion_of spread share) (portions_of spread shares),
  given-shares spread shares,
)

-- one share more at the end
legs-more : (spread : Spread) (shares : List Share) (share : Share) →
    legs_of spread.pools (portions_of spread (shares ++ share ∷ [])) ≡ legs_of spread.pools (portions_of spread shares) ++ legs_along spread.pools share.path (share_input spread share)
legs-more spread [] share = append-nil (legs_along spread.pools share.path (share_input spread share))
legs-more spread (first ∷ shares) share =
    ap (λ (legs : List Leg). legs_along spread.pools first.path (share_input spread first) ++ legs) (legs-more spread shares share)
    ∙ sym (append_assoc (legs_along spread.pools first.path (share_input spread first)) (legs_of spread.pools (portions_of spread shares)) (legs_along spread.pools share.path (share_input spread share)))

-- the share on a path of the list
abbrev pub share_at : List Path → (i size : ℕ) → Share
share_at paths i size = record { path = hops_at paths i; parts = size }

-- what holds of the shares on the listed paths that can be taken holds of all
on-all-paths : (spread : Spread) (left : ℕ) (used : List ℕ) (paths : List Path) (P : Share → Type 0) → AreAllPaths spread.pools spread.from spread.to (map hops_of paths) →
    ((i k : ℕ) → i < length paths → CanBeTaken spread left used (share_at paths i k) → P (share_at paths i k)) →
    (other : Share) → CanBeTaken spread left used other → P other
on-all-paths spread left used paths P all here other is = go (all.complete other.path is.path)
  where
    go : ((i : ℕ) × (i < length (map hops_of paths)) × (get_or (map hops_of paths) i other.path ≡ other.path)) → P other
    go (i, below, e) =
        let inside : i < length paths = rw length-map at below in
        let path : hops_at paths i ≡ other.path = sym (get_or-map hops_of paths i no_path other.path inside) ∙ e in
        let same : share_at paths i other.parts ≡ other = ap (λ (hops : List Hop). let s : Share = record { path = hops; parts = other.parts } in s) path in
        subst P same (here i other.parts inside (subst (CanBeTaken spread left used) (sym same) is))

-- what is spread over the problem on these terms
abbrev pub spread_over : ProblemView → Terms → Spread
spread_over problem terms = spread_on problem.pools problem.s problem.t terms

-- the rows say what the shares gain
gain-is : (problem : ProblemView) (terms : Terms) (paths : List Path) (rows : List Row) (i k : ℕ) → AreRows problem.pools paths terms.d rows → i < length paths → k ≤ 16 →
    gain_on terms (amounts_at rows i) k ≡ gain (spread_over problem terms) (share_at paths i k)
gain-is problem terms paths rows i k are inside small =
    ap (λ (y : ℕ). terms.price_out * y - terms.price_in * sixteenths terms.d k) ((are.each i inside).given k (omega arith))

path-at : (problem : ProblemView) (paths : List Path) (i : ℕ) → i < length paths → AreAllPaths problem.pools problem.s problem.t (map hops_of paths) → IsPath problem.pools problem.s problem.t (hops_at paths i)
path-at problem paths i below all =
    subst (IsPath problem.pools problem.s problem.t) (get_or-map hops_of paths i no_path [] below) (all.sound i [] (rw length-map below))

before-at : (problem : ProblemView) (paths : List Path) (i j : ℕ) → i < j → j < length paths → AreAllPaths problem.pools problem.s problem.t (map hops_of paths) →
    ComesBefore (hop_places (hops_at paths i)) (hop_places (hops_at paths j))
before-at problem paths i j lt below all =
    subst (λ (a : List Hop). ComesBefore (hop_places a) (hop_places (hops_at paths j))) (get_or-map hops_of paths i no_path [] (omega arith))
    (subst (λ (b : List Hop). ComesBefore (hop_places (get_or (map hops_of paths) i [])) (hop_places b)) (get_or-map hops_of paths j no_path [] below)
    (all.ordered i j [] lt (rw length-map below)))

fits : (problem : ProblemView) (terms : Terms) (left : ℕ) (used : List ℕ) (share : Share) → CanBeTaken (spread_over problem terms) left used share → Fits terms left share.parts
fits problem terms left used share is = (is.size.0, is.size.1, is.within)

-- nothing that can be taken gains
pub stop : (problem : ProblemView) (terms : Terms) (left : ℕ) (used : List ℕ) (paths : List Path) (rows : List Row) (best : Choice) →
    AreAllPaths problem.pools problem.s problem.t (map hops_of paths) → AreRows problem.pools paths terms.d rows → AreTerms terms →
    IsBest terms left used paths rows (length paths) best → best.gain ≡ 0 → AreTaken (spread_over problem terms) left used []
stop problem terms left used paths rows best all are ranges is none other can =
    on-all-paths (spread_over problem terms) left used paths (λ (share : Share). gain (spread_over problem terms) share ≡ 0) all here other can
  where
    here : (i k : ℕ) → i < length paths → CanBeTaken (spread_over problem terms) left used (share_at paths i k) → gain (spread_over problem terms) (share_at paths i k) ≡ 0
    here i k inside here-can =
        let fit = fits problem terms left used (share_at paths i k) here-can in
        let e = gain-is problem terms paths rows i k are inside (omega (arith, fit.1, ranges.most)) in
        let most = is.most i k inside here-can.apart fit in
        omega arith

-- the best share can be taken, and is preferred to all others that can be
pub next : (problem : ProblemView) (terms : Terms) (left : ℕ) (used : List ℕ) (paths : List Path) (rows : List Row) (best : Choice) →
    AreAllPaths problem.pools problem.s problem.t (map hops_of paths) → AreRows problem.pools paths terms.d rows → AreTerms terms →
    IsBest terms left used paths rows (length paths) best → 1 ≤ best.gain → (rest : List Share) →
    AreTaken (spread_over problem terms) (left - best.size) (used ++ hop_places (hops_at paths best.path)) rest →
    AreTaken (spread_over problem terms) left used (share_at paths best.path best.size ∷ rest)
next problem terms left used paths rows best all are ranges is some rest taken =
    let found = is.found some in
    let gains = gain-is problem terms paths rows best.path best.size are found.0 (omega (arith, found.2.1, ranges.most)) in (
      record { path = path-at problem paths best.path found.0 all; size = (found.2.0, found.2.1); within = found.2.2; apart = found.1 },
      omega (arith, found.3),
      on-all-paths (spread_over problem terms) left used paths (IsPreferred (spread_over problem terms) (share_at paths best.path best.size)) all (here found.3 gains),
      taken,
    )
  where
    here : best.gain ≡ gain_on terms (amounts_at rows best.path) best.size → gain_on terms (amounts_at rows best.path) best.size ≡ gain (spread_over problem terms) (share_at paths best.path best.size) →
        (i k : ℕ) → i < length paths → CanBeTaken (spread_over problem terms) left used (share_at paths i k) → IsPreferred (spread_over problem terms) (share_at paths best.path best.size) (share_at paths i k)
    here own gains i k inside can =
        let fit = fits problem terms left used (share_at paths i k) can in
        let e = gain-is problem terms paths rows i k are inside (omega (arith, fit.1, ranges.most)) in
        let most = is.most i k inside can.apart fit in
        by_gain fit e (cases_lt (gain (spread_over problem terms) (share_at paths i k)) (gain (spread_over problem terms) (share_at paths best.path best.size)))
      where
        by_gain : Fits terms left k → gain_on terms (amounts_at rows i) k ≡ gain (spread_over problem terms) (share_at paths i k) →
            (gain (spread_over problem terms) (share_at paths i k) < gain (spread_over problem terms) (share_at paths best.path best.size))
            ⊎ (gain (spread_over problem terms) (share_at paths best.path best.size) ≤ gain (spread_over problem terms) (share_at paths i k)) →
            IsPreferred (spread_over problem terms) (share_at paths best.path best.size) (share_at paths i k)
        by_gain fit e (inl less) = inl less
        by_gain fit e (inr more) =
            let most = is.most i k inside can.apart fit in
            let equal : gain_on terms (amounts_at rows i) k ≡ best.gain = omega arith in
            by_place (omega arith) (is.first i k inside can.apart fit some equal)
          where
            by_place : gain (spread_over problem terms) (share_at paths best.path best.size) ≡ gain (spread_over problem terms) (share_at paths i k) →
                (best.path < i) ⊎ ((best.path ≡ i) × (best.size ≤ k)) → IsPreferred (spread_over problem terms) (share_at paths best.path best.size) (share_at paths i k)
            by_place same (inl earlier) = inr (inl (same, before-at problem paths best.path i earlier inside all))
            by_place same (inr (place, size)) = inr (inr (same, ap (λ (j : ℕ). hops_at paths j) place, size))

-- what was taken delivers what it gives
delivers : (problem : ProblemView) (terms : Terms) (shares : List Share) (legs : List Leg) → problem.s ≢ problem.t → terms.d ≡ problem.d → AreTaken (spread_over problem terms) 16 [] shares →
    legs ≡ legs_of problem.pools (portions_of (spread_over problem terms) shares) → IsSpreadRoute problem (spread_over problem terms) legs
delivers problem terms shares legs ends amount taken are =
    let spread = spread_over problem terms in
    let portions = taken-portions spread 16 [] problem.d shares taken (omega (arith, amount)) in
    let given = portions-deliver problem (portions_of spread shares) ends portions in
    record { shares = shares; taken = taken; delivers = rw (are, ← given-shares spread shares) given }

-- so far: the legs of some taken shares, and what is taken from now on goes on with them
abbrev pub Progress : ProblemView → Terms → (left : ℕ) → (used : List ℕ) → List Leg → Type 0
Progress problem terms left used legs = (left ≤ 16) × ((taken : List Share) × ((legs ≡ legs_of problem.pools (portions_of (spread_over problem terms) taken))
    × ((rest : List Share) → AreTaken (spread_over problem terms) left used rest → AreTaken (spread_over problem terms) 16 [] (taken ++ rest))))

pub nothing-taken : (problem : ProblemView) (terms : Terms) (used : List ℕ) (legs : List Leg) → used ≡ [] → legs ≡ [] → Progress problem terms 16 used legs
nothing-taken problem terms used legs free none = (omega arith, ([], (none, λ rest h. subst (λ (u : List ℕ). AreTaken (spread_over problem terms) 16 u rest) free h)))

pub more-taken : (problem : ProblemView) (terms : Terms) (left : ℕ) (used u new_used : List ℕ) (legs new_legs : List Leg) (paths : List Path) (rows : List Row) (best : Choice) (x : ℕ) →
    AreAllPaths problem.pools problem.s problem.t (map hops_of paths) → AreRows problem.pools paths terms.d rows → AreTerms terms →
    u ≡ used → IsBest terms left u paths rows (length paths) best → 1 ≤ best.gain → Progress problem terms left used legs →
    x ≡ sixteenths terms.d best.size → new_legs ≡ legs ++ legs_along problem.pools (hops_at paths best.path) x →
    new_used ≡ used ++ hop_places (hops_at paths best.path) → Progress problem terms (left - best.size) new_used new_legs
more-taken problem terms left used u new_used legs new_legs paths rows best x all rows-are ranges same is some was x-is legs-are used-are =
    let spread = spread_over problem terms in
    let share = share_at paths best.path best.size in
    let here = subst (λ (v : List ℕ). IsBest terms left v paths rows (length paths) best) same is in (
      omega (arith, was.0),
      (
        was.1.0 ++ share ∷ [],
        (
          legs-are ∙ ap (λ (n : ℕ). legs ++ legs_along problem.pools (hops_at paths best.path) n) x-is
              ∙ ap (λ (l : List Leg). l ++ legs_along problem.pools share.path (share_input spread share)) was.1.1.0 ∙ sym (legs-more spread was.1.0 share),
          λ rest h. subst (AreTaken spread 16 []) (sym (append_assoc was.1.0 (share ∷ []) rest))
              (was.1.1.1 (share ∷ rest) (next problem terms left used paths rows best all rows-are ranges here some rest (subst (λ (v : List ℕ). AreTaken spread (left - best.size) v rest) used-are h))),
        ),
      ),
    )

pub all-taken : (problem : ProblemView) (terms : Terms) (left : ℕ) (used u : List ℕ) (legs : List Leg) (paths : List Path) (rows : List Row) (best : Choice) →
    problem.s ≢ problem.t → terms.d ≡ problem.d → AreAllPaths problem.pools problem.s problem.t (map hops_of paths) → AreRows problem.pools paths terms.d rows → AreTerms terms →
    u ≡ used → IsBest terms left u paths rows (length paths) best → best.gain ≡ 0 → Progress problem terms left used legs →
    IsSpreadRoute problem (spread_over problem terms) legs
all-taken problem terms left used u legs paths rows best ends amount all rows-are ranges same is none was =
    let here = subst (λ (v : List ℕ). IsBest terms left v paths rows (length paths) best) same is in
    delivers problem terms was.1.0 legs ends amount
    (subst (AreTaken (spread_over problem terms) 16 []) (append-nil was.1.0) (was.1.1.1 [] (stop problem terms left used paths rows best all rows-are ranges here none))) was.1.1.0
