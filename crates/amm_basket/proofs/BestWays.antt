-- The best share of a part, where all sixteenths are one share, is its best way.
use Rattle.std.proofs.Common.{◌≡◌, ℕ, ◌<◌, ◌≤◌, ◌⊎◌, inl, inr, List, [], ◌∷◌, length, map, arith, ap, sym, subst, ◌∙◌}
use Rattle.amm_model.specs.declared.problem.Part.{Part}
use Rattle.amm_model.specs.declared.route.Hop.{Hop}
use Rattle.amm_model.specs.Routing.{OpenView, ProblemView}
use Rattle.amm_model.specs.Baskets.{IsBestWay, IsWayOfPart}
use Rattle.amm_model.specs.Paths.{AreAllPaths, ComesBefore, gives, hop_places}
use Rattle.amm_model.specs.Spreads.{AreTaken, CanBeTaken, IsPreferred, Share, Spread, gain}
use Rattle.amm_model.specs.Values.{sixteenths}
use Rattle.amm_graph.specs.declared.path.Path.{Path}
use Rattle.amm_graph.specs.Hops.{hops_of}
use Rattle.amm_split.specs.declared.rows.Row.{Row}
use Rattle.amm_split.specs.declared.shares.Terms.{Terms}
use Rattle.amm_split.specs.declared.shares.Choice.{Choice}
use Rattle.amm_split.specs.Shares.{AreRows, AreTerms, IsBest, equal_terms, hops_at}
use Rattle.amm_split.proofs.Taken.{next, share_at, spread_over, stop}

-- a part as a problem of its own
abbrev pub of-part : OpenView → Part → ProblemView
of-part problem part = record { s = part.token; t = problem.t; d = part.amount; tokens = problem.tokens; pools = problem.pools }

abbrev pub whole : Part → Terms
whole part = equal_terms part.amount 16

abbrev pub spread-whole : OpenView → Part → Spread
spread-whole problem part = spread_over (of-part problem part) (whole part)

abbrev pub whole-on : List Hop → Share
whole-on path = record { path = path; parts = 16 }

all-sixteenths : (d : ℕ) → sixteenths d 16 ≡ d
all-sixteenths d = omega arith

gain-whole : (problem : OpenView) (part : Part) (path : List Hop) → gain (spread-whole problem part) (whole-on path) ≡ gives problem.pools path part.amount
gain-whole problem part path =
    let e : gives problem.pools path (sixteenths part.amount 16) ≡ gives problem.pools path part.amount = ap (gives problem.pools path) (all-sixteenths part.amount) in
    omega arith

can : (problem : OpenView) (part : Part) (used : List ℕ) (path : List Hop) → IsWayOfPart problem.pools problem.t used part path → CanBeTaken (spread-whole problem part) 16 used (whole-on path)
can problem part used path way = record { path = way.path_of; size = (omega arith, omega arith); within = omega arith; apart = way.apart }

-- where no share gains, there is no way
pub no_way : (problem : OpenView) (part : Part) (used : List ℕ) (paths : List Path) (rows : List Row) (best : Choice) →
    AreAllPaths problem.pools part.token problem.t (map hops_of paths) → AreRows problem.pools paths part.amount rows → AreTerms (whole part) →
    IsBest (whole part) 16 used paths rows (length paths) best → best.gain ≡ 0 → (path : List Hop) → IsWayOfPart problem.pools problem.t used part path → ⊥
no_way problem part used paths rows best all are ranges is none path way =
    let nothing = stop (of-part problem part) (whole part) 16 used paths rows best all are ranges is none (whole-on path) (can problem part used path way) in
    let e = gain-whole problem part path in
    omega (arith, way.some)

by_gain : (problem : OpenView) (part : Part) (path other : List Hop) → IsPreferred (spread-whole problem part) (whole-on path) (whole-on other) →
    (gives problem.pools other part.amount < gives problem.pools path part.amount)
    ⊎ ((gives problem.pools other part.amount ≡ gives problem.pools path part.amount) × (ComesBefore (hop_places path) (hop_places other) ⊎ (path ≡ other)))
by_gain problem part path other (inl less) = let e = gain-whole problem part path in let f = gain-whole problem part other in inl (omega arith)
by_gain problem part path other (inr (inl same)) = inr (sym (gain-whole problem part other) ∙ sym same.0 ∙ gain-whole problem part path, inl same.1)
by_gain problem part path other (inr (inr same)) = inr (sym (gain-whole problem part other) ∙ sym same.0 ∙ gain-whole problem part path, inr same.1)

-- else the path of the best share is the best way
pub best_way : (problem : OpenView) (part : Part) (used : List ℕ) (paths : List Path) (rows : List Row) (best : Choice) →
    AreAllPaths problem.pools part.token problem.t (map hops_of paths) → AreRows problem.pools paths part.amount rows → AreTerms (whole part) →
    IsBest (whole part) 16 used paths rows (length paths) best → 1 ≤ best.gain → IsBestWay problem.pools problem.t used part (hops_at paths best.path)
best_way problem part used paths rows best all are ranges is some =
    let fits = (is.found some).2 in
    let size-is : best.size ≡ 16 = omega (arith, fits.0, fits.1) in
    let path = hops_at paths best.path in
    let taken = subst (λ (n : ℕ). AreTaken (spread-whole problem part) 16 used (share_at paths best.path n ∷ [])) size-is
    (next (of-part problem part) (whole part) 16 used paths rows best all are ranges is some [] (λ other late. absurd (omega (arith, late.size.0, late.within)))) in
    record {
      way = record { path_of = taken.0.path; apart = taken.0.apart; some = omega (arith, taken.1, gain-whole problem part path) };
      best = λ other way. by_gain problem part path other (taken.2 (whole-on other) (can problem part used other way));
    }
