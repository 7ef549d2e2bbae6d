-- From the paths of a list to all paths.
use Rattle.std.proofs.Common.{◌≡◌, ℕ, ◌-◌, ◌<◌, ◌≤◌, ◌⊎◌, inl, inr, Some, None, List, length, map, arith, ap, sym, subst, ◌∙◌, get_or}
use Rattle.std.specs.Prelude.{All, Contains, Option}
use Rattle.std.proofs.Math.ListN.{length-map}
use Rattle.std.proofs.lemmas.List.{get_or-map}
use Rattle.amm_model.specs.declared.problem.ProblemPool.{ProblemPool}
use Rattle.amm_model.specs.declared.route.Hop.{Hop}
use Rattle.amm_names.specs.Names.{Name}
use Rattle.amm_model.specs.Paths.{AreAllPaths, AreApart, IsHop, IsPath, gives, hop_places}
use Rattle.amm_model.specs.Values.{AtLeastTheWays, IsOneOrTwoWayValue, sixteenths}
use Rattle.amm_graph.specs.declared.path.Path.{Path}
use Rattle.amm_graph.specs.Hops.{hops_of}
use Rattle.amm_split.specs.declared.sizes.BestWay.{BestWay}
use Rattle.amm_split.specs.Pairs.{no_path}
use Rattle.amm_split.specs.Sizes.{IsGiven, IsWayOf, SizesBelow, gives_by}

abbrev pub hops_at : List Path → ℕ → List Hop
hops_at paths i = hops_of (get_or paths i no_path)

-- where a path stands
record IsAt (paths : List Path) (path : List Hop) : Type 0 where
  i : ℕ
  inside : i < length paths
  is : hops_at paths i ≡ path

find : (paths : List Path) (path : List Hop) → Contains (map hops_of paths) path → IsAt paths path
find paths path (i, below, is) =
    let inside : i < length paths = rw length-map at below in
    record { i = i; inside = inside; is = sym (get_or-map hops_of paths i no_path path inside) ∙ is }

pub path_at : (pools : List ProblemPool) (s t : Name) (paths : List Path) → All (IsPath pools s t) (map hops_of paths) → (i : ℕ) (d : Path) → i < length paths → IsPath pools s t (hops_of (get_or paths i d))
path_at pools s t paths sound i d inside =
    subst (λ (path : List Hop). IsPath pools s t path) (get_or-map hops_of paths i d (hops_of d) inside) (sound i (hops_of d) (rw length-map inside))

-- no value is above what no size passes
pub values_below : (pools : List ProblemPool) (s t : Name) (paths : List Path) (d amount : ℕ) → AreAllPaths pools s t (map hops_of paths) → SizesBelow pools paths d amount 17 → AtLeastTheWays pools s t d amount
values_below pools s t paths d amount all below value (inl one) =
    let at = find paths one.path (all.complete one.path one.is_path) in
    let least = (below one.k one.size.0 (omega (arith, one.size.1))).ones at.i at.inside in
    let same : gives_by pools paths at.i (sixteenths d one.k) ≡ gives pools one.path (sixteenths d one.k) = ap (λ (path : List Hop). gives pools path (sixteenths d one.k)) at.is in
    omega (arith, one.given)
values_below pools s t paths d amount all below value (inr two) =
    let at = find paths two.first (all.complete two.first two.is_first) in
    let by = find paths two.second (all.complete two.second two.is_second) in
    let one_is : gives_by pools paths at.i (sixteenths d two.k) ≡ gives pools two.first (sixteenths d two.k) = ap (λ (path : List Hop). gives pools path (sixteenths d two.k)) at.is in
    let two_is : gives_by pools paths by.i (d - sixteenths d two.k) ≡ gives pools two.second (d - sixteenths d two.k) = ap (λ (path : List Hop). gives pools path (d - sixteenths d two.k)) by.is in
    let apart : AreApart (hop_places (hops_at paths at.i)) (hop_places (hops_at paths by.i)) =
    subst (λ (path : List Hop). AreApart (hop_places path) (hop_places (hops_at paths by.i))) (sym at.is) (subst (λ (path : List Hop). AreApart (hop_places two.first) (hop_places path)) (sym by.is) two.apart) in
    let least = (below two.k two.size.0 (omega (arith, two.size.1))).twos two.size.1 at.i by.i at.inside by.inside apart (omega (arith, one_is, two.first_gives)) (omega (arith, two_is, two.second_gives)) in
    omega (arith, two.given)

-- a way of the list is a value
pub way_value : (pools : List ProblemPool) (s t : Name) (paths : List Path) (d : ℕ) (way : BestWay) → AreAllPaths pools s t (map hops_of paths) → IsWayOf pools paths d way → IsOneOrTwoWayValue pools s t d way.amount
way_value pools s t paths d way all is = by_second way.second is.is
  where
    by_second : (o : Option ℕ) → IsGiven pools paths d way.k way.first way.amount o → IsOneOrTwoWayValue pools s t d way.amount
    by_second None given = inl (record {
      path = hops_at paths way.first;
      k = way.k;
      is_path = path_at pools s t paths all.sound way.first no_path is.there;
      size = is.size;
      some = is.some;
      given = given;
    })
    by_second (Some second) given = inr (record {
      first = hops_at paths way.first;
      second = hops_at paths second;
      k = way.k;
      is_first = path_at pools s t paths all.sound way.first no_path is.there;
      is_second = path_at pools s t paths all.sound second no_path given.1;
      apart = given.2;
      size = (is.size.0, given.0);
      first_gives = given.3;
      second_gives = given.4;
      given = given.5;
    })

some_value : (pools : List ProblemPool) (s t : Name) (d value : ℕ) → IsOneOrTwoWayValue pools s t d value → 1 ≤ value
some_value pools s t d value (inl one) = one.some
some_value pools s t d value (inr two) = omega (arith, two.given, two.first_gives, two.second_gives)

pub no_value : (pools : List ProblemPool) (s t : Name) (paths : List Path) (d amount : ℕ) → AreAllPaths pools s t (map hops_of paths) → SizesBelow pools paths d amount 17 → amount ≡ 0 →
    (value : ℕ) → IsOneOrTwoWayValue pools s t d value → ⊥
no_value pools s t paths d amount all below none value is =
    let least = values_below pools s t paths d amount all below value is in
    let some = some_value pools s t d value is in
    absurd (omega arith)

pub the_value : (pools : List ProblemPool) (s t : Name) (paths : List Path) (d : ℕ) (way : BestWay) → AreAllPaths pools s t (map hops_of paths) → (way.amount ≡ 0) ⊎ IsWayOf pools paths d way → (way.amount ≡ 0 → ⊥) →
    IsOneOrTwoWayValue pools s t d way.amount
the_value pools s t paths d way all (inl none) some = absurd (some none)
the_value pools s t paths d way all (inr is) some = way_value pools s t paths d way all is

pub short_at : (pools : List ProblemPool) (s t : Name) (paths : List Path) → All (IsPath pools s t) (map hops_of paths) → All (λ (path : Path). (1 ≤ length (hops_of path)) × (length (hops_of path) ≤ 3)) paths
short_at pools s t paths sound = λ i d inside. (path_at pools s t paths sound i d inside).short

pub over_at : (pools : List ProblemPool) (s t : Name) (paths : List Path) → All (IsPath pools s t) (map hops_of paths) → All (λ (path : Path). All (IsHop pools) (hops_of path)) paths
over_at pools s t paths sound = λ i d inside. (path_at pools s t paths sound i d inside).over
