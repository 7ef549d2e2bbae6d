use Rattle.std.proofs.Common.{refl, subst, List}
use Rattle.std.specs.Prelude.{Contains, ◌↔◌}
use Rattle.amm_model.specs.declared.problem.Part.{Part}
use Rattle.amm_model.specs.declared.problem.ProblemPool.{ProblemPool}
use Rattle.amm_model.specs.Routing.{AreOpenParts, AreSpelled, tokens_named}
use Rattle.amm_names.specs.Names.{Name}
use Rattle.amm_model.proofs.problem.OpenProblem.from_parts.Goals as goal

pub invariant_of-result : goal.invariant_of-result
invariant_of-result c =
    let parts : AreOpenParts c.args.parts.items c.args.t c.args.pools.items = rw (c.deref.ensures.value, c.deref-2.ensures.value) at (c.are_parts.ensures.0 c.if-not-are_parts.false) in
    let spelled : AreSpelled c.args.parts.items c.args.t c.args.pools.items = rw (c.deref-3.ensures.value, c.deref-4.ensures.value) at c.spelled.ensures in
    let kept = c.in_ok-tokens.tokens.items in
    let tokens = subst (λ (l : List Part). (token : Name) → Contains kept token ↔ Contains (tokens_named l c.args.t c.args.pools.items) token) c.deref-5.ensures.value
    (subst (λ (l : List ProblemPool). (token : Name) → Contains kept token ↔ Contains (tokens_named c.deref-5.result.now c.args.t l) token) c.deref-6.ensures.value c.in_ok-tokens.ensures.tokens) in
    let part_places = rw (c.deref-7.ensures.value, c.deref-8.ensures.value) at c.in_ok-part_places.ensures in
    let places = rw (c.deref-9.ensures.value, c.deref-10.ensures.value) at c.in_ok-places.ensures in
    let target = rw c.deref-11.ensures.value at c.place_of-t_place.ensures in
    rw (c.from_vec.ensures, c.from_vec-2.ensures) (record { parts = parts; spelled = spelled; ascending = c.in_ok-tokens.ensures.ascending; tokens = tokens }, part_places, target, places)

pub returns : goal.returns
returns c = record { sources = c.from_vec.ensures; target = refl; over = c.from_vec-2.ensures; sound = (invariant_of-result c).0 }
