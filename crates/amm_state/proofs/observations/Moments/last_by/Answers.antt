use Rattle.std.proofs.Common.{◌≡◌, ◌<◌, ◌-◌, nat_le, List, Some, get_or, rules, of_calls, arith, sym, ap, subst, ◌∙◌}
use Rattle.std.specs.List.Sorted.{IsNonDecreasingBy}
use Rattle.std.proofs.lemmas.List.Sorted.{IsPartitionPoint-from_clause, IsPartitionedBy-leb}
use Rattle.amm_state.specs.declared.observations.Moment.{Moment}
use Rattle.amm_state.specs.Observations.{last_by}
use Rattle.amm_state.proofs.ObservationLemmas.{last_by-none, last_by-at}
use Rattle.amm_state.proofs.observations.Moments.last_by.Goals as goal

pub returns-then-count-eq0 : goal.returns-then-count-eq0
returns-then-count-eq0 c =
    let same : c.as_slice.result.now ≡ c.args.self.now = c.as_slice.ensures.value ∙ c.self.view_is in
    let rise = subst (λ (ms : List Moment). IsNonDecreasingBy (λ (m : Moment). m.time) ms) (sym same) c.requires in
    let parted = IsPartitionedBy-leb (λ (m : Moment). m.time) c.as_slice.result.now c.args.latest rise in
    let point = IsPartitionPoint-from_clause (λ (m : Moment). nat_le m.time c.args.latest) c.as_slice.result.now c.partition_point-count.result c.partition_point-count.ensures.partitioned parted (λ a r q k. first_of (search rules, search (rules, of_calls))) in
    let d : Moment = record { time = 0; number = 0 } in
    let none = last_by-none c.args.latest c.as_slice.result.now d (λ k below. point.1 k d (omega (arith, c.if-count-eq0.true)) below) in
    sym none ∙ ap (λ (ms : List Moment). last_by c.args.latest ms) same

pub returns : goal.returns
returns c =
    let same : c.as_slice.result.now ≡ c.args.self.now = c.as_slice.ensures.value ∙ c.self.view_is in
    let rise = subst (λ (ms : List Moment). IsNonDecreasingBy (λ (m : Moment). m.time) ms) (sym same) c.requires in
    let parted = IsPartitionedBy-leb (λ (m : Moment). m.time) c.as_slice.result.now c.args.latest rise in
    let point = IsPartitionPoint-from_clause (λ (m : Moment). nat_le m.time c.args.latest) c.as_slice.result.now c.partition_point-count.result c.partition_point-count.ensures.partitioned parted (λ a r q k. first_of (search rules, search (rules, of_calls))) in
    let d : Moment = c.index.result.now in
    let some : 0 < c.partition_point-count.result = omega (arith, c.if-count-eq0.false) in
    let bound = c.partition_point-count.ensures.bound in
    let is : d ≡ get_or c.as_slice.result.now (c.partition_point-count.result - 1) d =
    c.index.ensures ∙ ap (λ (ms : List Moment). get_or ms (c.partition_point-count.result - 1) d) (sym c.as_slice.ensures.value) in
    let last = last_by-at c.args.latest c.as_slice.result.now (c.partition_point-count.result - 1) d (omega (arith, some, bound))
    (point.0 (c.partition_point-count.result - 1) d (omega arith) (omega (arith, some))) (λ k after below. point.1 k d (omega (arith, after, some)) below) in
    ap (λ (m : Moment). Some m.number) is ∙ sym last ∙ ap (λ (ms : List Moment). last_by c.args.latest ms) same
