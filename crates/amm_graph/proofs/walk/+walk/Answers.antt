use Rattle.std.proofs.Common.{◌≡◌, ◌-◌, ◌++◌, ◌∷◌, List, ℕ, arith, add-one, length, map, ap, sym, ◌∙◌, eq-eqb}
use Rattle.std.proofs.lemmas.Bool.{ne_eqb}
use Rattle.amm_model.specs.declared.route.Hop.{Hop}
use Rattle.amm_graph.specs.Hops.{hops_of}
use Rattle.amm_graph.specs.Ways.{behind, through, ways}
use Rattle.amm_graph.proofs.Sides.{name_at, names_test}
use Rattle.amm_graph.proofs.Walks.{hop_ends, hop_leads_on, hop_returns, longer_added, more_added, no_hop, no_ways, none_added, one_added, ways-all}
use Rattle.amm_graph.proofs.walk.+walk.Goals as goal
use Rattle.amm_graph.proofs.walk.+walk.Goals.{follow-then-next-ends-2-via-then-next-ends-2, follow-then-next-ends-2-via-else-next-ends-2+then-longer-eq3}

pub extend-loop-i-preserved : goal.extend-loop-i-preserved
extend-loop-i-preserved t c =
    let problem = c.args.problem.now in
    let s = name_at problem c.args.ends.from in
    let e = name_at problem c.args.ends.to in
    rw add-one (more_added _ _ _ (hops_of c.args.begun.now) (through (ways (2 - c.args.begun.now.count) problem.pools s e) problem.pools s e (name_at problem c.args.at)) c.loop-i.i c.loop-i.invariant c.in_ok-follow.ensures)

pub extend-returns : goal.extend-returns
extend-returns t c =
    let problem = c.args.problem.now in
    let s = name_at problem c.args.ends.from in
    let e = name_at problem c.args.ends.to in
    let all : c.loop-i.i ≡ length problem.pools = omega (arith, ap length c.pools-pools.ensures.list) in
    c.loop-i.invariant ∙ ap (λ (ls : List (List Hop)). map hops_of c.args.found.now.items ++ behind (hops_of c.args.begun.now) ls)
    (ways-all (2 - c.args.begun.now.count) (3 - c.args.begun.now.count) c.loop-i.i problem.pools s e (name_at problem c.args.at) (omega arith) all)

pub follow-returns-in_default : goal.follow-returns-in_default
follow-returns-in_default t c =
    let problem = c.args.problem.now in
    let s = name_at problem c.args.ends.from in
    let e = name_at problem c.args.ends.to in
    none_added _ (hops_of c.args.begun.now) _ (no_hop (ways (2 - c.args.begun.now.count) problem.pools s e) problem.pools s e (name_at problem c.args.at) c.args.i c.in_default.ensures.none)

pub follow-returns-then-next-ends : goal.follow-returns-then-next-ends
follow-returns-then-next-ends t c =
    let problem = c.args.problem.now in
    let s = name_at problem c.args.ends.from in
    let e = name_at problem c.args.ends.to in
    let some = c.in-Some.ensures.some in
    let ends = names_test problem c.side.ensures.sound c.in-Some.next c.args.ends.to some.2 c.requires.to ∙ eq-eqb c.in-Some.next c.args.ends.to c.if-next-ends.true in
    one_added c.args.found.now.items c.push.new.self.items c.with-longer.result (hops_of c.args.begun.now) c.in-Some.hop _ c.in_ok-push.ensures.items c.with-longer.ensures.hops
    (hop_ends (ways (2 - c.args.begun.now.count) problem.pools s e) problem.pools s e (name_at problem c.args.at) (name_at problem c.in-Some.next) c.args.i c.in-Some.hop some.0 some.1 ends)

pub follow-returns-then-next-ends-2 : goal.follow-returns-then-next-ends-2
follow-returns-then-next-ends-2 t c =
    let problem = c.args.problem.now in
    let s = name_at problem c.args.ends.from in
    let e = name_at problem c.args.ends.to in
    let some = c.in-Some.ensures.some in
    let rest = ways (2 - c.args.begun.now.count) problem.pools s e in
    let next = name_at problem c.in-Some.next in
    let ends = names_test problem c.side.ensures.sound c.in-Some.next c.args.ends.to some.2 c.requires.to ∙ ne_eqb c.in-Some.next c.args.ends.to c.if-next-ends.false in
    elim c.then-next-ends-2.branch [
      | follow-then-next-ends-2-via-then-next-ends-2 w ↦
          (let returns = names_test problem c.side.ensures.sound c.in-Some.next c.args.ends.from some.2 c.requires.from ∙ eq-eqb c.in-Some.next c.args.ends.from w.if-next-ends-2.true in
          none_added _ (hops_of c.args.begun.now) _ (hop_returns rest problem.pools s e (name_at problem c.args.at) next c.args.i c.in-Some.hop some.0 some.1 ends returns))
      | follow-then-next-ends-2-via-else-next-ends-2+then-longer-eq3 w ↦
          (let returns = names_test problem c.side.ensures.sound c.in-Some.next c.args.ends.from some.2 c.requires.from ∙ ne_eqb c.in-Some.next c.args.ends.from w.if-next-ends-2.false in
          let last : 2 - c.args.begun.now.count ≡ 0 = omega (arith, w.if-longer-eq3.true, c.with-longer.ensures.count) in
          none_added _ (hops_of c.args.begun.now) _ (hop_leads_on rest problem.pools s e (name_at problem c.args.at) next c.args.i c.in-Some.hop some.0 some.1 ends returns
          ∙ ap (λ (ls : List (List Hop)). map (λ (hops : List Hop). c.in-Some.hop ∷ hops) ls) (no_ways _ problem.pools s e next last)))
    ]

pub follow-returns : goal.follow-returns
follow-returns t c =
    let problem = c.args.problem.now in
    let s = name_at problem c.args.ends.from in
    let e = name_at problem c.args.ends.to in
    let some = c.in-Some.ensures.some in
    let next = name_at problem c.in-Some.next in
    let ends = names_test problem c.side.ensures.sound c.in-Some.next c.args.ends.to some.2 c.requires.to ∙ ne_eqb c.in-Some.next c.args.ends.to c.if-next-ends.false in
    let returns = names_test problem c.side.ensures.sound c.in-Some.next c.args.ends.from some.2 c.requires.from ∙ ne_eqb c.in-Some.next c.args.ends.from c.if-next-ends-2.false in
    let fewer : 3 - c.with-longer.result.count ≡ 2 - c.args.begun.now.count = omega (arith, c.with-longer.ensures.count) in
    longer_added _ _ (hops_of c.args.begun.now) (hops_of c.with-longer.result) c.in-Some.hop _ _ c.in_ok-extend.ensures c.with-longer.ensures.hops
    (hop_leads_on (ways (2 - c.args.begun.now.count) problem.pools s e) problem.pools s e (name_at problem c.args.at) next c.args.i c.in-Some.hop some.0 some.1 ends returns
    ∙ ap (λ (n : ℕ). map (λ (hops : List Hop). c.in-Some.hop ∷ hops) (ways n problem.pools s e next)) (sym fewer))
