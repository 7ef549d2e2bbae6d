use Rattle.std.proofs.Common.{◌≡◌, ◌<◌, List, [], ◌∷◌, length, get_or, false, refl, ap, ◌∙◌, subst}
use Rattle.std.specs.Prelude.{if◌then◌else◌}
use Rattle.std.proofs.lemmas.List.{get_or_default}
use Rattle.std.proofs.lemmas.List.Elements.{All-get_or}
use Rattle.serde_json.specs.Data.{Data, string}
use Rattle.serde_json.specs.Events.{SendsValue}
use Rattle.amm_model.specs.declared.problem.ProblemPool.{ProblemPool}
use Rattle.amm_model.specs.declared.route.Leg.{Leg}
use Rattle.amm_model.specs.Json.{whole, list}
use Rattle.amm_model.specs.Routing.{no_pool, token0_of, token1_of}
use Rattle.amm_model.specs.Certificate.{leg_value}
use Rattle.amm_text.proofs.Sent.{each-more}
use Rattle.amm_cert.proofs.quote.send_each_leg.Goals as goal

abbrev row : ProblemPool → Leg → Data
row pool leg = list (string pool.name ∷ string (if leg.zero_in then token0_of pool else token1_of pool) ∷ whole leg.input ∷ whole leg.output ∷ [])

row-leg_value : (pools : List ProblemPool) (leg : Leg) (pool : ProblemPool) → leg.pool < length pools → pool ≡ get_or pools leg.pool pool → row pool leg ≡ leg_value pools leg
row-leg_value pools leg pool lt is = ap (λ p. row p leg) (is ∙ get_or_default pools leg.pool pool no_pool lt)

pub loop-leg-preserved : goal.loop-leg-preserved
loop-leg-preserved g c =
    let none : Leg = record { pool = 0; zero_in = false; input = 0; output = 0 } in
    let leg : Leg = get_or c.args.legs.now c.loop-leg.leg-index none in
    let within : leg.pool < length c.args.pools.now = All-get_or (λ (l : Leg). l.pool < length c.args.pools.now) c.args.legs.now c.loop-leg.leg-index none c.loop-leg-test.true c.requires in
    each-more (leg_value c.args.pools.now) c.args.legs.now c.loop-leg.leg-index leg none _ _ _ c.loop-leg-test.true refl c.loop-leg.invariant
    (subst (λ d. SendsValue d (g.S.Serializer.written c.loop-leg.out) (g.S.Serializer.written c.send_leg.new.out)) (row-leg_value c.args.pools.now leg c.index-pools-leg.result within c.index-pools-leg.is) c.in_ok-send_leg.ensures)
