use Rattle.std.proofs.Common.{◌≡◌, ◌∙◌, arith, ap, sym, length}
use Rattle.std.proofs.Math.ListN.{length-map}
use Rattle.amm_model.specs.Routing.{places_of}
use Rattle.amm_dual.proofs.Skips.{at-end}
use Rattle.amm_dual.proofs.nexts.nexts_of_token.Goals as goal

pub loop-k-init : goal.loop-k-init
loop-k-init c =
    let problem = c.args.problem.now in
    let places = c.args.places.now in
    let many : length places ≡ length c.pools-count.result.now = ap length c.requires.places ∙ length-map problem.pools (places_of problem.tokens) ∙ sym (ap length c.pools-count.ensures.list) in
    record {
      next = at-end places c.args.token _ _ (sym many) (omega (arith, many)) (omega arith);
      list = record {
        long = c.all_at-list.ensures.long;
        each = λ i first within.
            (let few = c.pools-count.ensures.sound.parts.few in
            let read = c.all_at-list.ensures.each i (omega (arith, many, few, ap length c.pools-count.ensures.list)) in
            at-end places c.args.token i _ (read ∙ sym many) (omega (arith, many)) (omega (arith, many, read)));
      };
    }
