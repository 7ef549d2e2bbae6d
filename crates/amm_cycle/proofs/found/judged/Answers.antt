use Rattle.std.proofs.Common.{◌≤◌, ◌<◌, ◌-◌, ◌^◌, ◌∙◌, ℕ, ap, arith, subst, sym}
use Rattle.std.proofs.lemmas.Nat.{pow_below}
use Rattle.amm_model.specs.Cycles.{profit}
use Rattle.amm_cycle.specs.Chains.{hops_of}
use Rattle.amm_cycle.proofs.Gifts.{on_power}
use Rattle.amm_cycle.proofs.found.judged.Goals as goal

pub climbed-best-requires : goal.climbed-best-requires
climbed-best-requires c =
    let pools = c.args.problem.now.pools in
    let hops = hops_of c.args.chain.now in
    let some : 1 ≤ c.peak-peak.result.gain = omega (arith, c.if-peak-eq0.false) in
    let found = c.peak-peak.ensures.found some in
    record {
      start = record {
        count = c.requires.short;
        cycle = c.requires.cycle;
        power = on_power pools hops c.args.powers.now.amounts c.peak-peak.result.x c.peak-peak.result.gain c.requires.powers some found;
        input = subst (λ (n : ℕ). n < 2 ^ 52) (sym found.2) (pow_below found.0 52 found.1);
        some = some;
        is = found.3 ∙ ap (λ (n : ℕ). n - 2 ^ found.0) (c.requires.powers.each found.0 found.1) ∙ ap (profit pools hops) (sym found.2);
      };
    }
