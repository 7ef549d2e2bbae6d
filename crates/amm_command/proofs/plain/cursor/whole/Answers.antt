use Rattle.std.proofs.Common.{◌≡◌, take, decimal, refl, sym, ap, ◌∙◌, arith}
use Rattle.amm_command.proofs.Fronts.{digit_first, digit_more}
use Rattle.amm_command.proofs.plain.cursor.whole.Goals as goal

pub returns-then-first-eq0-clause-value : goal.returns-then-first-eq0-clause-value
returns-then-first-eq0-clause-value c =
    digit_first c.args.bytes.now c.in_ok-first.first c.in_ok-first.ensures.there c.in_ok-first.ensures.is c.in_ok-first.ensures.small ∙ ap decimal c.if-first-eq0.true

pub loop-next-init : goal.loop-next-init
loop-next-init c =
    let there = c.in_ok-first.ensures.there in
    let small = c.in_ok-first.ensures.small in
    record {
      short = there;
      some = omega (arith, c.if-first-eq0.false);
      small = omega (arith, small);
      digits = digit_first c.args.bytes.now c.in_ok-first.first there c.in_ok-first.ensures.is small;
    }

pub loop-next-preserved : goal.loop-next-preserved
loop-next-preserved c =
    let l = c.loop-next.invariant in
    let there = c.in-Some.ensures.there in
    let small = c.in-Some.ensures.small in
    let room = c.if-n-gt450359962737049.false in
    record {
      short = omega (arith, there);
      some = omega (arith, l.some);
      small = omega (arith, room, small);
      digits = digit_more c.args.bytes.now c.loop-next.end c.loop-next.n c.in-Some.next there c.in-Some.ensures.is small l.some (omega (arith, room, small)) l.digits;
    }
