use Rattle.std.proofs.Common.{◌≡◌, ◌-◌, ◌++◌, ◌∙◌, ap, arith}
use Rattle.std.specs.List.{flat_map}
use Rattle.amm_work.specs.Commands.{commands_from, line_text, work_bytes}
use Rattle.amm_work.proofs.Bytes.{one_more}
use Rattle.amm_work.proofs.lines.make.Goals as goal

pub loop-number-init : goal.loop-number-init
unfolding work_bytes
loop-number-init c =
    let all : c.args.count - 0 ≡ c.args.count = omega arith in
    record {
      within = omega arith;
      rest = ap (λ s. s ++ flat_map line_text (commands_from c.args.seed 0 (c.args.count - 0))) c.new-bytes.ensures.items ∙ ap (λ k. flat_map line_text (commands_from c.args.seed 0 k)) all;
    }

pub loop-number-preserved : goal.loop-number-preserved
loop-number-preserved c =
    let h = c.in_ok-push_line.ensures in
    let more = one_more c.loop-number.bytes.items (work_bytes c.args.seed c.args.count) c.loop-number.generator.state c.loop-number.number c.args.count c.loop-number-test.true c.loop-number.invariant.rest in
    record { within = omega (arith, c.loop-number-test.true); rest = rw (h.bytes, h.state) more }
