use Rattle.std.proofs.Common.{◌≡◌, ◌≤◌, ◌++◌, ◌-◌}
use Rattle.std.specs.List.{flat_map}
use Rattle.amm_work.specs.Commands.{commands_from, line_text, work_bytes}
use Rattle.amm_work.proofs.lines.make.Given as goal

-- the lines so far and those that are left are all
abbrev pub invariant-loop-number : goal.invariant-loop-number
invariant-loop-number l = record {
  within : l.number ≤ l.count;
  rest : l.bytes.items ++ flat_map line_text (commands_from l.generator.state l.number (l.count - l.number)) ≡ work_bytes l.seed l.count;
}
