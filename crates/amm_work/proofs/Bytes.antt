-- The bytes of the lines, one line after the other.
use Rattle.std.proofs.Common.{◌≡◌, ◌<◌, ◌+◌, ◌-◌, ◌++◌, ◌∙◌, ℕ, suc, List, sym, ap, arith, append_assoc}
use Rattle.std.specs.List.{flat_map}
use Rattle.amm_work.specs.Commands.{command_of, commands_from, line_from, line_text}

pub one_more : (bytes all : List ℕ) (x i count : ℕ) → i < count → bytes ++ flat_map line_text (commands_from x i (count - i)) ≡ all
    → (bytes ++ line_text (command_of (line_from x i).0)) ++ flat_map line_text (commands_from (line_from x i).1 (i + 1) (count - (i + 1))) ≡ all
one_more bytes all x i count lt before =
    let left : count - i ≡ suc (count - (i + 1)) = omega arith in
    append_assoc bytes (line_text (command_of (line_from x i).0)) (flat_map line_text (commands_from (line_from x i).1 (i + 1) (count - (i + 1))))
    ∙ ap (λ k. bytes ++ flat_map line_text (commands_from x i k)) (sym left) ∙ before
