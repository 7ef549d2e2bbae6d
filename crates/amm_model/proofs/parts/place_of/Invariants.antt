use Rattle.std.proofs.Common.{◌≡◌, ◌<◌, ℕ, List, false, get_or}
use Rattle.std.specs.Str.{bytes_eq}
use Rattle.amm_model.proofs.parts.place_of.Given as goal

-- it is none of the tokens passed
abbrev pub invariant-loop-i : goal.invariant-loop-i
invariant-loop-i l = (k : ℕ) (d : List ℕ) → k < l.i → bytes_eq l.token (get_or l.tokens k d) ≡ false
