-- The parts of a basket: which fit together, and as they are plainly written and read.
use Rattle.std.specs.Prelude.{◌≡◌, ◌++◌, Bool, ◌&&◌, List, map, length, nat_le, Ok}
use Rattle.json.specs.Lex.{Lexeme}
use Rattle.serde_json.specs.View.{items_of}
use Rattle.amm_model.specs.declared.problem.Part.{Part}
use Rattle.amm_model.specs.declared.limits.TheConstants.{PART_LIMIT}
use Rattle.amm_model.specs.Json.{each}
use Rattle.amm_model.specs.Forms.{as_part, are_rising}
use Rattle.amm_command.specs.Spelled.{first_spelled, leading, ArePlain}
use Rattle.amm_command.specs.Rows.{part_value}

-- 1 to 8 parts, in the strict order of their tokens
abbrev pub are_parts : List Part → Bool
are_parts parts = nat_le 1 (length parts) && nat_le (length parts) PART_LIMIT && are_rising parts

-- what is known of parts in turn
pub record Parts (parts : List Part) : Type 0 where
  pub fits : each as_part (map part_value parts) ≡ Ok parts
  pub plain : ArePlain (map part_value parts)

-- parts, each with a comma behind it
pub record PartsLead (old new : List Lexeme) (found : List Part) : Type 0 where
  pub text : old ≡ leading (map part_value found) ++ new
  pub parts : Parts found

-- parts to their bracket
pub record PartsRead (old new : List Lexeme) (found : List Part) : Type 0 where
  pub text : old ≡ first_spelled (items_of (map part_value found)) ++ new
  pub parts : Parts found
