-- The JSON value of bytes, and its parts.
use Rattle.std.specs.Prelude.{ℕ, List, [], ◌∷◌, Option, None, Result, Ok, if◌then◌else◌, decimal}
use Rattle.std.specs.Str.{is_utf8}
use Rattle.serde_json.specs.Data.{Data, string, number, array, unsigned, Items, no_items, item}
use Rattle.serde_json.specs.Read.{read}
use Rattle.serde_json.specs.View.{items_of}
use Rattle.amm_model.specs.declared.fault.Refusal.{Refusal}
use Rattle.amm_model.specs.Outcome.{◌>>=◌}

-- the value that `serde_json` reads from bytes that are UTF-8
unfoldable pub json_value : List ℕ → Option Data
json_value bytes = if is_utf8 bytes then read bytes else None

-- the items of an array
abbrev pub elements : Items → List Data
elements no_items = []
elements (item d ds) = d ∷ elements ds

-- an array of these
abbrev pub list : List Data → Data
list ds = array (items_of ds)

-- a number of at most 64 bits
abbrev pub whole : ℕ → Data
whole n = number (unsigned n)

-- a number that may have more than 64 bits, as a string of its digits
abbrev pub wide : ℕ → Data
wide n = string (decimal n)

-- what each item gives, or the first refusal
unfoldable pub each : {A B : Type 0} → (A → Result B Refusal) → List A → Result (List B) Refusal
each read_one [] = Ok []
each read_one (x ∷ xs) = do
  y ← read_one x
  ys ← each read_one xs
  Ok (y ∷ ys)
