-- When bytes have a JSON value.
use Rattle.std.proofs.Common.{◌≡◌, ℕ, List, Bool, true, false, cond, None, refl}
use Rattle.std.specs.Str.{IsUtf8, is_utf8}
use Rattle.std.proofs.lemmas.Str.{IsUtf8-from_is_utf8}
use Rattle.serde_json.specs.Read.{read}
use Rattle.amm_model.specs.Json.{json_value}

none_by : (bytes : List ℕ) (b : Bool) → is_utf8 bytes ≡ b → (IsUtf8 bytes → read bytes ≡ None) → cond b (read bytes) None ≡ None
none_by bytes true e h = h (IsUtf8-from_is_utf8 bytes e)
none_by bytes false e h = refl

pub json_value-none : (bytes : List ℕ) → (IsUtf8 bytes → read bytes ≡ None) → json_value bytes ≡ None
unfolding json_value
json_value-none bytes h = none_by bytes (is_utf8 bytes) refl h
