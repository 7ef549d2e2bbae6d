-- How a path is read from its front.
use Rattle.std.specs.Prelude.{ℕ, ◌-◌, List, [], ◌∷◌, ◌++◌, map, nat_le, if◌then◌else◌, Option, Some, None, Result, Ok, Err}
use Rattle.serde_json.specs.Data.{Data, number}
use Rattle.amm_model.specs.declared.fault.Refusal.{Refusal}
use Rattle.amm_model.specs.declared.fault.Refusal.TheVariants.{BadCommand}
use Rattle.amm_model.specs.declared.route_path.RoutePath.{RoutePath}
use Rattle.amm_model.specs.Outcome.{◌>>=◌}
use Rattle.amm_model.specs.Forms.{as_token, as_fee, Hop, hops}

-- a token that no fee stands before, which is one value
abbrev pub plain_hop : Data → Result (ℕ × List ℕ × ℕ) Refusal
plain_hop next = do
  token ← as_token next
  Ok (3, token, 1)

-- the fee and the token that stand first, and by how many values
abbrev pub hop_ahead : List Data → Result (ℕ × List ℕ × ℕ) Refusal
hop_ahead [] = Err BadCommand
hop_ahead (number n ∷ next ∷ rest) = do
  fee ← as_fee (number n)
  token ← as_token next
  Ok (fee, token, 2)
hop_ahead (next ∷ rest) = plain_hop next

-- a path that goes on
abbrev pub onto : RoutePath → List Hop → RoutePath
onto path more = record { tokens = path.tokens ++ map (λ hop. hop.token) more; fees = path.fees ++ map (λ hop. hop.fee) more }

-- the path from its first token on
abbrev pub path_from : List ℕ → List Data → Result RoutePath Refusal
path_from first ds = do
  more ← hops ds
  Ok (onto (record { tokens = first ∷ []; fees = [] }) more)

-- what is left of a room for so many
abbrev pub room_after : ℕ → ℕ → Option ℕ
room_after room n = if nat_le n room then Some (room - n) else None
