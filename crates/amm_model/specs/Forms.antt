-- The forms of values in commands: names, amounts, fees and paths.
use Rattle.std.specs.Prelude.{ℕ, List, [], ◌∷◌, map, length, Bool, true, ◌&&◌, nat_le, if◌then◌else◌, Result, Ok, Err, ok_or}
use Rattle.serde_json.specs.Data.{Data, number, array, unsigned}
use Rattle.serde_json.specs.Find.{as_str}
use Rattle.amm_names.specs.declared.holder.Asset.{Asset}
use Rattle.amm_names.specs.declared.holder.Holder.{Holder}
use Rattle.amm_names.specs.Names.{Name, is_user_name, is_token_name}
use Rattle.std.specs.List.{list_all}
use Rattle.amm_names.specs.Pools.{is_before, is_pool_name, is_fee}
use Rattle.amm_names.specs.Holders.{asset_of, holder_of}
use Rattle.amm_model.specs.declared.fault.Refusal.{Refusal}
use Rattle.amm_model.specs.declared.fault.Refusal.TheVariants.{BadCommand}
use Rattle.amm_model.specs.declared.problem.Part.{Part}
use Rattle.amm_model.specs.declared.route_path.RoutePath.{RoutePath}
use Rattle.amm_model.specs.Outcome.{◌>>=◌}
use Rattle.amm_model.specs.Json.{elements, each}
use Rattle.amm_model.specs.declared.limits.TheConstants.{AMOUNT_LIMIT, PART_LIMIT, PATH_LEAST, PATH_LIMIT}

-- the value, where it passes the test
abbrev pub value_if : {A : Type 0} → Bool → A → Result A Refusal
value_if test x = if test then Ok x else Err BadCommand

-- a string, as its bytes
abbrev pub as_text : Data → Result (List ℕ) Refusal
as_text d = ok_or (as_str d) BadCommand

-- an array, as the list of its elements
abbrev pub as_list : Data → Result (List Data) Refusal
as_list (array ds) = Ok (elements ds)
as_list _ = Err BadCommand

-- a number that is written with no sign, fraction or exponent and is below 2^64
abbrev pub as_whole : Data → Result ℕ Refusal
as_whole (number (unsigned n)) = Ok n
as_whole _ = Err BadCommand

-- a string that is the name of a user
unfoldable pub as_user : Data → Result Name Refusal
as_user d = do
  name ← as_text d
  value_if (is_user_name name) name

-- a string that is the name of a token
unfoldable pub as_token : Data → Result Name Refusal
as_token d = do
  name ← as_text d
  value_if (is_token_name name) name

-- a string that is the name of a pool
unfoldable pub as_pool : Data → Result Name Refusal
as_pool d = do
  name ← as_text d
  value_if (is_pool_name name) name

-- a string that is a token or a pool
unfoldable pub as_asset : Data → Result Asset Refusal
as_asset d = do
  name ← as_text d
  ok_or (asset_of name) BadCommand

-- a string that is a user, a pool, a token, or `0`
unfoldable pub as_holder : Data → Result Holder Refusal
as_holder d = do
  name ← as_text d
  ok_or (holder_of name) BadCommand

-- any amount, time, deadline or number
unfoldable pub as_amount : Data → Result ℕ Refusal
as_amount d = do
  n ← as_whole d
  value_if (nat_le n AMOUNT_LIMIT) n

-- the number 1, 3 or 10
unfoldable pub as_fee : Data → Result ℕ Refusal
as_fee d = do
  fee ← as_whole d
  value_if (is_fee fee) fee

-- what may stand behind the arguments of a pair: a fee, or nothing for the fee of 3
abbrev pub fee_behind : List Data → Result ℕ Refusal
fee_behind [] = Ok 3
fee_behind (fee ∷ []) = as_fee fee
fee_behind _ = Err BadCommand

-- a token of a path, and the fee of the pool that leads to it
pub record Hop : Type 0 where
  pub fee : ℕ
  pub token : Name

-- what follows a token of a path: where it goes on, the fee of the pool to the next token, or
-- nothing for the fee of 3, and that token
unfoldable pub hops : List Data → Result (List Hop) Refusal
hops [] = Ok []
hops (number n ∷ next ∷ rest) = do
  fee ← as_fee (number n)
  token ← as_token next
  more ← hops rest
  Ok (record { fee = fee; token = token } ∷ more)
hops (next ∷ rest) = do
  token ← as_token next
  more ← hops rest
  Ok (record { fee = 3; token = token } ∷ more)

-- the tokens of a path and the fees between them
abbrev pub path_along : List Data → Result RoutePath Refusal
path_along [] = Err BadCommand
path_along (first ∷ rest) = do
  token ← as_token first
  more ← hops rest
  Ok (record { tokens = token ∷ map (λ hop. hop.token) more; fees = map (λ hop. hop.fee) more })

-- an array of 2 to 8 tokens, with the fees that are not 3 between them
unfoldable pub as_path : Data → Result RoutePath Refusal
as_path d = do
  ds ← as_list d
  path ← path_along ds
  value_if (nat_le PATH_LEAST (length path.tokens) && nat_le (length path.tokens) PATH_LIMIT) path

-- a token and an amount of it
abbrev pub part_of_list : List Data → Result Part Refusal
part_of_list (token ∷ n ∷ []) = do
  name ← as_token token
  amount ← as_amount n
  Ok (record { token = name; amount = amount })
part_of_list _ = Err BadCommand

unfoldable pub as_part : Data → Result Part Refusal
as_part d = do
  ds ← as_list d
  part_of_list ds

-- each part's token comes before those of all later parts
abbrev pub are_rising : List Part → Bool
are_rising [] = true
are_rising (part ∷ parts) = list_all (λ (later : Part). is_before part.token later.token) parts && are_rising parts

-- an array of 1 to 8 parts, in the strict order of their tokens
unfoldable pub as_parts : Data → Result (List Part) Refusal
as_parts d = do
  ds ← as_list d
  parts ← each as_part ds
  value_if (nat_le 1 (length parts) && nat_le (length parts) PART_LIMIT && are_rising parts) parts
