-- The moves of a problem's prices by numbers: sixty-four for each token and for each pool, as far
-- as they do not move the target.
use Rattle.std.specs.Prelude.{ℕ, ◌≡◌, ◌+◌, ◌-◌, ◌/◌, ◌%◌, ◌<◌, ◌≤◌, Bool, nat_eq, nat_lt, nat_le, Option, Some, None, List, [], ◌∷◌, length, slice_index_or, if◌then◌else◌}
use Rattle.amm_model.specs.declared.prices.Turn.{Turn}
use Rattle.amm_model.specs.Routing.{OpenView, ArePrices, no_pool, token0_of, token1_of, token_place}
use Rattle.amm_model.specs.Bound.{bound_of}
use Rattle.amm_model.specs.Settled.{prices_after}
use Rattle.amm_dual.specs.declared.moves.Move.{Move}

-- the turns of a move
abbrev pub turns_with : Turn → Option Turn → List Turn
turns_with first None = first ∷ []
turns_with first (Some second) = first ∷ second ∷ []

abbrev pub turns_of : Move → List Turn
turns_of move = turns_with move.first move.second

-- the move of one token, and of the two tokens of a pool
unfoldable pub token_move : OpenView → (place k : ℕ) → Bool → Option Move
token_move problem place k up =
    if nat_eq place (token_place problem.tokens problem.t) then None else Some (record { k = k; first = record { place = place; up = up }; second = None })

unfoldable pub pool_move : OpenView → (i k : ℕ) → (first_up second_up : Bool) → Option Move
pool_move problem i k first_up second_up =
    if nat_eq (token_place problem.tokens (token0_of (slice_index_or problem.pools i no_pool))) (token_place problem.tokens problem.t) then None
    else (if nat_eq (token_place problem.tokens (token1_of (slice_index_or problem.pools i no_pool))) (token_place problem.tokens problem.t) then None
    else Some (record {
      k = k;
      first = record { place = token_place problem.tokens (token0_of (slice_index_or problem.pools i no_pool)); up = first_up };
      second = Some (record { place = token_place problem.tokens (token1_of (slice_index_or problem.pools i no_pool)); up = second_up });
    }))

abbrev pub move_by : OpenView → (who k : ℕ) → (first_up second_up : Bool) → Option Move
move_by problem who k first_up second_up =
    if nat_lt who (length problem.tokens) then token_move problem who k first_up else pool_move problem (who - length problem.tokens) k first_up second_up

unfoldable pub move_of : OpenView → ℕ → Option Move
move_of problem n = move_by problem (n / 64) (n % 64 / 4 + 1) (nat_le 2 (n % 4)) (nat_eq (n % 2) 1)

-- the move is impossible, or lowers the bound by at most one part in 65536
abbrev pub IsNoHelp : OpenView → List ℕ → Move → Type 0
IsNoHelp problem prices move =
    ArePrices (prices_after move.k prices (turns_of move)) → bound_of problem prices ≤ bound_of problem (prices_after move.k prices (turns_of move)) + bound_of problem prices / 65536

abbrev pub NoHelpAt : OpenView → List ℕ → ℕ → Type 0
NoHelpAt problem prices n = (move : Move) → move_of problem n ≡ Some move → IsNoHelp problem prices move

abbrev pub NoHelpBelow : OpenView → List ℕ → ℕ → Type 0
NoHelpBelow problem prices count = (n : ℕ) → n < count → NoHelpAt problem prices n

-- the move of this number lowers the bound by more
pub record Helps (problem : OpenView) (prices : List ℕ) (n : ℕ) : Type 0 where
  pub step : Move
  pub is : move_of problem n ≡ Some step
  pub possible : ArePrices (prices_after step.k prices (turns_of step))
  pub lower : bound_of problem (prices_after step.k prices (turns_of step)) + bound_of problem prices / 65536 < bound_of problem prices
