-- Prices that no single move improves by much.
use Rattle.std.specs.Prelude.{ℕ, ◌≡◌, ◌≢◌, ◌+◌, ◌-◌, ◌/◌, ◌<◌, ◌≤◌, ◌^◌, List, [], ◌∷◌, length, slice_index, slice_index_or, slice_set, Bool, max, if◌then◌else◌}
use Rattle.amm_model.specs.declared.prices.Turn.{Turn}
use Rattle.amm_model.specs.Routing.{OpenView, ArePrices, token_place, token0_of, token1_of, no_pool}
use Rattle.amm_model.specs.Bound.{bound_of, price_of}

-- A price up or down by one part in 2^k of it, and by at least 1.
abbrev pub price_after : (k : ℕ) → (up : Bool) → (price : ℕ) → ℕ
price_after k up price = if up then price + max 1 (price / 2 ^ k) else price - max 1 (price / 2 ^ k)

-- The price of a turn's token goes up or down.
abbrev pub prices_after_turn : (k : ℕ) → List ℕ → Turn → List ℕ
prices_after_turn k prices turn = slice_set prices turn.place (price_after k turn.up (slice_index prices turn.place))

abbrev pub prices_after : (k : ℕ) → List ℕ → List Turn → List ℕ
prices_after k prices [] = prices
prices_after k prices (turn ∷ turns) = prices_after k (prices_after_turn k prices turn) turns

-- The token at the place may move: it is one of the problem's, and not the target.
abbrev pub MayMove : OpenView → ℕ → Type 0
MayMove problem place = (place < length problem.tokens) × (place ≢ token_place problem.tokens problem.t)

-- A move takes one token, or the two tokens of a pool.
abbrev pub IsMove : OpenView → List Turn → Type 0
IsMove problem [] = ⊥
IsMove problem (turn ∷ []) = MayMove problem turn.place
IsMove problem (zero ∷ one ∷ []) =
    MayMove problem zero.place × MayMove problem one.place ×
    ((i : ℕ) × (i < length problem.pools) × (zero.place ≡ token_place problem.tokens (token0_of (slice_index_or problem.pools i no_pool)))
    × (one.place ≡ token_place problem.tokens (token1_of (slice_index_or problem.pools i no_pool))))
IsMove problem (a ∷ b ∷ c ∷ more) = ⊥

-- No move lowers the bound by more than one part in 65536 of it.
abbrev pub NoMoveHelps : OpenView → List ℕ → Type 0
NoMoveHelps problem prices =
    (k : ℕ) (turns : List Turn) → 1 ≤ k → k ≤ 16 → IsMove problem turns → ArePrices (prices_after k prices turns) →
    bound_of problem prices ≤ bound_of problem (prices_after k prices turns) + bound_of problem prices / 65536

pub record IsSettled (problem : OpenView) (prices : List ℕ) : Type 0 where
  pub as_many : length prices ≡ length problem.tokens
  pub ranges : ArePrices prices
  pub unit : price_of problem.tokens prices problem.t ≡ 2 ^ 20
  pub steady : NoMoveHelps problem prices
