-- Plans give the amounts, the refusals and the ledgers of the router's rule.
use Rattle.std.proofs.Common.{◌≡◌, ℕ, nat_lt, Bool, true, false, List, [], ◌∷◌, map, Some, Result, Ok, Err, refl, sym, ap, ◌∙◌, subst}
use Rattle.std.specs.Prelude.{ok_or}
use Rattle.amm_names.specs.declared.holder.Holder.{Holder}
use Rattle.amm_names.specs.Pools.{pool_between, is_before}
use Rattle.amm_model.specs.declared.trade.Side.{Side}
use Rattle.amm_model.specs.declared.trade.Trade.{Trade}
use Rattle.amm_model.specs.declared.route_path.RoutePath.{RoutePath}
use Rattle.amm_model.specs.declared.fault.Refusal.{Refusal}
use Rattle.amm_model.specs.declared.fault.Refusal.TheVariants as code
use Rattle.amm_model.specs.declared.limits.TheConstants.{AMOUNT_LIMIT}
use Rattle.amm_model.specs.Outcome.{◌>>=◌, refuse_if, Outcome}
use Rattle.amm_model.specs.Ledger.{Ledger, pair_of}
use Rattle.amm_model.specs.Operations.{if_there}
use Rattle.amm_model.specs.Router.{seen_from, side_of, output_for, input_for, amounts_from, first_of, last_of, amounts_to, amounts_out, amounts_in, next_of, swap_along, pay_first, swap_amounts, exact_in, exact_out}
use Rattle.amm_model.proofs.Guards.{given, not_refused, same_answer, was_some}
use Rattle.amm_path.specs.Plan.{Plan, amounts_of, trade_out, trades_out, trade_in, plan_in, out_from_first, in_from_first, out_along, in_along, amounts_out_planned, amounts_in_planned, receiver_of, swap_trades, pay_plan, trade_along, exact_in_planned, exact_out_planned}

-- what each trade pays
abbrev outputs : List Trade → List ℕ
outputs trades = map (λ trade. trade.output) trades

-- a trade of this side
abbrev trade_of : Side → ℕ → Trade
trade_of side y = record { pool = side.pool; zero_in = side.zero_in; output = y }

-- what this side asks for an output, and the trade
abbrev asked_of : Side → (y x : ℕ) → ℕ × Trade
asked_of side y x = (x, trade_of side y)

-- ---- the same amounts

-- one pool from the first, and what follows from it
pool_out : (s : Result Side Refusal) (pays : Side → Result ℕ Refusal) (rest : ℕ → Result (List ℕ) Refusal) (trades : ℕ → Result (List Trade) Refusal) (x : ℕ)
    → ((y : ℕ) → rest y ≡ (trades y >>= λ later. Ok (y ∷ outputs later)))
    → (s >>= λ side. (pays side >>= λ y. (rest y >>= λ amounts. Ok (x ∷ amounts))))
    ≡ (((s >>= λ side. (pays side >>= λ y. Ok (trade_of side y))) >>= λ trade. (trades trade.output >>= λ later. Ok (trade ∷ later))) >>= λ all. Ok (x ∷ outputs all))
pool_out (Err why) pays rest trades x same = refl
pool_out (Ok side) pays rest trades x same = by_paid (pays side)
  where
    by_trades : (y : ℕ) (t : Result (List Trade) Refusal)
        → ((t >>= λ later. Ok (y ∷ outputs later)) >>= λ amounts. Ok (x ∷ amounts)) ≡ ((t >>= λ later. Ok (trade_of side y ∷ later)) >>= λ all. Ok (x ∷ outputs all))
    by_trades y (Err why) = refl
    by_trades y (Ok later) = refl

    by_paid : (p : Result ℕ Refusal)
        → (p >>= λ y. (rest y >>= λ amounts. Ok (x ∷ amounts))) ≡ (((p >>= λ y. Ok (trade_of side y)) >>= λ trade. (trades trade.output >>= λ later. Ok (trade ∷ later))) >>= λ all. Ok (x ∷ outputs all))
    by_paid (Err why) = refl
    by_paid (Ok y) = ap (λ (r : Result (List ℕ) Refusal). r >>= λ amounts. Ok (x ∷ amounts)) (same y) ∙ by_trades y (trades y)

-- one pool from the last, and what it asks for
pool_in : (p : Result Plan Refusal) (s : Result Side Refusal) (asks : ℕ → Side → Result ℕ Refusal)
    → ((p >>= λ later. Ok (amounts_of later)) >>= λ amounts. (s >>= λ side. (asks (first_of amounts) side >>= λ x. Ok (x ∷ amounts))))
    ≡ ((p >>= λ later. ((s >>= λ side. (asks later.input side >>= λ x. Ok (asked_of side later.input x))) >>= λ asked. Ok (record { input = asked.0; trades = asked.1 ∷ later.trades }))) >>= λ plan. Ok (amounts_of plan))
pool_in (Err why) s asks = refl
pool_in (Ok later) (Err why) asks = refl
pool_in (Ok later) (Ok side) asks = by_asked (asks later.input side)
  where
    by_asked : (a : Result ℕ Refusal)
        → (a >>= λ x. Ok (x ∷ amounts_of later))
        ≡ (((a >>= λ x. Ok (asked_of side later.input x)) >>= λ asked. Ok (record { input = asked.0; trades = asked.1 ∷ later.trades })) >>= λ plan. Ok (amounts_of plan))
    by_asked (Err why) = refl
    by_asked (Ok x) = refl

module _ (ledger : Ledger) where
  out_same : (from : List ℕ) (tokens : List (List ℕ)) (fees : List ℕ) (x : ℕ) → amounts_from ledger (from ∷ tokens) fees x ≡ (trades_out ledger from tokens fees x >>= λ all. Ok (x ∷ outputs all))
  unfolding amounts_from trades_out trade_out
  out_same from [] fees x = refl
  out_same from (to ∷ tokens) [] x = refl
  out_same from (to ∷ tokens) (fee ∷ fees) x =
      pool_out (side_of ledger from to fee) (λ side. output_for fee x side.rin side.rout) (amounts_from ledger (to ∷ tokens) fees) (trades_out ledger to tokens fees) x (λ y. out_same to tokens fees y)

  in_same : (from : List ℕ) (tokens : List (List ℕ)) (fees : List ℕ) (y : ℕ) → amounts_to ledger (from ∷ tokens) fees y ≡ (plan_in ledger from tokens fees y >>= λ plan. Ok (amounts_of plan))
  unfolding amounts_to plan_in trade_in
  in_same from [] fees y = refl
  in_same from (to ∷ tokens) [] y = refl
  in_same from (to ∷ tokens) (fee ∷ fees) y =
      ap (λ (r : Result (List ℕ) Refusal). r >>= λ amounts. (side_of ledger from to fee >>= λ side. (input_for fee (first_of amounts) side.rin side.rout >>= λ x. Ok (x ∷ amounts)))) (in_same to tokens fees y)
      ∙ pool_in (plan_in ledger to tokens fees y) (side_of ledger from to fee) (λ n side. input_for fee n side.rin side.rout)

  -- the amounts of an input
  pub amounts_out_is : (path : RoutePath) (x : ℕ) → amounts_out ledger path x ≡ amounts_out_planned ledger path x
  unfolding amounts_from amounts_out_planned out_along
  amounts_out_is path x = by_tokens path.tokens
    where
      apart : (r : Result (List Trade) Refusal) → (r >>= λ all. Ok (x ∷ outputs all)) ≡ ((r >>= λ trades. Ok (record { input = x; trades = trades })) >>= λ plan. Ok (amounts_of plan))
      apart (Err why) = refl
      apart (Ok all) = refl

      by_tokens : (tokens : List (List ℕ)) → amounts_from ledger tokens path.fees x ≡ ((out_from_first ledger tokens path.fees x >>= λ trades. Ok (record { input = x; trades = trades })) >>= λ plan. Ok (amounts_of plan))
      by_tokens [] = refl
      by_tokens (from ∷ tokens) = out_same from tokens path.fees x ∙ apart (trades_out ledger from tokens path.fees x)

  -- the amounts of an output
  pub amounts_in_is : (path : RoutePath) (y : ℕ) → amounts_in ledger path y ≡ amounts_in_planned ledger path y
  unfolding amounts_in amounts_to amounts_in_planned in_along
  amounts_in_is path y = ap (λ (r : Result (List ℕ) Refusal). r >>= λ amounts. (refuse_if (nat_lt AMOUNT_LIMIT (first_of amounts)) code.AmountLimit >>= λ _. Ok amounts)) (by_tokens path.tokens)
      ∙ by_plan (in_from_first ledger path.tokens path.fees y)
    where
      by_tokens : (tokens : List (List ℕ)) → amounts_to ledger tokens path.fees y ≡ (in_from_first ledger tokens path.fees y >>= λ plan. Ok (amounts_of plan))
      by_tokens [] = refl
      by_tokens (from ∷ tokens) = in_same from tokens path.fees y

      by_limit : (b : Bool) (plan : Plan) → (refuse_if b code.AmountLimit >>= λ _. Ok (amounts_of plan)) ≡ ((refuse_if b code.AmountLimit >>= λ _. Ok plan) >>= λ p. Ok (amounts_of p))
      by_limit true plan = refl
      by_limit false plan = refl

      by_plan : (r : Result Plan Refusal)
          → ((r >>= λ plan. Ok (amounts_of plan)) >>= λ amounts. (refuse_if (nat_lt AMOUNT_LIMIT (first_of amounts)) code.AmountLimit >>= λ _. Ok amounts))
          ≡ ((r >>= λ plan. (refuse_if (nat_lt AMOUNT_LIMIT plan.input) code.AmountLimit >>= λ _. Ok plan)) >>= λ plan. Ok (amounts_of plan))
      by_plan (Err why) = refl
      by_plan (Ok plan) = by_limit (nat_lt AMOUNT_LIMIT plan.input) plan

-- ---- the trades of a plan are those of its path

-- the pool of a side is the one between its tokens
pub side_seen : (ledger : Ledger) (a b : List ℕ) (fee : ℕ) (side : Side) → side_of ledger a b fee ≡ Ok side → (pool_between a b fee ≡ Some side.pool) × (side.zero_in ≡ is_before a b)
unfolding side_of
side_seen ledger a b fee side is =
    let named = given (ok_or (pool_between a b fee) code.Identical) _ side is in
    let pair = given (if_there (pair_of ledger.pairs named.value)) _ side named.after in
    let e = same_answer (seen_from named.value (is_before a b) pair.value) side pair.after in
    (was_some (pool_between a b fee) code.Identical named.value named.was ∙ ap (λ (s : Side). Some s.pool) e, ap (λ (s : Side). s.zero_in) (sym e))

-- each trade is made by the pool of its two tokens, in their order
abbrev IsAlong : (from : List ℕ) → List (List ℕ) → List ℕ → List Trade → Type 0
IsAlong from (to ∷ tokens) (fee ∷ fees) (trade ∷ later) = ((pool_between from to fee ≡ Some trade.pool) × (trade.zero_in ≡ is_before from to)) × IsAlong to tokens fees later
IsAlong from (to ∷ tokens) (fee ∷ fees) [] = ⊥
IsAlong from (to ∷ tokens) [] trades = trades ≡ []
IsAlong from [] fees trades = trades ≡ []

-- the same, where the path's first token is still among its tokens
abbrev IsAlongAll : List (List ℕ) → List ℕ → List Trade → Type 0
IsAlongAll [] fees trades = trades ≡ []
IsAlongAll (from ∷ tokens) fees trades = IsAlong from tokens fees trades

module _ (ledger : Ledger) where
  out_along_path : (from : List ℕ) (tokens : List (List ℕ)) (fees : List ℕ) (x : ℕ) (trades : List Trade) → trades_out ledger from tokens fees x ≡ Ok trades → IsAlong from tokens fees trades
  unfolding trades_out trade_out
  out_along_path from [] fees x trades is = sym (same_answer [] trades is)
  out_along_path from (to ∷ tokens) [] x trades is = sym (same_answer [] trades is)
  out_along_path from (to ∷ tokens) (fee ∷ fees) x trades is =
      let first = given (trade_out ledger from to fee x) _ trades is in
      let side = given (side_of ledger from to fee) _ first.value first.was in
      let paid = given (output_for fee x side.value.rin side.value.rout) _ first.value side.after in
      let later = given (trades_out ledger to tokens fees first.value.output) _ trades first.after in
      let seen = subst (λ (t : Trade). (pool_between from to fee ≡ Some t.pool) × (t.zero_in ≡ is_before from to)) (same_answer (trade_of side.value paid.value) first.value paid.after) (side_seen ledger from to fee side.value side.was) in
      subst (IsAlong from (to ∷ tokens) (fee ∷ fees)) (same_answer (first.value ∷ later.value) trades later.after) (seen, out_along_path to tokens fees first.value.output later.value later.was)

  in_along_path : (from : List ℕ) (tokens : List (List ℕ)) (fees : List ℕ) (y : ℕ) (plan : Plan) → plan_in ledger from tokens fees y ≡ Ok plan → IsAlong from tokens fees plan.trades
  unfolding plan_in trade_in
  in_along_path from [] fees y plan is = ap (λ (p : Plan). p.trades) (sym (same_answer (record { input = y; trades = [] }) plan is))
  in_along_path from (to ∷ tokens) [] y plan is = ap (λ (p : Plan). p.trades) (sym (same_answer (record { input = y; trades = [] }) plan is))
  in_along_path from (to ∷ tokens) (fee ∷ fees) y plan is =
      let later = given (plan_in ledger to tokens fees y) _ plan is in
      let asked = given (trade_in ledger from to fee later.value.input) _ plan later.after in
      let side = given (side_of ledger from to fee) _ asked.value asked.was in
      let paid = given (input_for fee later.value.input side.value.rin side.value.rout) _ asked.value side.after in
      let seen = subst (λ (a : ℕ × Trade). (pool_between from to fee ≡ Some a.1.pool) × (a.1.zero_in ≡ is_before from to)) (same_answer (asked_of side.value later.value.input paid.value) asked.value paid.after)
      (side_seen ledger from to fee side.value side.was) in
      subst (λ (p : Plan). IsAlong from (to ∷ tokens) (fee ∷ fees) p.trades) (same_answer (record { input = asked.value.0; trades = asked.value.1 ∷ later.value.trades }) plan asked.after)
      (seen, in_along_path to tokens fees y later.value later.was)

  plan_out_along : (path : RoutePath) (x : ℕ) (plan : Plan) → out_along ledger path x ≡ Ok plan → IsAlongAll path.tokens path.fees plan.trades
  unfolding out_along
  plan_out_along path x plan is =
      let trades = given (out_from_first ledger path.tokens path.fees x) _ plan is in
      subst (λ (p : Plan). IsAlongAll path.tokens path.fees p.trades) (same_answer (record { input = x; trades = trades.value }) plan trades.after) (by_tokens path.tokens trades.value trades.was)
    where
      by_tokens : (tokens : List (List ℕ)) (trades : List Trade) → out_from_first ledger tokens path.fees x ≡ Ok trades → IsAlongAll tokens path.fees trades
      by_tokens [] trades is = sym (same_answer [] trades is)
      by_tokens (from ∷ tokens) trades is = out_along_path from tokens path.fees x trades is

  plan_in_along : (path : RoutePath) (y : ℕ) (plan : Plan) → in_along ledger path y ≡ Ok plan → IsAlongAll path.tokens path.fees plan.trades
  unfolding in_along
  plan_in_along path y plan is =
      let first = given (in_from_first ledger path.tokens path.fees y) _ plan is in
      let within = not_refused (nat_lt AMOUNT_LIMIT first.value.input) code.AmountLimit _ plan first.after in
      subst (λ (p : Plan). IsAlongAll path.tokens path.fees p.trades) (same_answer first.value plan within.1) (by_tokens path.tokens first.value first.was)
    where
      by_tokens : (tokens : List (List ℕ)) (p : Plan) → in_from_first ledger tokens path.fees y ≡ Ok p → IsAlongAll tokens path.fees p.trades
      by_tokens [] p is = ap (λ (q : Plan). q.trades) (sym (same_answer (record { input = y; trades = [] }) p is))
      by_tokens (from ∷ tokens) p is = in_along_path from tokens path.fees y p is

-- ---- the same swaps

next_is : (from : List ℕ) (tokens : List (List ℕ)) (fees : List ℕ) (trades : List Trade) (to : Holder) → IsAlong from tokens fees trades → next_of (from ∷ tokens) fees to ≡ Ok (receiver_of trades to)
unfolding next_of
next_is from [] fees trades to none = ap (λ (k : List Trade). Ok (receiver_of k to)) (sym none)
next_is from (next ∷ tokens) [] trades to none = ap (λ (k : List Trade). Ok (receiver_of k to)) (sym none)
next_is from (next ∷ tokens) (fee ∷ fees) [] to along = absurd along
next_is from (next ∷ tokens) (fee ∷ fees) (trade ∷ later) to along = rw (along.0.0) refl

swaps_same : (from : List ℕ) (tokens : List (List ℕ)) (fees : List ℕ) (trades : List Trade) (to : Holder) → IsAlong from tokens fees trades
    → (ledger : Ledger) → swap_along ledger (from ∷ tokens) fees (outputs trades) to ≡ swap_trades ledger trades to
unfolding swap_along swap_trades
swaps_same from [] fees trades to none ledger = ap (λ (k : List Trade). swap_trades ledger k to) (sym none)
swaps_same from (next ∷ tokens) [] trades to none ledger = ap (λ (k : List Trade). swap_trades ledger k to) (sym none)
swaps_same from (next ∷ tokens) (fee ∷ fees) [] to along ledger = absurd along
swaps_same from (next ∷ tokens) (fee ∷ fees) (trade ∷ later) to along ledger =
    rw (along.0.0, next_is next tokens fees later to along.1, along.0.1) (by_swap (λ l. swaps_same next tokens fees later to along.1 l) _)
  where
    by_swap : {A : Type 0} → ((l : Ledger) → swap_along l (next ∷ tokens) fees (outputs later) to ≡ swap_trades l later to) → (r : Outcome A)
        → (r >>= λ swapped. swap_along swapped.ledger (next ∷ tokens) fees (outputs later) to) ≡ (r >>= λ swapped. swap_trades swapped.ledger later to)
    by_swap same (Err why) = refl
    by_swap same (Ok swapped) = same swapped.ledger

pays_same : (from : List ℕ) (tokens : List (List ℕ)) (fees : List ℕ) (trades : List Trade) (ledger : Ledger) (actor : List ℕ) (x : ℕ) → IsAlong from tokens fees trades
    → pay_first ledger actor (from ∷ tokens) fees x ≡ pay_plan ledger actor (from ∷ tokens) x trades
unfolding pay_first pay_plan
pays_same from [] fees trades ledger actor x none = ap (λ (k : List Trade). pay_plan ledger actor (from ∷ []) x k) (sym none)
pays_same from (next ∷ tokens) [] trades ledger actor x none = ap (λ (k : List Trade). pay_plan ledger actor (from ∷ next ∷ tokens) x k) (sym none)
pays_same from (next ∷ tokens) (fee ∷ fees) [] ledger actor x along = absurd along
pays_same from (next ∷ tokens) (fee ∷ fees) (trade ∷ later) ledger actor x along = rw (along.0.0) refl

module _ (ledger : Ledger) (actor : List ℕ) (path : RoutePath) (to : Holder) where
  trade_along_is : (plan : Plan) → IsAlongAll path.tokens path.fees plan.trades → swap_amounts ledger actor path (amounts_of plan) to ≡ trade_along ledger actor path plan to
  unfolding swap_amounts trade_along pay_first pay_plan swap_along swap_trades
  trade_along_is plan along = by_tokens path.tokens along
    where
      ends : Outcome (Unit {0}) → Outcome (List ℕ)
      ends swapped = swapped >>= λ s. Ok (record { ledger = s.ledger; answer = amounts_of plan })

      by_paid : (from : List ℕ) (tokens : List (List ℕ)) → IsAlong from tokens path.fees plan.trades → (r : Outcome (Unit {0}))
          → (r >>= λ paid. ends (swap_along paid.ledger (from ∷ tokens) path.fees (outputs plan.trades) to)) ≡ (r >>= λ paid. ends (swap_trades paid.ledger plan.trades to))
      by_paid from tokens along (Err why) = refl
      by_paid from tokens along (Ok paid) = ap ends (swaps_same from tokens path.fees plan.trades to along paid.ledger)

      by_tokens : (tokens : List (List ℕ)) → IsAlongAll tokens path.fees plan.trades
          → (pay_first ledger actor tokens path.fees plan.input >>= λ paid. ends (swap_along paid.ledger tokens path.fees (outputs plan.trades) to))
          ≡ (pay_plan ledger actor tokens plan.input plan.trades >>= λ paid. ends (swap_trades paid.ledger plan.trades to))
      by_tokens [] none = ap (λ (k : List Trade). ends (swap_trades ledger k to)) (sym none)
      by_tokens (from ∷ tokens) along =
          ap (λ (r : Outcome (Unit {0})). r >>= λ paid. ends (swap_along paid.ledger (from ∷ tokens) path.fees (outputs plan.trades) to)) (pays_same from tokens path.fees plan.trades ledger actor plan.input along)
          ∙ by_paid from tokens along (pay_plan ledger actor (from ∷ tokens) plan.input plan.trades)

  -- an exact input
  pub exact_in_is : (x least deadline : ℕ) → exact_in ledger actor path x least to deadline ≡ exact_in_planned ledger actor path x least to deadline
  unfolding exact_in exact_in_planned amounts_out_planned
  exact_in_is x least deadline = by_time (nat_lt deadline ledger.time)
    where
      swaps : List ℕ → Outcome (List ℕ)
      swaps amounts = refuse_if (nat_lt (last_of amounts) least) code.InsufficientOutputAmount >>= λ _. swap_amounts ledger actor path amounts to

      trades : Plan → Outcome (List ℕ)
      trades plan = refuse_if (nat_lt (last_of (amounts_of plan)) least) code.InsufficientOutputAmount >>= λ _. trade_along ledger actor path plan to

      by_plan : (r : Result Plan Refusal) → out_along ledger path x ≡ r → ((r >>= λ plan. Ok (amounts_of plan)) >>= swaps) ≡ (r >>= trades)
      by_plan (Err why) is = refl
      by_plan (Ok plan) is = ap (λ (o : Outcome (List ℕ)). refuse_if (nat_lt (last_of (amounts_of plan)) least) code.InsufficientOutputAmount >>= λ _. o) (trade_along_is plan (plan_out_along ledger path x plan is))

      by_time : (b : Bool) → (refuse_if b code.Expired >>= λ _. (amounts_out ledger path x >>= swaps)) ≡ (refuse_if b code.Expired >>= λ _. (out_along ledger path x >>= trades))
      by_time true = refl
      by_time false = ap (λ (r : Result (List ℕ) Refusal). r >>= swaps) (amounts_out_is ledger path x) ∙ by_plan (out_along ledger path x) refl

  -- an exact output
  pub exact_out_is : (y most deadline : ℕ) → exact_out ledger actor path y most to deadline ≡ exact_out_planned ledger actor path y most to deadline
  unfolding exact_out exact_out_planned amounts_in_planned
  exact_out_is y most deadline = by_time (nat_lt deadline ledger.time)
    where
      swaps : List ℕ → Outcome (List ℕ)
      swaps amounts = refuse_if (nat_lt most (first_of amounts)) code.ExcessiveInputAmount >>= λ _. swap_amounts ledger actor path amounts to

      trades : Plan → Outcome (List ℕ)
      trades plan = refuse_if (nat_lt most plan.input) code.ExcessiveInputAmount >>= λ _. trade_along ledger actor path plan to

      by_plan : (r : Result Plan Refusal) → in_along ledger path y ≡ r → ((r >>= λ plan. Ok (amounts_of plan)) >>= swaps) ≡ (r >>= trades)
      by_plan (Err why) is = refl
      by_plan (Ok plan) is = ap (λ (o : Outcome (List ℕ)). refuse_if (nat_lt most plan.input) code.ExcessiveInputAmount >>= λ _. o) (trade_along_is plan (plan_in_along ledger path y plan is))

      by_time : (b : Bool) → (refuse_if b code.Expired >>= λ _. (amounts_in ledger path y >>= swaps)) ≡ (refuse_if b code.Expired >>= λ _. (in_along ledger path y >>= trades))
      by_time true = refl
      by_time false = ap (λ (r : Result (List ℕ) Refusal). r >>= swaps) (amounts_in_is ledger path y) ∙ by_plan (in_along ledger path y) refl
