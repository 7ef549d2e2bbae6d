-- What each accepted call of the router keeps.
use Rattle.std.proofs.Common.{◌≡◌, ◌≢◌, ℕ, nat_lt, Bool, true, false, List, [], ◌∷◌, Some, Ok, inl, inr, sym, ap, ◌∙◌, subst}
use Rattle.std.specs.Prelude.{IsTrue, if◌then◌else◌, ok_or}
use Rattle.std.specs.Option.{is_some}
use Rattle.std.specs.Str.{bytes_eq}
use Rattle.amm_names.specs.declared.holder.Holder.{Holder}
use Rattle.amm_names.specs.declared.holder.Holder.TheVariants as holders
use Rattle.amm_names.specs.declared.holder.Asset.TheVariants as assets
use Rattle.amm_names.specs.Names.{is_token_name}
use Rattle.amm_model.specs.Swap.{IsFee}
use Rattle.amm_names.specs.Pools.{pool_between, pool_token0, pool_token1}
use Rattle.amm_model.specs.declared.pair.AddReceipt.{AddReceipt}
use Rattle.amm_model.specs.declared.pair.RemoveReceipt.{RemoveReceipt}
use Rattle.amm_model.specs.declared.trade.Trade.{Trade}
use Rattle.amm_model.specs.declared.route_path.RoutePath.{RoutePath}
use Rattle.amm_model.specs.declared.command.AddWant.{AddWant}
use Rattle.amm_model.specs.declared.command.RemoveWant.{RemoveWant}
use Rattle.amm_model.specs.declared.fault.Refusal.TheVariants as code
use Rattle.amm_model.specs.Ledger.{Ledger, pair_of}
use Rattle.amm_model.specs.Outcome.{Outcome, Made}
use Rattle.amm_model.specs.Postings.{transfer}
use Rattle.amm_model.specs.Operations.{swap, mint, burn}
use Rattle.amm_model.specs.Factory.{create}
use Rattle.amm_model.specs.Router.{side_of, last_of, exact_in, exact_out, with_pool, matched_amounts, add, paid_in_order, remove}
use Rattle.amm_path.specs.Plan.{Plan, amounts_of, out_along, in_along, receiver_of, swap_trades, pay_plan, trade_along, exact_in_planned, exact_out_planned}
use Rattle.amm_model.proofs.Guards.{given, not_refused, same_answer}
use Rattle.amm_model.proofs.Names.{same_name_itself}
use Rattle.amm_model.proofs.Laters.{Kept, kept_same, kept_then, transfer_kept}
use Rattle.amm_pair.proofs.Lending.{swap_kept}
use Rattle.amm_pair.proofs.Shares.{mint_kept}
use Rattle.amm_pair.proofs.Burning.{burn_kept}
use Rattle.amm_factory.proofs.Creation.{tokens_between, create_kept}
use Rattle.amm_path.proofs.Plans.{side_seen, exact_in_is, exact_out_is}

-- ---- swaps along a path

swap_trades_kept : (trades : List Trade) (ledger : Ledger) (to : Holder) (made : Made (Unit {0})) → swap_trades ledger trades to ≡ Ok made → Kept ledger made.ledger
unfolding swap_trades
swap_trades_kept [] ledger to made is =
    subst (λ (m : Made (Unit {0})). Kept ledger m.ledger) (same_answer (record { ledger = ledger; answer = tt }) made is) (kept_same ledger)
swap_trades_kept (trade ∷ later) ledger to made is =
    let first = given (swap ledger trade.pool (if trade.zero_in then 0 else trade.output) (if trade.zero_in then trade.output else 0) (receiver_of later to)) _ made is in
    kept_then ledger first.value.ledger made.ledger
    (swap_kept ledger trade.pool (if trade.zero_in then 0 else trade.output) (if trade.zero_in then trade.output else 0) (receiver_of later to) first.value first.was)
    (swap_trades_kept later first.value.ledger to made first.after)

pay_plan_kept : (ledger : Ledger) (actor : List ℕ) (tokens : List (List ℕ)) (input : ℕ) (trades : List Trade) (made : Made (Unit {0})) → pay_plan ledger actor tokens input trades ≡ Ok made
    → Kept ledger made.ledger
unfolding pay_plan
pay_plan_kept ledger actor [] input trades made is =
    subst (λ (m : Made (Unit {0})). Kept ledger m.ledger) (same_answer (record { ledger = ledger; answer = tt }) made is) (kept_same ledger)
pay_plan_kept ledger actor (from ∷ tokens) input [] made is =
    subst (λ (m : Made (Unit {0})). Kept ledger m.ledger) (same_answer (record { ledger = ledger; answer = tt }) made is) (kept_same ledger)
pay_plan_kept ledger actor (from ∷ tokens) input (first ∷ later) made is = transfer_kept ledger (assets.Token from) actor (holders.Pool first.pool) input made is

trade_along_kept : (ledger : Ledger) (actor : List ℕ) (path : RoutePath) (plan : Plan) (to : Holder) (made : Made (List ℕ)) → trade_along ledger actor path plan to ≡ Ok made → Kept ledger made.ledger
unfolding trade_along
trade_along_kept ledger actor path plan to made is =
    let paid = given (pay_plan ledger actor path.tokens plan.input plan.trades) _ made is in
    let swapped = given (swap_trades paid.value.ledger plan.trades to) _ made paid.after in
    let e = same_answer (record { ledger = swapped.value.ledger; answer = amounts_of plan }) made swapped.after in
    subst (λ (m : Made (List ℕ)). Kept ledger m.ledger) e
    (kept_then ledger paid.value.ledger swapped.value.ledger (pay_plan_kept ledger actor path.tokens plan.input plan.trades paid.value paid.was) (swap_trades_kept plan.trades paid.value.ledger to swapped.value swapped.was))

pub exact_in_kept : (ledger : Ledger) (actor : List ℕ) (path : RoutePath) (x least : ℕ) (to : Holder) (deadline : ℕ) (made : Made (List ℕ)) → exact_in ledger actor path x least to deadline ≡ Ok made
    → Kept ledger made.ledger
unfolding exact_in_planned
exact_in_kept ledger actor path x least to deadline made is =
    let timely = not_refused (nat_lt deadline ledger.time) code.Expired _ made (sym (exact_in_is ledger actor path to x least deadline) ∙ is) in
    let plan = given (out_along ledger path x) _ made timely.1 in
    let enough = not_refused (nat_lt (last_of (amounts_of plan.value)) least) code.InsufficientOutputAmount _ made plan.after in
    trade_along_kept ledger actor path plan.value to made enough.1

pub exact_out_kept : (ledger : Ledger) (actor : List ℕ) (path : RoutePath) (y most : ℕ) (to : Holder) (deadline : ℕ) (made : Made (List ℕ)) → exact_out ledger actor path y most to deadline ≡ Ok made
    → Kept ledger made.ledger
unfolding exact_out_planned
exact_out_kept ledger actor path y most to deadline made is =
    let timely = not_refused (nat_lt deadline ledger.time) code.Expired _ made (sym (exact_out_is ledger actor path to y most deadline) ∙ is) in
    let plan = given (in_along ledger path y) _ made timely.1 in
    let enough = not_refused (nat_lt most plan.value.input) code.ExcessiveInputAmount _ made plan.after in
    trade_along_kept ledger actor path plan.value to made enough.1

-- ---- liquidity

-- two names of tokens and a fee, as a pool has them
pub record FitsPair (a b : List ℕ) (fee : ℕ) : Type 0 where
  pub first : IsTrue (is_token_name a)
  pub second : IsTrue (is_token_name b)
  pub at_a_fee : IsFee fee

module _ (ledger : Ledger) (a b : List ℕ) (fee : ℕ) (made : Made (List ℕ)) where
  creates : (there : Bool) (pool : List ℕ) → (◌≡◌ {A = Outcome (List ℕ)} (if there then Ok (record { ledger = ledger; answer = pool }) else create ledger a b fee) (Ok made)) → FitsPair a b fee → Kept ledger made.ledger
  creates true pool is fits = subst (λ (m : Made (List ℕ)). Kept ledger m.ledger) (same_answer (record { ledger = ledger; answer = pool }) made is) (kept_same ledger)
  creates false pool is fits = create_kept ledger a b fee made fits.first fits.second fits.at_a_fee is

  with_pool_kept : FitsPair a b fee → with_pool ledger a b fee ≡ Ok made → Kept ledger made.ledger
  unfolding with_pool
  with_pool_kept fits is =
      let named = given (ok_or (pool_between a b fee) code.Identical) _ made is in
      creates (is_some (pair_of ledger.pairs named.value)) named.value named.after fits

pub add_kept : (ledger : Ledger) (actor : List ℕ) (want : AddWant) (to : Holder) (deadline : ℕ) (made : Made AddReceipt) → FitsPair want.a want.b want.fee → add ledger actor want to deadline ≡ Ok made → Kept ledger made.ledger
unfolding add
add_kept ledger actor want to deadline made fits is =
    let timely = not_refused (nat_lt deadline ledger.time) code.Expired _ made is in
    let there = given (with_pool ledger want.a want.b want.fee) _ made timely.1 in
    let side = given (side_of there.value.ledger want.a want.b want.fee) _ made there.after in
    let amounts = given (matched_amounts want side.value.rin side.value.rout) _ made side.after in
    let first = given (transfer there.value.ledger (assets.Token want.a) (holders.User actor) (holders.Pool side.value.pool) amounts.value.a) _ made amounts.after in
    let second = given (transfer first.value.ledger (assets.Token want.b) (holders.User actor) (holders.Pool side.value.pool) amounts.value.b) _ made first.after in
    let minted = given (mint second.value.ledger side.value.pool to) _ made second.after in
    let e = same_answer (record { ledger = minted.value.ledger; answer = record { a = amounts.value.a; b = amounts.value.b; shares = minted.value.answer.shares } }) made minted.after in
    subst (λ (m : Made AddReceipt). Kept ledger m.ledger) e
    (kept_then ledger there.value.ledger minted.value.ledger (with_pool_kept ledger want.a want.b want.fee there.value fits there.was)
    (kept_then there.value.ledger first.value.ledger minted.value.ledger (transfer_kept there.value.ledger (assets.Token want.a) actor (holders.Pool side.value.pool) amounts.value.a first.value first.was)
    (kept_then first.value.ledger second.value.ledger minted.value.ledger (transfer_kept first.value.ledger (assets.Token want.b) actor (holders.Pool side.value.pool) amounts.value.b second.value second.was)
    (mint_kept second.value.ledger side.value.pool to minted.value minted.was))))

not_with_itself : (a : List ℕ) (fee : ℕ) (pool : List ℕ) → pool_between a a fee ≡ Some pool → ⊥
unfolding pool_between
not_with_itself a fee pool is = let same : bytes_eq a a ≡ true = same_name_itself a in cc

sides_apart : (a b : List ℕ) (fee : ℕ) (pool : List ℕ) → FitsPair a b fee → pool_between a b fee ≡ Some pool → pool_token0 pool ≢ pool_token1 pool
sides_apart a b fee pool fits named same = elim (tokens_between a b fee fits.first fits.second fits.at_a_fee pool named) [
  | inl e ↦ not_with_itself a fee pool (ap (λ (x : List ℕ). pool_between a x fee) (sym e.0 ∙ same ∙ e.1) ∙ named)
  | inr e ↦ not_with_itself a fee pool (ap (λ (x : List ℕ). pool_between a x fee) (sym e.1 ∙ sym same ∙ e.0) ∙ named)
]

pub remove_kept : (ledger : Ledger) (actor : List ℕ) (want : RemoveWant) (to : Holder) (deadline : ℕ) (made : Made RemoveReceipt) → FitsPair want.a want.b want.fee → remove ledger actor want to deadline ≡ Ok made
    → Kept ledger made.ledger
unfolding remove
remove_kept ledger actor want to deadline made fits is =
    let timely = not_refused (nat_lt deadline ledger.time) code.Expired _ made is in
    let side = given (side_of ledger want.a want.b want.fee) _ made timely.1 in
    let sent = given (transfer ledger (assets.Share side.value.pool) (holders.User actor) (holders.Pool side.value.pool) want.shares) _ made side.after in
    let burnt = given (burn sent.value.ledger side.value.pool to) _ made sent.after in
    let paid : RemoveReceipt = paid_in_order side.value burnt.value.answer in
    let enough_a = not_refused (nat_lt paid.a want.a_min) code.InsufficientAAmount _ made burnt.after in
    let enough_b = not_refused (nat_lt paid.b want.b_min) code.InsufficientBAmount _ made enough_a.1 in
    let e = same_answer (record { ledger = burnt.value.ledger; answer = paid }) made enough_b.1 in
    let apart = sides_apart want.a want.b want.fee side.value.pool fits (side_seen ledger want.a want.b want.fee side.value side.was).0 in
    subst (λ (m : Made RemoveReceipt). Kept ledger m.ledger) e
    (kept_then ledger sent.value.ledger burnt.value.ledger (transfer_kept ledger (assets.Share side.value.pool) actor (holders.Pool side.value.pool) want.shares sent.value sent.was)
    (burn_kept sent.value.ledger side.value.pool to burnt.value burnt.was apart))
