-- What accepted steps of an actor do to every pair: each stays, and reads the same.
use Rattle.std.proofs.Common.{◌≡◌, not, ℕ, nat_lt, Bool, true, false, List, [], ◌∷◌, drop, Ok, subst}
use Rattle.std.specs.Prelude.{if◌then◌else◌, ok_or}
use Rattle.std.specs.Option.{is_some}
use Rattle.amm_names.specs.declared.holder.Holder.{Holder}
use Rattle.amm_names.specs.declared.holder.Holder.TheVariants as holders
use Rattle.amm_names.specs.declared.holder.Asset.{Asset}
use Rattle.amm_names.specs.declared.holder.Asset.TheVariants as assets
use Rattle.amm_names.specs.Pools.{pool_between, is_before}
use Rattle.amm_model.specs.declared.pair.AddReceipt.{AddReceipt}
use Rattle.amm_model.specs.declared.pair.RemoveReceipt.{RemoveReceipt}
use Rattle.amm_model.specs.declared.problem.ProblemPool.{ProblemPool}
use Rattle.amm_model.specs.declared.route.Leg.{Leg}
use Rattle.amm_model.specs.declared.route.Quote.{Quote}
use Rattle.amm_model.specs.declared.route_path.RoutePath.{RoutePath}
use Rattle.amm_model.specs.declared.command.AddWant.{AddWant}
use Rattle.amm_model.specs.declared.command.RemoveWant.{RemoveWant}
use Rattle.amm_model.specs.declared.fault.Refusal.TheVariants as code
use Rattle.amm_model.specs.declared.reply.Answer.{Answer}
use Rattle.amm_model.specs.declared.reply.Answer.TheVariants as answers
use Rattle.amm_model.specs.Ledger.{Ledger, balance, pair_of, quote_of}
use Rattle.amm_model.specs.Outcome.{Made, Outcome}
use Rattle.amm_model.specs.Postings.{transfer}
use Rattle.amm_model.specs.Operations.{sync, skim, swap, lend, give_back, mint, burn}
use Rattle.amm_model.specs.Factory.{create}
use Rattle.amm_model.specs.Router.{side_of, first_of, last_of, amounts_out, amounts_in, next_of, swap_along, pay_first, swap_amounts, exact_in, exact_out, with_pool, matched_amounts, add, paid_in_order, remove}
use Rattle.amm_model.specs.Legs.{leg_pool, token_in}
use Rattle.amm_model.specs.Settlement.{pools_of_legs, any_locked, all_as_kept, perform_leg, perform_legs, settle}
use Rattle.amm_model.specs.CommandView as view
use Rattle.amm_model.specs.CommandView.{Move, Moves}
use Rattle.amm_model.specs.Meaning.{known_asset, send, as_answer, sync_reply, meaning, meaning_of_all}
use Rattle.amm_model.proofs.Guards.{given, not_refused, same_answer}
use Rattle.amm_history.proofs.Drifting.{Drifts, drifts_then, drifts_same, sync_drifts, transfer_drifts, skim_drifts, lend_drifts, give_back_drifts, swap_drifts, mint_drifts, burn_drifts, create_drifts}

-- nothing was done
nothing : (l : Ledger) (made : Made (Unit {0})) → (◌≡◌ {A = Outcome (Unit {0})} (Ok (record { ledger = l; answer = tt })) (Ok made)) → Drifts l made.ledger
nothing l made is = subst (λ (m : Made (Unit {0})). Drifts l m.ledger) (same_answer (record { ledger = l; answer = tt }) made is) (drifts_same l)

-- ---- swaps along a path

along_drifts : (tokens : List (List ℕ)) (fees amounts : List ℕ) (l : Ledger) (to : Holder) (made : Made (Unit {0})) → swap_along l tokens fees amounts to ≡ Ok made → Drifts l made.ledger
unfolding swap_along
along_drifts [] fees amounts l to made is = nothing l made is
along_drifts (from ∷ []) fees amounts l to made is = nothing l made is
along_drifts (from ∷ next ∷ tokens) [] amounts l to made is = nothing l made is
along_drifts (from ∷ next ∷ tokens) (fee ∷ fees) [] l to made is = nothing l made is
along_drifts (from ∷ next ∷ tokens) (fee ∷ fees) (y ∷ amounts) l to made is =
    let pool = given (ok_or (pool_between from next fee) code.Identical) _ made is in
    let receiver = given (next_of (next ∷ tokens) fees to) _ made pool.after in
    let out0 = if is_before from next then 0 else y in
    let out1 = if is_before from next then y else 0 in
    let swapped = given (swap l pool.value out0 out1 receiver.value) _ made receiver.after in
    drifts_then l swapped.value.ledger made.ledger (swap_drifts l pool.value out0 out1 receiver.value swapped.value swapped.was)
    (along_drifts (next ∷ tokens) fees amounts swapped.value.ledger to made swapped.after)

pay_drifts : (tokens : List (List ℕ)) (fees : List ℕ) (l : Ledger) (actor : List ℕ) (x : ℕ) (made : Made (Unit {0})) → pay_first l actor tokens fees x ≡ Ok made → Drifts l made.ledger
unfolding pay_first
pay_drifts [] fees l actor x made is = nothing l made is
pay_drifts (from ∷ []) fees l actor x made is = nothing l made is
pay_drifts (from ∷ next ∷ tokens) [] l actor x made is = nothing l made is
pay_drifts (from ∷ next ∷ tokens) (fee ∷ fees) l actor x made is =
    let pool = given (ok_or (pool_between from next fee) code.Identical) _ made is in
    transfer_drifts l (assets.Token from) (holders.User actor) (holders.Pool pool.value) x made pool.after

amounts_drifts : (l : Ledger) (actor : List ℕ) (path : RoutePath) (amounts : List ℕ) (to : Holder) (made : Made (List ℕ)) → swap_amounts l actor path amounts to ≡ Ok made → Drifts l made.ledger
unfolding swap_amounts
amounts_drifts l actor path amounts to made is =
    let paid = given (pay_first l actor path.tokens path.fees (first_of amounts)) _ made is in
    let swapped = given (swap_along paid.value.ledger path.tokens path.fees (drop 1 amounts) to) _ made paid.after in
    subst (λ (m : Made (List ℕ)). Drifts l m.ledger) (same_answer (record { ledger = swapped.value.ledger; answer = amounts }) made swapped.after)
    (drifts_then l paid.value.ledger swapped.value.ledger (pay_drifts path.tokens path.fees l actor (first_of amounts) paid.value paid.was)
    (along_drifts path.tokens path.fees (drop 1 amounts) paid.value.ledger to swapped.value swapped.was))

in_drifts : (l : Ledger) (actor : List ℕ) (path : RoutePath) (x least : ℕ) (to : Holder) (deadline : ℕ) (made : Made (List ℕ)) → exact_in l actor path x least to deadline ≡ Ok made → Drifts l made.ledger
unfolding exact_in
in_drifts l actor path x least to deadline made is =
    let timely = not_refused (nat_lt deadline l.time) code.Expired _ made is in
    let amounts = given (amounts_out l path x) _ made timely.1 in
    let enough = not_refused (nat_lt (last_of amounts.value) least) code.InsufficientOutputAmount _ made amounts.after in
    amounts_drifts l actor path amounts.value to made enough.1

out_drifts : (l : Ledger) (actor : List ℕ) (path : RoutePath) (y most : ℕ) (to : Holder) (deadline : ℕ) (made : Made (List ℕ)) → exact_out l actor path y most to deadline ≡ Ok made → Drifts l made.ledger
unfolding exact_out
out_drifts l actor path y most to deadline made is =
    let timely = not_refused (nat_lt deadline l.time) code.Expired _ made is in
    let amounts = given (amounts_in l path y) _ made timely.1 in
    let enough = not_refused (nat_lt most (first_of amounts.value)) code.ExcessiveInputAmount _ made amounts.after in
    amounts_drifts l actor path amounts.value to made enough.1

-- ---- liquidity

with_pool_drifts : (l : Ledger) (a b : List ℕ) (fee : ℕ) (made : Made (List ℕ)) → with_pool l a b fee ≡ Ok made → Drifts l made.ledger
unfolding with_pool
with_pool_drifts l a b fee made is =
    let named = given (ok_or (pool_between a b fee) code.Identical) _ made is in
    by (is_some (pair_of l.pairs named.value)) named.value named.after
  where
    by : (there : Bool) (pool : List ℕ) → (◌≡◌ {A = Outcome (List ℕ)} (if there then Ok (record { ledger = l; answer = pool }) else create l a b fee) (Ok made)) → Drifts l made.ledger
    by true pool gives = subst (λ (m : Made (List ℕ)). Drifts l m.ledger) (same_answer (record { ledger = l; answer = pool }) made gives) (drifts_same l)
    by false pool gives = create_drifts l a b fee made gives

add_drifts : (l : Ledger) (actor : List ℕ) (want : AddWant) (to : Holder) (deadline : ℕ) (made : Made AddReceipt) → add l actor want to deadline ≡ Ok made → Drifts l made.ledger
unfolding add
add_drifts l actor want to deadline made is =
    let timely = not_refused (nat_lt deadline l.time) code.Expired _ made is in
    let there = given (with_pool l want.a want.b want.fee) _ made timely.1 in
    let side = given (side_of there.value.ledger want.a want.b want.fee) _ made there.after in
    let pool : Holder = holders.Pool side.value.pool in
    let amounts = given (matched_amounts want side.value.rin side.value.rout) _ made side.after in
    let first = given (transfer there.value.ledger (assets.Token want.a) (holders.User actor) pool amounts.value.a) _ made amounts.after in
    let second = given (transfer first.value.ledger (assets.Token want.b) (holders.User actor) pool amounts.value.b) _ made first.after in
    let minted = given (mint second.value.ledger side.value.pool to) _ made second.after in
    let told : AddReceipt = record { a = amounts.value.a; b = amounts.value.b; shares = minted.value.answer.shares } in
    subst (λ (m : Made AddReceipt). Drifts l m.ledger) (same_answer (record { ledger = minted.value.ledger; answer = told }) made minted.after)
    (drifts_then l there.value.ledger minted.value.ledger (with_pool_drifts l want.a want.b want.fee there.value there.was)
    (drifts_then there.value.ledger first.value.ledger minted.value.ledger (transfer_drifts there.value.ledger (assets.Token want.a) (holders.User actor) pool amounts.value.a first.value first.was)
    (drifts_then first.value.ledger second.value.ledger minted.value.ledger (transfer_drifts first.value.ledger (assets.Token want.b) (holders.User actor) pool amounts.value.b second.value second.was)
    (mint_drifts second.value.ledger side.value.pool to minted.value minted.was))))

remove_drifts : (l : Ledger) (actor : List ℕ) (want : RemoveWant) (to : Holder) (deadline : ℕ) (made : Made RemoveReceipt) → remove l actor want to deadline ≡ Ok made → Drifts l made.ledger
unfolding remove
remove_drifts l actor want to deadline made is =
    let timely = not_refused (nat_lt deadline l.time) code.Expired _ made is in
    let side = given (side_of l want.a want.b want.fee) _ made timely.1 in
    let pool : List ℕ = side.value.pool in
    let sent = given (transfer l (assets.Share pool) (holders.User actor) (holders.Pool pool) want.shares) _ made side.after in
    let burnt = given (burn sent.value.ledger pool to) _ made sent.after in
    let paid : RemoveReceipt = paid_in_order side.value burnt.value.answer in
    let enough_a = not_refused (nat_lt paid.a want.a_min) code.InsufficientAAmount _ made burnt.after in
    let enough_b = not_refused (nat_lt paid.b want.b_min) code.InsufficientBAmount _ made enough_a.1 in
    subst (λ (m : Made RemoveReceipt). Drifts l m.ledger) (same_answer (record { ledger = burnt.value.ledger; answer = paid }) made enough_b.1)
    (drifts_then l sent.value.ledger burnt.value.ledger (transfer_drifts l (assets.Share pool) (holders.User actor) (holders.Pool pool) want.shares sent.value sent.was)
    (burn_drifts sent.value.ledger pool to burnt.value burnt.was))

-- ---- settlements

leg_drifts : (l : Ledger) (actor : List ℕ) (pools : List ProblemPool) (leg : Leg) (made : Made (Unit {0})) → perform_leg l actor pools leg ≡ Ok made → Drifts l made.ledger
unfolding perform_leg
leg_drifts l actor pools leg made is =
    let pool = (leg_pool pools leg).name in
    let out0 = if leg.zero_in then 0 else leg.output in
    let out1 = if leg.zero_in then leg.output else 0 in
    let paid = given (transfer l (assets.Token (token_in pools leg)) (holders.User actor) (holders.Pool pool) leg.input) _ made is in
    let swapped = given (swap paid.value.ledger pool out0 out1 (holders.User actor)) _ made paid.after in
    subst (λ (m : Made (Unit {0})). Drifts l m.ledger) (same_answer (record { ledger = swapped.value.ledger; answer = tt }) made swapped.after)
    (drifts_then l paid.value.ledger swapped.value.ledger
    (transfer_drifts l (assets.Token (token_in pools leg)) (holders.User actor) (holders.Pool pool) leg.input paid.value paid.was)
    (swap_drifts paid.value.ledger pool out0 out1 (holders.User actor) swapped.value swapped.was))

pub legs_drifts : (legs : List Leg) (l : Ledger) (actor : List ℕ) (pools : List ProblemPool) (made : Made (Unit {0})) → perform_legs l actor pools legs ≡ Ok made → Drifts l made.ledger
unfolding perform_legs
legs_drifts [] l actor pools made is = nothing l made is
legs_drifts (leg ∷ legs) l actor pools made is =
    let first = given (perform_leg l actor pools leg) _ made is in
    drifts_then l first.value.ledger made.ledger (leg_drifts l actor pools leg first.value first.was) (legs_drifts legs first.value.ledger actor pools made first.after)

settle_drifts : (l : Ledger) (actor : List ℕ) (quote : Quote) (deadline : ℕ) (made : Made ℕ) → settle l actor quote deadline ≡ Ok made → Drifts l made.ledger
unfolding settle
settle_drifts l actor quote deadline made is =
    let timely = not_refused (nat_lt deadline l.time) code.Expired _ made is in
    let free = not_refused (any_locked l (pools_of_legs quote)) code.Locked _ made timely.1 in
    let kept = not_refused (not (all_as_kept l (pools_of_legs quote))) code.Stale _ made free.1 in
    let funded = not_refused (nat_lt (balance l (assets.Token quote.problem.s) (holders.User actor)) quote.problem.d) code.Funds _ made kept.1 in
    let performed = given (perform_legs l actor quote.problem.pools quote.route.legs) _ made funded.1 in
    subst (λ (m : Made ℕ). Drifts l m.ledger) (same_answer (record { ledger = performed.value.ledger; answer = quote.delivered }) made performed.after)
    (legs_drifts quote.route.legs l actor quote.problem.pools performed.value performed.was)

-- ---- steps

-- the answer in another form changes no ledger
answered : {A : Type 0} (old : Ledger) (form : A → Answer) (outcome : Outcome A) (made : Made Answer) → ((done : Made A) → outcome ≡ Ok done → Drifts old done.ledger) → as_answer form outcome ≡ Ok made
    → Drifts old made.ledger
answered old form outcome made each is =
    let first = given outcome _ made is in
    subst (λ (k : Made Answer). Drifts old k.ledger) (same_answer _ made first.after) (each first.value first.was)

send_drifts : (old : Ledger) (actor : List ℕ) (asset : Asset) (to : Holder) (n : ℕ) (made : Made Answer) → send old actor asset to n ≡ Ok made → Drifts old made.ledger
unfolding send
send_drifts old actor asset to n made is =
    let first = given (known_asset old asset) _ made is in
    let second = given (transfer old asset (holders.User actor) to n) _ made first.after in
    subst (λ (k : Made Answer). Drifts old k.ledger) (same_answer _ made second.after) (transfer_drifts old asset (holders.User actor) to n second.value second.was)

mutual
  unfolding meaning meaning_of_all

  pub step_drifts : (m : Move) (old : Ledger) (actor : List ℕ) (made : Made Answer) → meaning old actor m ≡ Ok made → Drifts old made.ledger
  step_drifts (view.transfer asset to n) old actor made is = send_drifts old actor asset to n made is
  step_drifts (view.create a b fee) old actor made is = answered old answers.Create (create old a b fee) made (create_drifts old a b fee) is
  step_drifts (view.mint name to) old actor made is = answered old answers.Mint (mint old name to) made (mint_drifts old name to) is
  step_drifts (view.burn name to) old actor made is = answered old answers.Burn (burn old name to) made (burn_drifts old name to) is
  step_drifts (view.swap name out0 out1 to) old actor made is = answered old answers.Swap (swap old name out0 out1 to) made (swap_drifts old name out0 out1 to) is
  step_drifts (view.skim name to) old actor made is = answered old answers.Skim (skim old name to) made (skim_drifts old name to) is
  step_drifts (view.sync name) old actor made is = answered old sync_reply (sync old name) made (sync_drifts old name) is
  step_drifts (view.flash name out0 out1 steps) old actor made is =
      let lent = given (lend old name out0 out1 (holders.User actor)) _ made is in
      let ran = given (meaning_of_all lent.value.ledger actor steps) _ made lent.after in
      drifts_then old lent.value.ledger made.ledger (lend_drifts old name out0 out1 (holders.User actor) lent.value lent.was)
      (drifts_then lent.value.ledger ran.value.ledger made.ledger (steps_drift steps lent.value.ledger actor ran.value ran.was)
      (answered ran.value.ledger answers.Flash (give_back ran.value.ledger name out0 out1) made (give_back_drifts ran.value.ledger name out0 out1) ran.after))
  step_drifts (view.add want to deadline) old actor made is = answered old answers.Add (add old actor want to deadline) made (add_drifts old actor want to deadline) is
  step_drifts (view.remove want to deadline) old actor made is = answered old answers.Remove (remove old actor want to deadline) made (remove_drifts old actor want to deadline) is
  step_drifts (view.swap_in path x least to deadline) old actor made is =
      answered old answers.SwapIn (exact_in old actor path x least to deadline) made (in_drifts old actor path x least to deadline) is
  step_drifts (view.swap_out path y most to deadline) old actor made is =
      answered old answers.SwapOut (exact_out old actor path y most to deadline) made (out_drifts old actor path y most to deadline) is
  step_drifts (view.settle number deadline) old actor made is =
      let quote = given (ok_or (quote_of old.quotes number) code.NoQuote) _ made is in
      answered old answers.Settle (settle old actor quote.value deadline) made (settle_drifts old actor quote.value deadline) quote.after

  -- so do steps one after another
  pub steps_drift : (ms : Moves) (old : Ledger) (actor : List ℕ) (made : Made (Unit {0})) → meaning_of_all old actor ms ≡ Ok made → Drifts old made.ledger
  steps_drift view.no_moves old actor made is = nothing old made is
  steps_drift (view.move m ms) old actor made is =
      let first = given (meaning old actor m) _ made is in
      drifts_then old first.value.ledger made.ledger (step_drifts m old actor first.value first.was) (steps_drift ms first.value.ledger actor made first.after)
