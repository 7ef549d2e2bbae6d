-- What a line asks for fits: its numbers are within their limits, and the names that matter are
-- names.
use Rattle.std.proofs.Common.{◌≡◌, ◌∷◌, ℕ, nat_le, List, [], Ok, subst}
use Rattle.std.specs.Prelude.{ok_or}
use Rattle.serde_json.specs.Data.{Data}
use Rattle.amm_model.specs.declared.fault.Refusal.TheVariants.{BadJson}
use Rattle.amm_model.specs.Json.{json_value}
use Rattle.amm_model.specs.Forms.{as_text, as_list, as_user, as_token, as_pool, as_asset, as_holder, as_parts, as_path, as_amount}
use Rattle.amm_model.specs.CommandView as view
use Rattle.amm_model.specs.CommandView.{CommandView}
use Rattle.amm_model.specs.Reading.{deposit_row, withdraw_row, time_row, fee_to_row, setter_row, quote_out_row, quote_in_row, split_row, certificate_row, pool_row, balance_row, total_row, observe_row, average_row, consult_row, window_row, basket_row, cycle_row, act_row, market_row, row_of, move_row, as_steps, steps_inside, command_of_list, command_of, command_of_line}
use Rattle.amm_model.specs.declared.limits.TheConstants.{LOAN_LIMIT, STEP_LIMIT}
use Rattle.amm_model.specs.Fits.{Fits}
use Rattle.amm_model.proofs.Guards.{given, same_answer}
use Rattle.amm_model.proofs.FormsFit.{passed, amount_small, parts_fit, path_fits}
use Rattle.amm_model.proofs.StepsFit.{Reads, chosen, move_row_fits, steps_fit}

-- ---- the rows of commands

deposit_fits : (rest : List Data) → Reads Fits (deposit_row rest)
unfolding Reads
deposit_fits (user ∷ token ∷ n ∷ []) asked is =
    let user_read = given (as_user user) _ asked is in
    let token_read = given (as_token token) _ asked user_read.after in
    let n_read = given (as_amount n) _ asked token_read.after in
    subst Fits (same_answer _ asked n_read.after) (amount_small n n_read.value n_read.was)
deposit_fits [] asked is = cc
deposit_fits (a ∷ []) asked is = cc
deposit_fits (a ∷ b ∷ []) asked is = cc
deposit_fits (a ∷ b ∷ c ∷ d ∷ more) asked is = cc

withdraw_fits : (rest : List Data) → Reads Fits (withdraw_row rest)
unfolding Reads
withdraw_fits (user ∷ token ∷ n ∷ []) asked is =
    let user_read = given (as_user user) _ asked is in
    let token_read = given (as_token token) _ asked user_read.after in
    let n_read = given (as_amount n) _ asked token_read.after in
    subst Fits (same_answer _ asked n_read.after) (amount_small n n_read.value n_read.was)
withdraw_fits [] asked is = cc
withdraw_fits (a ∷ []) asked is = cc
withdraw_fits (a ∷ b ∷ []) asked is = cc
withdraw_fits (a ∷ b ∷ c ∷ d ∷ more) asked is = cc

time_fits : (rest : List Data) → Reads Fits (time_row rest)
unfolding Reads
time_fits (n ∷ []) asked is =
    let n_read = given (as_amount n) _ asked is in
    subst Fits (same_answer _ asked n_read.after) (amount_small n n_read.value n_read.was)
time_fits [] asked is = cc
time_fits (a ∷ b ∷ more) asked is = cc

fee_to_fits : (rest : List Data) → Reads Fits (fee_to_row rest)
unfolding Reads
fee_to_fits (user ∷ to ∷ []) asked is =
    let user_read = given (as_user user) _ asked is in
    let to_read = given (as_holder to) _ asked user_read.after in
    subst Fits (same_answer _ asked to_read.after) (tt)
fee_to_fits [] asked is = cc
fee_to_fits (a ∷ []) asked is = cc
fee_to_fits (a ∷ b ∷ c ∷ more) asked is = cc

setter_fits : (rest : List Data) → Reads Fits (setter_row rest)
unfolding Reads
setter_fits (user ∷ to ∷ []) asked is =
    let user_read = given (as_user user) _ asked is in
    let to_read = given (as_user to) _ asked user_read.after in
    subst Fits (same_answer _ asked to_read.after) tt
setter_fits [] asked is = cc
setter_fits (a ∷ []) asked is = cc
setter_fits (a ∷ b ∷ c ∷ more) asked is = cc

quote_out_fits : (rest : List Data) → Reads Fits (quote_out_row rest)
unfolding Reads
quote_out_fits (path ∷ n ∷ []) asked is =
    let path_read = given (as_path path) _ asked is in
    let n_read = given (as_amount n) _ asked path_read.after in
    subst Fits (same_answer _ asked n_read.after) ((path_fits path path_read.value path_read.was, amount_small n n_read.value n_read.was))
quote_out_fits [] asked is = cc
quote_out_fits (a ∷ []) asked is = cc
quote_out_fits (a ∷ b ∷ c ∷ more) asked is = cc

quote_in_fits : (rest : List Data) → Reads Fits (quote_in_row rest)
unfolding Reads
quote_in_fits (path ∷ n ∷ []) asked is =
    let path_read = given (as_path path) _ asked is in
    let n_read = given (as_amount n) _ asked path_read.after in
    subst Fits (same_answer _ asked n_read.after) ((path_fits path path_read.value path_read.was, amount_small n n_read.value n_read.was))
quote_in_fits [] asked is = cc
quote_in_fits (a ∷ []) asked is = cc
quote_in_fits (a ∷ b ∷ c ∷ more) asked is = cc

split_fits : (rest : List Data) → Reads Fits (split_row rest)
unfolding Reads
split_fits (from ∷ to ∷ n ∷ []) asked is =
    let from_read = given (as_token from) _ asked is in
    let to_read = given (as_token to) _ asked from_read.after in
    let n_read = given (as_amount n) _ asked to_read.after in
    subst Fits (same_answer _ asked n_read.after) (amount_small n n_read.value n_read.was)
split_fits [] asked is = cc
split_fits (a ∷ []) asked is = cc
split_fits (a ∷ b ∷ []) asked is = cc
split_fits (a ∷ b ∷ c ∷ d ∷ more) asked is = cc

certificate_fits : (rest : List Data) → Reads Fits (certificate_row rest)
unfolding Reads
certificate_fits (n ∷ []) asked is =
    let n_read = given (as_amount n) _ asked is in
    subst Fits (same_answer _ asked n_read.after) (amount_small n n_read.value n_read.was)
certificate_fits [] asked is = cc
certificate_fits (a ∷ b ∷ more) asked is = cc

pool_fits : (rest : List Data) → Reads Fits (pool_row rest)
unfolding Reads
pool_fits (pool ∷ []) asked is =
    let pool_read = given (as_pool pool) _ asked is in
    subst Fits (same_answer _ asked pool_read.after) tt
pool_fits [] asked is = cc
pool_fits (a ∷ b ∷ more) asked is = cc

balance_fits : (rest : List Data) → Reads Fits (balance_row rest)
unfolding Reads
balance_fits (asset ∷ holder ∷ []) asked is =
    let asset_read = given (as_asset asset) _ asked is in
    let holder_read = given (as_holder holder) _ asked asset_read.after in
    subst Fits (same_answer _ asked holder_read.after) (tt)
balance_fits [] asked is = cc
balance_fits (a ∷ []) asked is = cc
balance_fits (a ∷ b ∷ c ∷ more) asked is = cc

total_fits : (rest : List Data) → Reads Fits (total_row rest)
unfolding Reads
total_fits (asset ∷ []) asked is =
    let asset_read = given (as_asset asset) _ asked is in
    subst Fits (same_answer _ asked asset_read.after) (tt)
total_fits [] asked is = cc
total_fits (a ∷ b ∷ more) asked is = cc

observe_fits : (rest : List Data) → Reads Fits (observe_row rest)
unfolding Reads
observe_fits (user ∷ pool ∷ []) asked is =
    let user_read = given (as_user user) _ asked is in
    let pool_read = given (as_pool pool) _ asked user_read.after in
    subst Fits (same_answer _ asked pool_read.after) tt
observe_fits [] asked is = cc
observe_fits (a ∷ []) asked is = cc
observe_fits (a ∷ b ∷ c ∷ more) asked is = cc

average_fits : (rest : List Data) → Reads Fits (average_row rest)
unfolding Reads
average_fits (i ∷ j ∷ []) asked is =
    let first_read = given (as_amount i) _ asked is in
    let second_read = given (as_amount j) _ asked first_read.after in
    subst Fits (same_answer _ asked second_read.after) ((amount_small i first_read.value first_read.was, amount_small j second_read.value second_read.was))
average_fits [] asked is = cc
average_fits (a ∷ []) asked is = cc
average_fits (a ∷ b ∷ c ∷ more) asked is = cc

consult_fits : (rest : List Data) → Reads Fits (consult_row rest)
unfolding Reads
consult_fits (i ∷ j ∷ token ∷ n ∷ []) asked is =
    let first_read = given (as_amount i) _ asked is in
    let second_read = given (as_amount j) _ asked first_read.after in
    let token_read = given (as_token token) _ asked second_read.after in
    let n_read = given (as_amount n) _ asked token_read.after in
    subst Fits (same_answer _ asked n_read.after)
    ((amount_small i first_read.value first_read.was, (amount_small j second_read.value second_read.was, amount_small n n_read.value n_read.was)))
consult_fits [] asked is = cc
consult_fits (a ∷ []) asked is = cc
consult_fits (a ∷ b ∷ []) asked is = cc
consult_fits (a ∷ b ∷ c ∷ []) asked is = cc
consult_fits (a ∷ b ∷ c ∷ d ∷ e ∷ more) asked is = cc

window_fits : (rest : List Data) → Reads Fits (window_row rest)
unfolding Reads
window_fits (pool ∷ n ∷ []) asked is =
    let pool_read = given (as_pool pool) _ asked is in
    let n_read = given (as_amount n) _ asked pool_read.after in
    subst Fits (same_answer _ asked n_read.after) (amount_small n n_read.value n_read.was)
window_fits [] asked is = cc
window_fits (a ∷ []) asked is = cc
window_fits (a ∷ b ∷ c ∷ more) asked is = cc

basket_fits : (rest : List Data) → Reads Fits (basket_row rest)
unfolding Reads
basket_fits (user ∷ list ∷ to ∷ least ∷ time ∷ []) asked is =
    let user_read = given (as_user user) _ asked is in
    let parts_read = given (as_parts list) _ asked user_read.after in
    let to_read = given (as_token to) _ asked parts_read.after in
    let least_read = given (as_amount least) _ asked to_read.after in
    let time_read = given (as_amount time) _ asked least_read.after in
    subst Fits (same_answer _ asked time_read.after)
    ((parts_fit list parts_read.value parts_read.was, (amount_small least least_read.value least_read.was, amount_small time time_read.value time_read.was)))
basket_fits [] asked is = cc
basket_fits (a ∷ []) asked is = cc
basket_fits (a ∷ b ∷ []) asked is = cc
basket_fits (a ∷ b ∷ c ∷ []) asked is = cc
basket_fits (a ∷ b ∷ c ∷ d ∷ []) asked is = cc
basket_fits (a ∷ b ∷ c ∷ d ∷ e ∷ f ∷ more) asked is = cc

cycle_fits : (rest : List Data) → Reads Fits (cycle_row rest)
unfolding Reads
cycle_fits (user ∷ token ∷ time ∷ []) asked is =
    let user_read = given (as_user user) _ asked is in
    let token_read = given (as_token token) _ asked user_read.after in
    let time_read = given (as_amount time) _ asked token_read.after in
    subst Fits (same_answer _ asked time_read.after) (amount_small time time_read.value time_read.was)
cycle_fits [] asked is = cc
cycle_fits (a ∷ []) asked is = cc
cycle_fits (a ∷ b ∷ []) asked is = cc
cycle_fits (a ∷ b ∷ c ∷ d ∷ more) asked is = cc

act_fits : (kind : List ℕ) (rest : List Data) → Reads Fits (act_row kind rest)
unfolding Reads
act_fits kind (user ∷ rest) asked is =
    let actor = given (as_user user) _ asked is in
    let m = given (move_row (as_steps LOAN_LIMIT actor.value) kind rest) _ asked actor.after in
    let both = passed (nat_le (steps_inside m.value) STEP_LIMIT) (view.act actor.value m.value) asked m.after in
    subst Fits both.1 (move_row_fits (as_steps LOAN_LIMIT actor.value) (λ d ms. steps_fit LOAN_LIMIT actor.value d ms) kind rest m.value m.was)
act_fits kind [] asked is = cc

market_fits : (kind : List ℕ) (rest : List Data) → Reads Fits (market_row kind rest)
unfolding market_row
market_fits kind rest =
    chosen Fits _ _ _ (split_fits rest) (chosen Fits _ _ _ (certificate_fits rest) (chosen Fits _ _ _ (basket_fits rest)
    (chosen Fits _ _ _ (cycle_fits rest) (chosen Fits _ _ _ (observe_fits rest) (chosen Fits _ _ _ (average_fits rest)
    (chosen Fits _ _ _ (consult_fits rest) (chosen Fits _ _ _ (window_fits rest) (act_fits kind rest))))))))

row_fits : (kind : List ℕ) (rest : List Data) → Reads Fits (row_of kind rest)
unfolding row_of
row_fits kind rest =
    chosen Fits _ _ _ (deposit_fits rest) (chosen Fits _ _ _ (withdraw_fits rest) (chosen Fits _ _ _ (time_fits rest)
    (chosen Fits _ _ _ (fee_to_fits rest) (chosen Fits _ _ _ (setter_fits rest) (chosen Fits _ _ _ (quote_out_fits rest)
    (chosen Fits _ _ _ (quote_in_fits rest) (chosen Fits _ _ _ (pool_fits rest) (chosen Fits _ _ _ (balance_fits rest)
    (chosen Fits _ _ _ (total_fits rest) (market_fits kind rest))))))))))

list_fits : (ds : List Data) (asked : CommandView) → command_of_list ds ≡ Ok asked → Fits asked
unfolding Reads
list_fits [] asked is = cc
list_fits (kind ∷ rest) asked is =
    let word = given (as_text kind) _ asked is in
    row_fits word.value rest asked word.after

-- what a line asks for fits
pub reads_fitting : (bytes : List ℕ) (asked : CommandView) → command_of_line bytes ≡ Ok asked → Fits asked
unfolding command_of_line command_of
reads_fitting bytes asked is =
    let value = given (ok_or (json_value bytes) BadJson) _ asked is in
    let ds = given (as_list value.value) _ asked value.after in
    list_fits ds.value asked ds.after
