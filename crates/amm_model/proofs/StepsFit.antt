-- A step that was read fits: its numbers are within their limits, and its names are names.
use Rattle.std.proofs.Common.{◌≡◌, ◌∷◌, ℕ, zero, suc, Bool, true, false, List, [], Result, Ok, Err, subst}
use Rattle.std.specs.Prelude.{if◌then◌else◌}
use Rattle.serde_json.specs.Data.{Data}
use Rattle.amm_model.specs.declared.fault.Refusal.{Refusal}
use Rattle.amm_model.specs.declared.fault.Refusal.TheVariants.{BadCommand}
use Rattle.amm_model.specs.Json.{each}
use Rattle.amm_model.specs.Forms.{as_text, as_list, as_token, as_pool, as_asset, as_holder, as_path, as_amount, fee_behind}
use Rattle.amm_model.specs.CommandView.{Move, Moves, moves_of}
use Rattle.amm_model.specs.Reading.{transfer_row, create_row, mint_row, burn_row, swap_row, skim_row, sync_row, flash_row, add_row, remove_row, swap_in_row, swap_out_row, settle_row, ReadSteps, move_row, step_row, as_step, as_steps}
use Rattle.amm_model.specs.Fits.{FitsMove, FitMoves, HasNames, HaveNames}
use Rattle.amm_model.proofs.Guards.{given, same_answer}
use Rattle.amm_model.proofs.FormsFit.{token_named, pool_named, amount_small, fee_behind_fits, path_fits}

-- a step that was read, and a list of them
abbrev pub IsReadMove : Move → Type 0
IsReadMove m = HasNames m × FitsMove m

abbrev pub AreReadMoves : Moves → Type 0
AreReadMoves ms = HaveNames ms × FitMoves ms

-- what was read, if anything was, has the property
unfoldable pub Reads : {A : Type 0} → (A → Type 0) → Result A Refusal → Type 0
Reads P read = (asked : _) → read ≡ Ok asked → P asked

pub chosen : {A : Type 0} (P : A → Type 0) (test : Bool) (one other : Result A Refusal) → Reads P one → Reads P other → Reads P (if test then one else other)
chosen P true one other first second = first
chosen P false one other first second = second

refused : {A : Type 0} (P : A → Type 0) (why : Refusal) → Reads P (Err why)
unfolding Reads
refused P why asked is = cc

-- ---- the rows of steps

transfer_fits : (rest : List Data) → Reads IsReadMove (transfer_row rest)
unfolding Reads
transfer_fits (asset ∷ to ∷ n ∷ []) asked is =
    let asset_read = given (as_asset asset) _ asked is in
    let to_read = given (as_holder to) _ asked asset_read.after in
    let n_read = given (as_amount n) _ asked to_read.after in
    subst IsReadMove (same_answer _ asked n_read.after) (tt, amount_small n n_read.value n_read.was)
transfer_fits [] asked is = cc
transfer_fits (a ∷ []) asked is = cc
transfer_fits (a ∷ b ∷ []) asked is = cc
transfer_fits (a ∷ b ∷ c ∷ d ∷ more) asked is = cc

create_fits : (rest : List Data) → Reads IsReadMove (create_row rest)
unfolding Reads
create_fits (one ∷ other ∷ rest) asked is =
    let one_read = given (as_token one) _ asked is in
    let other_read = given (as_token other) _ asked one_read.after in
    let rest_read = given (fee_behind rest) _ asked other_read.after in
    subst IsReadMove (same_answer _ asked rest_read.after) ((token_named one one_read.value one_read.was, token_named other other_read.value other_read.was), fee_behind_fits rest rest_read.value rest_read.was)
create_fits [] asked is = cc
create_fits (a ∷ []) asked is = cc

mint_fits : (rest : List Data) → Reads IsReadMove (mint_row rest)
unfolding Reads
mint_fits (pool ∷ to ∷ []) asked is =
    let pool_read = given (as_pool pool) _ asked is in
    let to_read = given (as_holder to) _ asked pool_read.after in
    subst IsReadMove (same_answer _ asked to_read.after) (tt, tt)
mint_fits [] asked is = cc
mint_fits (a ∷ []) asked is = cc
mint_fits (a ∷ b ∷ c ∷ more) asked is = cc

burn_fits : (rest : List Data) → Reads IsReadMove (burn_row rest)
unfolding Reads
burn_fits (pool ∷ to ∷ []) asked is =
    let pool_read = given (as_pool pool) _ asked is in
    let to_read = given (as_holder to) _ asked pool_read.after in
    subst IsReadMove (same_answer _ asked to_read.after) (pool_named pool pool_read.value pool_read.was, tt)
burn_fits [] asked is = cc
burn_fits (a ∷ []) asked is = cc
burn_fits (a ∷ b ∷ c ∷ more) asked is = cc

swap_fits : (rest : List Data) → Reads IsReadMove (swap_row rest)
unfolding Reads
swap_fits (pool ∷ m ∷ n ∷ to ∷ []) asked is =
    let pool_read = given (as_pool pool) _ asked is in
    let m_read = given (as_amount m) _ asked pool_read.after in
    let n_read = given (as_amount n) _ asked m_read.after in
    let to_read = given (as_holder to) _ asked n_read.after in
    subst IsReadMove (same_answer _ asked to_read.after) (tt, (amount_small m m_read.value m_read.was, amount_small n n_read.value n_read.was))
swap_fits [] asked is = cc
swap_fits (a ∷ []) asked is = cc
swap_fits (a ∷ b ∷ []) asked is = cc
swap_fits (a ∷ b ∷ c ∷ []) asked is = cc
swap_fits (a ∷ b ∷ c ∷ d ∷ e ∷ more) asked is = cc

skim_fits : (rest : List Data) → Reads IsReadMove (skim_row rest)
unfolding Reads
skim_fits (pool ∷ to ∷ []) asked is =
    let pool_read = given (as_pool pool) _ asked is in
    let to_read = given (as_holder to) _ asked pool_read.after in
    subst IsReadMove (same_answer _ asked to_read.after) (pool_named pool pool_read.value pool_read.was, tt)
skim_fits [] asked is = cc
skim_fits (a ∷ []) asked is = cc
skim_fits (a ∷ b ∷ c ∷ more) asked is = cc

sync_fits : (rest : List Data) → Reads IsReadMove (sync_row rest)
unfolding Reads
sync_fits (pool ∷ []) asked is =
    let pool_read = given (as_pool pool) _ asked is in
    subst IsReadMove (same_answer _ asked pool_read.after) (tt, tt)
sync_fits [] asked is = cc
sync_fits (a ∷ b ∷ more) asked is = cc

flash_fits : (read_steps : ReadSteps) → ((d : Data) (ms : Moves) → read_steps d ≡ Ok ms → AreReadMoves ms) → (rest : List Data) → Reads IsReadMove (flash_row read_steps rest)
unfolding Reads
flash_fits read_steps inside (pool ∷ m ∷ n ∷ list ∷ []) asked is =
    let pool_read = given (as_pool pool) _ asked is in
    let m_read = given (as_amount m) _ asked pool_read.after in
    let n_read = given (as_amount n) _ asked m_read.after in
    let list_read = given (read_steps list) _ asked n_read.after in
    let within = inside list list_read.value list_read.was in
    subst IsReadMove (same_answer _ asked list_read.after)
    (within.0, (amount_small m m_read.value m_read.was, (amount_small n n_read.value n_read.was, within.1)))
flash_fits read_steps inside [] asked is = cc
flash_fits read_steps inside (a ∷ []) asked is = cc
flash_fits read_steps inside (a ∷ b ∷ []) asked is = cc
flash_fits read_steps inside (a ∷ b ∷ c ∷ []) asked is = cc
flash_fits read_steps inside (a ∷ b ∷ c ∷ d ∷ e ∷ more) asked is = cc

add_fits : (rest : List Data) → Reads IsReadMove (add_row rest)
unfolding Reads
add_fits (one ∷ other ∷ m ∷ n ∷ p ∷ q ∷ to ∷ time ∷ rest) asked is =
    let one_read = given (as_token one) _ asked is in
    let other_read = given (as_token other) _ asked one_read.after in
    let m_read = given (as_amount m) _ asked other_read.after in
    let n_read = given (as_amount n) _ asked m_read.after in
    let p_read = given (as_amount p) _ asked n_read.after in
    let q_read = given (as_amount q) _ asked p_read.after in
    let to_read = given (as_holder to) _ asked q_read.after in
    let time_read = given (as_amount time) _ asked to_read.after in
    let rest_read = given (fee_behind rest) _ asked time_read.after in
    subst IsReadMove (same_answer _ asked rest_read.after) ((token_named one one_read.value one_read.was, token_named other other_read.value other_read.was), (record { fee = fee_behind_fits rest rest_read.value rest_read.was; a_desired = amount_small m m_read.value m_read.was; b_desired = amount_small n n_read.value n_read.was; a_min = amount_small p p_read.value p_read.was; b_min = amount_small q q_read.value q_read.was }, amount_small time time_read.value time_read.was))
add_fits [] asked is = cc
add_fits (a ∷ []) asked is = cc
add_fits (a ∷ b ∷ []) asked is = cc
add_fits (a ∷ b ∷ c ∷ []) asked is = cc
add_fits (a ∷ b ∷ c ∷ d ∷ []) asked is = cc
add_fits (a ∷ b ∷ c ∷ d ∷ e ∷ []) asked is = cc
add_fits (a ∷ b ∷ c ∷ d ∷ e ∷ f ∷ []) asked is = cc
add_fits (a ∷ b ∷ c ∷ d ∷ e ∷ f ∷ g ∷ []) asked is = cc

remove_fits : (rest : List Data) → Reads IsReadMove (remove_row rest)
unfolding Reads
remove_fits (one ∷ other ∷ m ∷ p ∷ q ∷ to ∷ time ∷ rest) asked is =
    let one_read = given (as_token one) _ asked is in
    let other_read = given (as_token other) _ asked one_read.after in
    let m_read = given (as_amount m) _ asked other_read.after in
    let p_read = given (as_amount p) _ asked m_read.after in
    let q_read = given (as_amount q) _ asked p_read.after in
    let to_read = given (as_holder to) _ asked q_read.after in
    let time_read = given (as_amount time) _ asked to_read.after in
    let rest_read = given (fee_behind rest) _ asked time_read.after in
    subst IsReadMove (same_answer _ asked rest_read.after) ((token_named one one_read.value one_read.was, token_named other other_read.value other_read.was), (record { fee = fee_behind_fits rest rest_read.value rest_read.was; shares = amount_small m m_read.value m_read.was; a_min = amount_small p p_read.value p_read.was; b_min = amount_small q q_read.value q_read.was }, amount_small time time_read.value time_read.was))
remove_fits [] asked is = cc
remove_fits (a ∷ []) asked is = cc
remove_fits (a ∷ b ∷ []) asked is = cc
remove_fits (a ∷ b ∷ c ∷ []) asked is = cc
remove_fits (a ∷ b ∷ c ∷ d ∷ []) asked is = cc
remove_fits (a ∷ b ∷ c ∷ d ∷ e ∷ []) asked is = cc
remove_fits (a ∷ b ∷ c ∷ d ∷ e ∷ f ∷ []) asked is = cc

swap_in_fits : (rest : List Data) → Reads IsReadMove (swap_in_row rest)
unfolding Reads
swap_in_fits (path ∷ n ∷ least ∷ to ∷ time ∷ []) asked is =
    let path_read = given (as_path path) _ asked is in
    let n_read = given (as_amount n) _ asked path_read.after in
    let least_read = given (as_amount least) _ asked n_read.after in
    let to_read = given (as_holder to) _ asked least_read.after in
    let time_read = given (as_amount time) _ asked to_read.after in
    subst IsReadMove (same_answer _ asked time_read.after) (tt, (path_fits path path_read.value path_read.was, (amount_small n n_read.value n_read.was, (amount_small least least_read.value least_read.was, amount_small time time_read.value time_read.was))))
swap_in_fits [] asked is = cc
swap_in_fits (a ∷ []) asked is = cc
swap_in_fits (a ∷ b ∷ []) asked is = cc
swap_in_fits (a ∷ b ∷ c ∷ []) asked is = cc
swap_in_fits (a ∷ b ∷ c ∷ d ∷ []) asked is = cc
swap_in_fits (a ∷ b ∷ c ∷ d ∷ e ∷ f ∷ more) asked is = cc

swap_out_fits : (rest : List Data) → Reads IsReadMove (swap_out_row rest)
unfolding Reads
swap_out_fits (path ∷ n ∷ most ∷ to ∷ time ∷ []) asked is =
    let path_read = given (as_path path) _ asked is in
    let n_read = given (as_amount n) _ asked path_read.after in
    let most_read = given (as_amount most) _ asked n_read.after in
    let to_read = given (as_holder to) _ asked most_read.after in
    let time_read = given (as_amount time) _ asked to_read.after in
    subst IsReadMove (same_answer _ asked time_read.after) (tt, (path_fits path path_read.value path_read.was, (amount_small n n_read.value n_read.was, (amount_small most most_read.value most_read.was, amount_small time time_read.value time_read.was))))
swap_out_fits [] asked is = cc
swap_out_fits (a ∷ []) asked is = cc
swap_out_fits (a ∷ b ∷ []) asked is = cc
swap_out_fits (a ∷ b ∷ c ∷ []) asked is = cc
swap_out_fits (a ∷ b ∷ c ∷ d ∷ []) asked is = cc
swap_out_fits (a ∷ b ∷ c ∷ d ∷ e ∷ f ∷ more) asked is = cc

settle_fits : (rest : List Data) → Reads IsReadMove (settle_row rest)
unfolding Reads
settle_fits (n ∷ time ∷ []) asked is =
    let n_read = given (as_amount n) _ asked is in
    let time_read = given (as_amount time) _ asked n_read.after in
    subst IsReadMove (same_answer _ asked time_read.after) (tt, (amount_small n n_read.value n_read.was, amount_small time time_read.value time_read.was))
settle_fits [] asked is = cc
settle_fits (a ∷ []) asked is = cc
settle_fits (a ∷ b ∷ c ∷ more) asked is = cc

pub move_row_fits : (read_steps : ReadSteps) → ((d : Data) (ms : Moves) → read_steps d ≡ Ok ms → AreReadMoves ms) → (kind : List ℕ) (rest : List Data) → Reads IsReadMove (move_row read_steps kind rest)
unfolding move_row
move_row_fits read_steps inside kind rest =
    chosen IsReadMove _ _ _ (transfer_fits rest) (chosen IsReadMove _ _ _ (create_fits rest) (chosen IsReadMove _ _ _ (mint_fits rest)
    (chosen IsReadMove _ _ _ (burn_fits rest) (chosen IsReadMove _ _ _ (swap_fits rest) (chosen IsReadMove _ _ _ (skim_fits rest)
    (chosen IsReadMove _ _ _ (sync_fits rest) (chosen IsReadMove _ _ _ (flash_fits read_steps inside rest) (chosen IsReadMove _ _ _ (add_fits rest)
    (chosen IsReadMove _ _ _ (remove_fits rest) (chosen IsReadMove _ _ _ (swap_in_fits rest) (chosen IsReadMove _ _ _ (swap_out_fits rest)
    (chosen IsReadMove _ _ _ (settle_fits rest) (refused IsReadMove BadCommand)))))))))))))

-- ---- steps within steps

each_fits : (read_one : Data → Result Move Refusal) → ((d : Data) (m : Move) → read_one d ≡ Ok m → IsReadMove m) → (ds : List Data) (ms : List Move) → each read_one ds ≡ Ok ms → AreReadMoves (moves_of ms)
unfolding each
each_fits read_one one [] ms is = subst (λ (k : List Move). AreReadMoves (moves_of k)) (same_answer [] ms is) (tt, tt)
each_fits read_one one (d ∷ ds) ms is =
    let first = given (read_one d) _ ms is in
    let rest = given (each read_one ds) _ ms first.after in
    let here = one d first.value first.was in
    let later = each_fits read_one one ds rest.value rest.was in
    subst (λ (k : List Move). AreReadMoves (moves_of k)) (same_answer (first.value ∷ rest.value) ms rest.after) ((here.0, later.0), (here.1, later.1))

step_row_fits : (read_steps : ReadSteps) → ((d : Data) (ms : Moves) → read_steps d ≡ Ok ms → AreReadMoves ms) → (actor : List ℕ) (ds : List Data) → Reads IsReadMove (step_row read_steps actor ds)
unfolding Reads
step_row_fits read_steps inside actor (kind ∷ who ∷ rest) asked is =
    let word = given (as_text kind) _ asked is in
    let name = given (as_text who) _ asked word.after in
    chosen IsReadMove _ _ _ (move_row_fits read_steps inside word.value rest) (refused IsReadMove BadCommand) asked name.after
step_row_fits read_steps inside actor [] asked is = cc
step_row_fits read_steps inside actor (a ∷ []) asked is = cc

step_fits : (read_steps : ReadSteps) → ((d : Data) (ms : Moves) → read_steps d ≡ Ok ms → AreReadMoves ms) → (actor : List ℕ) (d : Data) (m : Move) → as_step read_steps actor d ≡ Ok m → IsReadMove m
unfolding as_step Reads
step_fits read_steps inside actor d m is =
    let ds = given (as_list d) _ m is in
    step_row_fits read_steps inside actor ds.value m ds.after

pub steps_fit : (loans : ℕ) (actor : List ℕ) (d : Data) (ms : Moves) → as_steps loans actor d ≡ Ok ms → AreReadMoves ms
unfolding as_steps
steps_fit zero actor d ms is = cc
steps_fit (suc loans) actor d ms is =
    let ds = given (as_list d) _ ms is in
    let moves = given (each (as_step (as_steps loans actor) actor) ds.value) _ ms ds.after in
    subst AreReadMoves (same_answer (moves_of moves.value) ms moves.after)
    (each_fits (as_step (as_steps loans actor) actor) (λ e m. step_fits (as_steps loans actor) (λ f ks. steps_fit loans actor f ks) actor e m) ds.value moves.value moves.was)
