-- Which command the bytes of a line are: the rows of the table of commands.
use Rattle.std.specs.Prelude.{ℕ, zero, suc, ◌+◌, List, [], ◌∷◌, nat_le, if◌then◌else◌, codes, Result, Ok, Err, ok_or}
use Rattle.std.specs.Str.{bytes_eq}
use Rattle.serde_json.specs.Data.{Data}
use Rattle.amm_model.specs.declared.fault.Refusal.{Refusal}
use Rattle.amm_model.specs.declared.fault.Refusal.TheVariants.{BadJson, BadCommand}
use Rattle.amm_model.specs.Outcome.{◌>>=◌}
use Rattle.amm_model.specs.Json.{json_value, each}
use Rattle.amm_model.specs.Forms.{value_if, as_text, as_list, as_user, as_token, as_pool, as_asset, as_holder, as_amount, as_parts, as_path, fee_behind}
use Rattle.amm_model.specs.CommandView as command
use Rattle.amm_model.specs.CommandView.{CommandView, Move, Moves, no_moves, move, moves_of}
use Rattle.amm_model.specs.declared.limits.TheConstants.{LOAN_LIMIT, STEP_LIMIT}

-- ---- what only a line can be: the elements behind the kind

abbrev pub deposit_row : List Data → Result CommandView Refusal
deposit_row (user ∷ token ∷ n ∷ []) = do
  u ← as_user user
  t ← as_token token
  amount ← as_amount n
  Ok (command.deposit u t amount)
deposit_row _ = Err BadCommand

abbrev pub withdraw_row : List Data → Result CommandView Refusal
withdraw_row (user ∷ token ∷ n ∷ []) = do
  u ← as_user user
  t ← as_token token
  amount ← as_amount n
  Ok (command.withdraw u t amount)
withdraw_row _ = Err BadCommand

abbrev pub time_row : List Data → Result CommandView Refusal
time_row (n ∷ []) = do
  time ← as_amount n
  Ok (command.time time)
time_row _ = Err BadCommand

abbrev pub fee_to_row : List Data → Result CommandView Refusal
fee_to_row (user ∷ to ∷ []) = do
  actor ← as_user user
  holder ← as_holder to
  Ok (command.fee_to actor holder)
fee_to_row _ = Err BadCommand

abbrev pub setter_row : List Data → Result CommandView Refusal
setter_row (user ∷ to ∷ []) = do
  actor ← as_user user
  next ← as_user to
  Ok (command.setter actor next)
setter_row _ = Err BadCommand

abbrev pub quote_out_row : List Data → Result CommandView Refusal
quote_out_row (path ∷ n ∷ []) = do
  p ← as_path path
  amount ← as_amount n
  Ok (command.quote_out p amount)
quote_out_row _ = Err BadCommand

abbrev pub quote_in_row : List Data → Result CommandView Refusal
quote_in_row (path ∷ n ∷ []) = do
  p ← as_path path
  amount ← as_amount n
  Ok (command.quote_in p amount)
quote_in_row _ = Err BadCommand

abbrev pub split_row : List Data → Result CommandView Refusal
split_row (from ∷ to ∷ n ∷ []) = do
  s ← as_token from
  t ← as_token to
  d ← as_amount n
  Ok (command.split s t d)
split_row _ = Err BadCommand

abbrev pub certificate_row : List Data → Result CommandView Refusal
certificate_row (n ∷ []) = do
  quote ← as_amount n
  Ok (command.certificate quote)
certificate_row _ = Err BadCommand

abbrev pub pool_row : List Data → Result CommandView Refusal
pool_row (pool ∷ []) = do
  name ← as_pool pool
  Ok (command.pool name)
pool_row _ = Err BadCommand

abbrev pub balance_row : List Data → Result CommandView Refusal
balance_row (asset ∷ holder ∷ []) = do
  a ← as_asset asset
  h ← as_holder holder
  Ok (command.balance a h)
balance_row _ = Err BadCommand

abbrev pub total_row : List Data → Result CommandView Refusal
total_row (asset ∷ []) = do
  a ← as_asset asset
  Ok (command.total a)
total_row _ = Err BadCommand

abbrev pub observe_row : List Data → Result CommandView Refusal
observe_row (user ∷ pool ∷ []) = do
  actor ← as_user user
  name ← as_pool pool
  Ok (command.observe actor name)
observe_row _ = Err BadCommand

abbrev pub average_row : List Data → Result CommandView Refusal
average_row (i ∷ j ∷ []) = do
  first ← as_amount i
  second ← as_amount j
  Ok (command.average first second)
average_row _ = Err BadCommand

abbrev pub consult_row : List Data → Result CommandView Refusal
consult_row (i ∷ j ∷ token ∷ n ∷ []) = do
  first ← as_amount i
  second ← as_amount j
  name ← as_token token
  amount ← as_amount n
  Ok (command.consult first second name amount)
consult_row _ = Err BadCommand

abbrev pub window_row : List Data → Result CommandView Refusal
window_row (pool ∷ n ∷ []) = do
  name ← as_pool pool
  seconds ← as_amount n
  Ok (command.window name seconds)
window_row _ = Err BadCommand

abbrev pub basket_row : List Data → Result CommandView Refusal
basket_row (user ∷ list ∷ to ∷ least ∷ time ∷ []) = do
  actor ← as_user user
  parts ← as_parts list
  t ← as_token to
  min ← as_amount least
  deadline ← as_amount time
  Ok (command.basket actor parts t min deadline)
basket_row _ = Err BadCommand

abbrev pub cycle_row : List Data → Result CommandView Refusal
cycle_row (user ∷ token ∷ time ∷ []) = do
  actor ← as_user user
  t ← as_token token
  deadline ← as_amount time
  Ok (command.cycle actor t deadline)
cycle_row _ = Err BadCommand

-- ---- what a step can be too: the elements behind the kind and the actor

abbrev pub transfer_row : List Data → Result Move Refusal
transfer_row (asset ∷ to ∷ n ∷ []) = do
  a ← as_asset asset
  holder ← as_holder to
  amount ← as_amount n
  Ok (command.transfer a holder amount)
transfer_row _ = Err BadCommand

abbrev pub create_row : List Data → Result Move Refusal
create_row (one ∷ other ∷ rest) = do
  a ← as_token one
  b ← as_token other
  fee ← fee_behind rest
  Ok (command.create a b fee)
create_row _ = Err BadCommand

abbrev pub mint_row : List Data → Result Move Refusal
mint_row (pool ∷ to ∷ []) = do
  name ← as_pool pool
  holder ← as_holder to
  Ok (command.mint name holder)
mint_row _ = Err BadCommand

abbrev pub burn_row : List Data → Result Move Refusal
burn_row (pool ∷ to ∷ []) = do
  name ← as_pool pool
  holder ← as_holder to
  Ok (command.burn name holder)
burn_row _ = Err BadCommand

abbrev pub swap_row : List Data → Result Move Refusal
swap_row (pool ∷ m ∷ n ∷ to ∷ []) = do
  name ← as_pool pool
  out0 ← as_amount m
  out1 ← as_amount n
  holder ← as_holder to
  Ok (command.swap name out0 out1 holder)
swap_row _ = Err BadCommand

abbrev pub skim_row : List Data → Result Move Refusal
skim_row (pool ∷ to ∷ []) = do
  name ← as_pool pool
  holder ← as_holder to
  Ok (command.skim name holder)
skim_row _ = Err BadCommand

abbrev pub sync_row : List Data → Result Move Refusal
sync_row (pool ∷ []) = do
  name ← as_pool pool
  Ok (command.sync name)
sync_row _ = Err BadCommand

-- how the steps of a loan are read
abbrev pub ReadSteps : Type 0
ReadSteps = Data → Result Moves Refusal

abbrev pub flash_row : ReadSteps → List Data → Result Move Refusal
flash_row read_steps (pool ∷ m ∷ n ∷ list ∷ []) = do
  name ← as_pool pool
  out0 ← as_amount m
  out1 ← as_amount n
  steps ← read_steps list
  Ok (command.flash name out0 out1 steps)
flash_row read_steps _ = Err BadCommand

abbrev pub add_row : List Data → Result Move Refusal
add_row (one ∷ other ∷ m ∷ n ∷ p ∷ q ∷ to ∷ time ∷ rest) = do
  a ← as_token one
  b ← as_token other
  a_desired ← as_amount m
  b_desired ← as_amount n
  a_min ← as_amount p
  b_min ← as_amount q
  holder ← as_holder to
  deadline ← as_amount time
  fee ← fee_behind rest
  Ok (command.add (record { a = a; b = b; fee = fee; a_desired = a_desired; b_desired = b_desired; a_min = a_min; b_min = b_min }) holder deadline)
add_row _ = Err BadCommand

abbrev pub remove_row : List Data → Result Move Refusal
remove_row (one ∷ other ∷ m ∷ p ∷ q ∷ to ∷ time ∷ rest) = do
  a ← as_token one
  b ← as_token other
  shares ← as_amount m
  a_min ← as_amount p
  b_min ← as_amount q
  holder ← as_holder to
  deadline ← as_amount time
  fee ← fee_behind rest
  Ok (command.remove (record { a = a; b = b; fee = fee; shares = shares; a_min = a_min; b_min = b_min }) holder deadline)
remove_row _ = Err BadCommand

abbrev pub swap_in_row : List Data → Result Move Refusal
swap_in_row (path ∷ n ∷ least ∷ to ∷ time ∷ []) = do
  p ← as_path path
  x ← as_amount n
  min ← as_amount least
  holder ← as_holder to
  deadline ← as_amount time
  Ok (command.swap_in p x min holder deadline)
swap_in_row _ = Err BadCommand

abbrev pub swap_out_row : List Data → Result Move Refusal
swap_out_row (path ∷ n ∷ most ∷ to ∷ time ∷ []) = do
  p ← as_path path
  y ← as_amount n
  max ← as_amount most
  holder ← as_holder to
  deadline ← as_amount time
  Ok (command.swap_out p y max holder deadline)
swap_out_row _ = Err BadCommand

abbrev pub settle_row : List Data → Result Move Refusal
settle_row (n ∷ time ∷ []) = do
  quote ← as_amount n
  deadline ← as_amount time
  Ok (command.settle quote deadline)
settle_row _ = Err BadCommand

-- the row of a kind that can be a step
unfoldable pub move_row : ReadSteps → List ℕ → List Data → Result Move Refusal
move_row read_steps kind rest =
    if bytes_eq kind (codes "transfer") then transfer_row rest
    else (if bytes_eq kind (codes "create") then create_row rest
    else (if bytes_eq kind (codes "mint") then mint_row rest
    else (if bytes_eq kind (codes "burn") then burn_row rest
    else (if bytes_eq kind (codes "swap") then swap_row rest
    else (if bytes_eq kind (codes "skim") then skim_row rest
    else (if bytes_eq kind (codes "sync") then sync_row rest
    else (if bytes_eq kind (codes "flash") then flash_row read_steps rest
    else (if bytes_eq kind (codes "add") then add_row rest
    else (if bytes_eq kind (codes "remove") then remove_row rest
    else (if bytes_eq kind (codes "swapin") then swap_in_row rest
    else (if bytes_eq kind (codes "swapout") then swap_out_row rest
    else (if bytes_eq kind (codes "settle") then settle_row rest
    else Err BadCommand))))))))))))

-- ---- the steps of loans in loans

-- a step: a kind, the actor of the command around it, and what the row of the kind wants
abbrev pub step_row : ReadSteps → List ℕ → List Data → Result Move Refusal
step_row read_steps actor (kind ∷ who ∷ rest) = do
  word ← as_text kind
  name ← as_text who
  if bytes_eq name actor then move_row read_steps word rest else Err BadCommand
step_row read_steps actor _ = Err BadCommand

unfoldable pub as_step : ReadSteps → List ℕ → Data → Result Move Refusal
as_step read_steps actor d = do
  ds ← as_list d
  step_row read_steps actor ds

-- an array of steps, where so many loans may be open, this one among them
unfoldable pub as_steps : ℕ → List ℕ → ReadSteps
as_steps zero actor d = Err BadCommand
as_steps (suc loans) actor d = do
  ds ← as_list d
  moves ← each (as_step (as_steps loans actor) actor) ds
  Ok (moves_of moves)

abbrev mutual
  -- how many steps a list has, with those inside its loans
  pub step_count : Moves → ℕ
  step_count no_moves = 0
  step_count (move m ms) = suc (steps_inside m) + step_count ms

  -- how many steps there are inside a step, at all levels
  pub steps_inside : Move → ℕ
  steps_inside (command.flash pool out0 out1 steps) = step_count steps
  steps_inside _ = 0

-- ---- lines

-- a command that a step can be too: its actor, and what the row of the kind wants
abbrev pub act_row : List ℕ → List Data → Result CommandView Refusal
act_row kind (user ∷ rest) = do
  actor ← as_user user
  m ← move_row (as_steps LOAN_LIMIT actor) kind rest
  value_if (nat_le (steps_inside m) STEP_LIMIT) (command.act actor m)
act_row kind [] = Err BadCommand

-- the row of a kind of routes or of the price oracle, or of one that a step can be too
unfoldable pub market_row : List ℕ → List Data → Result CommandView Refusal
market_row kind rest =
    if bytes_eq kind (codes "split") then split_row rest
    else (if bytes_eq kind (codes "certificate") then certificate_row rest
    else (if bytes_eq kind (codes "basket") then basket_row rest
    else (if bytes_eq kind (codes "cycle") then cycle_row rest
    else (if bytes_eq kind (codes "observe") then observe_row rest
    else (if bytes_eq kind (codes "average") then average_row rest
    else (if bytes_eq kind (codes "consult") then consult_row rest
    else (if bytes_eq kind (codes "window") then window_row rest
    else act_row kind rest)))))))

-- the row of a kind
unfoldable pub row_of : List ℕ → List Data → Result CommandView Refusal
row_of kind rest =
    if bytes_eq kind (codes "deposit") then deposit_row rest
    else (if bytes_eq kind (codes "withdraw") then withdraw_row rest
    else (if bytes_eq kind (codes "time") then time_row rest
    else (if bytes_eq kind (codes "feeto") then fee_to_row rest
    else (if bytes_eq kind (codes "setter") then setter_row rest
    else (if bytes_eq kind (codes "quoteout") then quote_out_row rest
    else (if bytes_eq kind (codes "quotein") then quote_in_row rest
    else (if bytes_eq kind (codes "pool") then pool_row rest
    else (if bytes_eq kind (codes "balance") then balance_row rest
    else (if bytes_eq kind (codes "total") then total_row rest
    else market_row kind rest)))))))))

-- a kind, and what its row wants
abbrev pub command_of_list : List Data → Result CommandView Refusal
command_of_list (kind ∷ rest) = do
  word ← as_text kind
  row_of word rest
command_of_list [] = Err BadCommand

-- the command that a value is
unfoldable pub command_of : Data → Result CommandView Refusal
command_of d = do
  ds ← as_list d
  command_of_list ds

-- the command that the bytes of a line are
unfoldable pub command_of_line : List ℕ → Result CommandView Refusal
command_of_line bytes = do
  d ← ok_or (json_value bytes) BadJson
  command_of d
