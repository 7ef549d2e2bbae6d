-- The row that a command is written as: its word, and the values behind it.
use Rattle.std.specs.Prelude.{ℕ, List, [], ◌∷◌, ◌++◌, map, codes, ◌==◌, if◌then◌else◌}
use Rattle.serde_json.specs.Data.{Data, string}
use Rattle.amm_names.specs.declared.holder.Asset.{Asset}
use Rattle.amm_names.specs.declared.holder.Asset.TheVariants as assets
use Rattle.amm_names.specs.declared.holder.Holder.{Holder}
use Rattle.amm_names.specs.declared.holder.Holder.TheVariants as holders
use Rattle.amm_model.specs.declared.problem.Part.{Part}
use Rattle.amm_model.specs.declared.route_path.RoutePath.{RoutePath}
use Rattle.amm_model.specs.Json.{list, whole}
use Rattle.amm_model.specs.CommandView as command
use Rattle.amm_model.specs.CommandView.{CommandView, Move, Moves, no_moves, move}

-- a holder
abbrev pub holder_text : Holder → List ℕ
holder_text (holders.User name) = name
holder_text (holders.Pool name) = name
holder_text (holders.Token name) = name
holder_text holders.Zero = codes "0"

-- an asset: the shares of a pool are written as the pool
abbrev pub asset_text : Asset → List ℕ
asset_text (assets.Token name) = name
asset_text (assets.Share name) = name

-- a token behind another, with the fee before it that is not 3
abbrev pub hop_value : ℕ → List ℕ → List Data
hop_value fee name = if fee == 3 then string name ∷ [] else whole fee ∷ string name ∷ []

-- the tokens behind the first, with the fees before them
abbrev pub hop_values : List (List ℕ) → List ℕ → List Data
hop_values [] fees = []
hop_values (name ∷ ts) [] = []
hop_values (name ∷ ts) (fee ∷ fees) = hop_value fee name ++ hop_values ts fees

-- the tokens of a path, and the fees that are not 3 between them
abbrev pub tokens_behind : List (List ℕ) → List ℕ → List Data
tokens_behind [] fees = []
tokens_behind (first ∷ ts) fees = string first ∷ hop_values ts fees

-- a path
abbrev pub path_value : RoutePath → Data
path_value path = list (tokens_behind path.tokens path.fees)

-- a part of a basket: a token, and an amount of it
abbrev pub part_value : Part → Data
part_value part = list (string part.token ∷ whole part.amount ∷ [])

-- the parts of a basket
abbrev pub parts_value : List Part → Data
parts_value parts = list (map part_value parts)

-- the fee behind the values of a pair: nothing for the fee of 3
abbrev pub fee_values : ℕ → List Data
fee_values fee = if fee == 3 then [] else whole fee ∷ []

-- the word of a step
abbrev pub move_kind : Move → List ℕ
move_kind (command.transfer asset to n) = codes "transfer"
move_kind (command.create a b fee) = codes "create"
move_kind (command.mint pool to) = codes "mint"
move_kind (command.burn pool to) = codes "burn"
move_kind (command.swap pool m n to) = codes "swap"
move_kind (command.skim pool to) = codes "skim"
move_kind (command.sync pool) = codes "sync"
move_kind (command.flash pool m n steps) = codes "flash"
move_kind (command.add want to deadline) = codes "add"
move_kind (command.remove want to deadline) = codes "remove"
move_kind (command.swap_in path x min to deadline) = codes "swapin"
move_kind (command.swap_out path y max to deadline) = codes "swapout"
move_kind (command.settle quote deadline) = codes "settle"

-- what stands behind the actor of a step
abbrev mutual
  pub move_values : List ℕ → Move → List Data
  move_values actor (command.transfer asset to n) = string (asset_text asset) ∷ string (holder_text to) ∷ whole n ∷ []
  move_values actor (command.create a b fee) = string a ∷ string b ∷ fee_values fee
  move_values actor (command.mint pool to) = string pool ∷ string (holder_text to) ∷ []
  move_values actor (command.burn pool to) = string pool ∷ string (holder_text to) ∷ []
  move_values actor (command.swap pool m n to) = string pool ∷ whole m ∷ whole n ∷ string (holder_text to) ∷ []
  move_values actor (command.skim pool to) = string pool ∷ string (holder_text to) ∷ []
  move_values actor (command.sync pool) = string pool ∷ []
  move_values actor (command.flash pool m n steps) = string pool ∷ whole m ∷ whole n ∷ list (steps_values actor steps) ∷ []
  move_values actor (command.add want to deadline) =
      string want.a ∷ string want.b ∷ whole want.a_desired ∷ whole want.b_desired ∷ whole want.a_min ∷ whole want.b_min ∷ string (holder_text to) ∷ whole deadline ∷ fee_values want.fee
  move_values actor (command.remove want to deadline) =
      string want.a ∷ string want.b ∷ whole want.shares ∷ whole want.a_min ∷ whole want.b_min ∷ string (holder_text to) ∷ whole deadline ∷ fee_values want.fee
  move_values actor (command.swap_in path x min to deadline) = path_value path ∷ whole x ∷ whole min ∷ string (holder_text to) ∷ whole deadline ∷ []
  move_values actor (command.swap_out path y max to deadline) = path_value path ∷ whole y ∷ whole max ∷ string (holder_text to) ∷ whole deadline ∷ []
  move_values actor (command.settle quote deadline) = whole quote ∷ whole deadline ∷ []

  -- the steps of a loan, each as an array
  pub steps_values : List ℕ → Moves → List Data
  steps_values actor no_moves = []
  steps_values actor (move m ms) = list (string (move_kind m) ∷ string actor ∷ move_values actor m) ∷ steps_values actor ms

-- the word of a command
abbrev pub command_kind : CommandView → List ℕ
command_kind (command.deposit user token n) = codes "deposit"
command_kind (command.withdraw user token n) = codes "withdraw"
command_kind (command.time n) = codes "time"
command_kind (command.fee_to actor to) = codes "feeto"
command_kind (command.setter actor to) = codes "setter"
command_kind (command.quote_out path n) = codes "quoteout"
command_kind (command.quote_in path n) = codes "quotein"
command_kind (command.split s t d) = codes "split"
command_kind (command.certificate quote) = codes "certificate"
command_kind (command.pool pool) = codes "pool"
command_kind (command.balance asset holder) = codes "balance"
command_kind (command.total asset) = codes "total"
command_kind (command.observe actor pool) = codes "observe"
command_kind (command.average first second) = codes "average"
command_kind (command.consult first second token n) = codes "consult"
command_kind (command.window pool seconds) = codes "window"
command_kind (command.basket actor parts t min deadline) = codes "basket"
command_kind (command.cycle actor t deadline) = codes "cycle"
command_kind (command.act actor m) = move_kind m

-- what stands behind the word
abbrev pub command_values : CommandView → List Data
command_values (command.deposit user token n) = string user ∷ string token ∷ whole n ∷ []
command_values (command.withdraw user token n) = string user ∷ string token ∷ whole n ∷ []
command_values (command.time n) = whole n ∷ []
command_values (command.fee_to actor to) = string actor ∷ string (holder_text to) ∷ []
command_values (command.setter actor to) = string actor ∷ string to ∷ []
command_values (command.quote_out path n) = path_value path ∷ whole n ∷ []
command_values (command.quote_in path n) = path_value path ∷ whole n ∷ []
command_values (command.split s t d) = string s ∷ string t ∷ whole d ∷ []
command_values (command.certificate quote) = whole quote ∷ []
command_values (command.pool pool) = string pool ∷ []
command_values (command.balance asset holder) = string (asset_text asset) ∷ string (holder_text holder) ∷ []
command_values (command.total asset) = string (asset_text asset) ∷ []
command_values (command.observe actor pool) = string actor ∷ string pool ∷ []
command_values (command.average first second) = whole first ∷ whole second ∷ []
command_values (command.consult first second token n) = whole first ∷ whole second ∷ string token ∷ whole n ∷ []
command_values (command.window pool seconds) = string pool ∷ whole seconds ∷ []
command_values (command.basket actor parts t min deadline) = string actor ∷ parts_value parts ∷ string t ∷ whole min ∷ whole deadline ∷ []
command_values (command.cycle actor t deadline) = string actor ∷ string t ∷ whole deadline ∷ []
command_values (command.act actor m) = string actor ∷ move_values actor m

-- a command as the value that it is written as
abbrev pub row_value : CommandView → Data
row_value c = list (string (command_kind c) ∷ command_values c)

-- a step of a loan as the value that it is written as
abbrev pub step_value : List ℕ → Move → Data
step_value actor m = list (string (move_kind m) ∷ string actor ∷ move_values actor m)
