-- Commands and steps as plain trees: what a line asks for, apart from where its parts lie in
-- memory.
use Rattle.std.specs.Prelude.{ℕ, List, [], ◌∷◌, map}
use Rattle.amm_names.specs.Names.{Name}
use Rattle.amm_names.specs.declared.holder.Asset.{Asset}
use Rattle.amm_names.specs.declared.holder.Holder.{Holder}
use Rattle.amm_model.specs.declared.problem.Part.{Part}
use Rattle.amm_model.specs.declared.route_path.RoutePath.{RoutePath}
use Rattle.amm_model.specs.declared.command.AddWant.{AddWant}
use Rattle.amm_model.specs.declared.command.RemoveWant.{RemoveWant}
use Rattle.amm_model.specs.declared.command.Step.{Step}
use Rattle.amm_model.specs.declared.command.Step.TheOpen.{Step-F}
use Rattle.amm_model.specs.declared.command.Step.TheFolds.{fold-Step}
use Rattle.amm_model.specs.declared.command.Command.{Command}
use Rattle.amm_model.specs.declared.command.Command.TheVariants as commands

mutual
  -- a step; names are the lists of their bytes
  pub data Move : Type 0 where
    transfer : Asset → Holder → ℕ → Move
    create : Name → Name → ℕ → Move
    mint : Name → Holder → Move
    burn : Name → Holder → Move
    swap : Name → ℕ → ℕ → Holder → Move
    skim : Name → Holder → Move
    sync : Name → Move
    flash : Name → ℕ → ℕ → Moves → Move
    add : AddWant → Holder → ℕ → Move
    remove : RemoveWant → Holder → ℕ → Move
    swap_in : RoutePath → ℕ → ℕ → Holder → ℕ → Move
    swap_out : RoutePath → ℕ → ℕ → Holder → ℕ → Move
    settle : ℕ → ℕ → Move

  -- the steps of a loan, in order
  pub data Moves : Type 0 where
    no_moves : Moves
    move : Move → Moves → Moves

-- a command
pub data CommandView : Type 0 where
  deposit : Name → Name → ℕ → CommandView
  withdraw : Name → Name → ℕ → CommandView
  time : ℕ → CommandView
  fee_to : Name → Holder → CommandView
  setter : Name → Name → CommandView
  quote_out : RoutePath → ℕ → CommandView
  quote_in : RoutePath → ℕ → CommandView
  split : Name → Name → ℕ → CommandView
  certificate : ℕ → CommandView
  pool : Name → CommandView
  balance : Asset → Holder → CommandView
  total : Asset → CommandView
  observe : Name → Name → CommandView
  average : ℕ → ℕ → CommandView
  consult : ℕ → ℕ → Name → ℕ → CommandView
  window : Name → ℕ → CommandView
  basket : Name → List Part → Name → ℕ → ℕ → CommandView
  cycle : Name → Name → ℕ → CommandView
  act : Name → Move → CommandView

abbrev pub moves_of : List Move → Moves
moves_of [] = no_moves
moves_of (m ∷ ms) = move m (moves_of ms)

-- one step, with each step inside already seen as its move
abbrev pub move_of_layer : Step-F Move → Move
move_of_layer (Step-F.Transfer asset to n) = transfer asset to n
move_of_layer (Step-F.Create a b fee) = create a b fee
move_of_layer (Step-F.Mint p to) = mint p to
move_of_layer (Step-F.Burn p to) = burn p to
move_of_layer (Step-F.Swap p out0 out1 to) = swap p out0 out1 to
move_of_layer (Step-F.Skim p to) = skim p to
move_of_layer (Step-F.Sync p) = sync p
move_of_layer (Step-F.Flash p out0 out1 steps) = flash p out0 out1 (moves_of steps.items)
move_of_layer (Step-F.Add want to deadline) = add want to deadline
move_of_layer (Step-F.Remove want to deadline) = remove want to deadline
move_of_layer (Step-F.SwapIn path x min to deadline) = swap_in path x min to deadline
move_of_layer (Step-F.SwapOut path y max to deadline) = swap_out path y max to deadline
move_of_layer (Step-F.Settle quote deadline) = settle quote deadline

-- the move that a step is
abbrev pub move_of_step : Step → Move
move_of_step = fold-Step Move move_of_layer

abbrev pub moves_of_steps : List Step → Moves
moves_of_steps steps = moves_of (map move_of_step steps)

-- the tree that a command is
abbrev pub view_of : Command → CommandView
view_of (commands.Deposit user token n) = deposit user token n
view_of (commands.Withdraw user token n) = withdraw user token n
view_of (commands.Time n) = time n
view_of (commands.FeeTo actor to) = fee_to actor to
view_of (commands.Setter actor to) = setter actor to
view_of (commands.QuoteOut path n) = quote_out path n
view_of (commands.QuoteIn path n) = quote_in path n
view_of (commands.Split s t d) = split s t d
view_of (commands.Certificate quote) = certificate quote
view_of (commands.Pool name) = pool name
view_of (commands.Balance asset holder) = balance asset holder
view_of (commands.Total asset) = total asset
view_of (commands.Observe actor name) = observe actor name
view_of (commands.Average first second) = average first second
view_of (commands.Consult first second token n) = consult first second token n
view_of (commands.Window name seconds) = window name seconds
view_of (commands.Basket actor parts t min deadline) = basket actor parts t min deadline
view_of (commands.Cycle actor t deadline) = cycle actor t deadline
view_of (commands.Act actor step) = act actor (move_of_step step)
