-- Commands and steps whose numbers, fees and lengths are within their limits, at every level; and
-- those of them that were read, whose names are names too.
use Rattle.std.specs.Prelude.{◌≡◌, ℕ, ⊤, suc, ◌≤◌, List, length, IsTrue, AllPairs}
use Rattle.std.specs.List.{All}
use Rattle.amm_names.specs.Names.{is_token_name}
use Rattle.amm_names.specs.Pools.{is_before, is_pool_name}
use Rattle.amm_model.specs.declared.problem.Part.{Part}
use Rattle.amm_model.specs.declared.route_path.RoutePath.{RoutePath}
use Rattle.amm_model.specs.declared.command.AddWant.{AddWant}
use Rattle.amm_model.specs.declared.command.RemoveWant.{RemoveWant}
use Rattle.amm_model.specs.declared.limits.TheConstants.{AMOUNT_LIMIT, PART_LIMIT, PATH_LEAST, PATH_LIMIT}
use Rattle.amm_model.specs.Swap.{IsFee}
use Rattle.amm_model.specs.CommandView as view
use Rattle.amm_model.specs.CommandView.{CommandView, Move, Moves}

-- an amount, a time, a deadline or a number: at most 2^52-1
abbrev pub IsAmount : ℕ → Type 0
IsAmount n = n ≤ AMOUNT_LIMIT

-- two to eight tokens, and one fee fewer
pub record IsPath (path : RoutePath) : Type 0 where
  pub fees : All IsFee path.fees
  pub between : suc (length path.fees) ≡ length path.tokens
  pub least : PATH_LEAST ≤ length path.tokens
  pub most : length path.tokens ≤ PATH_LIMIT

pub record FitsAdd (want : AddWant) : Type 0 where
  pub fee : IsFee want.fee
  pub a_desired : IsAmount want.a_desired
  pub b_desired : IsAmount want.b_desired
  pub a_min : IsAmount want.a_min
  pub b_min : IsAmount want.b_min

pub record FitsRemove (want : RemoveWant) : Type 0 where
  pub fee : IsFee want.fee
  pub shares : IsAmount want.shares
  pub a_min : IsAmount want.a_min
  pub b_min : IsAmount want.b_min

-- 1 to 8 parts, in the strict order of their tokens
pub record FitParts (parts : List Part) : Type 0 where
  pub least : 1 ≤ length parts
  pub most : length parts ≤ PART_LIMIT
  pub rising : AllPairs (λ (a b : Part). IsTrue (is_before a.token b.token)) parts
  pub amounts : All (λ (part : Part). IsAmount part.amount) parts

abbrev mutual
  -- a step fits
  pub FitsMove : Move → Type 0
  FitsMove (view.transfer asset to n) = IsAmount n
  FitsMove (view.create a b fee) = IsFee fee
  FitsMove (view.mint pool to) = ⊤
  FitsMove (view.burn pool to) = ⊤
  FitsMove (view.swap pool out0 out1 to) = IsAmount out0 × IsAmount out1
  FitsMove (view.skim pool to) = ⊤
  FitsMove (view.sync pool) = ⊤
  FitsMove (view.flash pool out0 out1 steps) = IsAmount out0 × (IsAmount out1 × FitMoves steps)
  FitsMove (view.add want to deadline) = FitsAdd want × IsAmount deadline
  FitsMove (view.remove want to deadline) = FitsRemove want × IsAmount deadline
  FitsMove (view.swap_in path x min to deadline) = IsPath path × (IsAmount x × (IsAmount min × IsAmount deadline))
  FitsMove (view.swap_out path y max to deadline) = IsPath path × (IsAmount y × (IsAmount max × IsAmount deadline))
  FitsMove (view.settle quote deadline) = IsAmount quote × IsAmount deadline

  -- each step of a list fits
  pub FitMoves : Moves → Type 0
  FitMoves view.no_moves = ⊤
  FitMoves (view.move m ms) = FitsMove m × FitMoves ms

abbrev mutual
  -- the names in a step that its pool is found by are names
  pub HasNames : Move → Type 0
  HasNames (view.transfer asset to n) = ⊤
  HasNames (view.create a b fee) = IsTrue (is_token_name a) × IsTrue (is_token_name b)
  HasNames (view.mint pool to) = ⊤
  HasNames (view.burn pool to) = IsTrue (is_pool_name pool)
  HasNames (view.swap pool out0 out1 to) = ⊤
  HasNames (view.skim pool to) = IsTrue (is_pool_name pool)
  HasNames (view.sync pool) = ⊤
  HasNames (view.flash pool out0 out1 steps) = HaveNames steps
  HasNames (view.add want to deadline) = IsTrue (is_token_name want.a) × IsTrue (is_token_name want.b)
  HasNames (view.remove want to deadline) = IsTrue (is_token_name want.a) × IsTrue (is_token_name want.b)
  HasNames (view.swap_in path x min to deadline) = ⊤
  HasNames (view.swap_out path y max to deadline) = ⊤
  HasNames (view.settle quote deadline) = ⊤

  -- so are those of each step of a list
  pub HaveNames : Moves → Type 0
  HaveNames view.no_moves = ⊤
  HaveNames (view.move m ms) = HasNames m × HaveNames ms

-- what is known of a command that was read
abbrev pub Fits : CommandView → Type 0
Fits (view.deposit user token n) = IsAmount n
Fits (view.withdraw user token n) = IsAmount n
Fits (view.time n) = IsAmount n
Fits (view.fee_to actor to) = ⊤
Fits (view.setter actor to) = ⊤
Fits (view.quote_out path n) = IsPath path × IsAmount n
Fits (view.quote_in path n) = IsPath path × IsAmount n
Fits (view.split from to n) = IsAmount n
Fits (view.certificate quote) = IsAmount quote
Fits (view.pool pool) = ⊤
Fits (view.balance asset holder) = ⊤
Fits (view.total asset) = ⊤
Fits (view.observe actor pool) = ⊤
Fits (view.average first second) = IsAmount first × IsAmount second
Fits (view.consult first second token n) = IsAmount first × (IsAmount second × IsAmount n)
Fits (view.window pool seconds) = IsAmount seconds
Fits (view.basket actor parts t min deadline) = FitParts parts × (IsAmount min × IsAmount deadline)
Fits (view.cycle actor t deadline) = IsAmount deadline
Fits (view.act actor m) = HasNames m × FitsMove m
