-- Commands that have a row: names are names at every level, numbers are within their limits, and
-- loans nest no deeper than those of a line may.
use Rattle.std.specs.Prelude.{ℕ, List, zero, suc, ⊤, ◌≤◌, IsTrue}
use Rattle.std.specs.List.{All}
use Rattle.amm_names.specs.Names.{is_user_name, is_token_name}
use Rattle.amm_names.specs.Pools.{is_pool_name, is_fee}
use Rattle.amm_names.specs.declared.holder.Asset.{Asset}
use Rattle.amm_names.specs.declared.holder.Asset.TheVariants as assets
use Rattle.amm_names.specs.declared.holder.Holder.{Holder}
use Rattle.amm_names.specs.declared.holder.Holder.TheVariants as holders
use Rattle.amm_model.specs.declared.command.AddWant.{AddWant}
use Rattle.amm_model.specs.declared.command.RemoveWant.{RemoveWant}
use Rattle.amm_model.specs.declared.problem.Part.{Part}
use Rattle.amm_model.specs.declared.route_path.RoutePath.{RoutePath}
use Rattle.amm_model.specs.declared.limits.TheConstants.{AMOUNT_LIMIT, LOAN_LIMIT, STEP_LIMIT}
use Rattle.amm_model.specs.Fits.{FitParts, IsPath}
use Rattle.amm_model.specs.CommandView as view
use Rattle.amm_model.specs.CommandView.{CommandView, Move, Moves}
use Rattle.amm_model.specs.Reading.{steps_inside}

-- a holder's name is a name of its kind
abbrev pub NamesHolder : Holder → Type 0
NamesHolder (holders.User name) = IsTrue (is_user_name name)
NamesHolder (holders.Token name) = IsTrue (is_token_name name)
NamesHolder (holders.Pool name) = IsTrue (is_pool_name name)
NamesHolder holders.Zero = ⊤

-- an asset's name is a name of its kind
abbrev pub NamesAsset : Asset → Type 0
NamesAsset (assets.Token name) = IsTrue (is_token_name name)
NamesAsset (assets.Share name) = IsTrue (is_pool_name name)

-- an amount, a time, a deadline or a number
abbrev pub HasRoom : ℕ → Type 0
HasRoom n = n ≤ AMOUNT_LIMIT

-- two to eight tokens, each spelled as one, and one fee fewer
pub record IsPathRow (path : RoutePath) : Type 0 where
  pub whole : IsPath path
  pub tokens : All (λ token. IsTrue (is_token_name token)) path.tokens

-- 1 to 8 parts, each of a token that is spelled as one, in the strict order of their tokens
pub record ArePartRows (parts : List Part) : Type 0 where
  pub whole : FitParts parts
  pub tokens : All (λ (part : Part). IsTrue (is_token_name part.token)) parts

pub record IsAddRow (want : AddWant) : Type 0 where
  pub a : IsTrue (is_token_name want.a)
  pub b : IsTrue (is_token_name want.b)
  pub fee : IsTrue (is_fee want.fee)
  pub a_desired : HasRoom want.a_desired
  pub b_desired : HasRoom want.b_desired
  pub a_min : HasRoom want.a_min
  pub b_min : HasRoom want.b_min

pub record IsRemoveRow (want : RemoveWant) : Type 0 where
  pub a : IsTrue (is_token_name want.a)
  pub b : IsTrue (is_token_name want.b)
  pub fee : IsTrue (is_fee want.fee)
  pub shares : HasRoom want.shares
  pub a_min : HasRoom want.a_min
  pub b_min : HasRoom want.b_min

abbrev mutual
  -- a step that has a row, where so many loans may be open
  pub IsStepRow : Move → ℕ → Type 0
  IsStepRow (view.transfer asset to n) loans = NamesAsset asset × (NamesHolder to × HasRoom n)
  IsStepRow (view.create a b fee) loans = IsTrue (is_token_name a) × (IsTrue (is_token_name b) × IsTrue (is_fee fee))
  IsStepRow (view.mint pool to) loans = IsTrue (is_pool_name pool) × NamesHolder to
  IsStepRow (view.burn pool to) loans = IsTrue (is_pool_name pool) × NamesHolder to
  IsStepRow (view.swap pool out0 out1 to) loans = IsTrue (is_pool_name pool) × (HasRoom out0 × (HasRoom out1 × NamesHolder to))
  IsStepRow (view.skim pool to) loans = IsTrue (is_pool_name pool) × NamesHolder to
  IsStepRow (view.sync pool) loans = IsTrue (is_pool_name pool)
  IsStepRow (view.flash pool out0 out1 steps) zero = ⊥
  IsStepRow (view.flash pool out0 out1 steps) (suc loans) = IsTrue (is_pool_name pool) × (HasRoom out0 × (HasRoom out1 × AreStepRows steps loans))
  IsStepRow (view.add want to deadline) loans = IsAddRow want × (NamesHolder to × HasRoom deadline)
  IsStepRow (view.remove want to deadline) loans = IsRemoveRow want × (NamesHolder to × HasRoom deadline)
  IsStepRow (view.swap_in path x min to deadline) loans = IsPathRow path × (HasRoom x × (HasRoom min × (NamesHolder to × HasRoom deadline)))
  IsStepRow (view.swap_out path y max to deadline) loans = IsPathRow path × (HasRoom y × (HasRoom max × (NamesHolder to × HasRoom deadline)))
  IsStepRow (view.settle quote deadline) loans = HasRoom quote × HasRoom deadline

  -- each step of a list has one
  pub AreStepRows : Moves → ℕ → Type 0
  AreStepRows view.no_moves loans = ⊤
  AreStepRows (view.move m ms) loans = IsStepRow m loans × AreStepRows ms loans

-- a command that has a row
abbrev pub IsRow : CommandView → Type 0
IsRow (view.deposit user token n) = IsTrue (is_user_name user) × (IsTrue (is_token_name token) × HasRoom n)
IsRow (view.withdraw user token n) = IsTrue (is_user_name user) × (IsTrue (is_token_name token) × HasRoom n)
IsRow (view.time n) = HasRoom n
IsRow (view.fee_to actor to) = IsTrue (is_user_name actor) × NamesHolder to
IsRow (view.setter actor to) = IsTrue (is_user_name actor) × IsTrue (is_user_name to)
IsRow (view.quote_out path n) = IsPathRow path × HasRoom n
IsRow (view.quote_in path n) = IsPathRow path × HasRoom n
IsRow (view.split s t d) = IsTrue (is_token_name s) × (IsTrue (is_token_name t) × HasRoom d)
IsRow (view.certificate quote) = HasRoom quote
IsRow (view.pool pool) = IsTrue (is_pool_name pool)
IsRow (view.balance asset holder) = NamesAsset asset × NamesHolder holder
IsRow (view.total asset) = NamesAsset asset
IsRow (view.observe actor pool) = IsTrue (is_user_name actor) × IsTrue (is_pool_name pool)
IsRow (view.average first second) = HasRoom first × HasRoom second
IsRow (view.consult first second token n) = HasRoom first × (HasRoom second × (IsTrue (is_token_name token) × HasRoom n))
IsRow (view.window pool seconds) = IsTrue (is_pool_name pool) × HasRoom seconds
IsRow (view.basket actor parts t min deadline) = IsTrue (is_user_name actor) × (ArePartRows parts × (IsTrue (is_token_name t) × (HasRoom min × HasRoom deadline)))
IsRow (view.cycle actor t deadline) = IsTrue (is_user_name actor) × (IsTrue (is_token_name t) × HasRoom deadline)
IsRow (view.act actor m) = IsTrue (is_user_name actor) × (IsStepRow m LOAN_LIMIT × (steps_inside m ≤ STEP_LIMIT))
