-- What is asked of a user and of the pools before the legs of a quote are performed for him.
use Rattle.std.specs.Prelude.{◌≤◌, All, List, map}
use Rattle.amm_names.specs.Names.{Name}
use Rattle.amm_model.specs.declared.problem.Part.{Part}
use Rattle.amm_model.specs.declared.problem.ProblemPool.{ProblemPool}
use Rattle.amm_model.specs.declared.route.OpenQuote.{OpenQuote}
use Rattle.amm_model.specs.Legs.{leg_pool}
use Rattle.amm_model.specs.Ledger.{Ledger}
use Rattle.amm_model.specs.Sales.{held_of_part}

-- The user has each part: of its token at least its amount.
abbrev pub HasParts : Ledger → (actor : Name) → List Part → Type 0
HasParts ledger actor parts = All (λ (part : Part). part.amount ≤ held_of_part ledger actor part) parts

-- The pools of a quote's legs.
abbrev pub pools_of_quote : OpenQuote → List ProblemPool
pools_of_quote quote = map (leg_pool quote.problem.pools) quote.route.legs
