-- Where the pools of legs stand.
use Rattle.std.specs.Prelude.{◌<◌, List, [], ◌∷◌, length}
use Rattle.amm_model.specs.declared.problem.ProblemPool.{ProblemPool}
use Rattle.amm_model.specs.declared.route.Leg.{Leg}

-- the pool of each leg is in the list
abbrev pub AreThere : List ProblemPool → List Leg → Type 0
AreThere pools [] = Unit {0}
AreThere pools (leg ∷ legs) = (leg.pool < length pools) × AreThere pools legs
