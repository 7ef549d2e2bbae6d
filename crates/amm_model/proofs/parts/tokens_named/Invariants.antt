use Rattle.std.proofs.Common.{◌≡◌, ◌∷◌, map, take}
use Rattle.amm_model.specs.declared.problem.Part.{Part}
use Rattle.amm_model.specs.Routing.{tokens_named}
use Rattle.amm_model.proofs.parts.tokens_named.Given as goal

abbrev pub invariant-loop-part : goal.invariant-loop-part
invariant-loop-part l = l.tokens.items ≡ l.fn.t ∷ map (λ (part : Part). part.token) (take l.part-index l.parts)

abbrev pub invariant-loop-pool : goal.invariant-loop-pool
invariant-loop-pool l = l.tokens.items ≡ tokens_named l.parts l.fn.t (take l.pool-index l.pools)
