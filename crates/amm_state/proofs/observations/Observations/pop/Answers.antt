use Rattle.std.proofs.Common.{◌≡◌, ◌++◌, ◌∷◌, [], List, subst}
use Rattle.amm_model.specs.declared.observation.Observation.{Observation}
use Rattle.amm_state.specs.Observations.{AreFiled}
use Rattle.amm_state.proofs.ObservationLemmas.{filed_fewer}
use Rattle.amm_state.proofs.observations.Observations.pop.Goals as goal

pub invariant_of-self : goal.invariant_of-self
invariant_of-self c =
    let were : c.self.inside.kept.items ≡ c.pop.new.self.items ++ c.in-Some.last ∷ [] = c.in-Some.ensures.items in
    filed_fewer c.self.inside.rows.entries c.strike.new.rows.entries c.pop.new.self.items c.in-Some.last (subst (λ (os : List Observation). AreFiled c.self.inside.rows.entries os) were c.self.invariant) c.strike.ensures
