use Rattle.std.proofs.Common.{◌≡◌, ◌+◌, ◌++◌, ◌∷◌, [], List, length, ap, sym, subst, ◌∙◌, arith}
use Rattle.amm_model.specs.declared.observation.Observation.{Observation}
use Rattle.amm_state.specs.Observations.{AreFiled}
use Rattle.amm_state.proofs.ObservationLemmas.{filed_more}
use Rattle.amm_state.proofs.observations.Observations.push.Goals as goal

pub invariant_of-self-2 : goal.invariant_of-self-2
invariant_of-self-2 c =
    let many : c.len.result + 1 ≡ length c.self.inside.kept.items + 1 = omega (arith, c.len.ensures, c.reserve.ensures.len, c.self.inside.kept.ok.0) in
    let filed = filed_more c.self.inside.rows.entries c.note.new.rows.entries c.self.inside.kept.items c.args.observation (c.len.result + 1) many c.self.invariant c.in_ok-note.ensures.ok in
    let all : c.push_reserved.new.self.items ≡ c.self.inside.kept.items ++ c.args.observation ∷ [] =
    c.push_reserved.ensures.items ∙ ap (λ (os : List Observation). os ++ c.args.observation ∷ []) c.reserve.ensures.items in
    subst (λ (os : List Observation). AreFiled c.note.new.rows.entries os) (sym all) filed
