use Rattle.std.proofs.Common.{◌≢◌, ◌<◌, ◌≤◌, ◌^◌}
use Rattle.amm_model.specs.declared.problem.Part.{Part}
use Rattle.std.proofs.lemmas.List.Elements.{All-contains}
use Rattle.amm_split.proofs.source.part_amount.Goals as goal

pub returns-clause-range : goal.returns-clause-range
returns-clause-range c = All-contains (λ (p : Part). (1 ≤ p.amount) × (p.amount < 2 ^ 52)) c.args.problem.now.parts c.args.part.now c.t-sound.ensures.sound.parts.amounts c.requires

pub returns-clause-apart : goal.returns-clause-apart
returns-clause-apart c = All-contains (λ (p : Part). p.token ≢ c.args.problem.now.t) c.args.problem.now.parts c.args.part.now c.t-sound.ensures.sound.parts.apart c.requires
