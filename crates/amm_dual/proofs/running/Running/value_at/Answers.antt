use Rattle.amm_dual.specs.declared.changes.Change.{Change}
use Rattle.amm_dual.specs.declared.changes.Changes.{Changes}
use Rattle.amm_dual.proofs.Steps.{ranges-after}
use Rattle.amm_dual.proofs.running.Running.value_at.Goals as goal

pub parts_after-requires : goal.parts_after-requires
parts_after-requires c =
    let change : Change = record { place = c.args.token; price = c.args.price } in
    let changes : Changes = record { first = change; second = change } in
    record { ranges = ranges-after c.args.self.now.prices changes c.requires.ranges c.requires.price c.requires.price }

pub pools_after-requires : goal.pools_after-requires
pools_after-requires c =
    let change : Change = record { place = c.args.token; price = c.args.price } in
    let changes : Changes = record { first = change; second = change } in
    record { ranges = ranges-after c.args.self.now.prices changes c.requires.ranges c.requires.price c.requires.price }
