use Rattle.amm_dual.proofs.Values.{value_in-after, value_in-covers, value_in-covers-next}
use Rattle.amm_dual.proofs.flows.value_after.Goals as goal

pub repriced-half-requires-clause-counted : goal.repriced-half-requires-clause-counted
repriced-half-requires-clause-counted c =
    let now = c.args.running.now in
    value_in-covers now.prices c.args.amounts.now c.args.changes.first.place c.args.changes.first.price c.price-old.result c.args.value c.requires.first c.requires.many c.price-old.ensures.value c.requires.value

pub repriced-requires-clause-counted : goal.repriced-requires-clause-counted
repriced-requires-clause-counted c =
    let now = c.args.running.now in
    value_in-covers-next now.prices c.args.amounts.now c.args.changes.first.place c.args.changes.second.place c.args.changes.first.price c.args.changes.second.price c.price-old.result c.price_after_one-middle.result c.args.value c.repriced-half.result
    c.requires.first c.requires.second c.requires.many c.price-old.ensures.value c.price_after_one-middle.ensures.value c.requires.value c.repriced-half.ensures.value

pub returns-clause-value : goal.returns-clause-value
returns-clause-value c =
    let now = c.args.running.now in
    (value_in-after now.prices c.args.amounts.now c.args.changes.first.place c.args.changes.second.place c.args.changes.first.price c.args.changes.second.price c.price-old.result c.price_after_one-middle.result c.args.value c.repriced-half.result c.repriced.result
    c.requires.first c.requires.second c.requires.many c.price-old.ensures.value c.price_after_one-middle.ensures.value c.requires.value c.repriced-half.ensures.value c.repriced.ensures.value).1
