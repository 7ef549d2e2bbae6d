use Rattle.amm_dual.proofs.Values.{value_in-add-two}
use Rattle.amm_dual.proofs.flows.add.Goals as goal

pub returns-clause-value : goal.returns-clause-value
returns-clause-value c = λ prices many.
    value_in-add-two prices c.args.amounts.now c.args.at.zero c.args.at.one c.args.zero c.args.one c.requires.there.0 c.requires.there.1 many
