use Rattle.amm_work.proofs.work_line.WorkLineSerialize.serialize.Goals as goal

pub returns-in-Split : goal.returns-in-Split
returns-in-Split g c = rw c.in-Split.is c.split.ensures

pub returns-in-Certificate : goal.returns-in-Certificate
returns-in-Certificate g c = rw c.in-Certificate.is c.with_number.ensures
