use Rattle.std.proofs.Common.{sym, ◌+◌}
use Rattle.std.proofs.lemmas.List.{take_rest}
use Rattle.amm_names.proofs.Parsing.{split_there}
use Rattle.amm_names.proofs.name.pool.split_once.Goals as goal

pub returns-clause-whole : goal.returns-clause-whole
returns-clause-whole c = rw (take_rest c.args.bytes.now (c.in_ok-at.at + 1)) (split_there c.args.bytes.now c.args.stop c.in_ok-at.at (sym c.in_ok-at.ensures))
