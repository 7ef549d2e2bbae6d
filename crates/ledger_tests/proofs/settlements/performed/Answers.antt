use Rattle.amm_settle.proofs.LegsPay.{legs_there}
use Rattle.ledger_tests.proofs.settlements.performed.Goals as goal

pub is_ready-requires : goal.is_ready-requires
is_ready-requires c = record { there = legs_there c.args.quote.now.problem.pools _ _ c.args.quote.now.route.legs c.requires.delivers.0 }
