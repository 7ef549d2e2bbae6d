use Rattle.amm_engine.proofs.Determined.{run_fixed}
use Rattle.amm_engine.proofs.laws.replies_fix_the_ledger.Goals as goal

pub returns : goal.returns
returns c = run_fixed
