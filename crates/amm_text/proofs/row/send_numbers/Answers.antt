use Rattle.std.proofs.Common.{refl}
use Rattle.amm_model.specs.Json.{whole}
use Rattle.amm_text.proofs.Sent.{each-more}
use Rattle.amm_text.proofs.row.send_numbers.Goals as goal

pub loop-n-preserved : goal.loop-n-preserved
loop-n-preserved g c = each-more whole c.args.numbers.now c.loop-n.n-index _ 0 _ _ _ c.loop-n-test.true refl c.loop-n.invariant c.in_ok-u64.ensures
