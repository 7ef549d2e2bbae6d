use Rattle.std.proofs.lemmas.Result.{on_ok_weaker}
use Rattle.amm_work.proofs.work_line.pay_back.Goals as goal

pub returns : goal.returns
returns g c =
    let to_pool = rw c.pool_name.ensures at c.in_ok-transfer.ensures in
    let sent = rw c.token0.ensures at to_pool in
    on_ok_weaker c.end_seq.result (λ ended. (_, c.in_ok-begin_seq.ensures, (_, sent, ended))) c.end_seq.ensures
