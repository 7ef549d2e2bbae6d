use Rattle.amm_work.proofs.work_line.drawn.Goals as goal

pub returns-in-SwapIn : goal.returns-in-SwapIn
returns-in-SwapIn g c = rw c.in-SwapIn.is c.swap.ensures

pub returns-in-SwapOut : goal.returns-in-SwapOut
returns-in-SwapOut g c = rw c.in-SwapOut.is c.swap-in-SwapOut.ensures

pub returns-in-SwapThrough : goal.returns-in-SwapThrough
returns-in-SwapThrough g c =
    let sent = rw c.third_token.ensures at c.swap-in-SwapThrough.ensures in
    rw c.in-SwapThrough.is sent

pub returns-in-Add : goal.returns-in-Add
returns-in-Add g c = rw c.in-Add.is c.add.ensures

pub returns-in-Remove : goal.returns-in-Remove
returns-in-Remove g c = rw c.in-Remove.is c.remove.ensures

pub returns-in-Time : goal.returns-in-Time
returns-in-Time g c = rw c.in-Time.is c.with_number.ensures

pub returns-in-Flash : goal.returns-in-Flash
returns-in-Flash g c = rw c.in-Flash.is c.flash.ensures

pub returns-in-Transfer : goal.returns-in-Transfer
returns-in-Transfer g c =
    let named = rw c.user_name.ensures at c.transfer.ensures in
    let sent = rw c.next_user.ensures at named in
    rw c.in-Transfer.is sent

pub returns-in-Balance : goal.returns-in-Balance
returns-in-Balance g c = rw c.in-Balance.is c.balance.ensures

pub returns-in-Pool : goal.returns-in-Pool
returns-in-Pool g c = rw c.in-Pool.is c.pool.ensures
