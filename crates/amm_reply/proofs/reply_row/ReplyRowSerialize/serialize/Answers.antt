use Rattle.amm_reply.proofs.reply_row.ReplyRowSerialize.serialize.Goals as goal

pub returns-in-Refused : goal.returns-in-Refused
returns-in-Refused g c = rw c.in-Refused.is c.refused.ensures

pub returns-in-Transfer : goal.returns-in-Transfer
returns-in-Transfer g c = rw c.in-Transfer.is c.accepted-in-Transfer.ensures

pub returns-in-Time : goal.returns-in-Time
returns-in-Time g c = rw c.in-Time.is c.accepted-in-Time.ensures

pub returns-in-FeeTo : goal.returns-in-FeeTo
returns-in-FeeTo g c = rw c.in-FeeTo.is c.accepted-in-FeeTo.ensures

pub returns-in-Setter : goal.returns-in-Setter
returns-in-Setter g c = rw c.in-Setter.is c.accepted-in-Setter.ensures

pub returns-in-Create : goal.returns-in-Create
returns-in-Create g c = rw c.in-Create.is c.created.ensures

pub returns-in-Mint : goal.returns-in-Mint
returns-in-Mint g c = rw c.in-Mint.is c.accepted-in-Mint.ensures

pub returns-in-Burn : goal.returns-in-Burn
returns-in-Burn g c = rw c.in-Burn.is c.accepted-in-Burn.ensures

pub returns-in-Swap : goal.returns-in-Swap
returns-in-Swap g c = rw c.in-Swap.is c.accepted-in-Swap.ensures

pub returns-in-Skim : goal.returns-in-Skim
returns-in-Skim g c = rw c.in-Skim.is c.accepted-in-Skim.ensures

pub returns-in-Flash : goal.returns-in-Flash
returns-in-Flash g c = rw c.in-Flash.is c.accepted-in-Flash.ensures

pub returns-in-Add : goal.returns-in-Add
returns-in-Add g c = rw c.in-Add.is c.accepted-in-Add.ensures

pub returns-in-Remove : goal.returns-in-Remove
returns-in-Remove g c = rw c.in-Remove.is c.accepted-in-Remove.ensures

pub returns-in-Split : goal.returns-in-Split
returns-in-Split g c = rw c.in-Split.is c.split.ensures

pub returns-in-Settle : goal.returns-in-Settle
returns-in-Settle g c = rw c.in-Settle.is c.accepted-in-Settle.ensures

pub returns-in-Certificate : goal.returns-in-Certificate
returns-in-Certificate g c = rw c.in-Certificate.is c.certificate.ensures

pub returns-in-Pool : goal.returns-in-Pool
returns-in-Pool g c = rw c.in-Pool.is c.pool.ensures

pub returns-in-Balance : goal.returns-in-Balance
returns-in-Balance g c = rw c.in-Balance.is c.accepted-in-Balance.ensures

pub returns-in-Total : goal.returns-in-Total
returns-in-Total g c = rw c.in-Total.is c.accepted-in-Total.ensures

pub returns-in-Observe : goal.returns-in-Observe
returns-in-Observe g c = rw c.in-Observe.is c.observed.ensures

pub returns-in-Average : goal.returns-in-Average
returns-in-Average g c = rw c.in-Average.is c.averaged.ensures

pub returns-in-Consult : goal.returns-in-Consult
returns-in-Consult g c = rw c.in-Consult.is c.accepted-in-Consult.ensures

pub returns-in-Window : goal.returns-in-Window
returns-in-Window g c = rw c.in-Window.is c.window.ensures
