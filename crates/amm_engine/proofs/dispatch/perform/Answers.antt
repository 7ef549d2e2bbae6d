use Rattle.std.proofs.Common.{refl}
use Rattle.amm_model.specs.Meaning.{MayComeTo}
use Rattle.amm_engine.proofs.Doing.{does}
use Rattle.amm_engine.proofs.dispatch.perform.Goals as goal

pub returns-in-Deposit : goal.returns-in-Deposit
unfolding MayComeTo
returns-in-Deposit c = record { does = rw c.in-Deposit.is (does _ _ _ _ _ refl c.deposit.ensures.meets) }

pub returns-in-Withdraw : goal.returns-in-Withdraw
unfolding MayComeTo
returns-in-Withdraw c = record { does = rw c.in-Withdraw.is (does _ _ _ _ _ refl c.withdraw.ensures.meets) }

pub returns-in-Time : goal.returns-in-Time
unfolding MayComeTo
returns-in-Time c = record { does = rw c.in-Time.is (does _ _ _ _ _ refl c.time.ensures.meets) }

pub returns-in-FeeTo : goal.returns-in-FeeTo
unfolding MayComeTo
returns-in-FeeTo c = record { does = rw c.in-FeeTo.is (does _ _ _ _ _ refl c.fee_to.ensures.meets) }

pub returns-in-Setter : goal.returns-in-Setter
unfolding MayComeTo
returns-in-Setter c = record { does = rw c.in-Setter.is (does _ _ _ _ _ refl c.setter.ensures.meets) }

pub returns-in-QuoteOut : goal.returns-in-QuoteOut
unfolding MayComeTo
returns-in-QuoteOut c = record { does = rw c.in-QuoteOut.is (does _ _ _ _ _ refl c.quote_out.ensures.meets) }

pub returns-in-QuoteIn : goal.returns-in-QuoteIn
unfolding MayComeTo
returns-in-QuoteIn c = record { does = rw c.in-QuoteIn.is (does _ _ _ _ _ refl c.quote_in.ensures.meets) }

pub returns-in-Certificate : goal.returns-in-Certificate
unfolding MayComeTo
returns-in-Certificate c = record { does = rw c.in-Certificate.is (does _ _ _ _ _ refl c.certificate.ensures.meets) }

pub returns-in-Pool : goal.returns-in-Pool
unfolding MayComeTo
returns-in-Pool c = record { does = rw c.in-Pool.is (does _ _ _ _ _ refl c.pool_record.ensures.meets) }

pub returns-in-Balance : goal.returns-in-Balance
unfolding MayComeTo
returns-in-Balance c = record { does = rw c.in-Balance.is (does _ _ _ _ _ refl c.balance.ensures.meets) }

pub returns-in-Total : goal.returns-in-Total
unfolding MayComeTo
returns-in-Total c = record { does = rw c.in-Total.is (does _ _ _ _ _ refl c.total.ensures.meets) }

pub returns-in-Observe : goal.returns-in-Observe
unfolding MayComeTo
returns-in-Observe c = record { does = rw c.in-Observe.is (does _ _ _ _ _ refl c.observe.ensures.meets) }

pub returns-in-Average : goal.returns-in-Average
unfolding MayComeTo
returns-in-Average c = record { does = rw c.in-Average.is (does _ _ _ _ _ refl c.average.ensures.meets) }

pub returns-in-Consult : goal.returns-in-Consult
unfolding MayComeTo
returns-in-Consult c = record { does = rw c.in-Consult.is (does _ _ _ _ _ refl c.consult.ensures.meets) }

pub returns-in-Window : goal.returns-in-Window
unfolding MayComeTo
returns-in-Window c = record { does = rw c.in-Window.is (does _ _ _ _ _ refl c.window.ensures.meets) }

pub returns-in-Act : goal.returns-in-Act
unfolding MayComeTo
returns-in-Act c = record { does = rw c.in-Act.is (does _ _ _ _ _ refl c.run_step.ensures.meets) }
