use Rattle.amm_engine.specs.Service.{ServesAll, ServesEnded, ServesToLimit, BreaksOff, LacksMemory}
use Rattle.amm_engine.proofs.Streaming.{LacksMemory-start}
use Rattle.exchange.proofs.Statuses.{final_of}
use Rattle.exchange.proofs.runner.run.Goals as goal

pub returns-in_default-clause-memory : goal.returns-in_default-clause-memory
returns-in_default-clause-memory g c = λ is. (_, LacksMemory-start _ _ _ _)

pub returns-clause-done : goal.returns-clause-done
returns-clause-done g c = λ is. final_of (ServesAll _ _ _ _ _) _ _ _ c.in-Ok.ensures (c.serve.ensures.done is)

pub returns-clause-ended : goal.returns-clause-ended
returns-clause-ended g c = λ is. final_of (ServesEnded _ _ _ _ _) _ _ _ c.in-Ok.ensures (c.serve.ensures.ended is)

pub returns-clause-passed : goal.returns-clause-passed
returns-clause-passed g c = λ is. final_of (ServesToLimit _ _ _ _ _) _ _ _ c.in-Ok.ensures (c.serve.ensures.passed is)

pub returns-clause-broken : goal.returns-clause-broken
returns-clause-broken g c = λ is. final_of (BreaksOff _ _ _ _ _) _ _ _ c.in-Ok.ensures (c.serve.ensures.broken is)

pub returns-clause-memory : goal.returns-clause-memory
returns-clause-memory g c = λ is. final_of (LacksMemory _ _ _ _ _) _ _ _ c.in-Ok.ensures (c.serve.ensures.memory is)
