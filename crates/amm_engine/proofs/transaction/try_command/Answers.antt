use Rattle.amm_engine.proofs.Doing.{does_accepted}
use Rattle.amm_engine.proofs.Fair.{promised}
use Rattle.amm_engine.proofs.transaction.try_command.Goals as goal

pub accept-requires : goal.accept-requires
accept-requires c = (promised _ _ _ c.requires.fits c.requires.rest (does_accepted _ _ _ _ c.in-Ok.ensures.does)).told.written

pub returns-in-Ok-clause-accepted : goal.returns-in-Ok-clause-accepted
returns-in-Ok-clause-accepted c = λ says.
    let comes = does_accepted _ _ _ _ c.in-Ok.ensures.does in
    record {
      answer = c.in-Ok.answer;
      comes = comes;
      is = rw says at c.accept.ensures.written;
      clean = c.in-Ok.ensures.does.meets.mark;
      rest = (promised _ _ _ c.requires.fits c.requires.rest comes).rest;
    }
