use Rattle.std.proofs.Common.{inl, refl}
use Rattle.amm_ffi.proofs.exports.answer.Goals as goal

pub returns-in-Ok : goal.returns-in-Ok
returns-in-Ok c = inl (record { now = c.answer.new.self; is = refl; answered = c.in-Ok.ensures.ok; gives = c.give.ensures })
