use Rattle.amm_ffi.proofs.certificate.find.Goals as goal

pub judge-requires : goal.judge-requires
judge-requires c =
    let certificate = (c.in_ok-quote.ensures c.in-Some.quote).0 c.in-Some.is in
    certificate.of_quote.sound.writable.priced

pub returns-in-None : goal.returns-in-None
returns-in-None c = λ quote certificate. let found = (c.in_ok-quote.ensures quote).1 certificate in cc (found, c.in-None.is)
