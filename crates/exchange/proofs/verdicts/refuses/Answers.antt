use Rattle.std.proofs.Common.{◌∙◌, arith}
use Rattle.exchange.proofs.Counting.{word_found, word_stands, word_tells}
use Rattle.exchange.proofs.verdicts.refuses.Goals as goal

pub returns-in-Some : goal.returns-in-Some
returns-in-Some c = λ told is.
    let word = word_found told c.args.reply.now c.in-Some.quote is (λ k lt. c.in-Some.ensures.0.before k (omega arith) lt) c.in-Some.ensures.1 in
    c.starts_with.ensures.value ∙ word_tells c.args.reply.now c.in-Some.quote _ word.0 word.1

pub returns-in-None : goal.returns-in-None
returns-in-None c = λ told is. absurd (word_stands told c.args.reply.now is (λ k lt. c.in-None.ensures k (omega arith) lt))
