use Rattle.std.proofs.Common.{◌≡◌, ◌∙◌, sym, subst, arith}
use Rattle.std.proofs.lemmas.Fmt.{IsAscii-decimal, parse-decimal}
use Rattle.std.proofs.lemmas.Str.{IsUtf8-from_ascii}
use Rattle.std.specs.Str.{IsUtf8}
use Rattle.exchange.proofs.word_number.read_number.Goals as goal
use Rattle.exchange.proofs.word_number.read_number.Goals.{else-n-limit-via-then-n-limit+else-is_decimal, else-n-limit-via-else-n-limit}

pub returns-in_default-clause-none : goal.returns-in_default-clause-none
returns-in_default-clause-none c = λ n le is.
    c.in_default.ensures.cases.0 (subst IsUtf8 (sym is) (IsUtf8-from_ascii _ (IsAscii-decimal n (omega arith))))

pub returns-in_default-parse-clause-none : goal.returns-in_default-parse-clause-none
returns-in_default-parse-clause-none c = λ n le is.
    let read = parse-decimal 64 n c.in-Ok.text.now _ (omega arith) (omega arith) (c.in-Ok.ensures.cases.0 ∙ is) c.parse.ensures.value.0 in
    cc (read, c.in_default-parse.is)

pub returns-else-n-limit-clause-none : goal.returns-else-n-limit-clause-none
returns-else-n-limit-clause-none c = λ n le is.
    let read = parse-decimal 64 n c.in-Ok.text.now _ (omega arith) (omega arith) (c.in-Ok.ensures.cases.0 ∙ is) c.parse.ensures.value.0 in
    let same : c.in-Ok-parse.n ≡ n = cc (read, c.in-Ok-parse.is) in
    elim c.else-n-limit.branch [
      | else-n-limit-via-then-n-limit+else-is_decimal w ↦
          let yes = w.is_decimal.ensures.1 (rw same is) in
          cc (yes, w.if-is_decimal.false)
      | else-n-limit-via-else-n-limit w ↦ omega arith
    ]
