use Rattle.std.proofs.Common.{◌≡◌, ◌<◌, ◌^◌, rules, arith, sym}
use Rattle.std.proofs.lemmas.Fmt.{parse-decimal_wide}
use Rattle.amm_cert.proofs.Wide.{wide_of-none, wide_of-some}
use Rattle.amm_cert.proofs.form.wide_number.Goals as goal

pub returns-then-eq : goal.returns-then-eq
returns-then-eq c =
    let fits : c.in-Ok.n < 2 ^ 128 = omega (arith, c.in-Ok.ensures.value.0) in
    sym (wide_of-some c.args.text.now c.in-Ok.n fits (search rules))

pub returns-else-eq : goal.returns-else-eq
returns-else-eq c =
    sym (wide_of-none c.args.text.now (λ n fits is.
    let wide : n < 10 ^ 64 = omega arith in
    let read = parse-decimal_wide 128 n _ _ fits wide is c.parse.ensures.value.0 in
    let text : c.format.result.now ≡ c.args.text.now = cc is in
    search rules))

pub returns-in-Err : goal.returns-in-Err
returns-in-Err c =
    sym (wide_of-none c.args.text.now (λ n fits is.
    let wide : n < 10 ^ 64 = omega arith in
    absurd (cc (parse-decimal_wide 128 n _ _ fits wide is c.parse.ensures.value.0))))
