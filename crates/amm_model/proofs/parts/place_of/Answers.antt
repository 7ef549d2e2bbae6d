use Rattle.std.proofs.Common.{◌≡◌, arith, true, get_or, sym, ap, ◌∙◌}
use Rattle.std.specs.Str.{bytes_eq}
use Rattle.std.proofs.lemmas.List.Sums.{position_or_len_is}
use Rattle.amm_model.proofs.parts.place_of.Goals as goal

pub returns-then-eq : goal.returns-then-eq
returns-then-eq c =
    let tokens = c.args.tokens.now in
    let here = c.index-tokens-i.result in
    let found : bytes_eq c.args.token.now (get_or tokens c.loop-i.i here) ≡ true =
    ap (bytes_eq c.args.token.now) (sym c.index-tokens-i.is) ∙ sym c.eq.ensures ∙ c.if-eq.true in
    sym (position_or_len_is (bytes_eq c.args.token.now) tokens c.loop-i.i here (omega arith) (λ k below. c.loop-i.invariant k here below) (λ _. found))

pub returns : goal.returns
returns c =
    sym (position_or_len_is (bytes_eq c.args.token.now) c.args.tokens.now _ c.args.token.now (omega arith)
    (λ k below. c.loop-i.invariant k c.args.token.now (omega arith)) (λ below. absurd (omega arith)))
