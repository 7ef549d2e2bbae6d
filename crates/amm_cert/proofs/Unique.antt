-- A certificate is one of at most one quote.
use Rattle.std.proofs.Common.{◌≡◌, ℕ, List, [], ◌∷◌, map, refl, sym, ap, subst, ◌∙◌}
use Rattle.std.specs.Prelude.{codes}
use Rattle.serde_json.specs.Data.{Data, string}
use Rattle.amm_model.specs.declared.route.Quote.{Quote}
use Rattle.amm_model.specs.Json.{json_value, list, whole, wide}
use Rattle.amm_model.specs.Certificate.{pool_value, prices_value, legs_value, IsValueOf, IsCertificateOf}
use Rattle.amm_model.specs.Routing.{one_part}
use Rattle.amm_model.proofs.Guards.{same_answer}
use Rattle.amm_model.proofs.Problems.{one_problem}
use Rattle.amm_model.proofs.Names.{one_value}
use Rattle.amm_cert.specs.declared.reader.Head.{Head}
use Rattle.amm_cert.specs.Rows.{quote_over}
use Rattle.amm_cert.proofs.Whole.{Reads, value-reads}

-- two quotes that are read of the same ten values
same_reading : (a b c d e f g h i j : Data) (p q : Quote) → Reads a b c d e f g h i j p → Reads a b c d e f g h i j q → p ≡ q
same_reading a b c d e f g h i j p q first second =
    let heads : (◌≡◌ {A = Head} (record { version = first.version; s = p.problem.s; t = p.problem.t; d = p.problem.d }) (record { version = second.version; s = q.problem.s; t = q.problem.t; d = q.problem.d })) =
    same_answer _ _ (sym first.heads ∙ second.heads) in
    let pools : p.problem.pools ≡ q.problem.pools = same_answer _ _ (sym first.pooled ∙ second.pooled) in
    let problem : p.problem ≡ q.problem = one_problem q.problem.s q.problem.t q.problem.d q.problem.pools p.problem q.problem
    (record { sources = ap (λ x. one_part x.s x.d) heads; target = ap (λ x. x.t) heads; over = pools; sound = first.sound })
    (record { sources = refl; target = refl; over = refl; sound = second.sound }) in
    same_answer p q (sym first.over ∙ (ap (λ x. quote_over x g h i j) problem ∙ second.over))

one_value_of : (value : Data) (p q : Quote) → IsValueOf value p → IsValueOf value q → p ≡ q
one_value_of value p q first second =
    let v = first.version in
    let a = string (codes "amm-split-certificate") in
    let made : (x : Quote) → IsValueOf value x → IsValueOf (list (a ∷ whole v ∷ string p.problem.s ∷ string p.problem.t ∷ whole p.problem.d ∷ list (map pool_value p.problem.pools) ∷ prices_value p ∷ legs_value p ∷ whole p.delivered ∷ wide p.bound ∷ [])) x =
    λ x is. subst (λ (d : Data). IsValueOf d x) first.spelled is in
    same_reading a (whole v) (string p.problem.s) (string p.problem.t) (whole p.problem.d) (list (map pool_value p.problem.pools)) (prices_value p) (legs_value p) (whole p.delivered) (wide p.bound) p q
    (value-reads _ _ _ _ _ _ _ _ _ _ p (made p first)) (value-reads _ _ _ _ _ _ _ _ _ _ q (made q second))

pub one_quote : (bytes : List ℕ) (p q : Quote) → IsCertificateOf bytes p → IsCertificateOf bytes q → p ≡ q
one_quote bytes p q first second =
    one_value_of second.value p q (subst (λ (d : Data). IsValueOf d p) (one_value (json_value bytes) first.value second.value first.text second.text) first.of_quote) second.of_quote
