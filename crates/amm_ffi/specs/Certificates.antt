-- What is found of a certificate.
use Rattle.std.specs.Prelude.{◌≡◌, ◌≢◌, ◌≤◌, ◌⊎◌, ℕ, List, Option, None, Some, length}
use Rattle.std.specs.Fmt.{decimal}
use Rattle.amm_model.specs.declared.route.Quote.{Quote}
use Rattle.amm_model.specs.Certificate.{IsCertificateOf}
use Rattle.amm_model.specs.Routing.{IsRoute, PoolTrade, delivered_by, open_view}
use Rattle.amm_check.specs.declared.verdict.Verdict.{Verdict}
use Rattle.amm_check.specs.declared.verdict.Verdict.TheVariants as verdicts
use Rattle.amm_check.specs.Verdicts.{IsVerdict}
use Rattle.amm_ffi.specs.declared.outcome.TheConstants.{DONE, MEMORY}
use Rattle.amm_ffi.specs.declared.verdict.Checked.{Checked}
use Rattle.amm_ffi.specs.declared.verdict.Judged.{Judged}
use Rattle.amm_ffi.specs.declared.verdict.TheConstants.{YES, BAD_CERT, BAD_ROUTE, BAD_DELIVERED, BAD_BOUND}
use Rattle.amm_ffi.specs.Progress.{over}

-- no route over the pools of the quote delivers more than its bound
abbrev pub IsUnbeaten : Quote → Type 0
IsUnbeaten quote = (other : List PoolTrade) → IsRoute (open_view quote.problem) other → delivered_by (open_view quote.problem) other ≤ quote.bound

-- The verdict is that of the quote, and the amounts are those that it claims.
pub record IsJudged (quote : Quote) (judged : Judged) : Type 0 where
  pub verdict : IsVerdict quote judged.verdict
  pub delivered : judged.delivered ≡ quote.delivered
  pub bound : judged.bound ≡ quote.bound
  pub unbeaten : judged.verdict ≡ verdicts.Yes → IsUnbeaten quote

-- What is found of the bytes. They are a certificate of one quote at most.
abbrev pub IsFoundOf : List ℕ → Option Judged → Type 0
IsFoundOf bytes None = (quote : Quote) → ¬ IsCertificateOf bytes quote
IsFoundOf bytes (Some judged) = (quote : Quote) × IsCertificateOf bytes quote × IsJudged quote judged

-- the code by which C is told a verdict
abbrev pub code_of : Verdict → ℕ
code_of verdicts.Yes = YES
code_of verdicts.BadRoute = BAD_ROUTE
code_of verdicts.BadDelivered = BAD_DELIVERED
code_of verdicts.BadBound = BAD_BOUND

-- what C is told where there is no yes
abbrev pub refusal : ℕ → ℕ → Checked
refusal status verdict = record { status = status; verdict = verdict; delivered = 0; length = 0 }

-- The bytes are a certificate of this quote, and all of it is right: its legs deliver its amount,
-- and no route over its pools delivers more than its bound. C is told both.
pub record Accepts (bytes before : List ℕ) (told : Checked) (after : List ℕ) : Type 0 where
  pub quote : Quote
  pub certificate : IsCertificateOf bytes quote
  pub verdict : IsVerdict quote verdicts.Yes
  pub unbeaten : IsUnbeaten quote
  pub is : told ≡ record { status = DONE; verdict = YES; delivered = quote.delivered; length = length (decimal quote.bound) }
  pub digits : after ≡ over (decimal quote.bound) before

-- The bytes are a certificate of a quote with this verdict, which is no yes, and C is told so.
pub record Rejects (bytes before : List ℕ) (told : Checked) (after : List ℕ) : Type 0 where
  pub quote : Quote
  pub certificate : IsCertificateOf bytes quote
  pub verdict : Verdict
  pub found : IsVerdict quote verdict
  pub no : verdict ≢ verdicts.Yes
  pub is : told ≡ refusal DONE (code_of verdict)
  pub untouched : after ≡ before

-- What C is told of the bytes: the exact verdict, or that memory was wanted.
abbrev pub Checks : List ℕ → List ℕ → Checked → List ℕ → Type 0
Checks bytes before told after =
    Accepts bytes before told after
    ⊎ Rejects bytes before told after
    ⊎ (((quote : Quote) → ¬ IsCertificateOf bytes quote) × (told ≡ refusal DONE BAD_CERT) × (after ≡ before))
    ⊎ ((told ≡ refusal MEMORY BAD_CERT) × (after ≡ before))
