-- What is found of the bytes that `check` is given, and the line that tells it.
use Rattle.std.specs.Prelude.{◌≡◌, ◌≤◌, ◌++◌, ℕ, List, [], ◌∷◌, codes, Option}
use Rattle.std.specs.Io.KnownBytes.{Appends}
use Rattle.serde_json.specs.Data.{Data, string}
use Rattle.serde_json.specs.Written.{compact_text}
use Rattle.amm_io.specs.Traffic.{AppendsPart, TakesAll}
use Rattle.amm_model.specs.declared.route.Quote.{Quote}
use Rattle.amm_model.specs.Json.{whole, wide, list}
use Rattle.amm_model.specs.Certificate.{IsCertificateOf}
use Rattle.amm_model.specs.Routing.{IsRoute, PoolTrade, delivered_by, open_view}
use Rattle.amm_check.specs.declared.verdict.Verdict.{Verdict}
use Rattle.amm_check.specs.declared.verdict.Verdict.TheVariants as verdicts
use Rattle.amm_check.specs.Verdicts.{HasRoute, IsVerdict, amount_of}
use Rattle.amm_engine.specs.declared.status.Status.{Status}
use Rattle.amm_engine.specs.declared.status.Status.TheVariants as statuses
use Rattle.exchange.specs.declared.finding.Finding.{Finding}
use Rattle.exchange.specs.declared.finding.Finding.TheVariants.{Yes, No}
use Rattle.exchange.specs.declared.finding.Flaw.{Flaw}
use Rattle.exchange.specs.declared.finding.Flaw.TheVariants as flaws

-- the bytes are a certificate of a quote with this verdict
abbrev pub HasVerdict : List ℕ → Verdict → Type 0
HasVerdict bytes verdict = (quote : Quote) × IsCertificateOf bytes quote × IsVerdict quote verdict

-- What is found of the bytes. They are a certificate of one quote at most, which has one verdict.
abbrev pub IsFindingOf : List ℕ → Finding → Type 0
IsFindingOf bytes (No flaws.BadCert) = (quote : Quote) → ¬ IsCertificateOf bytes quote
IsFindingOf bytes (No flaws.BadRoute) = HasVerdict bytes verdicts.BadRoute
IsFindingOf bytes (No flaws.BadDelivered) = HasVerdict bytes verdicts.BadDelivered
IsFindingOf bytes (No flaws.BadBound) = HasVerdict bytes verdicts.BadBound
IsFindingOf bytes (Yes delivered bound) =
    (quote : Quote) × IsCertificateOf bytes quote × IsVerdict quote verdicts.Yes × (delivered ≡ quote.delivered) × (bound ≡ quote.bound)

-- the code by which a flaw is told
abbrev pub flaw_code : Flaw → List ℕ
flaw_code flaws.BadCert = codes "BAD_CERT"
flaw_code flaws.BadRoute = codes "BAD_ROUTE"
flaw_code flaws.BadDelivered = codes "BAD_DELIVERED"
flaw_code flaws.BadBound = codes "BAD_BOUND"

-- a finding as a JSON value
abbrev pub finding_value : Finding → Data
finding_value (Yes delivered bound) = list (string (codes "yes") ∷ whole delivered ∷ wide bound ∷ [])
finding_value (No flaw) = list (string (codes "no") ∷ string (flaw_code flaw) ∷ [])

-- the line of a finding: its compact text and a newline
unfoldable pub finding_line : Finding → List ℕ
finding_line finding = compact_text (finding_value finding) ++ 10 ∷ []

-- the status that tells a finding
abbrev pub finding_status : Finding → Status
finding_status (Yes delivered bound) = statuses.Done
finding_status (No flaw) = statuses.No

-- All the input was taken, this is found of it, and its line was written.
pub record TellsFinding (limit : ℕ) (left_before left_after written_before written_after : Option (List ℕ)) (status : Status) : Type 0 where
  pub input : List ℕ
  pub taken : TakesAll limit left_before left_after input
  pub finding : Finding
  pub found : IsFindingOf input finding
  pub written : Appends written_before written_after (finding_line finding)
  pub told : status ≡ finding_status finding

-- All the input was taken, and of the line of what is found of it a part was written, but not all.
pub record CutsFinding (limit : ℕ) (left_before left_after written_before written_after : Option (List ℕ)) : Type 0 where
  pub input : List ℕ
  pub taken : TakesAll limit left_before left_after input
  pub finding : Finding
  pub found : IsFindingOf input finding
  pub part : AppendsPart written_before written_after (finding_line finding)

-- All the input was taken, and it is a certificate of a quote whose two numbers the line tells: its
-- own legs deliver the one, and no route over its pools delivers more than the other.
pub record Assures (limit : ℕ) (left_before left_after written_before written_after : Option (List ℕ)) : Type 0 where
  pub input : List ℕ
  pub taken : TakesAll limit left_before left_after input
  pub quote : Quote
  pub certificate : IsCertificateOf input quote
  pub written : Appends written_before written_after (finding_line (Yes quote.delivered quote.bound))
  pub route : HasRoute quote
  pub delivers : amount_of quote ≡ quote.delivered
  pub unbeaten : (other : List PoolTrade) → IsRoute (open_view quote.problem) other → delivered_by (open_view quote.problem) other ≤ quote.bound
