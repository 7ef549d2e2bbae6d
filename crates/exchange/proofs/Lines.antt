-- The line of a finding, as it is written.
use Rattle.std.proofs.Common.{◌≡◌, ◌<◌, ◌++◌, ℕ, List, [], ◌∷◌, false, length, refl, length-append, arith}
use Rattle.std.specs.Prelude.{codes}
use Rattle.std.specs.declared.option.Option.{Option}
use Rattle.std.proofs.KnownBytes.{Appends-nil}
use Rattle.serde_json.specs.Data.{string}
use Rattle.serde_json.specs.Written.{compact_text, has_float}
use Rattle.amm_io.specs.Traffic.{AppendsPart}
use Rattle.amm_model.specs.Json.{whole, wide}
use Rattle.amm_text.proofs.Sent.{list_plain}
use Rattle.exchange.specs.declared.finding.Finding.{Finding}
use Rattle.exchange.specs.declared.finding.Finding.TheVariants.{Yes, No}
use Rattle.exchange.specs.Findings.{finding_line, finding_value, flaw_code}

-- no number of a finding is a fraction
pub finding_plain : (finding : Finding) → has_float (finding_value finding) ≡ false
finding_plain (Yes delivered bound) = list_plain (string (codes "yes") ∷ whole delivered ∷ wide bound ∷ []) ((refl, (refl, (refl, tt))))
finding_plain (No flaw) = list_plain (string (codes "no") ∷ string (flaw_code flaw) ∷ []) ((refl, (refl, tt)))

-- nothing of a line is written yet
pub unwritten : (written : Option (List ℕ)) (finding : Finding) → AppendsPart written written (finding_line finding)
unfolding finding_line
unwritten written finding =
    record {
      count = 0;
      proper = omega (arith, length-append (compact_text (finding_value finding)) (10 ∷ []));
      front = Appends-nil written;
    }
