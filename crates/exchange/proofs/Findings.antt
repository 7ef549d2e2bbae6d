-- What a finding says.
use Rattle.std.proofs.Common.{◌≡◌, ◌≢◌, ◌<◌, ◌≤◌, ◌⊎◌, inl, inr, ℕ, List, length, sym, subst, refl, ap, arith, Some}
use Rattle.std.specs.Prelude.{Contains}
use Rattle.std.specs.declared.option.Option.{Option}
use Rattle.std.proofs.lemmas.List.Elements.{All-contains}
use Rattle.amm_io.specs.Causes.{HasCause, Rose}
use Rattle.amm_io.specs.Traffic.{TakesWithin}
use Rattle.amm_model.specs.declared.limits.TheConstants.{CHECK_LIMIT}
use Rattle.amm_model.specs.declared.route.Quote.{Quote}
use Rattle.amm_model.specs.Certificate.{certificate_text}
use Rattle.amm_model.specs.Ledger.{Ledger}
use Rattle.amm_model.specs.Sound.{IsSound}
use Rattle.amm_model.specs.SplitAnswers.{IsSplitAnswer}
use Rattle.amm_cert.proofs.Certified.{answer_certifies}
use Rattle.amm_cert.proofs.Sizes.{answer_short}
use Rattle.amm_check.proofs.Judging.{answer_right, unbeaten}
use Rattle.amm_engine.specs.declared.status.Status.{Status}
use Rattle.amm_engine.specs.declared.status.Status.TheVariants as statuses
use Rattle.exchange.specs.declared.finding.Finding.{Finding}
use Rattle.exchange.specs.declared.finding.Finding.TheVariants.{Yes, No}
use Rattle.exchange.specs.Findings.{Assures, IsFindingOf, TellsFinding}
use Rattle.exchange.proofs.Statuses.{given_within}

-- a yes says what its quote says
pub assured : (limit : ℕ) (left_before left_after before after : Option (List ℕ)) (status : Status)
    → TellsFinding limit left_before left_after before after status → status ≡ statuses.Done → Assures limit left_before left_after before after
assured limit left_before left_after before after status t is = go t.finding refl
  where
    go : (finding : Finding) → t.finding ≡ finding → Assures limit left_before left_after before after
    go (Yes delivered bound) same =
        let found = rw same at t.found in
        let quote = found.0 in
        let sound = found.1.of_quote.sound in
        record {
          input = t.input;
          taken = t.taken;
          quote = quote;
          certificate = found.1;
          written = rw (same, found.3, found.4) at t.written;
          route = found.2.0;
          delivers = found.2.1;
          unbeaten = unbeaten quote sound.problem sound.prices sound.writable.priced found.2;
        }
    go (No flaw) same = absurd (let told = rw (same, is) at t.told in cc (told))

-- the certificate of a kept quote is found right
pub kept_right : (ledger : Ledger) (quote : Quote) → IsSound ledger → Contains ledger.quotes quote → IsFindingOf (certificate_text quote) (Yes quote.delivered quote.bound)
kept_right ledger quote sound has =
    let split = All-contains IsSplitAnswer ledger.quotes quote sound.answers has in
    (quote, answer_certifies quote split, answer_right quote split, refl, refl)

-- and `check` takes as many bytes as it has
pub kept_short : (ledger : Ledger) (quote : Quote) → IsSound ledger → Contains ledger.quotes quote → length (certificate_text quote) < CHECK_LIMIT
kept_short ledger quote sound has = answer_short quote (All-contains IsSplitAnswer ledger.quotes quote sound.answers has)

-- with no fault, an input within its limit is judged, unless memory runs out
pub judges : (limit : ℕ) (input : List ℕ) (left_before left_after : Option (List ℕ)) (reads reads_after writes writes_after : ℕ) (status : Status)
    → left_before ≡ Some input → length input ≤ limit
    → HasCause reads reads_after (status ≡ statuses.ReadFault) → HasCause writes writes_after (status ≡ statuses.WriteFault)
    → TakesWithin limit left_before left_after (status ≡ statuses.InputLimit) ⊥
    → status ≢ statuses.Usage → (Rose reads reads_after → ⊥) → (Rose writes writes_after → ⊥)
    → (status ≡ statuses.Done) ⊎ (status ≡ statuses.No) ⊎ (status ≡ statuses.Memory)
judges limit input left_before left_after reads reads_after writes writes_after statuses.Done is within read write passed never calm quiet = inl refl
judges limit input left_before left_after reads reads_after writes writes_after statuses.No is within read write passed never calm quiet = inr (inl refl)
judges limit input left_before left_after reads reads_after writes writes_after statuses.Memory is within read write passed never calm quiet = inr (inr refl)
judges limit input left_before left_after reads reads_after writes writes_after statuses.Usage is within read write passed never calm quiet = absurd (never refl)
judges limit input left_before left_after reads reads_after writes writes_after statuses.ReadFault is within read write passed never calm quiet = absurd (calm (read.rose refl))
judges limit input left_before left_after reads reads_after writes writes_after statuses.WriteFault is within read write passed never calm quiet = absurd (quiet (write.rose refl))
judges limit input left_before left_after reads reads_after writes writes_after statuses.InputLimit is within read write passed never calm quiet =
    let given = rw is at passed.given in
    absurd (omega (arith, passed.passed refl, within, given_within input passed.bytes left_after given))
