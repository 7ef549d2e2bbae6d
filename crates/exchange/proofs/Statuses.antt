-- What the records of a service say of its status.
use Rattle.std.proofs.Common.{◌≡◌, ◌≢◌, ◌≤◌, ◌++◌, ◌⊎◌, inl, inr, ℕ, List, length, length-append, ap, sym, subst, refl, arith, None, Some}
use Rattle.std.proofs.lemmas.List.{append-nil}
use Rattle.std.specs.declared.option.Option.{Option}
use Rattle.std.specs.Io.KnownBytes.{Consumes}
use Rattle.amm_io.specs.Causes.{HasCause, Rose}
use Rattle.amm_io.specs.Traffic.{TakesWithin}
use Rattle.amm_model.specs.Ledger.{Ledger, opening_ledger}
use Rattle.amm_model.specs.Lines.{lines_of}
use Rattle.amm_history.specs.History.{TellsAverages}
use Rattle.amm_model.specs.Runs.{FairRun}
use Rattle.amm_engine.specs.declared.status.Status.{Status}
use Rattle.amm_engine.specs.declared.status.Status.TheVariants.{Done, No, Usage, ReadFault, WriteFault, Memory, InputLimit}
use Rattle.amm_engine.specs.Service.{ServesAll, ServesEnded, ServesToLimit, BreaksOff, LacksMemory}
use Rattle.exchange.specs.Headline.{RepliesToAll}

-- what holds of a first ledger holds of one that is equal to it, and of some last one
pub final_of : (R : Ledger → Ledger → Type 0) (first old new : Ledger) → first ≡ old → R first new → (final : Ledger) × R old final
final_of R first old new is r = (new, subst (λ l. R l new) is r)

-- a run that ended well has replied to all of an input that is told
pub RepliesToAll-done : (limit : ℕ) (input before : List ℕ) (left_before left_after written_before written_after : Option (List ℕ))
    → left_before ≡ Some input → written_before ≡ Some before
    → (final : Ledger) × ServesAll limit left_before left_after written_before written_after opening_ledger final → RepliesToAll input before left_after written_after
RepliesToAll-done limit input before (Some all) (Some rest) (Some first) (Some after) left is (final, s) =
    let taken : input ≡ s.input = cc (left, s.taken, s.at_end, append-nil s.input) in
    record {
      nothing_left = ap (λ l. Some l) s.at_end;
      replies = s.answered.replies;
      final = final;
      run = subst (λ l. FairRun opening_ledger 1 (lines_of l) s.answered.replies final) (sym taken) s.answered.run;
      averages = subst (λ l. TellsAverages opening_ledger 1 (lines_of l) s.answered.replies) (sym taken) s.answered.averages;
      output = cc (s.answered.written, is);
    }
RepliesToAll-done limit input before (Some all) None written_before written_after left is (final, s) = absurd s.taken
RepliesToAll-done limit input before (Some all) (Some rest) (Some first) None left is (final, s) = absurd s.answered.written
RepliesToAll-done limit input before None left_after written_before written_after left is done = cc
RepliesToAll-done limit input before left_before left_after None written_after left is done = cc

-- the limit is told exactly where it is passed, unless a write or memory ended the service
pub TakesWithin-status : (limit : ℕ) (left_before left_after before after : Option (List ℕ)) (old : Ledger) (status : Status)
    → (status ≡ Done → (new : Ledger) × ServesAll limit left_before left_after before after old new)
    → (status ≡ ReadFault → (new : Ledger) × ServesEnded limit left_before left_after before after old new)
    → (status ≡ InputLimit → (new : Ledger) × ServesToLimit limit left_before left_after before after old new)
    → (status ≡ WriteFault → (new : Ledger) × BreaksOff limit left_before left_after before after old new)
    → (status ≡ Memory → (new : Ledger) × LacksMemory limit left_before left_after before after old new)
    → (status ≢ No) × (status ≢ Usage)
    → TakesWithin limit left_before left_after (status ≡ InputLimit) ((status ≡ WriteFault) ⊎ (status ≡ Memory))
TakesWithin-status limit left_before left_after before after old Done done ended passed broken memory never =
    let r = (done refl).1 in
    record { bytes = r.input; given = r.taken; most = omega (arith, r.within); passed = λ is. cc; stopped = λ more. absurd (omega (arith, r.within, more)) }
TakesWithin-status limit left_before left_after before after old No done ended passed broken memory never = absurd (never.0 refl)
TakesWithin-status limit left_before left_after before after old Usage done ended passed broken memory never = absurd (never.1 refl)
TakesWithin-status limit left_before left_after before after old ReadFault done ended passed broken memory never =
    let r = (ended refl).1 in
    record { bytes = r.input; given = r.taken; most = omega (arith, r.within); passed = λ is. cc; stopped = λ more. absurd (omega (arith, r.within, more)) }
TakesWithin-status limit left_before left_after before after old WriteFault done ended passed broken memory never =
    let r = (broken refl).1 in
    record { bytes = r.through ++ r.past; given = r.taken; most = r.most; passed = λ is. cc; stopped = λ more. inr (inl refl) }
TakesWithin-status limit left_before left_after before after old Memory done ended passed broken memory never =
    let r = (memory refl).1 in
    record { bytes = r.through ++ r.past; given = r.taken; most = r.most; passed = λ is. cc; stopped = λ more. inr (inr refl) }
TakesWithin-status limit left_before left_after before after old InputLimit done ended passed broken memory never =
    let r = (passed refl).1 in
    record { bytes = r.input; given = r.taken; most = omega (arith, r.passed); passed = λ is. omega (arith, r.passed); stopped = λ more. inl refl }

-- a source that tells its bytes gives no more of them than there are
pub given_within : (input given : List ℕ) (left : Option (List ℕ)) → Consumes (Some input) left given → length given ≤ length input
given_within input given None taken = absurd taken
given_within input given (Some rest) taken = omega (arith, ap length taken, length-append given rest)

-- with no fault, an input within its limit is answered, unless memory runs out
pub completes : (limit : ℕ) (input : List ℕ) (left_before left_after before after : Option (List ℕ)) (old : Ledger) (reads reads_after writes writes_after : ℕ) (status : Status)
    → left_before ≡ Some input → length input ≤ limit
    → HasCause reads reads_after (status ≡ ReadFault) → HasCause writes writes_after (status ≡ WriteFault)
    → (status ≡ InputLimit → (new : Ledger) × ServesToLimit limit left_before left_after before after old new)
    → (status ≢ No) × (status ≢ Usage) → (Rose reads reads_after → ⊥) → (Rose writes writes_after → ⊥) → (status ≡ Done) ⊎ (status ≡ Memory)
completes limit input left_before left_after before after old reads reads_after writes writes_after Done is within read write passed never calm quiet = inl refl
completes limit input left_before left_after before after old reads reads_after writes writes_after Memory is within read write passed never calm quiet = inr refl
completes limit input left_before left_after before after old reads reads_after writes writes_after No is within read write passed never calm quiet = absurd (never.0 refl)
completes limit input left_before left_after before after old reads reads_after writes writes_after Usage is within read write passed never calm quiet = absurd (never.1 refl)
completes limit input left_before left_after before after old reads reads_after writes writes_after ReadFault is within read write passed never calm quiet = absurd (calm (read.rose refl))
completes limit input left_before left_after before after old reads reads_after writes writes_after WriteFault is within read write passed never calm quiet = absurd (quiet (write.rose refl))
completes limit input left_before left_after before after old reads reads_after writes writes_after InputLimit is within read write passed never calm quiet =
    let r = rw is at (passed refl).1 in
    absurd (omega (arith, r.passed, within, given_within input r.input left_after r.taken))
