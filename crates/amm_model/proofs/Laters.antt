-- What is promised of a later ledger: nothing changed, one thing after another, what accepted steps
-- keep, a transfer.
use Rattle.std.proofs.Common.{◌≡◌, ℕ, false, List, Some, Ok, ◌∙◌, arith}
use Rattle.amm_names.specs.declared.holder.Holder.{Holder}
use Rattle.amm_names.specs.declared.holder.Holder.TheVariants as holders
use Rattle.amm_names.specs.declared.holder.Asset.{Asset}
use Rattle.amm_model.specs.declared.pair.PairRecord.{PairRecord}
use Rattle.amm_model.specs.Ledger.{Ledger, pair_of}
use Rattle.amm_model.specs.Outcome.{Made}
use Rattle.amm_model.specs.Postings.{transfer}
use Rattle.amm_model.specs.Laws.{ZeroKept}
use Rattle.amm_model.specs.Sound.{IsSound, IsAtRest}
use Rattle.amm_model.specs.Later.{Later}
use Rattle.amm_model.proofs.PlainSound.{transfer_sound}
use Rattle.amm_model.proofs.Soundness.{OnlyAt}
use Rattle.amm_model.proofs.Keeping.{Keeps, keeps_same, keeps_at, SameSettings, same_settings, only_same_settings, rest_kept, transfer_keeps, transfer_same_settings}

-- What an accepted step keeps: what is promised of a later ledger, and what the zero holder has.
pub record Kept (old new : Ledger) : Type 0 where
  pub later : Later old new
  pub zero : ZeroKept old new

-- what keeps locks, totals and settings, and a sound ledger sound
pub kept_of : (old new : Ledger) → Keeps old new → SameSettings old new → (IsSound old → IsSound new) → Kept old new
kept_of old new keeps same sound = record {
  later = record {
    time = same.time;
    fee_to = same.fee_to;
    setter = same.setter;
    tokens = same.tokens;
    quotes = same.quotes;
    observations = same.observations;
    stays = keeps.stays;
    locked = keeps.locked;
    no_other = keeps.no_other;
    totals = keeps.totals;
    sound = sound;
  };
  zero = keeps.zero;
}

-- what changes one pool, which was free and is free again
pub kept_at : (pool : List ℕ) (old new : Ledger) (was now : PairRecord) → OnlyAt pool old new → pair_of old.pairs pool ≡ Some was → was.locked ≡ false → pair_of new.pairs pool ≡ Some now → now.locked ≡ false
    → (IsSound old → IsSound new) → Kept old new
kept_at pool old new was now only there free written freed sound = kept_of old new (keeps_at pool old new was now only there free written freed) (only_same_settings pool old new only) sound

-- ---- nothing, one step after another, and a transfer

pub kept_same : (ledger : Ledger) → Kept ledger ledger
kept_same ledger = kept_of ledger ledger (keeps_same ledger) (same_settings ledger) (λ sound. sound)

pub later_same : (ledger : Ledger) → Later ledger ledger
later_same ledger = (kept_same ledger).later

pub later_then : (a b c : Ledger) → Later a b → Later b c → Later a c
later_then a b c first second = record {
  time = second.time ∙ first.time;
  fee_to = second.fee_to ∙ first.fee_to;
  setter = second.setter ∙ first.setter;
  tokens = second.tokens ∙ first.tokens;
  quotes = second.quotes ∙ first.quotes;
  observations = second.observations ∙ first.observations;
  stays = λ pool is. second.stays pool (first.stays pool is);
  locked = λ pool pair is shut. second.locked pool pair (first.locked pool pair is shut) shut;
  no_other = λ pool pair is shut. first.no_other pool pair (second.no_other pool pair is shut) shut;
  totals = λ token. second.totals token ∙ first.totals token;
  sound = λ sound. second.sound (first.sound sound);
}

pub kept_then : (a b c : Ledger) → Kept a b → Kept b c → Kept a c
kept_then a b c first second = record { later = later_then a b c first.later second.later; zero = λ q. omega (arith, first.zero q, second.zero q) }

pub transfer_kept : (old : Ledger) (asset : Asset) (user : List ℕ) (to : Holder) (n : ℕ) (made : Made (Unit {0})) → transfer old asset (holders.User user) to n ≡ Ok made → Kept old made.ledger
transfer_kept old asset user to n made is =
    kept_of old made.ledger (transfer_keeps old asset user to n made is) (transfer_same_settings old asset user to n made is) (transfer_sound old asset user to n made is)

pub later_transfer : (old : Ledger) (asset : Asset) (user : List ℕ) (to : Holder) (n : ℕ) (made : Made (Unit {0})) → transfer old asset (holders.User user) to n ≡ Ok made → Later old made.ledger
later_transfer old asset user to n made is = (transfer_kept old asset user to n made is).later

-- a ledger at rest stays at rest
pub kept_rest : (old new : Ledger) → Kept old new → IsAtRest old → IsAtRest new
kept_rest old new kept rest = rest_kept old new rest kept.later.no_other (kept.later.sound rest.sound)
