-- Two runs over the same lines have the same verdicts.
use Rattle.std.proofs.Common.{◌≡◌, ◌∙◌, ◌+◌, ◌++◌, ℕ, List, [], ◌∷◌, Some, Option, Result, Ok, Err, refl, sym, ap, ap₂, subst}
use Rattle.std.specs.Prelude.{MatchResult, if◌then◌else◌}
use Rattle.std.specs.Option.{is_some}
use Rattle.std.specs.List.{AllByRecursion}
use Rattle.std.proofs.lemmas.List.{map-append}
use Rattle.amm_model.specs.declared.fault.Refusal.{Refusal}
use Rattle.amm_model.specs.declared.line.Line.{Line}
use Rattle.amm_model.specs.declared.line.Line.TheVariants.{Blank, Whole, Long}
use Rattle.amm_model.specs.declared.reply.Answer.{Answer}
use Rattle.amm_model.specs.declared.reply.Reply.{Reply}
use Rattle.amm_model.specs.Answers.{ComesTo, answer_of, ledger_after}
use Rattle.amm_model.specs.CommandView.{CommandView}
use Rattle.amm_model.specs.Ledger.{Ledger}
use Rattle.amm_model.specs.Meaning.{MayComeTo}
use Rattle.amm_model.specs.Outcome.{Outcome}
use Rattle.amm_model.specs.Reading.{command_of_line}
use Rattle.amm_model.specs.Runs.{Run, Step, one_reply}
use Rattle.amm_verdicts.specs.NoRoute.{LineTakesNoRoute, TakesNoRoute}
use Rattle.amm_verdicts.specs.Verdicts.{accepted_in, refusal_in, refused_in, verdict_of, verdicts_of}
use Rattle.amm_verdicts.proofs.Agreeing.{Agree, Alike, command_agrees}

-- ---- a line

line_agrees : (old other : Ledger) (line : Line) (first second : Outcome Answer) → Alike old other → LineTakesNoRoute line → ComesTo old line first → ComesTo other line second
    → Agree first second
unfolding ComesTo
line_agrees old other Blank first second alike none one two = absurd one
line_agrees old other Long first second alike none one two = subst (λ o. Agree o second) (sym one) (subst (Agree (Err _)) (sym two) refl)
line_agrees old other (Whole bytes) first second alike none one two = by (command_of_line bytes) none one two
  where
    by : (read : Result CommandView Refusal) → MatchResult read TakesNoRoute (λ _. Unit {0}) → MatchResult read (λ asked. MayComeTo old asked first) (λ why. first ≡ Err why)
        → MatchResult read (λ asked. MayComeTo other asked second) (λ why. second ≡ Err why) → Agree first second
    by (Ok asked) none one two =
        command_agrees old other.quotes alike.as_many asked first second none one (subst (λ (l : Ledger). MayComeTo l asked second) (sym alike.same) two)
    by (Err why) none one two = subst (λ o. Agree o second) (sym one) (subst (Agree (Err why)) (sym two) refl)

-- what is left of two lines, and told of them
record SameEnd (first second : List Reply) (mid last : Ledger) : Type 0 where
  verdicts : verdicts_of first ≡ verdicts_of second
  ledgers : Alike mid last

same_end : (old other : Ledger) (number : ℕ) (first second : Outcome Answer) → Alike old other → Agree first second
    → SameEnd (one_reply number (answer_of first)) (one_reply number (answer_of second)) (ledger_after old first) (ledger_after other second)
same_end old other number (Ok one) (Ok two) alike agree = record { verdicts = ap (λ (code : Option Refusal). (number, code) ∷ []) agree.1; ledgers = agree.0 }
same_end old other number (Err why) (Err reason) alike agree = record { verdicts = ap (λ (code : Refusal). (number, Some code) ∷ []) agree; ledgers = alike }
same_end old other number (Ok one) (Err why) alike agree = absurd agree
same_end old other number (Err why) (Ok two) alike agree = absurd agree

told_end : (old other : Ledger) (number : ℕ) (line : Line) (replies more : List Reply) (mid last : Ledger) (first second : Outcome Answer) → Alike old other → LineTakesNoRoute line
    → ComesTo old line first → ComesTo other line second → replies ≡ one_reply number (answer_of first) → more ≡ one_reply number (answer_of second)
    → mid ≡ ledger_after old first → last ≡ ledger_after other second
    → SameEnd replies more mid last
told_end old other number line replies more mid last first second alike none one two replies_are more_are mid_is last_is =
    let agree = line_agrees old other line first second alike none one two in
    let end = same_end old other number first second alike agree in
    record {
      verdicts = ap verdicts_of replies_are ∙ end.verdicts ∙ sym (ap verdicts_of more_are);
      ledgers = subst (λ (l : Ledger). Alike l last) (sym mid_is) (subst (Alike (ledger_after old first)) (sym last_is) end.ledgers);
    }

step_ends : (old other : Ledger) (number : ℕ) (line : Line) (replies more : List Reply) (mid last : Ledger) → Alike old other → LineTakesNoRoute line
    → Step old number line replies mid → Step other number line more last
    → SameEnd replies more mid last
unfolding Step
step_ends old other number Blank replies more mid last alike none one two = record {
  verdicts = ap verdicts_of (one.0 ∙ sym two.0);
  ledgers = subst (λ (l : Ledger). Alike l last) (sym one.1) (subst (Alike old) (sym two.1) alike);
}
step_ends old other number Long replies more mid last alike none one two =
    told_end old other number Long replies more mid last one.0 two.0 alike none one.1 two.1 one.2 two.2 one.3 two.3
step_ends old other number (Whole bytes) replies more mid last alike none one two =
    told_end old other number (Whole bytes) replies more mid last one.0 two.0 alike none one.1 two.1 one.2 two.2 one.3 two.3

-- ---- a run

runs_agree : (lines : List Line) (old other : Ledger) (number : ℕ) (told heard : List Reply) (new end : Ledger) → Alike old other → AllByRecursion LineTakesNoRoute lines
    → Run old number lines told new → Run other number lines heard end → verdicts_of told ≡ verdicts_of heard
runs_agree [] old other number told heard new end alike none one two = ap verdicts_of (one.0 ∙ sym two.0)
runs_agree (line ∷ lines) old other number told heard new end alike none one two =
    let first = step_ends old other number line one.0 two.0 one.2 two.2 alike none.0 one.3 two.3 in
    let rest = runs_agree lines one.2 two.2 (number + 1) one.1 two.1 new end first.ledgers none.1 one.4 two.4 in
    ap verdicts_of one.5 ∙ map-append verdict_of one.0 one.1 ∙ ap₂ (λ xs ys. xs ++ ys) first.verdicts rest ∙ sym (map-append verdict_of two.0 two.1) ∙ sym (ap verdicts_of two.5)

-- two runs from one ledger
pub verdicts_fixed : (old : Ledger) (number : ℕ) (all : List Line) (told other : List Reply) (new end : Ledger) → AllByRecursion LineTakesNoRoute all
    → Run old number all told new → Run old number all other end → verdicts_of told ≡ verdicts_of other
verdicts_fixed old number all told other new end none one two = runs_agree all old old number told other new end (record { same = refl; as_many = refl }) none one two

-- ---- the counts

same_head : {X : Type 0} (x y : X) (xs ys : List X) → x ∷ xs ≡ y ∷ ys → (x ≡ y) × (xs ≡ ys)
same_head x y xs ys e = (cc, cc)

pub counts_fixed : (told other : List Reply) → verdicts_of told ≡ verdicts_of other → (accepted_in told ≡ accepted_in other) × (refused_in told ≡ refused_in other)
counts_fixed [] [] same = (refl, refl)
counts_fixed [] (reply ∷ other) same = cc
counts_fixed (reply ∷ told) [] same = cc
counts_fixed (one ∷ told) (two ∷ other) same =
    let parts = same_head (verdict_of one) (verdict_of two) (verdicts_of told) (verdicts_of other) same in
    let code : refusal_in one.answer ≡ refusal_in two.answer = ap (λ (v : ℕ × Option Refusal). v.1) parts.0 in
    let rest = counts_fixed told other parts.1 in (
      ap₂ (λ (c : Option Refusal) (n : ℕ). (if is_some c then 0 else 1) + n) code rest.0,
      ap₂ (λ (c : Option Refusal) (n : ℕ). (if is_some c then 1 else 0) + n) code rest.1,
    )
