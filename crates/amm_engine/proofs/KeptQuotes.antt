-- What holds of a ledger that keeps one quote more.
use Rattle.std.proofs.Common.{◌≡◌, ◌≤◌, ◌+◌, ◌∷◌, ℕ, Bool, true, List, [], length, nat_le, false, Ok, refl, arith, length-append}
use Rattle.std.specs.Prelude.{◌==◌, not}
use Rattle.std.specs.Str.{bytes_eq}
use Rattle.std.proofs.lemmas.Bool.Decides.{nat_tests}
use Rattle.std.proofs.lemmas.List.Elements.{All-push}
use Rattle.amm_model.specs.declared.fault.Refusal.TheVariants as code
use Rattle.amm_model.specs.declared.route.Quote.{Quote}
use Rattle.amm_model.specs.declared.limits.TheConstants.{QUOTE_LIMIT}
use Rattle.amm_model.specs.Ledger.{Ledger, is_listed, with_quote}
use Rattle.amm_model.specs.Outcome.{refuse_if}
use Rattle.amm_model.specs.Sound.{IsAtRest, IsSound}
use Rattle.amm_model.specs.SplitAnswers.{IsSplitAnswer}
use Rattle.amm_model.specs.Splits.{may_split}
use Rattle.amm_model.proofs.Guards.{not_refused}
use Rattle.amm_model.proofs.PlainSound.{Plain, plain_known, plain_sound, rest_from}

-- there is room for a quote where a split may be tried
pub room_for_quote : (ledger : Ledger) (s t : List ℕ) (d : ℕ) (ok : Unit {0}) → may_split ledger s t d ≡ Ok ok → length ledger.quotes + 1 ≤ QUOTE_LIMIT
room_for_quote ledger s t d ok is =
    let apart = not_refused (bytes_eq s t) code.Identical _ ok is in
    let source = not_refused (not (is_listed ledger.tokens s)) code.UnknownToken _ ok apart.1 in
    let target = not_refused (not (is_listed ledger.tokens t)) code.UnknownToken _ ok source.1 in
    let some = not_refused (d == 0) code.ZeroAmount _ ok target.1 in
    room (nat_le QUOTE_LIMIT (length ledger.quotes)) refl some.1
  where
    room : (full : Bool) → nat_le QUOTE_LIMIT (length ledger.quotes) ≡ full → refuse_if full code.QuoteLimit ≡ Ok ok → length ledger.quotes + 1 ≤ QUOTE_LIMIT
    room true full is = cc
    room false free is = grind (arith, nat_tests)

with_quote_plain : (ledger : Ledger) (quote : Quote) → Plain ledger (with_quote ledger quote)
with_quote_plain ledger quote = record { pairs = refl; listed = λ token is. is; held = λ asset pool. omega arith; zero = λ asset. omega arith; shares = λ pool. refl }

-- one more quote, which answers its problem
pub rest_with : (ledger : Ledger) (quote : Quote) → length ledger.quotes + 1 ≤ QUOTE_LIMIT → IsSplitAnswer quote → IsAtRest ledger → IsAtRest (with_quote ledger quote)
rest_with ledger quote room split rest = rest_from ledger (with_quote ledger quote) rest refl sound
  where
    sound : IsSound (with_quote ledger quote)
    sound =
        let old = rest.sound in
        let plain = with_quote_plain ledger quote in
        plain_sound ledger (with_quote ledger quote) old plain (record {
          totals = old.totals;
          known = λ asset some. plain_known ledger (with_quote ledger quote) plain asset (old.known asset some);
          tokens = old.tokens;
          time = old.time;
          quotes = omega (arith, room, length-append ledger.quotes (quote ∷ []));
          answers = All-push IsSplitAnswer ledger.quotes quote old.answers split;
          observations = old.observations;
        })
