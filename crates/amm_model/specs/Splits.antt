-- What a command to split a trade may come to.
use Rattle.std.specs.Prelude.{ℕ, ◌≡◌, ◌+◌, ◌==◌, not, nat_le, length, Result, Ok, Err, MatchResult}
use Rattle.std.specs.Str.{bytes_eq}
use Rattle.amm_names.specs.Names.{Name}
use Rattle.amm_model.specs.declared.route.Quote.{Quote}
use Rattle.amm_model.specs.declared.fault.Refusal.{Refusal}
use Rattle.amm_model.specs.declared.fault.Refusal.TheVariants as code
use Rattle.amm_model.specs.declared.limits.TheConstants.{QUOTE_LIMIT}
use Rattle.amm_model.specs.declared.reply.Answer.{Answer}
use Rattle.amm_model.specs.declared.reply.Answer.TheVariants as answers
use Rattle.amm_model.specs.Outcome.{◌>>=◌, Made, refuse_if, Outcome}
use Rattle.amm_model.specs.Ledger.{Ledger, is_listed, with_quote}
use Rattle.amm_model.specs.Market.{IsProblemIn}
use Rattle.amm_model.specs.Routing.{ProblemView}
use Rattle.amm_model.specs.SplitAnswers.{IsSplitAnswer, HasNoRoute}

-- A split that may be tried: of two listed tokens, of some amount, while there is room for a quote.
abbrev pub may_split : Ledger → (s t : Name) → (d : ℕ) → Result (Unit {0}) Refusal
may_split ledger s t d = do
  _ ← refuse_if (bytes_eq s t) code.Identical
  _ ← refuse_if (not (is_listed ledger.tokens s)) code.UnknownToken
  _ ← refuse_if (not (is_listed ledger.tokens t)) code.UnknownToken
  _ ← refuse_if (d == 0) code.ZeroAmount
  refuse_if (nat_le QUOTE_LIMIT (length ledger.quotes)) code.QuoteLimit

-- The quote answers the problem of the ledger, and it is kept under the next number.
pub record KeepsQuote (ledger : Ledger) (s t : Name) (d : ℕ) (made : Made Answer) : Type 0 where
  pub quote : Quote
  pub problem : IsProblemIn ledger s t d quote.problem
  pub some : HasNoRoute quote.problem → ⊥
  pub split : IsSplitAnswer quote
  pub kept : made.ledger ≡ with_quote ledger quote
  pub told : made.answer ≡ answers.Split (length ledger.quotes + 1) quote

-- Nothing can be routed in the ledger.
pub record IsUnroutable (ledger : Ledger) (s t : Name) (d : ℕ) : Type 0 where
  pub problem : ProblemView
  pub is : IsProblemIn ledger s t d problem
  pub none : HasNoRoute problem

-- What a search for routes may end with: a quote that is kept, or NO_ROUTE.
abbrev pub Routes : Ledger → (s t : Name) → (d : ℕ) → Outcome Answer → Type 0
Routes ledger s t d (Ok made) = KeepsQuote ledger s t d made
Routes ledger s t d (Err why) = (why ≡ code.NoRoute) × IsUnroutable ledger s t d

-- What a split of d of s into t may come to.
abbrev pub SplitsTo : Ledger → (s t : Name) → (d : ℕ) → Outcome Answer → Type 0
SplitsTo ledger s t d outcome = MatchResult (may_split ledger s t d) (λ _. Routes ledger s t d outcome) (λ why. outcome ≡ Err why)
