-- That an answer can be written has one proof at most, so a row can keep it.
use Rattle.std.specs.Prelude.{ℕ, ◌≤◌, ◌<◌, List, length, All}
use Rattle.std.specs.Coded.{×_prop, Π_prop, →_prop, Unit-prop, le_prop, Coded-set, coded_ℕ}
use Rattle.amm_model.specs.declared.route.Leg.{Leg}
use Rattle.amm_model.specs.declared.route.OpenQuote.{OpenQuote}
use Rattle.amm_model.specs.declared.route.Quote.{Quote}
use Rattle.amm_model.specs.declared.problem.ProblemPool.{ProblemPool}
use Rattle.amm_names.specs.Names.{Name}
use Rattle.amm_model.specs.declared.limits.TheConstants.{AMOUNT_LIMIT}
use Rattle.amm_model.specs.declared.reply.Answer.{Answer}
use Rattle.amm_model.specs.declared.reply.Answer.TheVariants as answers
use Rattle.amm_model.specs.Certificate.{AreWritable, IsWritable}
use Rattle.amm_model.specs.ReplyText.{CanBeWritten}

all_prop : {X : Type 0} (P : X → Type 0) → ((x : X) → IsProp (P x)) → (xs : List X) → IsProp (All P xs)
all_prop P one xs = Π_prop (λ k. Π_prop (λ d. →_prop (one _)))

writable_prop : (tokens : List Name) (pools : List ProblemPool) (prices : List ℕ) (legs : List Leg) → IsProp (AreWritable tokens pools prices legs)
writable_prop tokens pools prices legs x y = λ i. record {
  priced = Coded-set coded_ℕ (length prices) (length tokens) x.priced y.priced i;
  few = le_prop x.few y.few i;
  there = all_prop (λ (leg : Leg). leg.pool < length pools) (λ leg. le_prop) legs x.there y.there i;
  amounts = all_prop (λ (leg : Leg). (leg.input ≤ AMOUNT_LIMIT) × (leg.output ≤ AMOUNT_LIMIT)) (λ leg. ×_prop le_prop le_prop) legs x.amounts y.amounts i;
}

quote_prop : (quote : Quote) → IsProp (IsWritable quote)
quote_prop quote = writable_prop quote.problem.tokens quote.problem.pools quote.prices quote.route.legs

open_quote_prop : (quote : OpenQuote) → IsProp (AreWritable quote.problem.tokens quote.problem.pools quote.prices quote.route.legs)
open_quote_prop quote = writable_prop quote.problem.tokens quote.problem.pools quote.prices quote.route.legs

pub answer_prop : (answer : Answer) → IsProp (CanBeWritten answer)
answer_prop (answers.Split number quote) = quote_prop quote
answer_prop (answers.Certificate quote) = quote_prop quote
answer_prop (answers.Refused code) = Unit-prop
answer_prop (answers.Deposit balance total) = Unit-prop
answer_prop (answers.Withdraw balance total) = Unit-prop
answer_prop answers.Transfer = Unit-prop
answer_prop answers.Time = Unit-prop
answer_prop answers.FeeTo = Unit-prop
answer_prop answers.Setter = Unit-prop
answer_prop (answers.Create pool) = Unit-prop
answer_prop (answers.Mint receipt) = Unit-prop
answer_prop (answers.Burn receipt) = Unit-prop
answer_prop (answers.Swap receipt) = Unit-prop
answer_prop (answers.Skim receipt) = Unit-prop
answer_prop (answers.Flash receipt) = Unit-prop
answer_prop (answers.Sync r0 r1) = Unit-prop
answer_prop (answers.Add receipt) = Unit-prop
answer_prop (answers.Remove receipt) = Unit-prop
answer_prop (answers.SwapIn amounts) = Unit-prop
answer_prop (answers.SwapOut amounts) = Unit-prop
answer_prop (answers.QuoteOut amounts) = Unit-prop
answer_prop (answers.QuoteIn amounts) = Unit-prop
answer_prop (answers.Settle delivered) = Unit-prop
answer_prop (answers.Pool pair b0 b1 supply) = Unit-prop
answer_prop (answers.Balance n) = Unit-prop
answer_prop (answers.Total n) = Unit-prop
answer_prop (answers.Observe number observation) = Unit-prop
answer_prop (answers.Average averages) = Unit-prop
answer_prop (answers.Consult n) = Unit-prop
answer_prop (answers.Window found) = Unit-prop
answer_prop (answers.Basket quote) = open_quote_prop quote
answer_prop (answers.Cycle quote) = open_quote_prop quote
