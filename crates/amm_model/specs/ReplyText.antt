-- The bytes of a reply.
use Rattle.std.specs.Prelude.{ℕ, List, [], ◌∷◌, ◌++◌, map, codes}
use Rattle.serde_json.specs.Data.{Data, string}
use Rattle.serde_json.specs.Written.{compact_text}
use Rattle.amm_model.specs.declared.reply.Answer.{Answer}
use Rattle.amm_model.specs.declared.reply.Answer.TheVariants as answers
use Rattle.amm_model.specs.declared.reply.Reply.{Reply}
use Rattle.amm_model.specs.declared.route.OpenQuote.{OpenQuote}
use Rattle.amm_model.specs.Json.{whole, wide, list}
use Rattle.amm_model.specs.Certificate.{prices_value, legs_value, priced_tokens_value, route_value, certificate_value, AreWritable, IsWritable}
use Rattle.amm_model.specs.Refusals.{refusal_number, refusal_word}

-- what is printed of a basket and of a cycle
abbrev pub open_quote_values : OpenQuote → List Data
open_quote_values quote =
    whole quote.delivered ∷ wide quote.bound ∷ priced_tokens_value quote.problem.tokens quote.prices ∷ route_value quote.problem.pools quote.route.legs ∷ []

-- what follows the word `ok`
abbrev pub ok_values : Answer → List Data
ok_values (answers.Refused code) = []
ok_values (answers.Deposit balance total) = whole balance ∷ whole total ∷ []
ok_values (answers.Withdraw balance total) = whole balance ∷ whole total ∷ []
ok_values answers.Transfer = []
ok_values answers.Time = []
ok_values answers.FeeTo = []
ok_values answers.Setter = []
ok_values (answers.Create pool) = string pool ∷ []
ok_values (answers.Mint receipt) = whole receipt.shares ∷ whole receipt.fee_shares ∷ []
ok_values (answers.Burn receipt) = whole receipt.amount0 ∷ whole receipt.amount1 ∷ whole receipt.fee_shares ∷ []
ok_values (answers.Swap receipt) = whole receipt.in0 ∷ whole receipt.in1 ∷ whole receipt.out0 ∷ whole receipt.out1 ∷ []
ok_values (answers.Skim receipt) = whole receipt.sent0 ∷ whole receipt.sent1 ∷ []
ok_values (answers.Flash receipt) = whole receipt.in0 ∷ whole receipt.in1 ∷ whole receipt.out0 ∷ whole receipt.out1 ∷ []
ok_values (answers.Sync r0 r1) = whole r0 ∷ whole r1 ∷ []
ok_values (answers.Add receipt) = whole receipt.a ∷ whole receipt.b ∷ whole receipt.shares ∷ []
ok_values (answers.Remove receipt) = whole receipt.a ∷ whole receipt.b ∷ []
ok_values (answers.SwapIn amounts) = list (map whole amounts) ∷ []
ok_values (answers.SwapOut amounts) = list (map whole amounts) ∷ []
ok_values (answers.QuoteOut amounts) = list (map whole amounts) ∷ []
ok_values (answers.QuoteIn amounts) = list (map whole amounts) ∷ []
ok_values (answers.Split number quote) = whole number ∷ whole quote.delivered ∷ wide quote.bound ∷ prices_value quote ∷ legs_value quote ∷ []
ok_values (answers.Settle delivered) = whole delivered ∷ []
ok_values (answers.Certificate quote) = certificate_value quote ∷ []
ok_values (answers.Pool pair b0 b1 supply) =
    whole pair.r0 ∷ whole pair.r1 ∷ whole b0 ∷ whole b1 ∷ whole supply ∷ wide pair.k_last ∷ whole pair.last ∷ wide pair.acc0 ∷ wide pair.acc1 ∷ []
ok_values (answers.Balance n) = whole n ∷ []
ok_values (answers.Total n) = whole n ∷ []
ok_values (answers.Observe number o) = whole number ∷ whole o.time ∷ wide o.acc0 ∷ wide o.acc1 ∷ []
ok_values (answers.Average averages) = wide averages.price0 ∷ wide averages.price1 ∷ []
ok_values (answers.Consult n) = whole n ∷ []
ok_values (answers.Basket quote) = open_quote_values quote
ok_values (answers.Cycle quote) = open_quote_values quote
ok_values (answers.Window found) = whole found.first ∷ whole found.second ∷ wide found.averages.price0 ∷ wide found.averages.price1 ∷ []

-- what follows the number of the line
abbrev pub verdict : Answer → List Data
verdict (answers.Refused code) = string (codes "no") ∷ whole (refusal_number code) ∷ string (refusal_word code) ∷ []
verdict answer = string (codes "ok") ∷ ok_values answer

abbrev pub reply_value : Reply → Data
reply_value reply = list (whole reply.line ∷ verdict reply.answer)

-- the compact text of a reply, and a newline
unfoldable pub reply_text : Reply → List ℕ
reply_text reply = compact_text (reply_value reply) ++ 10 ∷ []

-- a quote in the answer can be written
abbrev pub CanBeWritten : Answer → Type 0
CanBeWritten (answers.Split number quote) = IsWritable quote
CanBeWritten (answers.Certificate quote) = IsWritable quote
CanBeWritten (answers.Basket quote) = AreWritable quote.problem.tokens quote.problem.pools quote.prices quote.route.legs
CanBeWritten (answers.Cycle quote) = AreWritable quote.problem.tokens quote.problem.pools quote.prices quote.route.legs
CanBeWritten _ = Unit {0}
