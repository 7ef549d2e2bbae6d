-- A reply has no float.
use Rattle.std.proofs.Common.{◌≡◌, ℕ, false, List, ◌∷◌, map, refl}
use Rattle.std.specs.Prelude.{codes}
use Rattle.serde_json.specs.Data.{string}
use Rattle.serde_json.specs.Written.{has_float}
use Rattle.amm_model.specs.declared.route.OpenQuote.{OpenQuote}
use Rattle.amm_model.specs.declared.reply.Answer.{Answer}
use Rattle.amm_model.specs.declared.reply.Answer.TheVariants as answers
use Rattle.amm_model.specs.declared.reply.Reply.{Reply}
use Rattle.amm_model.specs.Json.{whole, list}
use Rattle.amm_model.specs.ReplyText.{open_quote_values, verdict, reply_value}
use Rattle.amm_text.proofs.Sent.{ArePlain, list_plain, all_plain}
use Rattle.amm_cert.proofs.PlainQuotes.{priced_plain, route_plain, prices_plain, legs_plain, certificate_plain}

amounts_plain : (amounts : List ℕ) → has_float (list (map whole amounts)) ≡ false
amounts_plain amounts = list_plain (map whole amounts) (all_plain whole (λ _. refl) amounts)

open_quote_plain : (line : ℕ) (quote : OpenQuote) → ArePlain (whole line ∷ string (codes "ok") ∷ open_quote_values quote)
open_quote_plain line quote =
    (refl, (refl, (refl, (refl, (priced_plain quote.problem.tokens quote.prices, (route_plain quote.problem.pools quote.route.legs, tt))))))

answer_plain : (line : ℕ) (answer : Answer) → ArePlain (whole line ∷ verdict answer)
answer_plain line (answers.Refused code) = (refl, (refl, (refl, (refl, tt))))
answer_plain line (answers.Deposit balance total) = (refl, (refl, (refl, (refl, tt))))
answer_plain line (answers.Withdraw balance total) = (refl, (refl, (refl, (refl, tt))))
answer_plain line answers.Transfer = (refl, (refl, tt))
answer_plain line answers.Time = (refl, (refl, tt))
answer_plain line answers.FeeTo = (refl, (refl, tt))
answer_plain line answers.Setter = (refl, (refl, tt))
answer_plain line (answers.Create pool) = (refl, (refl, (refl, tt)))
answer_plain line (answers.Mint receipt) = (refl, (refl, (refl, (refl, tt))))
answer_plain line (answers.Burn receipt) = (refl, (refl, (refl, (refl, (refl, tt)))))
answer_plain line (answers.Swap receipt) = (refl, (refl, (refl, (refl, (refl, (refl, tt))))))
answer_plain line (answers.Skim receipt) = (refl, (refl, (refl, (refl, tt))))
answer_plain line (answers.Flash receipt) = (refl, (refl, (refl, (refl, (refl, (refl, tt))))))
answer_plain line (answers.Sync r0 r1) = (refl, (refl, (refl, (refl, tt))))
answer_plain line (answers.Add receipt) = (refl, (refl, (refl, (refl, (refl, tt)))))
answer_plain line (answers.Remove receipt) = (refl, (refl, (refl, (refl, tt))))
answer_plain line (answers.SwapIn amounts) = (refl, (refl, (amounts_plain amounts, tt)))
answer_plain line (answers.SwapOut amounts) = (refl, (refl, (amounts_plain amounts, tt)))
answer_plain line (answers.QuoteOut amounts) = (refl, (refl, (amounts_plain amounts, tt)))
answer_plain line (answers.QuoteIn amounts) = (refl, (refl, (amounts_plain amounts, tt)))
answer_plain line (answers.Split number quote) = (refl, (refl, (refl, (refl, (refl, (prices_plain quote, (legs_plain quote, tt)))))))
answer_plain line (answers.Settle delivered) = (refl, (refl, (refl, tt)))
answer_plain line (answers.Certificate quote) = (refl, (refl, (certificate_plain quote, tt)))
answer_plain line (answers.Pool pair b0 b1 supply) = (refl, (refl, (refl, (refl, (refl, (refl, (refl, (refl, (refl, (refl, (refl, tt)))))))))))
answer_plain line (answers.Balance n) = (refl, (refl, (refl, tt)))
answer_plain line (answers.Total n) = (refl, (refl, (refl, tt)))
answer_plain line (answers.Observe number observation) = (refl, (refl, (refl, (refl, (refl, (refl, tt))))))
answer_plain line (answers.Average averages) = (refl, (refl, (refl, (refl, tt))))
answer_plain line (answers.Consult n) = (refl, (refl, (refl, tt)))
answer_plain line (answers.Basket quote) = open_quote_plain line quote
answer_plain line (answers.Cycle quote) = open_quote_plain line quote
answer_plain line (answers.Window found) = (refl, (refl, (refl, (refl, (refl, (refl, tt))))))

pub reply_plain : (reply : Reply) → has_float (reply_value reply) ≡ false
reply_plain reply = list_plain (whole reply.line ∷ verdict reply.answer) (answer_plain reply.line reply.answer)
