-- The verdicts of replies: what a reply says of its line, and how many say so.
use Rattle.std.specs.Prelude.{ℕ, ◌+◌, List, [], ◌∷◌, map, Bool, Option, Some, None, if◌then◌else◌}
use Rattle.std.specs.Option.{is_some}
use Rattle.amm_model.specs.declared.fault.Refusal.{Refusal}
use Rattle.amm_model.specs.declared.reply.Answer.{Answer}
use Rattle.amm_model.specs.declared.reply.Answer.TheVariants as answers
use Rattle.amm_model.specs.declared.reply.Reply.{Reply}

-- The code of an answer that refuses its line.
abbrev pub refusal_in : Answer → Option Refusal
refusal_in (answers.Refused why) = Some why
refusal_in answer = None

-- What a reply says of its line: the line's number, and the code if the line is refused.
abbrev pub verdict_of : Reply → ℕ × Option Refusal
verdict_of reply = (reply.line, refusal_in reply.answer)

-- The verdicts of replies, in their order.
abbrev pub verdicts_of : List Reply → List (ℕ × Option Refusal)
verdicts_of replies = map verdict_of replies

-- Whether a reply refuses its line.
abbrev pub is_refused : Reply → Bool
is_refused reply = is_some (refusal_in reply.answer)

-- How many replies accept their line, and how many refuse it.
abbrev pub accepted_in : List Reply → ℕ
accepted_in [] = 0
accepted_in (reply ∷ replies) = (if is_refused reply then 0 else 1) + accepted_in replies

abbrev pub refused_in : List Reply → ℕ
refused_in [] = 0
refused_in (reply ∷ replies) = (if is_refused reply then 1 else 0) + refused_in replies
