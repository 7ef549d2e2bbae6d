use Rattle.std.proofs.Common.{◌≡◌, ℕ, Some}
use Rattle.exchange.specs.Work.{TellsCounts}
use Rattle.exchange.proofs.Alike.{counts_alike, tells_alike}
use Rattle.exchange.proofs.Texts.{TextsAsk-work}
use Rattle.exchange.proofs.laws.work_is_a_function_of_its_words.Goals as goal

pub returns : goal.returns
returns c = record {
  counts = λ seed count accepted refused taken declined le one two. counts_alike seed count accepted refused taken declined (c.lines_take_no_route.ensures seed count le) one two;
  line = λ texts seed count number size before after other asks again one two.
      TextsAsk-work texts seed count (λ (n c : ℕ). TellsCounts n c (Some before) other → after ≡ other) asks
      (λ there. tells_alike seed count before after other (c.lines_take_no_route.ensures seed count asks.3) one there) number size again two;
}
