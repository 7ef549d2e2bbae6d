-- What is known of a quote that is kept.
use Rattle.std.proofs.Common.{◌≡◌, ℕ, zero, suc, List, Some, subst}
use Rattle.std.specs.Prelude.{All}
use Rattle.std.proofs.lemmas.Option.{slice_get_within, get_or_from_slice_get}
use Rattle.amm_model.specs.declared.route.Quote.{Quote}
use Rattle.amm_model.specs.Ledger.{quote_of}

-- what holds of each quote holds of the one with a number
pub quote_has : (P : Quote → Type 0) (quotes : List Quote) (number : ℕ) (quote : Quote) → All P quotes → quote_of quotes number ≡ Some quote → P quote
quote_has P quotes zero quote each is = cc
quote_has P quotes (suc before) quote each is =
    subst P (get_or_from_slice_get quotes before quote quote is) (each before quote (slice_get_within quotes before quote is))
