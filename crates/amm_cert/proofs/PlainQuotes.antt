-- A certificate has no float.
use Rattle.std.proofs.Common.{◌≡◌, ℕ, false, List, [], ◌∷◌, map, refl}
use Rattle.std.specs.List.{zip}
use Rattle.std.specs.Prelude.{codes}
use Rattle.serde_json.specs.Data.{Data, string}
use Rattle.serde_json.specs.Written.{has_float}
use Rattle.amm_names.specs.Names.{Name}
use Rattle.amm_model.specs.declared.problem.ProblemPool.{ProblemPool}
use Rattle.amm_model.specs.declared.route.Leg.{Leg}
use Rattle.amm_model.specs.declared.route.Quote.{Quote}
use Rattle.amm_model.specs.Json.{whole, wide, list}
use Rattle.amm_model.specs.Certificate.{pool_value, price_value, leg_value, prices_value, legs_value, priced_tokens_value, route_value, certificate_value}
use Rattle.amm_text.proofs.Sent.{list_plain, all_plain}

each_plain : {X : Type 0} (value : X → Data) → ((x : X) → has_float (value x) ≡ false) → (xs : List X) → has_float (list (map value xs)) ≡ false
each_plain value each xs = list_plain (map value xs) (all_plain value each xs)

pub priced_plain : (tokens : List Name) (prices : List ℕ) → has_float (priced_tokens_value tokens prices) ≡ false
priced_plain tokens prices = each_plain price_value (λ _. refl) (zip tokens prices)

pub route_plain : (pools : List ProblemPool) (legs : List Leg) → has_float (route_value pools legs) ≡ false
route_plain pools legs = each_plain (leg_value pools) (λ _. refl) legs

pub prices_plain : (quote : Quote) → has_float (prices_value quote) ≡ false
prices_plain quote = priced_plain quote.problem.tokens quote.prices

pub legs_plain : (quote : Quote) → has_float (legs_value quote) ≡ false
legs_plain quote = route_plain quote.problem.pools quote.route.legs

abbrev values : Quote → List Data
values quote =
    string (codes "amm-split-certificate") ∷ whole 2 ∷ string quote.problem.s ∷ string quote.problem.t ∷ whole quote.problem.d
    ∷ list (map pool_value quote.problem.pools) ∷ prices_value quote ∷ legs_value quote ∷ whole quote.delivered ∷ wide quote.bound ∷ []

pub certificate_plain : (quote : Quote) → has_float (certificate_value quote) ≡ false
certificate_plain quote =
    list_plain (values quote) (refl, (refl, (refl, (refl, (refl, (each_plain pool_value (λ _. refl) quote.problem.pools, (prices_plain quote, (legs_plain quote, (refl, (refl, tt))))))))))
