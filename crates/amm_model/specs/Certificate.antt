-- Certificates: a quote as JSON, from which anybody can check it.
use Rattle.std.specs.Prelude.{ℕ, ◌≡◌, ◌<◌, ◌≤◌, ◌^◌, ◌⊎◌, List, [], ◌∷◌, map, length, codes, All, Some}
use Rattle.std.specs.List.{zip}
use Rattle.serde_json.specs.Data.{Data, string}
use Rattle.serde_json.specs.Written.{compact_text}
use Rattle.amm_names.specs.Names.{Name}
use Rattle.amm_model.specs.declared.problem.ProblemPool.{ProblemPool}
use Rattle.amm_model.specs.declared.route.Leg.{Leg}
use Rattle.amm_model.specs.declared.route.Quote.{Quote}
use Rattle.amm_model.specs.Routing.{ArePrices, IsProblem, fee_of}
use Rattle.amm_model.specs.Legs.{leg_pool, token_in}
use Rattle.amm_model.specs.declared.limits.TheConstants.{AMOUNT_LIMIT, PAIR_LIMIT}
use Rattle.amm_model.specs.Json.{whole, wide, list, json_value}

-- a pool with its reserves and balances
abbrev pub pool_value : ProblemPool → Data
pool_value pool = list (string pool.name ∷ whole pool.r0 ∷ whole pool.r1 ∷ whole pool.b0 ∷ whole pool.b1 ∷ [])

-- a token and its price
abbrev pub price_value : Name × ℕ → Data
price_value p = list (string p.0 ∷ whole p.1 ∷ [])

-- tokens with their prices
abbrev pub priced_tokens_value : List Name → List ℕ → Data
priced_tokens_value tokens prices = list (map price_value (zip tokens prices))

-- the tokens of the problem with their prices
abbrev pub prices_value : Quote → Data
prices_value quote = priced_tokens_value quote.problem.tokens quote.prices

-- a pool, the token that goes in, the input and the output
abbrev pub leg_value : List ProblemPool → Leg → Data
leg_value pools leg = list (string (leg_pool pools leg).name ∷ string (token_in pools leg) ∷ whole leg.input ∷ whole leg.output ∷ [])

-- the legs in the order in which they are taken
abbrev pub route_value : List ProblemPool → List Leg → Data
route_value pools legs = list (map (leg_value pools) legs)

-- the legs of a quote
abbrev pub legs_value : Quote → Data
legs_value quote = route_value quote.problem.pools quote.route.legs

-- a certificate, in a version of the format
abbrev pub versioned_value : ℕ → Quote → Data
versioned_value version quote =
    list (string (codes "amm-split-certificate") ∷ whole version ∷ string quote.problem.s ∷ string quote.problem.t ∷ whole quote.problem.d
    ∷ list (map pool_value quote.problem.pools) ∷ prices_value quote ∷ legs_value quote ∷ whole quote.delivered ∷ wide quote.bound ∷ [])

-- a certificate as it is written, in version 2
abbrev pub certificate_value : Quote → Data
certificate_value quote = versioned_value 2 quote

-- the compact text of a quote
unfoldable pub certificate_text : Quote → List ℕ
certificate_text quote = compact_text (certificate_value quote)

-- Prices and legs that can be written: a price for each token, at most 256 legs, each over one of
-- the pools with amounts of at most 2^52-1.
pub record AreWritable (tokens : List Name) (pools : List ProblemPool) (prices : List ℕ) (legs : List Leg) : Type 0 where
  pub priced : length prices ≡ length tokens
  pub few : length legs ≤ PAIR_LIMIT
  pub there : All (λ (leg : Leg). leg.pool < length pools) legs
  pub amounts : All (λ (leg : Leg). (leg.input ≤ AMOUNT_LIMIT) × (leg.output ≤ AMOUNT_LIMIT)) legs

-- A quote that can be written.
abbrev pub IsWritable : Quote → Type 0
IsWritable quote = AreWritable quote.problem.tokens quote.problem.pools quote.prices quote.route.legs

-- A version that pools may be written in: version 1 has only pools of the fee of 3, which are
-- spelled without a fee; version 2 has any.
abbrev pub IsVersionFor : ℕ → List ProblemPool → Type 0
IsVersionFor version pools = ((version ≡ 1) × All (λ (pool : ProblemPool). fee_of pool ≡ 3) pools) ⊎ (version ≡ 2)

-- A quote with a problem, prices and numbers as its types keep them, which can be written.
pub record IsCertifiable (quote : Quote) : Type 0 where
  pub problem : IsProblem quote.problem
  pub prices : ArePrices quote.prices
  pub writable : IsWritable quote
  pub delivered : quote.delivered < 2 ^ 64
  pub bound : quote.bound < 2 ^ 128

-- A JSON value that is a certificate of the quote.
pub record IsValueOf (value : Data) (quote : Quote) : Type 0 where
  pub version : ℕ
  pub known : IsVersionFor version quote.problem.pools
  pub spelled : value ≡ versioned_value version quote
  pub sound : IsCertifiable quote

-- Bytes that are a certificate of the quote: JSON, with white space or without, of such a value.
pub record IsCertificateOf (bytes : List ℕ) (quote : Quote) : Type 0 where
  pub value : Data
  pub text : json_value bytes ≡ Some value
  pub of_quote : IsValueOf value quote
