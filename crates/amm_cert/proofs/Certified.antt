-- The text of a quote is a certificate of it.
use Rattle.std.proofs.Common.{◌≡◌, ℕ, ◌+◌, ◌<◌, ◌≤◌, ◌^◌, inl, inr, List, [], ◌∷◌, length, get_or, map, Bool, true, false, decimal, refl, subst, arith}
use Rattle.std.specs.Prelude.{IsTrue, codes, Contains, if◌then◌else◌}
use Rattle.std.specs.List.{All, AllByRecursion, zip}
use Rattle.std.proofs.lemmas.Str.{IsUtf8-from_ascii}
use Rattle.std.proofs.lemmas.Fmt.{IsAscii-decimal_wide}
use Rattle.json.proofs.Printed.Utf8.{IsUtf8-are_ascii}
use Rattle.serde_json.specs.Data.{Data, string, depth, items_depth}
use Rattle.serde_json.specs.View.{items_of}
use Rattle.serde_json.specs.Written.{compact_text}
use Rattle.amm_names.specs.Names.{is_token_name, Name}
use Rattle.amm_names.specs.Pools.{is_pool_name}
use Rattle.amm_names.proofs.Spelling.{parts_are_pool}
use Rattle.amm_model.specs.declared.problem.ProblemPool.{ProblemPool}
use Rattle.amm_model.specs.declared.route.Leg.{Leg}
use Rattle.amm_model.specs.declared.route.Quote.{Quote}
use Rattle.amm_model.specs.Json.{list, whole, wide}
use Rattle.amm_model.specs.Routing.{ProblemView, IsProblem, no_pool, one_part, token0_of, token1_of, tokens_of_pools, tokens_named}
use Rattle.amm_model.proofs.Problems.{no_part}
use Rattle.amm_model.specs.Legs.{leg_pool, token_in}
use Rattle.amm_model.specs.Certificate.{pool_value, price_value, leg_value, prices_value, legs_value, versioned_value, certificate_text, IsVersionFor, IsWritable, IsCertifiable, IsCertificateOf}
use Rattle.amm_model.specs.SplitAnswers.{IsSplitAnswer}
use Rattle.amm_model.proofs.Certifiable.{split_certifiable}
use Rattle.amm_cert.proofs.Plain.{IsPlain, ArePlain}
use Rattle.amm_cert.proofs.Ascii.{IsUtf8-token, IsUtf8-pool}
use Rattle.amm_cert.proofs.Forms.{by_items}
use Rattle.amm_cert.proofs.ReadBack.{json_value-compact_text}
use Rattle.std.proofs.lemmas.List.Elements.{All-from_recursion}
use Rattle.std.proofs.lemmas.List.{get_or_default}

-- ---- the tokens of a problem are names of tokens

abbrev pub IsToken : Name → Type 0
IsToken name = IsTrue (is_token_name name)

pool_tokens : (pools : List ProblemPool) → AllByRecursion (λ (pool : ProblemPool). IsTrue (is_pool_name pool.name)) pools → AllByRecursion IsToken (tokens_of_pools pools)
pool_tokens [] all = tt
pool_tokens (pool ∷ pools) all = let parts = parts_are_pool pool.name all.0 in (parts.first, (parts.second, pool_tokens pools all.1))

has_of : {X : Type 0} (P : X → Type 0) (xs : List X) (x : X) → All P xs → Contains xs x → P x
has_of P xs x all (k, below, is) = subst P is (all k x below)

pub tokens_are : (problem : ProblemView) → IsProblem problem → All IsToken problem.tokens
tokens_are problem sound k d below =
    let names : List Name = tokens_named (one_part problem.s problem.d) problem.t problem.pools in
    let named : All IsToken names = All-from_recursion IsToken names
    (sound.spelled.target, (sound.spelled.sources 0 no_part (omega arith), pool_tokens problem.pools (by_items (λ (pool : ProblemPool). IsTrue (is_pool_name pool.name)) problem.pools sound.spelled.each))) in
    let token = get_or problem.tokens k d in
    has_of IsToken names token named ((sound.tokens token).0 (k, below, there k below))
  where
    there : (k : ℕ) → k < length problem.tokens → get_or problem.tokens k (get_or problem.tokens k d) ≡ get_or problem.tokens k d
    there k below = get_or_default problem.tokens k (get_or problem.tokens k d) d below

-- ---- plain values

plain_each : {X : Type 0} (v : X → Data) (xs : List X) → AllByRecursion (λ x. IsPlain (v x)) xs → ArePlain (items_of (map v xs))
plain_each v [] all = tt
plain_each v (x ∷ xs) all = (all.0, plain_each v xs all.1)

plain_prices : (tokens : List Name) (ps : List ℕ) → AllByRecursion IsToken tokens → AllByRecursion (λ (p : ℕ). (1 ≤ p) × (p < 2 ^ 40)) ps → ArePlain (items_of (map price_value (zip tokens ps)))
plain_prices [] ps names prices = tt
plain_prices (token ∷ tokens) [] names prices = tt
plain_prices (token ∷ tokens) (p ∷ ps) names prices =
    let small : p < 2 ^ 64 = omega (arith, prices.0) in
    ((IsUtf8-token token names.0, (small, tt)), plain_prices tokens ps names.1 prices.1)

plain_pools : (problem : ProblemView) → IsProblem problem → All (λ pool. IsPlain (pool_value pool)) problem.pools
plain_pools problem sound k d below =
    let r = sound.parts.reserves k d below in
    let b = sound.parts.balances k d below in
    let pool = get_or problem.pools k d in
    let r0 : pool.r0 < 2 ^ 64 = omega (arith, r.1) in
    let r1 : pool.r1 < 2 ^ 64 = omega (arith, r.3) in
    let b0 : pool.b0 < 2 ^ 64 = omega (arith, b.1) in
    let b1 : pool.b1 < 2 ^ 64 = omega (arith, b.3) in
    (IsUtf8-pool pool.name (sound.spelled.each k d below), (r0, (r1, (b0, (b1, tt)))))

pub token_in_is : (pools : List ProblemPool) (leg : Leg) → IsTrue (is_pool_name (leg_pool pools leg).name) → IsToken (token_in pools leg)
token_in_is pools leg name = side leg.zero_in
  where
    side : (zero_in : Bool) → IsToken (if zero_in then token0_of (leg_pool pools leg) else token1_of (leg_pool pools leg))
    side true = (parts_are_pool (leg_pool pools leg).name name).first
    side false = (parts_are_pool (leg_pool pools leg).name name).second

plain_legs : (q : Quote) → IsProblem q.problem → IsWritable q → All (λ leg. IsPlain (leg_value q.problem.pools leg)) q.route.legs
plain_legs q sound ok k d below =
    let leg = get_or q.route.legs k d in
    let name = sound.spelled.each leg.pool no_pool (ok.there k d below) in
    let a = ok.amounts k d below in
    let input : leg.input < 2 ^ 64 = omega (arith, a.0) in
    let output : leg.output < 2 ^ 64 = omega (arith, a.1) in
    (IsUtf8-pool (leg_pool q.problem.pools leg).name name, (IsUtf8-token (token_in q.problem.pools leg) (token_in_is q.problem.pools leg name), (input, (output, tt))))

version_small : (v : ℕ) (pools : List ProblemPool) → IsVersionFor v pools → v < 2 ^ 64
version_small v pools (inl h) = omega (arith, h.0)
version_small v pools (inr h) = omega (arith, h)

plain_quote : (v : ℕ) (q : Quote) → IsVersionFor v q.problem.pools → IsCertifiable q → IsPlain (versioned_value v q)
plain_quote v q known ok =
    let p = q.problem in
    let sound : IsProblem p = ok.problem in
    let d : p.d < 2 ^ 64 = omega (arith, (sound.parts.amounts 0 no_part (omega arith)).1) in (
      IsUtf8-are_ascii (codes "amm-split-certificate") refl,
      (
        version_small v p.pools known,
        (
          IsUtf8-token p.s (sound.spelled.sources 0 no_part (omega arith)),
          (
            IsUtf8-token p.t sound.spelled.target,
            (
              d,
              (
                plain_each pool_value p.pools (by_items (λ pool. IsPlain (pool_value pool)) p.pools (plain_pools p sound)),
                (
                  plain_prices p.tokens q.prices (by_items IsToken p.tokens (tokens_are p sound)) (by_items (λ (x : ℕ). (1 ≤ x) × (x < 2 ^ 40)) q.prices ok.prices),
                  (
                    plain_each (leg_value p.pools) q.route.legs (by_items (λ leg. IsPlain (leg_value p.pools leg)) q.route.legs (plain_legs q sound ok.writable)),
                    (ok.delivered, (IsUtf8-from_ascii (decimal q.bound) (IsAscii-decimal_wide q.bound (omega (arith, ok.bound))), tt)),
                  ),
                ),
              ),
            ),
          ),
        ),
      ),
    )

-- ---- how deep they nest

depth_each : (n : ℕ) (ds : List Data) → AllByRecursion (λ d. depth d ≤ n) ds → items_depth (items_of ds) ≤ n
depth_each n [] all = omega arith
depth_each n (d ∷ ds) all = omega (arith, all.0, depth_each n ds all.1)

depth_rows : {X : Type 0} (n : ℕ) (v : X → Data) → ((x : X) → depth (v x) ≤ n) → (xs : List X) → items_depth (items_of (map v xs)) ≤ n
depth_rows n v flat [] = omega arith
depth_rows n v flat (x ∷ xs) = omega (arith, flat x, depth_rows n v flat xs)

row_depth : (n : ℕ) (ds : List Data) → AllByRecursion (λ d. depth d ≤ n) ds → depth (list ds) ≤ n + 1
row_depth n ds all = omega (arith, depth_each n ds all)

list_depth : {X : Type 0} (n : ℕ) (v : X → Data) → ((x : X) → depth (v x) ≤ n) → (xs : List X) → depth (list (map v xs)) ≤ n + 1
list_depth n v flat xs = omega (arith, depth_rows n v flat xs)

shallow : (v : ℕ) (q : Quote) → depth (versioned_value v q) ≤ 127
shallow v q =
    let zero_low : 0 ≤ 2 = omega arith in
    let pools : depth (list (map pool_value q.problem.pools)) ≤ 2 = list_depth 1 pool_value (λ pool. omega arith) q.problem.pools in
    let prices : depth (prices_value q) ≤ 2 = list_depth 1 price_value (λ p. omega arith) (zip q.problem.tokens q.prices) in
    let legs : depth (legs_value q) ≤ 2 = list_depth 1 (leg_value q.problem.pools) (λ leg. omega arith) q.route.legs in
    let all : depth (versioned_value v q) ≤ 3 =
    row_depth 2 (string (codes "amm-split-certificate") ∷ whole v ∷ string q.problem.s ∷ string q.problem.t ∷ whole q.problem.d ∷ list (map pool_value q.problem.pools) ∷ prices_value q ∷ legs_value q ∷ whole q.delivered ∷ wide q.bound ∷ [])
    (zero_low, (zero_low, (zero_low, (zero_low, (zero_low, (pools, (prices, (legs, (zero_low, (zero_low, tt)))))))))) in
    omega (arith, all)

-- ---- the laws

-- the compact text in a version that the pools may be written in
pub text_certifies : (v : ℕ) (q : Quote) → IsVersionFor v q.problem.pools → IsCertifiable q → IsCertificateOf (compact_text (versioned_value v q)) q
text_certifies v q known ok = record {
  value = versioned_value v q;
  text = json_value-compact_text (versioned_value v q) (plain_quote v q known ok) (shallow v q);
  of_quote = record { version = v; known = known; spelled = refl; sound = ok };
}

-- the text that is written
pub written_certifies : (q : Quote) → IsCertifiable q → IsCertificateOf (certificate_text q) q
unfolding certificate_text
written_certifies q ok = text_certifies 2 q (inr refl) ok

-- the text of an answer to a split
pub answer_certifies : (q : Quote) → IsSplitAnswer q → IsCertificateOf (certificate_text q) q
answer_certifies q split = written_certifies q (split_certifiable q split)
