-- Names and digits stand in JSON as they are.
use Rattle.std.proofs.Common.{◌≡◌, ℕ, ◌+◌, ◌%◌, ◌^◌, ◌<◌, List, [], ◌∷◌, ◌++◌, true, refl, sym, ap, ap₂, ◌∙◌, ◌⊎◌, inl, inr, arith, decimal}
use Rattle.std.specs.Prelude.{IsTrue}
use Rattle.std.specs.List.{list_all}
use Rattle.std.specs.Cmp.{first_so, second_so}
use Rattle.std.proofs.lemmas.Bool.Decides.{nat_tests}
use Rattle.std.proofs.lemmas.Grind.{flat_map-append}
use Rattle.std.proofs.lemmas.Fmt.{decimal_by_steps_wide}
use Rattle.json.specs.Print.{escape, escape_byte}
use Rattle.json.proofs.Printed.Strings.{escape_byte_plain}
use Rattle.amm_model.specs.declared.fault.Refusal.{Refusal}
use Rattle.amm_model.specs.declared.fault.Refusal.TheVariants as refusals
use Rattle.amm_model.specs.Refusals.{refusal_word}
use Rattle.amm_names.specs.Names.{is_token_name}
use Rattle.amm_names.specs.Pools.{is_pool_name, pool_spelling, fee_spelling, pool_token0, pool_token1, pool_fee, is_fee}
use Rattle.amm_names.proofs.Spelling.{is_token_byte, token_bytes, fee_cases, parts_are_pool, parts_spell}

escape-append : (xs ys : List ℕ) → escape (xs ++ ys) ≡ escape xs ++ escape ys
escape-append xs ys = flat_map-append escape_byte xs ys

escape-digit : (n : ℕ) → n < 10 → escape ((48 + n) ∷ []) ≡ (48 + n) ∷ []
escape-digit n lt = ap (λ s. s ++ []) (escape_byte_plain (48 + n) (λ e. omega arith) (λ e. omega arith) (omega arith))

pub escape-decimal : (n : ℕ) → n < 10 ^ 64 → escape (decimal n) ≡ decimal n
escape-decimal n lt =
    decimal_by_steps_wide (λ _ s. escape s ≡ s) (λ m below. escape-digit m below)
    (λ m ds le same. escape-append ds ((48 + m % 10) ∷ []) ∙ ap₂ (λ a b. a ++ b) same (escape-digit (m % 10) (omega arith))) n lt

-- ---- names

escape_token_byte : (b : ℕ) → is_token_byte b ≡ true → escape_byte b ≡ b ∷ []
escape_token_byte b holds = escape_byte_plain b (λ e. grind (arith, nat_tests)) (λ e. grind (arith, nat_tests)) (grind (arith, nat_tests))

escape_token_bytes : (bs : List ℕ) → list_all is_token_byte bs ≡ true → escape bs ≡ bs
escape_token_bytes [] all = refl
escape_token_bytes (b ∷ bs) all =
    ap₂ (λ s t. s ++ t) (escape_token_byte b (first_so (is_token_byte b) (list_all is_token_byte bs) all)) (escape_token_bytes bs (second_so (is_token_byte b) (list_all is_token_byte bs) all))

pub escape-token : (bs : List ℕ) → IsTrue (is_token_name bs) → escape bs ≡ bs
escape-token bs name = escape_token_bytes bs (token_bytes bs name)

escape-fee : (fee : ℕ) → (fee ≡ 1) ⊎ (fee ≡ 3) ⊎ (fee ≡ 10) → escape (fee_spelling fee) ≡ fee_spelling fee
unfolding escape_byte
escape-fee fee (inl e) = rw e refl
escape-fee fee (inr (inl e)) = rw e refl
escape-fee fee (inr (inr e)) = rw e refl

escape-slash : escape_byte 47 ≡ 47 ∷ []
unfolding escape_byte
escape-slash = refl

escape-spelling : (a b : List ℕ) (fee : ℕ) → IsTrue (is_token_name a) → IsTrue (is_token_name b) → IsTrue (is_fee fee) → escape (pool_spelling a b fee) ≡ pool_spelling a b fee
escape-spelling a b fee first second at_fee =
    escape-append a (47 ∷ (b ++ fee_spelling fee))
    ∙ ap₂ (λ s t. s ++ t) (escape-token a first)
    (ap₂ (λ s t. s ++ t) escape-slash (escape-append b (fee_spelling fee) ∙ ap₂ (λ s t. s ++ t) (escape-token b second) (escape-fee fee (fee_cases fee at_fee))))

pub escape-pool : (bs : List ℕ) → IsTrue (is_pool_name bs) → escape bs ≡ bs
escape-pool bs name =
    let parts = parts_are_pool bs name in
    let spelled = parts_spell bs name in
    ap escape spelled ∙ escape-spelling (pool_token0 bs) (pool_token1 bs) (pool_fee bs) parts.first parts.second parts.at_a_fee ∙ sym spelled

-- ---- words

pub escape-word : (why : Refusal) → escape (refusal_word why) ≡ refusal_word why
unfolding escape_byte
escape-word refusals.BadJson = refl
escape-word refusals.BadCommand = refl
escape-word refusals.LongLine = refl
escape-word refusals.TokenLimit = refl
escape-word refusals.TotalLimit = refl
escape-word refusals.UnknownToken = refl
escape-word refusals.Funds = refl
escape-word refusals.TimeBack = refl
escape-word refusals.Identical = refl
escape-word refusals.PairExists = refl
escape-word refusals.PairLimit = refl
escape-word refusals.Forbidden = refl
escape-word refusals.NoPair = refl
escape-word refusals.Locked = refl
escape-word refusals.InsufficientOutputAmount = refl
escape-word refusals.InsufficientLiquidity = refl
escape-word refusals.InvalidTo = refl
escape-word refusals.InsufficientInputAmount = refl
escape-word refusals.K = refl
escape-word refusals.Overflow = refl
escape-word refusals.InsufficientLiquidityMinted = refl
escape-word refusals.InsufficientLiquidityBurned = refl
escape-word refusals.Expired = refl
escape-word refusals.InsufficientAAmount = refl
escape-word refusals.InsufficientBAmount = refl
escape-word refusals.InsufficientAmount = refl
escape-word refusals.ExcessiveInputAmount = refl
escape-word refusals.AmountLimit = refl
escape-word refusals.ZeroAmount = refl
escape-word refusals.NoRoute = refl
escape-word refusals.QuoteLimit = refl
escape-word refusals.NoQuote = refl
escape-word refusals.Stale = refl
escape-word refusals.ObservationLimit = refl
escape-word refusals.NoObservation = refl
escape-word refusals.BadWindow = refl
