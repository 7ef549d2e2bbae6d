-- Names are ASCII, and so they are UTF-8.
use Rattle.std.proofs.Common.{◌≡◌, refl, sym, subst, ◌⊎◌, inl, inr, ◌++◌, nat_lt, ℕ, zero, suc, ◌<◌, List, [], ◌∷◌, Bool, true, ◌||◌, ◌==◌, arith, slice_index}
use Rattle.std.specs.Prelude.{IsTrue}
use Rattle.std.proofs.lemmas.Bool.Decides.{nat_tests}
use Rattle.std.specs.Cmp.{first_so, second_so}
use Rattle.std.specs.List.{list_all}
use Rattle.std.specs.Str.{IsAscii, IsUtf8}
use Rattle.std.proofs.lemmas.Str.{IsUtf8-from_ascii, IsUtf8-append}
use Rattle.amm_names.specs.Pools.{pool_spelling, fee_spelling, is_pool_name, pool_token0, pool_token1, pool_fee}
use Rattle.amm_names.proofs.Spelling.{IsPool, fee_cases, parts_spell, parts_are_pool}
use Rattle.amm_names.specs.Names.{is_upper, is_lower, is_digit, is_token_name, is_user_name}

ascii_first : (b : ℕ) (bs : List ℕ) → b < 128 → IsAscii bs → (i : ℕ) → slice_index (b ∷ bs) i < 128
ascii_first b bs h rest zero = h
ascii_first b bs h rest (suc i) = rest i

IsAscii-list_all : (p : ℕ → Bool) → ((b : ℕ) → p b ≡ true → b < 128) → (bs : List ℕ) → list_all p bs ≡ true → IsAscii bs
IsAscii-list_all p below [] e = λ i. omega arith
IsAscii-list_all p below (b ∷ bs) e =
    ascii_first b bs (below b (first_so (p b) (list_all p bs) e)) (IsAscii-list_all p below bs (second_so (p b) (list_all p bs) e))

token_byte : (b : ℕ) → (is_upper b || is_digit b) ≡ true → b < 128
token_byte b e = grind (arith, nat_tests)

user_byte : (b : ℕ) → (is_lower b || (is_digit b || b == 95)) ≡ true → b < 128
user_byte b e = grind (arith, nat_tests)

lower_byte : (b : ℕ) → is_lower b ≡ true → b < 128
lower_byte b e = grind (arith, nat_tests)

upper_byte : (b : ℕ) → is_upper b ≡ true → b < 128
upper_byte b e = grind (arith, nat_tests)

pub IsUtf8-token : (bs : List ℕ) → IsTrue (is_token_name bs) → IsUtf8 bs
IsUtf8-token [] e = IsUtf8-from_ascii [] (λ i. omega arith)
IsUtf8-token (b ∷ bs) e =
    IsUtf8-from_ascii (b ∷ bs) (ascii_first b bs (upper_byte b (first_so (is_upper b) _ e)) (IsAscii-list_all _ token_byte bs (second_so _ _ (second_so (is_upper b) _ e))))

pub IsUtf8-user : (bs : List ℕ) → IsTrue (is_user_name bs) → IsUtf8 bs
IsUtf8-user [] e = IsUtf8-from_ascii [] (λ i. omega arith)
IsUtf8-user (b ∷ bs) e =
    IsUtf8-from_ascii (b ∷ bs) (ascii_first b bs (lower_byte b (first_so (is_lower b) _ e)) (IsAscii-list_all _ user_byte bs (second_so _ _ (second_so (is_lower b) _ e))))

-- ASCII bytes, tested one by one
abbrev is_ascii_byte : ℕ → Bool
is_ascii_byte b = nat_lt b 128

ascii_byte : (b : ℕ) → is_ascii_byte b ≡ true → b < 128
ascii_byte b e = grind (arith, nat_tests)

IsUtf8-plain : (bs : List ℕ) → list_all is_ascii_byte bs ≡ true → IsUtf8 bs
IsUtf8-plain bs e = IsUtf8-from_ascii bs (IsAscii-list_all is_ascii_byte ascii_byte bs e)

IsUtf8-fee : (fee : ℕ) → (fee ≡ 1) ⊎ (fee ≡ 3) ⊎ (fee ≡ 10) → IsUtf8 (fee_spelling fee)
IsUtf8-fee fee (inl e) = rw e (IsUtf8-plain (58 ∷ 49 ∷ []) refl)
IsUtf8-fee fee (inr (inl e)) = rw e (IsUtf8-plain [] refl)
IsUtf8-fee fee (inr (inr e)) = rw e (IsUtf8-plain (58 ∷ 49 ∷ 48 ∷ []) refl)

pub IsUtf8-spelling : (a b : List ℕ) (fee : ℕ) → IsPool a b fee → IsUtf8 (pool_spelling a b fee)
IsUtf8-spelling a b fee pool =
    let tail : IsUtf8 (b ++ fee_spelling fee) = IsUtf8-append b (fee_spelling fee) (IsUtf8-token b pool.second) (IsUtf8-fee fee (fee_cases fee pool.at_a_fee)) in
    IsUtf8-append a (47 ∷ (b ++ fee_spelling fee)) (IsUtf8-token a pool.first) (IsUtf8-append (47 ∷ []) (b ++ fee_spelling fee) (IsUtf8-plain (47 ∷ []) refl) tail)

pub IsUtf8-pool : (bs : List ℕ) → IsTrue (is_pool_name bs) → IsUtf8 bs
IsUtf8-pool bs name = subst IsUtf8 (sym (parts_spell bs name)) (IsUtf8-spelling (pool_token0 bs) (pool_token1 bs) (pool_fee bs) (parts_are_pool bs name))
