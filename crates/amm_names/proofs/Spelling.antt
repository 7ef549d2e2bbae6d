-- A spelling tells its pool.
use Rattle.std.proofs.Common.{◌≡◌, refl, sym, ◌∙◌, ap, ◌⊎◌, inl, inr, ℕ, Bool, true, false, ◌+◌, ◌||◌, ◌==◌, not, List, [], ◌∷◌, ◌++◌, length}
use Rattle.std.specs.Prelude.{IsTrue, if◌then◌else◌}
use Rattle.std.proofs.lemmas.Bool.{true≢false, eqb-true}
use Rattle.std.specs.List.{list_all, position_or_len, before_first, after_first}
use Rattle.std.specs.Cmp.{first_so, second_so}
use Rattle.std.proofs.Math.Seq.{take-append_seam, drop-append-add, take-length}
use Rattle.std.proofs.lemmas.List.{drop_all, append-nil}
use Rattle.std.proofs.Math.Numerals.{one-add}
use Rattle.std.proofs.Math.Nat.{le-add_right}
use Rattle.std.proofs.lemmas.Slice.Eq.{bytes_eq-Decides}
use Rattle.std.specs.Str.{bytes_eq}
use Rattle.amm_names.specs.Names.{is_upper, is_digit, is_token_name}
use Rattle.amm_names.specs.Pools.{pool_spelling, fee_spelling, fee_of_digits, is_before, is_pool_name, pool_token0, pool_token1, pool_fee, is_fee}

-- what a pool is made of
pub record IsPool (token0 token1 : List ℕ) (fee : ℕ) : Type 0 where
  pub first : IsTrue (is_token_name token0)
  pub second : IsTrue (is_token_name token1)
  pub ascending : IsTrue (is_before token0 token1)
  pub at_a_fee : IsTrue (is_fee fee)

-- a byte of a token is neither a slash nor a colon
abbrev pub is_token_byte : ℕ → Bool
is_token_byte b = is_upper b || is_digit b

stops_not : (stop : ℕ) → is_token_byte stop ≡ false → (b : ℕ) → is_token_byte b ≡ true → not (b == stop) ≡ true
stops_not stop differs b holds = by (b == stop) refl
  where
    by : (e : Bool) → (b == stop) ≡ e → not e ≡ true
    by true e = absurd (true≢false (sym holds ∙ ap is_token_byte (eqb-true b stop e) ∙ differs))
    by false e = refl

all_free : (stop : ℕ) → is_token_byte stop ≡ false → (bytes : List ℕ) → list_all is_token_byte bytes ≡ true → list_all (λ b. not (b == stop)) bytes ≡ true
all_free stop differs [] all = refl
all_free stop differs (b ∷ bytes) all = rw (stops_not stop differs b (first_so (is_token_byte b) (list_all is_token_byte bytes) all), all_free stop differs bytes (second_so (is_token_byte b) (list_all is_token_byte bytes) all)) refl

upper_so : (b : ℕ) → is_upper b ≡ true → is_token_byte b ≡ true
upper_so b holds = rw holds refl

pub token_bytes : (bytes : List ℕ) → IsTrue (is_token_name bytes) → list_all is_token_byte bytes ≡ true
token_bytes [] holds = refl
token_bytes (c ∷ cs) holds = rw (upper_so c (first_so (is_upper c) _ holds), second_so _ (list_all is_token_byte cs) (second_so (is_upper c) _ holds)) refl

module _ (p : ℕ → Bool) where
  place_at : (xs : List ℕ) (y : ℕ) (ys : List ℕ) → list_all (λ b. not (p b)) xs ≡ true → p y ≡ true → position_or_len p (xs ++ y ∷ ys) ≡ length xs
  place_at [] y ys free stop = rw stop refl
  place_at (x ∷ xs) y ys free stop =
      rw (first_so (not (p x)) (list_all (λ b. not (p b)) xs) free, place_at xs y ys (second_so (not (p x)) (list_all (λ b. not (p b)) xs) free) stop) (one-add (length xs))

  place_none : (xs : List ℕ) → list_all (λ b. not (p b)) xs ≡ true → position_or_len p xs ≡ length xs
  place_none [] free = refl
  place_none (x ∷ xs) free =
      rw (first_so (not (p x)) (list_all (λ b. not (p b)) xs) free, place_none xs (second_so (not (p x)) (list_all (λ b. not (p b)) xs) free)) (one-add (length xs))

  pub before_stop : (xs : List ℕ) (y : ℕ) (ys : List ℕ) → list_all (λ b. not (p b)) xs ≡ true → p y ≡ true → before_first p (xs ++ y ∷ ys) ≡ xs
  before_stop xs y ys free stop = rw (place_at xs y ys free stop) (take-append_seam xs (y ∷ ys))

  pub after_stop : (xs : List ℕ) (y : ℕ) (ys : List ℕ) → list_all (λ b. not (p b)) xs ≡ true → p y ≡ true → after_first p (xs ++ y ∷ ys) ≡ ys
  after_stop xs y ys free stop = rw (place_at xs y ys free stop) (drop-append-add xs (y ∷ ys) 1)

  pub before_none : (xs : List ℕ) → list_all (λ b. not (p b)) xs ≡ true → before_first p xs ≡ xs
  before_none xs free = rw (place_none xs free) (take-length xs)

  pub after_none : (xs : List ℕ) → list_all (λ b. not (p b)) xs ≡ true → after_first p xs ≡ []
  after_none xs free = rw (place_none xs free) (drop_all (length xs + 1) xs (le-add_right (length xs) 1))

free_of : (stop : ℕ) → is_token_byte stop ≡ false → (bytes : List ℕ) → IsTrue (is_token_name bytes) → list_all (λ b. not (b == stop)) bytes ≡ true
free_of stop differs bytes token = all_free stop differs bytes (token_bytes bytes token)

pub fee_cases : (fee : ℕ) → IsTrue (is_fee fee) → (fee ≡ 1) ⊎ (fee ≡ 3) ⊎ (fee ≡ 10)
fee_cases fee holds = by (fee == 1) (fee == 3) (fee == 10) refl refl refl holds
  where
    by : (x y z : Bool) → (fee == 1) ≡ x → (fee == 3) ≡ y → (fee == 10) ≡ z → (x || (y || z)) ≡ true → (fee ≡ 1) ⊎ (fee ≡ 3) ⊎ (fee ≡ 10)
    by true y z e f g h = inl (eqb-true fee 1 e)
    by false true z e f g h = inr (inl (eqb-true fee 3 f))
    by false false true e f g h = inr (inr (eqb-true fee 10 g))
    by false false false e f g h = absurd (true≢false (sym h))

-- the second token and the fee, from what stands behind the slash
token1_of_tail : (b : List ℕ) (fee : ℕ) → IsTrue (is_token_name b) → (fee ≡ 1) ⊎ (fee ≡ 3) ⊎ (fee ≡ 10) → before_first (λ x. x == 58) (b ++ fee_spelling fee) ≡ b
token1_of_tail b fee token (inl e) = rw e (before_stop (λ x. x == 58) b 58 (49 ∷ []) (free_of 58 refl b token) refl)
token1_of_tail b fee token (inr (inl e)) = rw (e, append-nil b) (before_none (λ x. x == 58) b (free_of 58 refl b token))
token1_of_tail b fee token (inr (inr e)) = rw e (before_stop (λ x. x == 58) b 58 (49 ∷ 48 ∷ []) (free_of 58 refl b token) refl)

fee_of_tail : (b : List ℕ) (fee : ℕ) → IsTrue (is_token_name b) → (fee ≡ 1) ⊎ (fee ≡ 3) ⊎ (fee ≡ 10) → fee_of_digits (after_first (λ x. x == 58) (b ++ fee_spelling fee)) ≡ fee
fee_of_tail b fee token (inl e) = rw (e, after_stop (λ x. x == 58) b 58 (49 ∷ []) (free_of 58 refl b token) refl) refl
fee_of_tail b fee token (inr (inl e)) = rw (e, append-nil b, after_none (λ x. x == 58) b (free_of 58 refl b token)) refl
fee_of_tail b fee token (inr (inr e)) = rw (e, after_stop (λ x. x == 58) b 58 (49 ∷ 48 ∷ []) (free_of 58 refl b token) refl) refl

module _ (a b : List ℕ) (fee : ℕ) (pool : IsPool a b fee) where
  pub tail_of_spelling : after_first (λ x. x == 47) (pool_spelling a b fee) ≡ b ++ fee_spelling fee
  tail_of_spelling = after_stop (λ x. x == 47) a 47 (b ++ fee_spelling fee) (free_of 47 refl a pool.first) refl

  pub token0_of_spelling : pool_token0 (pool_spelling a b fee) ≡ a
  unfolding pool_token0
  token0_of_spelling = before_stop (λ x. x == 47) a 47 (b ++ fee_spelling fee) (free_of 47 refl a pool.first) refl

  pub token1_of_spelling : pool_token1 (pool_spelling a b fee) ≡ b
  unfolding pool_token1
  token1_of_spelling = rw tail_of_spelling (token1_of_tail b fee pool.second (fee_cases fee pool.at_a_fee))

  pub fee_of_spelling : pool_fee (pool_spelling a b fee) ≡ fee
  unfolding pool_fee
  fee_of_spelling = rw tail_of_spelling (fee_of_tail b fee pool.second (fee_cases fee pool.at_a_fee))

  pub spelling_names_pool : IsTrue (is_pool_name (pool_spelling a b fee))
  unfolding is_pool_name
  spelling_names_pool = rw (token0_of_spelling, token1_of_spelling, fee_of_spelling, pool.first, pool.second, pool.ascending) ((bytes_eq-Decides (pool_spelling a b fee) (pool_spelling a b fee)).1 refl)

-- a name's parts are a pool, and spell the name
fee_so : (digits : List ℕ) → IsTrue (is_fee (fee_of_digits digits))
fee_so digits = by (bytes_eq digits (49 ∷ [])) (bytes_eq digits (49 ∷ 48 ∷ []))
  where
    by : (x y : Bool) → IsTrue (is_fee (if x then 1 else (if y then 10 else 3)))
    by true y = refl
    by false true = refl
    by false false = refl

module _ (bytes : List ℕ) (name : IsTrue (is_pool_name bytes)) where
  pub parts_are_pool : IsPool (pool_token0 bytes) (pool_token1 bytes) (pool_fee bytes)
  unfolding is_pool_name pool_fee
  parts_are_pool =
      let behind = second_so (is_token_name (pool_token0 bytes)) _ name in
      record {
        first = first_so (is_token_name (pool_token0 bytes)) _ name;
        second = first_so (is_token_name (pool_token1 bytes)) _ behind;
        ascending = first_so (is_before (pool_token0 bytes) (pool_token1 bytes)) _ (second_so (is_token_name (pool_token1 bytes)) _ behind);
        at_a_fee = fee_so (after_first (λ b. b == 58) (after_first (λ b. b == 47) bytes));
      }

  pub parts_spell : bytes ≡ pool_spelling (pool_token0 bytes) (pool_token1 bytes) (pool_fee bytes)
  unfolding is_pool_name
  parts_spell =
      let behind = second_so (is_token_name (pool_token0 bytes)) _ name in
      let last = second_so (is_before (pool_token0 bytes) (pool_token1 bytes)) _ (second_so (is_token_name (pool_token1 bytes)) _ behind) in
      (bytes_eq-Decides bytes (pool_spelling (pool_token0 bytes) (pool_token1 bytes) (pool_fee bytes))).0 last
