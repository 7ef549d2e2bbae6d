-- A field of zeros is padded, and so is one that was written behind its bytes.
use Rattle.std.proofs.Common.{◌≡◌, refl, sym, ◌∙◌, ap, append_assoc, arith, ◌≤◌, ◌+◌, ◌-◌, ℕ, List, ◌++◌, length, take, drop}
use Rattle.std.specs.Prelude.{replicate}
use Rattle.std.proofs.lemmas.List.{drop-replicate, drop-drop, length-append, length-replicate, replicate-append-replicate, take-append-drop}
use Rattle.std.proofs.lemmas.Slice.{take-put_mid, drop-put_mid}
use Rattle.std.proofs.Math.Seq.{drop-append-add}
use borrow.Rule.Slice.PartMut.{put_mid}
use Rattle.amm_names.specs.Padded.{IsPadded, padded}

pub IsPadded-empty : (width : ℕ) → IsPadded width 0 (replicate width 0)
unfolding padded
IsPadded-empty width =
    let whole : width - 0 ≡ width = omega arith in
    record { full = refl; zeros = ap (λ n. replicate {A = ℕ} n 0) whole }

length-padded : (width : ℕ) (bytes : List ℕ) → length (padded width bytes) ≡ length bytes + (width - length bytes)
unfolding padded
length-padded width bytes = rw (length-append bytes (replicate (width - length bytes) 0), length-replicate {A = ℕ} (width - length bytes) 0) refl

within_field : (width a : ℕ) (xs : List ℕ) → IsPadded width a xs → a ≤ length xs
within_field width a xs fits =
    let long = ap length fits.zeros in
    omega (arith, sym long, length-padded width (take a xs), fits.full)

drop-padded : (width n : ℕ) (bytes : List ℕ) → drop (length bytes + n) (padded width bytes) ≡ replicate (width - (length bytes + n)) 0
unfolding padded
drop-padded width n bytes =
    let less : width - length bytes - n ≡ width - (length bytes + n) = omega arith in
    rw (drop-append-add bytes (replicate (width - length bytes) 0) n, drop-replicate {X = ℕ} n (width - length bytes) 0, less) refl

zeros_behind : (width a n : ℕ) (xs : List ℕ) → IsPadded width a xs → drop (a + n) xs ≡ replicate (width - (a + n)) 0
zeros_behind width a n xs fits = rw (fits.full, fits.zeros) at (drop-padded width n (take a xs))

-- some bytes, and zeros behind them
padded_so : (width a : ℕ) (xs ys : List ℕ) → take a xs ≡ ys → length ys ≡ a → drop a xs ≡ replicate (width - a) 0 → IsPadded width a xs
unfolding padded
padded_so width a xs ys front long zeros = record {
  full = rw front long;
  zeros = rw (front, long, ← zeros, ← front) (take-append-drop a xs);
}

pub IsPadded-put : (width a k : ℕ) (xs ys : List ℕ) → IsPadded width a xs → k ≡ length ys → IsPadded width (a + length ys) (put_mid a k xs ys)
IsPadded-put width a k xs ys fits is =
    let within = within_field width a xs fits in
    let ends : a + k ≤ a + length ys = omega (arith, is) in
    padded_so width (a + length ys) (put_mid a k xs ys) (take a xs ++ ys) (take-put_mid a k xs ys (a + length ys) refl within) (rw (length-append (take a xs) ys, fits.full) refl)
    (drop-put_mid a k xs ys (a + length ys) ends within (sym is) ∙ zeros_behind width a (length ys) xs fits)

-- where a padded field is written whole, its zeros fall on zeros
put_padded : (width wide a b : ℕ) (xs ys : List ℕ) → IsPadded width a xs → IsPadded wide b ys → b ≤ wide → a + wide ≤ width → put_mid a wide xs ys ≡ put_mid a b xs (take b ys)
unfolding padded
put_padded width wide a b xs ys fits more within room =
    let spaced : ys ≡ take b ys ++ replicate (wide - b) 0 = rw more.full at (sym more.zeros) in
    let count : (wide - b) + (width - (a + wide)) ≡ width - (a + b) = omega arith in
    let behind : replicate (wide - b) 0 ++ drop (a + wide) xs ≡ drop (a + b) xs = rw (zeros_behind width a wide xs fits, zeros_behind width a b xs fits, replicate-append-replicate {A = ℕ} (wide - b) (width - (a + wide)) 0, count) refl in
    let joined : ys ++ drop (a + wide) xs ≡ take b ys ++ drop (a + b) xs = ap (λ zs. zs ++ drop (a + wide) xs) spaced ∙ append_assoc (take b ys) (replicate (wide - b) 0) (drop (a + wide) xs) ∙ ap (λ zs. take b ys ++ zs) behind in
    rw (drop-drop wide a xs, drop-drop b a xs, joined) refl

module _ (width wide a b : ℕ) (xs ys : List ℕ) (fits : IsPadded width a xs) (more : IsPadded wide b ys) (long : length ys ≡ wide) (room : a + wide ≤ width) where
  same : put_mid a wide xs ys ≡ put_mid a b xs (take b ys)
  same = put_padded width wide a b xs ys fits more (rw long at (within_field wide b ys more)) room

  pub IsPadded-join : IsPadded width (a + b) (put_mid a wide xs ys)
  IsPadded-join =
      let written : IsPadded width (a + length (take b ys)) (put_mid a b xs (take b ys)) = IsPadded-put width a b xs (take b ys) fits (sym more.full) in
      rw same (rw more.full at written)

  pub take-join : take (a + b) (put_mid a wide xs ys) ≡ take a xs ++ take b ys
  take-join = rw same (take-put_mid a b xs (take b ys) (a + b) (ap (λ n. a + n) (sym more.full)) (within_field width a xs fits))
