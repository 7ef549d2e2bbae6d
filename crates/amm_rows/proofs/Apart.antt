-- No bytes name two kinds of holders, or two kinds of assets.
use Rattle.std.proofs.Common.{◌≡◌, ℕ, List, [], ◌∷◌, ◌++◌, Bool, true, false, ◌&&◌, Ok, refl, sym, ap, ◌∙◌, arith}
use Rattle.std.specs.Prelude.{codes, IsTrue}
use Rattle.std.specs.List.{list_all}
use Rattle.std.specs.Cmp.{first_so}
use Rattle.std.specs.Str.{bytes_eq}
use Rattle.std.proofs.lemmas.Bool.{true≢false}
use Rattle.std.proofs.lemmas.Bool.Decides.{nat_tests}
use Rattle.std.proofs.lemmas.Slice.Eq.{bytes_eq-Decides}
use Rattle.serde_json.specs.Data.{string}
use Rattle.amm_names.specs.Names.{is_upper, is_lower, is_token_name, is_user_name}
use Rattle.amm_names.specs.Pools.{is_pool_name, pool_spelling, fee_spelling, pool_token0, pool_token1, pool_fee}
use Rattle.amm_names.proofs.Spelling.{is_token_byte, token_bytes, parts_are_pool, parts_spell}
use Rattle.amm_names.specs.Holders.{asset_of, holder_of}
use Rattle.amm_names.specs.declared.holder.Asset.{Asset}
use Rattle.amm_names.specs.declared.holder.Asset.TheVariants as assets
use Rattle.amm_names.specs.declared.holder.Holder.{Holder}
use Rattle.amm_names.specs.declared.holder.Holder.TheVariants as holders
use Rattle.amm_model.specs.Forms.{as_asset, as_holder}
use Rattle.amm_command.specs.Rows.{asset_text, holder_text}
use Rattle.amm_rows.specs.Writable.{NamesHolder, NamesAsset}

-- the names of tokens and of pools begin with a capital letter
record StartsUpper (name : List ℕ) : Type 0 where
  first : ℕ
  rest : List ℕ
  is : name ≡ first ∷ rest
  upper : is_upper first ≡ true

token_starts : (name : List ℕ) → IsTrue (is_token_name name) → StartsUpper name
token_starts [] h = cc
token_starts (c ∷ cs) h = record { first = c; rest = cs; is = refl; upper = first_so (is_upper c) _ h }

starts_before : (name more : List ℕ) → StartsUpper name → StartsUpper (name ++ more)
starts_before name more h = record { first = h.first; rest = h.rest ++ more; is = ap (λ s. s ++ more) h.is; upper = h.upper }

pool_starts : (name : List ℕ) → IsTrue (is_pool_name name) → StartsUpper name
pool_starts name h =
    let whole = starts_before (pool_token0 name) (47 ∷ (pool_token1 name ++ fee_spelling (pool_fee name))) (token_starts (pool_token0 name) (parts_are_pool name h).first) in
    record { first = whole.first; rest = whole.rest; is = parts_spell name h ∙ whole.is; upper = whole.upper }

upper_no_lower : (c : ℕ) → is_upper c ≡ true → is_lower c ≡ false
upper_no_lower c h = grind (arith, nat_tests)

no_user : (name : List ℕ) → StartsUpper name → is_user_name name ≡ false
no_user name h = rw (h.is, upper_no_lower h.first h.upper) refl

head_is : {x y : ℕ} {xs ys : List ℕ} → x ∷ xs ≡ y ∷ ys → x ≡ y
head_is e = cc

no_zero : (name : List ℕ) → StartsUpper name → bytes_eq name (codes "0") ≡ false
no_zero name h = by (bytes_eq name (codes "0")) refl
  where
    by : (b : Bool) → bytes_eq name (codes "0") ≡ b → b ≡ false
    by true e = absurd (true≢false (sym h.upper ∙ ap is_upper (head_is (sym h.is ∙ (bytes_eq-Decides name (codes "0")).0 e))))
    by false e = refl

user_no_zero : (name : List ℕ) → IsTrue (is_user_name name) → bytes_eq name (codes "0") ≡ false
user_no_zero name h = by (bytes_eq name (codes "0")) refl
  where
    by : (b : Bool) → bytes_eq name (codes "0") ≡ b → b ≡ false
    by true e = absurd (true≢false (sym h ∙ ap is_user_name ((bytes_eq-Decides name (codes "0")).0 e)))
    by false e = refl

and_false : (b : Bool) → (b && false) ≡ false
and_false true = refl
and_false false = refl

slash_inside : (xs ys : List ℕ) → list_all is_token_byte (xs ++ 47 ∷ ys) ≡ false
slash_inside [] ys = refl
slash_inside (x ∷ xs) ys = ap (λ b. is_token_byte x && b) (slash_inside xs ys) ∙ and_false (is_token_byte x)

pool_no_token : (name : List ℕ) → IsTrue (is_pool_name name) → is_token_name name ≡ false
pool_no_token name h = by (is_token_name name) refl
  where
    by : (b : Bool) → is_token_name name ≡ b → b ≡ false
    by true e = absurd (true≢false (sym (token_bytes name e) ∙ (ap (list_all is_token_byte) (parts_spell name h) ∙ slash_inside (pool_token0 name) (pool_token1 name ++ fee_spelling (pool_fee name)))))
    by false e = refl

-- ---- so a holder and an asset are read from their text

pub asset_reads : (asset : Asset) → NamesAsset asset → as_asset (string (asset_text asset)) ≡ Ok asset
unfolding as_asset asset_of
asset_reads (assets.Token name) h = rw h refl
asset_reads (assets.Share name) h = rw (pool_no_token name h, h) refl

pub holder_reads : (holder : Holder) → NamesHolder holder → as_holder (string (holder_text holder)) ≡ Ok holder
unfolding as_holder holder_of
holder_reads holders.Zero h = refl
holder_reads (holders.User name) h = rw (user_no_zero name h, h) refl
holder_reads (holders.Token name) h = rw (no_zero name (token_starts name h), no_user name (token_starts name h), h) refl
holder_reads (holders.Pool name) h = rw (no_zero name (pool_starts name h), no_user name (pool_starts name h), pool_no_token name h, h) refl
