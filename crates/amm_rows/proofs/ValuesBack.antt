-- The values of a row are read as what they were written from, and are plain and UTF-8.
use Rattle.std.proofs.Common.{◌≡◌, ℕ, suc, ◌<◌, ◌≤◌, ◌^◌, List, [], ◌∷◌, ◌++◌, length, Bool, true, false, ◌&&◌, ◌==◌, nat_le, Ok, refl, sym, ap, ◌∙◌, subst, arith}
use Rattle.std.specs.Prelude.{IsTrue, ⊤, if◌then◌else◌}
use Rattle.std.specs.List.{All}
use Rattle.std.specs.Str.{IsUtf8}
use Rattle.std.proofs.lemmas.Bool.{eqb-true}
use Rattle.std.proofs.lemmas.Bool.Decides.{nat_tests}
use Rattle.std.proofs.lemmas.List.Elements.{All-head, All-tail}
use Rattle.json.proofs.Printed.Utf8.{IsUtf8-are_ascii}
use Rattle.serde_json.specs.Data.{Data, string, depth}
use Rattle.serde_json.specs.View.{items_of}
use Rattle.amm_names.specs.Names.{is_user_name, is_token_name}
use Rattle.amm_names.specs.Pools.{is_pool_name, is_fee, pool_token0, pool_token1, pool_fee}
use Rattle.amm_names.proofs.Spelling.{parts_are_pool, parts_spell}
use Rattle.amm_names.specs.declared.holder.Asset.{Asset}
use Rattle.amm_names.specs.declared.holder.Asset.TheVariants as assets
use Rattle.amm_names.specs.declared.holder.Holder.{Holder}
use Rattle.amm_names.specs.declared.holder.Holder.TheVariants as holders
use Rattle.amm_rows.proofs.Ascii.{IsUtf8-user, IsUtf8-token, IsUtf8-spelling}
use Rattle.amm_model.specs.declared.route_path.RoutePath.{RoutePath}
use Rattle.amm_model.specs.Json.{elements, whole}
use Rattle.amm_model.specs.Forms.{as_user, as_token, as_pool, as_amount, as_fee, as_path, fee_behind, path_along}
use Rattle.amm_model.specs.declared.limits.TheConstants.{AMOUNT_LIMIT}
use Rattle.amm_command.specs.Spelled.{IsPlain, ArePlain, inner_depth}
use Rattle.amm_command.specs.Rows.{asset_text, holder_text, fee_values, hop_value, hop_values, tokens_behind, path_value}
use Rattle.amm_rows.specs.WellSpelled.{HasUtf8, ItemsHaveUtf8}
use Rattle.amm_rows.specs.Writable.{NamesHolder, NamesAsset, HasRoom, IsPathRow}
use Rattle.amm_command.proofs.Lists.{elements-items_of, items_plain}
use Rattle.amm_command.proofs.Paths.{AreTokens, AreFees, path_so, path_read, hops_plain, hops_flat, small_fee}

-- ---- names

pub user_reads : (name : List ℕ) → IsTrue (is_user_name name) → as_user (string name) ≡ Ok name
unfolding as_user
user_reads name h = rw h refl

pub token_reads : (name : List ℕ) → IsTrue (is_token_name name) → as_token (string name) ≡ Ok name
unfolding as_token
token_reads name h = rw h refl

pub pool_reads : (name : List ℕ) → IsTrue (is_pool_name name) → as_pool (string name) ≡ Ok name
unfolding as_pool
pool_reads name h = rw h refl

pub pool_utf8 : (name : List ℕ) → IsTrue (is_pool_name name) → IsUtf8 name
pool_utf8 name h = subst IsUtf8 (sym (parts_spell name h)) (IsUtf8-spelling (pool_token0 name) (pool_token1 name) (pool_fee name) (parts_are_pool name h))

pub asset_utf8 : (asset : Asset) → NamesAsset asset → IsUtf8 (asset_text asset)
asset_utf8 (assets.Token name) h = IsUtf8-token name h
asset_utf8 (assets.Share name) h = pool_utf8 name h

pub holder_utf8 : (holder : Holder) → NamesHolder holder → IsUtf8 (holder_text holder)
holder_utf8 holders.Zero h = IsUtf8-are_ascii _ refl
holder_utf8 (holders.User name) h = IsUtf8-user name h
holder_utf8 (holders.Token name) h = IsUtf8-token name h
holder_utf8 (holders.Pool name) h = pool_utf8 name h

-- ---- numbers

pub amount_reads : (n : ℕ) → HasRoom n → as_amount (whole n) ≡ Ok n
unfolding as_amount
amount_reads n h =
    let test : nat_le n AMOUNT_LIMIT ≡ true = grind (arith, nat_tests) in
    rw test refl

pub amount_plain : (n : ℕ) → HasRoom n → n < 2 ^ 64
amount_plain n h = omega arith

pub fee_reads : (fee : ℕ) → IsTrue (is_fee fee) → as_fee (whole fee) ≡ Ok fee
unfolding as_fee
fee_reads fee h = rw h refl

-- a fee that may be left out, behind the values of a pair
pub record FeeBack (fee : ℕ) : Type 0 where
  pub fits : fee_behind (fee_values fee) ≡ Ok fee
  pub plain : ArePlain (fee_values fee)
  pub flat : inner_depth (fee_values fee) ≤ 0
  pub utf8 : ItemsHaveUtf8 (items_of (fee_values fee))

pub fee_back : (fee : ℕ) → IsTrue (is_fee fee) → FeeBack fee
fee_back fee h = record { fits = fits_by (fee == 3) refl; plain = plain_by (fee == 3); flat = flat_by (fee == 3); utf8 = utf8_by (fee == 3) }
  where
    fits_by : (b : Bool) → (fee == 3) ≡ b → fee_behind (if b then [] else whole fee ∷ []) ≡ Ok fee
    fits_by true e = ap Ok (sym (eqb-true fee 3 e))
    fits_by false e = fee_reads fee h

    plain_by : (b : Bool) → ArePlain (if b then [] else whole fee ∷ [])
    plain_by true = tt
    plain_by false = (small_fee fee (fee_reads fee h), tt)

    flat_by : (b : Bool) → inner_depth (if b then [] else whole fee ∷ []) ≤ 0
    flat_by true = omega arith
    flat_by false = omega arith

    utf8_by : (b : Bool) → ItemsHaveUtf8 (items_of (if b then [] else whole fee ∷ []))
    utf8_by true = tt
    utf8_by false = (tt, tt)

-- ---- paths

tokens_are : (ts : List (List ℕ)) → All (λ t. IsTrue (is_token_name t)) ts → AreTokens ts
tokens_are [] h = tt
tokens_are (t ∷ ts) h = (token_reads t (All-head (λ x. IsTrue (is_token_name x)) t ts h), tokens_are ts (All-tail (λ x. IsTrue (is_token_name x)) t ts h))

fees_are : (fs : List ℕ) → All (λ f. IsTrue (is_fee f)) fs → AreFees fs
fees_are [] h = tt
fees_are (f ∷ fs) h = (fee_reads f (All-head (λ x. IsTrue (is_fee x)) f fs h), fees_are fs (All-tail (λ x. IsTrue (is_fee x)) f fs h))

hop_utf8 : (b : Bool) (f : ℕ) (t : List ℕ) (more : List Data) → IsUtf8 t → ItemsHaveUtf8 (items_of more) → ItemsHaveUtf8 (items_of ((if b then string t ∷ [] else whole f ∷ string t ∷ []) ++ more))
hop_utf8 true f t more h rest = (h, rest)
hop_utf8 false f t more h rest = (tt, (h, rest))

hops_utf8 : (ts : List (List ℕ)) (fs : List ℕ) → All (λ t. IsTrue (is_token_name t)) ts → ItemsHaveUtf8 (items_of (hop_values ts fs))
hops_utf8 [] fs h = tt
hops_utf8 (t ∷ ts) [] h = tt
hops_utf8 (t ∷ ts) (f ∷ fs) h =
    hop_utf8 (f == 3) f t (hop_values ts fs) (IsUtf8-token t (All-head (λ x. IsTrue (is_token_name x)) t ts h)) (hops_utf8 ts fs (All-tail (λ x. IsTrue (is_token_name x)) t ts h))

pub record PathBack (path : RoutePath) : Type 0 where
  pub fits : as_path (path_value path) ≡ Ok path
  pub plain : IsPlain (path_value path)
  pub flat : depth (path_value path) ≤ 1
  pub utf8 : HasUtf8 (path_value path)

path_fits : (ts : List (List ℕ)) (fs : List ℕ) → path_along (elements (items_of (tokens_behind ts fs))) ≡ Ok (path_so ts fs) → 2 ≤ length ts → length ts ≤ 8 → as_path (path_value (path_so ts fs)) ≡ Ok (path_so ts fs)
unfolding as_path
path_fits ts fs along least most =
    let least_so : nat_le 2 (length ts) ≡ true = grind (arith, nat_tests) in
    let most_so : nat_le (length ts) 8 ≡ true = grind (arith, nat_tests) in
    rw (along, least_so, most_so) refl

parts_back : (ts : List (List ℕ)) (fs : List ℕ) → IsPathRow (path_so ts fs) → PathBack (path_so ts fs)
parts_back [] fs h = absurd (let least = h.whole.least in omega (arith, least))
parts_back (t ∷ ts) fs h =
    let even : length fs ≡ length ts = omega (arith, h.whole.between) in
    let first = All-head (λ x. IsTrue (is_token_name x)) t ts h.tokens in
    let others = All-tail (λ x. IsTrue (is_token_name x)) t ts h.tokens in
    let at_fees = fees_are fs h.whole.fees in
    record {
      fits = path_fits (t ∷ ts) fs (path_read t ts fs (elements (items_of (tokens_behind (t ∷ ts) fs))) (elements-items_of (tokens_behind (t ∷ ts) fs)) even (token_reads t first) (tokens_are ts others) at_fees) h.whole.least h.whole.most;
      plain = (tt, items_plain (hop_values ts fs) (hops_plain ts fs at_fees));
      flat = omega (arith, hops_flat ts fs);
      utf8 = (IsUtf8-token t first, hops_utf8 ts fs others);
    }

pub path_back : (path : RoutePath) → IsPathRow path → PathBack path
path_back path h = parts_back path.tokens path.fees h
