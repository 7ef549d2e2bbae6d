-- Names stand in JSON as they are, and holders and assets are written as what they were read from.
use Rattle.std.proofs.Common.{◌≡◌, ℕ, List, [], ◌∷◌, ◌++◌, Bool, true, false, Option, Some, None, Ok, ok_or, refl, sym, ap, ap₂, ◌∙◌, arith}
use Rattle.std.specs.Prelude.{codes, if◌then◌else◌, IfSome, IsTrue, ◌||◌, ◌==◌}
use Rattle.std.specs.List.{list_all}
use Rattle.std.specs.Cmp.{first_so, second_so}
use Rattle.std.proofs.lemmas.Bool.Decides.{nat_tests}
use Rattle.std.specs.Str.{bytes_eq}
use Rattle.std.proofs.lemmas.Slice.Eq.{bytes_eq-Decides}
use Rattle.json.specs.Print.{escape, escape_byte}
use Rattle.json.proofs.Printed.Strings.{escape_byte_plain}
use Rattle.json.specs.Lex.{Lexeme, token, comma}
use Rattle.json.specs.Token as tokens
use Rattle.serde_json.specs.Data.{string}
use Rattle.amm_names.specs.Names.{is_token_name, is_user_name, is_lower, is_digit}
use Rattle.amm_names.specs.Pools.{is_pool_name}
use Rattle.amm_names.specs.Holders.{asset_of, holder_of}
use Rattle.amm_names.specs.declared.holder.Asset.{Asset}
use Rattle.amm_names.specs.declared.holder.Holder.{Holder}
use Rattle.amm_names.specs.declared.holder.Asset.TheVariants as assets
use Rattle.amm_names.specs.declared.holder.Holder.TheVariants as holders
use Rattle.amm_model.specs.declared.fault.Refusal.TheVariants.{BadCommand}
use Rattle.amm_model.specs.Forms.{as_asset, as_holder}
use Rattle.amm_model.proofs.Escapes.{escape-token, escape-pool}
use Rattle.amm_command.specs.Rows.{asset_text, holder_text}

asset_by : (s : List ℕ) (a : Asset) (x y : Bool) → (if x then Some (assets.Token s) else (if y then Some (assets.Share s) else None)) ≡ Some a → asset_text a ≡ s
asset_by s a true y is = ap asset_text (same is)
  where
    same : {b : Asset} → Some b ≡ Some a → a ≡ b
    same e = cc
asset_by s a false true is = ap asset_text (same is)
  where
    same : {b : Asset} → Some b ≡ Some a → a ≡ b
    same e = cc
asset_by s a false false is = cc

pub asset_spelled : (s : List ℕ) (a : Asset) → Some a ≡ asset_of s → asset_text a ≡ s
unfolding asset_of
asset_spelled s a is = asset_by s a (is_token_name s) (is_pool_name s) (sym is)

pub asset_fits : (s : List ℕ) (a : Asset) → Some a ≡ asset_of s → as_asset (string (asset_text a)) ≡ Ok a
unfolding as_asset
asset_fits s a is = rw (asset_spelled s a is, ← is) refl

holder_by : (s : List ℕ) (h : Holder) (z x y w : Bool) → (z ≡ true → s ≡ codes "0") →
    (if z then Some holders.Zero else (if x then Some (holders.User s) else (if y then Some (holders.Token s) else (if w then Some (holders.Pool s) else None)))) ≡ Some h → holder_text h ≡ s
holder_by s h true x y w zero is = ap holder_text (same is) ∙ sym (zero refl)
  where
    same : {b : Holder} → Some b ≡ Some h → h ≡ b
    same e = cc
holder_by s h false true y w zero is = ap holder_text (same is)
  where
    same : {b : Holder} → Some b ≡ Some h → h ≡ b
    same e = cc
holder_by s h false false true w zero is = ap holder_text (same is)
  where
    same : {b : Holder} → Some b ≡ Some h → h ≡ b
    same e = cc
holder_by s h false false false true zero is = ap holder_text (same is)
  where
    same : {b : Holder} → Some b ≡ Some h → h ≡ b
    same e = cc
holder_by s h false false false false zero is = cc

pub holder_spelled : (s : List ℕ) (h : Holder) → Some h ≡ holder_of s → holder_text h ≡ s
unfolding holder_of
holder_spelled s h is = holder_by s h (bytes_eq s (codes "0")) (is_user_name s) (is_token_name s) (is_pool_name s) (λ e. (bytes_eq-Decides s (codes "0")).0 e) (sym is)

pub holder_fits : (s : List ℕ) (h : Holder) → Some h ≡ holder_of s → as_holder (string (holder_text h)) ≡ Ok h
unfolding as_holder
holder_fits s h is = rw (holder_spelled s h is, ← is) refl

-- ---- names need no escape

abbrev is_user_byte : ℕ → Bool
is_user_byte b = is_lower b || (is_digit b || b == 95)

escape_user_byte : (b : ℕ) → is_user_byte b ≡ true → escape_byte b ≡ b ∷ []
escape_user_byte b holds = escape_byte_plain b (λ e. grind (arith, nat_tests)) (λ e. grind (arith, nat_tests)) (grind (arith, nat_tests))

escape_user_bytes : (bs : List ℕ) → list_all is_user_byte bs ≡ true → escape bs ≡ bs
escape_user_bytes [] all = refl
escape_user_bytes (b ∷ bs) all =
    ap₂ (λ s t. s ++ t) (escape_user_byte b (first_so (is_user_byte b) (list_all is_user_byte bs) all)) (escape_user_bytes bs (second_so (is_user_byte b) (list_all is_user_byte bs) all))

lower_so : (b : ℕ) → is_lower b ≡ true → is_user_byte b ≡ true
lower_so b holds = rw holds refl

pub escape-user : (bs : List ℕ) → IsTrue (is_user_name bs) → escape bs ≡ bs
escape-user [] name = refl
escape-user (c ∷ cs) name =
    ap₂ (λ s t. s ++ t) (escape_user_byte c (lower_so c (first_so (is_lower c) _ name))) (escape_user_bytes cs (second_so _ (list_all is_user_byte cs) (second_so (is_lower c) _ name)))

escape-asset : (s : List ℕ) (a : Asset) → Some a ≡ asset_of s → escape s ≡ s
unfolding asset_of
escape-asset s a is = by (is_token_name s) (is_pool_name s) refl refl is
  where
    by : (x y : Bool) → is_token_name s ≡ x → is_pool_name s ≡ y → Some a ≡ (if x then Some (assets.Token s) else (if y then Some (assets.Share s) else None)) → escape s ≡ s
    by true y t p e = escape-token s t
    by false true t p e = escape-pool s p
    by false false t p e = cc

escape-zero : escape (codes "0") ≡ codes "0"
unfolding escape_byte
escape-zero = refl

escape-holder : (s : List ℕ) (h : Holder) → Some h ≡ holder_of s → escape s ≡ s
unfolding holder_of
escape-holder s h is = by (bytes_eq s (codes "0")) (is_user_name s) (is_token_name s) (is_pool_name s) refl refl refl refl is
  where
    by : (z x y w : Bool) → bytes_eq s (codes "0") ≡ z → is_user_name s ≡ x → is_token_name s ≡ y → is_pool_name s ≡ w →
        Some h ≡ (if z then Some holders.Zero else (if x then Some (holders.User s) else (if y then Some (holders.Token s) else (if w then Some (holders.Pool s) else None)))) → escape s ≡ s
    by true x y w z0 x0 y0 w0 e =
        let same : s ≡ codes "0" = (bytes_eq-Decides s (codes "0")).0 z0 in
        rw same escape-zero
    by false true y w z0 x0 y0 w0 e = escape-user s x0
    by false false true w z0 x0 y0 w0 e = escape-token s y0
    by false false false true z0 x0 y0 w0 e = escape-pool s w0
    by false false false false z0 x0 y0 w0 e = cc

-- ---- a string that was read as a name is the name's text

named : (test : List ℕ → Bool) (s name : List ℕ) → Some name ≡ (if test s then Some s else None) → (test s ≡ true) × (s ≡ name)
named test s name is = by (test s) refl is
  where
    by : (b : Bool) → test s ≡ b → Some name ≡ (if b then Some s else None) → (test s ≡ true) × (s ≡ name)
    by true e h = (e, same h)
      where
        same : {x y : List ℕ} → Some x ≡ Some y → y ≡ x
        same e = cc
    by false e h = cc

user_text : (s name : List ℕ) (old new : List Lexeme) → Some name ≡ (if is_user_name s then Some s else None) → (escape s ≡ s → old ≡ comma ∷ token (tokens.string s) ∷ new) → old ≡ comma ∷ token (tokens.string name) ∷ new
user_text s name old new is text =
    let so = named is_user_name s name is in
    text (escape-user s so.0) ∙ ap (λ t. comma ∷ token (tokens.string t) ∷ new) so.1

token_text : (s name : List ℕ) (old new : List Lexeme) → Some name ≡ (if is_token_name s then Some s else None) → (escape s ≡ s → old ≡ comma ∷ token (tokens.string s) ∷ new) → old ≡ comma ∷ token (tokens.string name) ∷ new
token_text s name old new is text =
    let so = named is_token_name s name is in
    text (escape-token s so.0) ∙ ap (λ t. comma ∷ token (tokens.string t) ∷ new) so.1

first_token_text : (s name : List ℕ) (old new : List Lexeme) → Some name ≡ (if is_token_name s then Some s else None) → (escape s ≡ s → old ≡ token (tokens.string s) ∷ new) → old ≡ token (tokens.string name) ∷ new
first_token_text s name old new is text =
    let so = named is_token_name s name is in
    text (escape-token s so.0) ∙ ap (λ t. token (tokens.string t) ∷ new) so.1

pool_text : (s name : List ℕ) (old new : List Lexeme) → Some name ≡ (if is_pool_name s then Some s else None) → (escape s ≡ s → old ≡ comma ∷ token (tokens.string s) ∷ new) → old ≡ comma ∷ token (tokens.string name) ∷ new
pool_text s name old new is text =
    let so = named is_pool_name s name is in
    text (escape-pool s so.0) ∙ ap (λ t. comma ∷ token (tokens.string t) ∷ new) so.1

asset_text_so : (s : List ℕ) (a : Asset) (old new : List Lexeme) → Some a ≡ asset_of s → (escape s ≡ s → old ≡ comma ∷ token (tokens.string s) ∷ new) → old ≡ comma ∷ token (tokens.string (asset_text a)) ∷ new
asset_text_so s a old new is text = text (escape-asset s a is) ∙ ap (λ t. comma ∷ token (tokens.string t) ∷ new) (sym (asset_spelled s a is))

holder_text_so : (s : List ℕ) (h : Holder) (old new : List Lexeme) → Some h ≡ holder_of s → (escape s ≡ s → old ≡ comma ∷ token (tokens.string s) ∷ new) → old ≡ comma ∷ token (tokens.string (holder_text h)) ∷ new
holder_text_so s h old new is text = text (escape-holder s h is) ∙ ap (λ t. comma ∷ token (tokens.string t) ∷ new) (sym (holder_spelled s h is))

pub user_text_if : (s : List ℕ) (found : Option (List ℕ)) (old new : List Lexeme) → found ≡ (if is_user_name s then Some s else None) → (escape s ≡ s → old ≡ comma ∷ token (tokens.string s) ∷ new) → IfSome found (λ x. old ≡ comma ∷ token (tokens.string x) ∷ new)
user_text_if s None old new is text = tt
user_text_if s (Some x) old new is text = user_text s x old new is text

pub token_text_if : (s : List ℕ) (found : Option (List ℕ)) (old new : List Lexeme) → found ≡ (if is_token_name s then Some s else None) → (escape s ≡ s → old ≡ comma ∷ token (tokens.string s) ∷ new) → IfSome found (λ x. old ≡ comma ∷ token (tokens.string x) ∷ new)
token_text_if s None old new is text = tt
token_text_if s (Some x) old new is text = token_text s x old new is text

pub pool_text_if : (s : List ℕ) (found : Option (List ℕ)) (old new : List Lexeme) → found ≡ (if is_pool_name s then Some s else None) → (escape s ≡ s → old ≡ comma ∷ token (tokens.string s) ∷ new) → IfSome found (λ x. old ≡ comma ∷ token (tokens.string x) ∷ new)
pool_text_if s None old new is text = tt
pool_text_if s (Some x) old new is text = pool_text s x old new is text

pub first_token_text_if : (s : List ℕ) (found : Option (List ℕ)) (old new : List Lexeme) → found ≡ (if is_token_name s then Some s else None) → (escape s ≡ s → old ≡ token (tokens.string s) ∷ new) → IfSome found (λ x. old ≡ token (tokens.string x) ∷ new)
first_token_text_if s None old new is text = tt
first_token_text_if s (Some x) old new is text = first_token_text s x old new is text

pub asset_text_so_if : (s : List ℕ) (found : Option Asset) (old new : List Lexeme) → found ≡ asset_of s → (escape s ≡ s → old ≡ comma ∷ token (tokens.string s) ∷ new) → IfSome found (λ x. old ≡ comma ∷ token (tokens.string (asset_text x)) ∷ new)
asset_text_so_if s None old new is text = tt
asset_text_so_if s (Some x) old new is text = asset_text_so s x old new is text

pub holder_text_so_if : (s : List ℕ) (found : Option Holder) (old new : List Lexeme) → found ≡ holder_of s → (escape s ≡ s → old ≡ comma ∷ token (tokens.string s) ∷ new) → IfSome found (λ x. old ≡ comma ∷ token (tokens.string (holder_text x)) ∷ new)
holder_text_so_if s None old new is text = tt
holder_text_so_if s (Some x) old new is text = holder_text_so s x old new is text
