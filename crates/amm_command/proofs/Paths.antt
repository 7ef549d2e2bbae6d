-- A path that is plainly spelled, hop by hop.
use Rattle.std.proofs.Common.{◌≡◌, ℕ, ◌<◌, ◌≤◌, ◌^◌, List, [], ◌∷◌, ◌++◌, length, map, Bool, true, false, ◌&&◌, ◌==◌, ◌⊎◌, inl, inr, Ok, refl, sym, ap, ap₂, ◌∙◌, append_assoc, length-append, arith}
use Rattle.std.specs.Prelude.{if◌then◌else◌, nat_le, ⊤}
use Rattle.std.proofs.lemmas.Bool.{eqb-true}
use Rattle.std.proofs.lemmas.Bool.Decides.{nat_tests}
use Rattle.json.specs.Lex as lexemes
use Rattle.json.specs.Lex.{Lexeme}
use Rattle.json.specs.Token as tokens
use Rattle.serde_json.specs.Data.{Data, string, depth}
use Rattle.serde_json.specs.View.{items_of}
use Rattle.amm_names.specs.Pools.{is_fee}
use Rattle.amm_names.proofs.Spelling.{fee_cases}
use Rattle.amm_model.specs.declared.route_path.RoutePath.{RoutePath}
use Rattle.amm_model.specs.Outcome.{◌>>=◌}
use Rattle.amm_model.specs.Json.{whole, elements}
use Rattle.amm_model.specs.Forms.{value_if, as_token, as_fee, Hop, hops, path_along, as_path}
use Rattle.amm_command.specs.Spelled.{spelled, next_spelled, behind, IsPlain, ArePlain, inner_depth}
use Rattle.amm_command.specs.Rows.{fee_values, hop_value, hop_values, tokens_behind, path_value}
use Rattle.amm_command.proofs.Lists.{behind-append, next-behind, items_plain, plain-append, depth-append, elements-items_of}

abbrev pub AreTokens : List (List ℕ) → Type 0
AreTokens [] = ⊤
AreTokens (t ∷ ts) = (as_token (string t) ≡ Ok t) × AreTokens ts

abbrev pub AreFees : List ℕ → Type 0
AreFees [] = ⊤
AreFees (f ∷ fs) = (as_fee (whole f) ≡ Ok f) × AreFees fs

tokens-push : (ts : List (List ℕ)) (t : List ℕ) → AreTokens ts → as_token (string t) ≡ Ok t → AreTokens (ts ++ t ∷ [])
tokens-push [] t h is = (is, tt)
tokens-push (x ∷ ts) t h is = (h.0, tokens-push ts t h.1 is)

fees-push : (fs : List ℕ) (f : ℕ) → AreFees fs → as_fee (whole f) ≡ Ok f → AreFees (fs ++ f ∷ [])
fees-push [] f h is = (is, tt)
fees-push (x ∷ fs) f h is = (h.0, fees-push fs f h.1 is)

-- a path so far: its tokens, its fees, and what was taken of the text
pub record SoFar (first : List ℕ) (old new : List Lexeme) (tokens : List (List ℕ)) (fees : List ℕ) : Type 0 where
  pub others : List (List ℕ)
  pub is : tokens ≡ first ∷ others
  pub even : length fees ≡ length others
  pub text : old ≡ behind (hop_values others fees) ++ new
  pub names : AreTokens others
  pub at_fees : AreFees fees

pub so_far-none : (first : List ℕ) (old : List Lexeme) → SoFar first old old (first ∷ []) []
so_far-none first old = record { others = []; is = refl; even = refl; text = refl; names = tt; at_fees = tt }

hop_values-push : (ts : List (List ℕ)) (fs : List ℕ) (t : List ℕ) (f : ℕ) → length fs ≡ length ts → hop_values (ts ++ t ∷ []) (fs ++ f ∷ []) ≡ hop_values ts fs ++ hop_value f t
hop_values-push [] [] t f even = by (f == 3)
  where
    by : (b : Bool) → (if b then string t ∷ [] else whole f ∷ string t ∷ []) ++ [] ≡ (if b then string t ∷ [] else whole f ∷ string t ∷ [])
    by true = refl
    by false = refl
hop_values-push [] (x ∷ fs) t f even = absurd (omega arith)
hop_values-push (y ∷ ts) [] t f even = absurd (omega arith)
hop_values-push (y ∷ ts) (x ∷ fs) t f even =
    ap (λ s. hop_value x y ++ s) (hop_values-push ts fs t f (omega arith)) ∙ sym (append_assoc (hop_value x y) (hop_values ts fs) (hop_value f t))

hop_text : (b : Bool) (f : ℕ) (t : List ℕ) (new : List Lexeme) → behind (if b then [] else whole f ∷ []) ++ (lexemes.comma ∷ lexemes.token (tokens.string t) ∷ new) ≡ behind (if b then string t ∷ [] else whole f ∷ string t ∷ []) ++ new
hop_text true f t new = refl
hop_text false f t new = refl

-- a fee that may be written, and a token behind it
pub hop_so : (f : ℕ) (t : List ℕ) (old mid new : List Lexeme) → old ≡ behind (fee_values f) ++ mid → mid ≡ lexemes.comma ∷ lexemes.token (tokens.string t) ∷ new → old ≡ behind (hop_value f t) ++ new
hop_so f t old mid new fee token = fee ∙ (ap (λ s. behind (fee_values f) ++ s) token ∙ hop_text (f == 3) f t new)

pub so_far-next :
    (first : List ℕ) (old mid new : List Lexeme) (names : List (List ℕ)) (fees : List ℕ) (t : List ℕ) (f : ℕ) → SoFar first old mid names fees →
    mid ≡ behind (hop_value f t) ++ new → as_fee (whole f) ≡ Ok f → as_token (string t) ≡ Ok t → SoFar first old new (names ++ t ∷ []) (fees ++ f ∷ [])
so_far-next first old mid new names fees t f h is fee token = record {
  others = h.others ++ t ∷ [];
  is = ap (λ ts. ts ++ t ∷ []) h.is;
  even = omega (arith, h.even, length-append fees (f ∷ []), length-append h.others (t ∷ []));
  text = h.text ∙ ap (λ s. behind (hop_values h.others fees) ++ s) is ∙ sym (append_assoc (behind (hop_values h.others fees)) (behind (hop_value f t)) new)
      ∙ ap (λ s. s ++ new) (sym (behind-append (hop_values h.others fees) (hop_value f t)) ∙ ap behind (sym (hop_values-push h.others fees t f h.even)));
  names = tokens-push h.others t h.names token;
  at_fees = fees-push fees f h.at_fees fee;
}

abbrev pub path_so : List (List ℕ) → List ℕ → RoutePath
path_so names fees = record { tokens = names; fees = fees }

pub so_far-text :
    (first : List ℕ) (old mid new : List Lexeme) (names : List (List ℕ)) (fees : List ℕ) → SoFar first old mid names fees → mid ≡ lexemes.token tokens.end_array ∷ new →
    lexemes.token tokens.begin_array ∷ lexemes.token (tokens.string first) ∷ old ≡ spelled (path_value (path_so names fees)) ++ new
so_far-text first old mid new names fees h is =
    let ds = hop_values h.others fees in
    rw h.is (ap (λ s. lexemes.token tokens.begin_array ∷ lexemes.token (tokens.string first) ∷ s)
    (h.text ∙ ap (λ s. behind ds ++ s) is ∙ sym (append_assoc (behind ds) (lexemes.token tokens.end_array ∷ []) new) ∙ ap (λ s. s ++ new) (sym (next-behind ds))))

-- ---- it is read as itself

abbrev hops_of : List (List ℕ) → List ℕ → List Hop
hops_of [] fees = []
hops_of (t ∷ ts) [] = []
hops_of (t ∷ ts) (f ∷ fs) = record { fee = f; token = t } ∷ hops_of ts fs

one_hop : (b : Bool) (f : ℕ) (t : List ℕ) (rest : List Data) (more : List Hop) → (f == 3) ≡ b → as_fee (whole f) ≡ Ok f → as_token (string t) ≡ Ok t → hops rest ≡ Ok more →
    hops ((if b then string t ∷ [] else whole f ∷ string t ∷ []) ++ rest) ≡ Ok (record { fee = f; token = t } ∷ more)
unfolding hops
one_hop true f t rest more three fee token others = rw (token, others, eqb-true f 3 three) refl
one_hop false f t rest more three fee token others = rw (fee, token, others) refl

hops_so : (ts : List (List ℕ)) (fs : List ℕ) → length fs ≡ length ts → AreTokens ts → AreFees fs → hops (hop_values ts fs) ≡ Ok (hops_of ts fs)
unfolding hops
hops_so [] fs even names fees = refl
hops_so (t ∷ ts) [] even names fees = absurd (omega arith)
hops_so (t ∷ ts) (f ∷ fs) even names fees = one_hop (f == 3) f t (hop_values ts fs) (hops_of ts fs) refl fees.0 names.0 (hops_so ts fs (omega arith) names.1 fees.1)

tokens_so : (ts : List (List ℕ)) (fs : List ℕ) → length fs ≡ length ts → map (λ hop. hop.token) (hops_of ts fs) ≡ ts
tokens_so [] fs even = refl
tokens_so (t ∷ ts) [] even = absurd (omega arith)
tokens_so (t ∷ ts) (f ∷ fs) even = ap (λ s. t ∷ s) (tokens_so ts fs (omega arith))

fees_so : (ts : List (List ℕ)) (fs : List ℕ) → length fs ≡ length ts → map (λ hop. hop.fee) (hops_of ts fs) ≡ fs
fees_so [] [] even = refl
fees_so [] (f ∷ fs) even = absurd (omega arith)
fees_so (t ∷ ts) [] even = absurd (omega arith)
fees_so (t ∷ ts) (f ∷ fs) even = ap (λ s. f ∷ s) (fees_so ts fs (omega arith))

pub path_read : (first : List ℕ) (ts : List (List ℕ)) (fs : List ℕ) (ds : List Data) → ds ≡ string first ∷ hop_values ts fs → length fs ≡ length ts → as_token (string first) ≡ Ok first → AreTokens ts → AreFees fs →
    path_along ds ≡ Ok (path_so (first ∷ ts) fs)
path_read first ts fs ds is even token names fees = rw (is, token, hops_so ts fs even names fees, tokens_so ts fs even, fees_so ts fs even) refl

pub so_far-along : (first : List ℕ) (old mid : List Lexeme) (names : List (List ℕ)) (fees : List ℕ) → SoFar first old mid names fees → as_token (string first) ≡ Ok first →
    path_along (elements (items_of (tokens_behind names fees))) ≡ Ok (path_so names fees)
so_far-along first old mid names fees h token =
    let is : tokens_behind names fees ≡ string first ∷ hop_values h.others fees = ap (λ ts. tokens_behind ts fees) h.is in
    path_read first h.others fees (elements (items_of (tokens_behind names fees))) (elements-items_of (tokens_behind names fees) ∙ is) h.even token h.names h.at_fees ∙ ap (λ ts. Ok (path_so ts fees)) (sym h.is)

-- ---- it is plain and flat

pub small_fee : (f : ℕ) → as_fee (whole f) ≡ Ok f → f < 2 ^ 64
unfolding as_fee
small_fee f is = by (is_fee f) refl is
  where
    from : (f ≡ 1) ⊎ (f ≡ 3) ⊎ (f ≡ 10) → f < 2 ^ 64
    from (inl e) = omega arith
    from (inr (inl e)) = omega arith
    from (inr (inr e)) = omega arith

    by : (b : Bool) → is_fee f ≡ b → value_if b f ≡ Ok f → f < 2 ^ 64
    by true e h = from (fee_cases f e)
    by false e h = cc

hop_plain : (b : Bool) (f : ℕ) (t : List ℕ) → f < 2 ^ 64 → ArePlain (if b then string t ∷ [] else whole f ∷ string t ∷ [])
hop_plain true f t small = (tt, tt)
hop_plain false f t small = (small, (tt, tt))

pub hops_plain : (ts : List (List ℕ)) (fs : List ℕ) → AreFees fs → ArePlain (hop_values ts fs)
hops_plain [] fs h = tt
hops_plain (t ∷ ts) [] h = tt
hops_plain (t ∷ ts) (f ∷ fs) h = plain-append (hop_value f t) (hop_values ts fs) (hop_plain (f == 3) f t (small_fee f h.0)) (hops_plain ts fs h.1)

hop_flat : (b : Bool) (f : ℕ) (t : List ℕ) → inner_depth (if b then string t ∷ [] else whole f ∷ string t ∷ []) ≤ 0
hop_flat true f t = omega arith
hop_flat false f t = omega arith

pub hops_flat : (ts : List (List ℕ)) (fs : List ℕ) → inner_depth (hop_values ts fs) ≤ 0
hops_flat [] fs = omega arith
hops_flat (t ∷ ts) [] = omega arith
hops_flat (t ∷ ts) (f ∷ fs) = depth-append (hop_value f t) (hop_values ts fs) 0 (hop_flat (f == 3) f t) (hops_flat ts fs)

pub so_far-plain : (first : List ℕ) (old mid : List Lexeme) (names : List (List ℕ)) (fees : List ℕ) → SoFar first old mid names fees → IsPlain (path_value (path_so names fees))
so_far-plain first old mid names fees h = rw h.is (tt, items_plain (hop_values h.others fees) (hops_plain h.others fees h.at_fees))

pub so_far-flat : (first : List ℕ) (old mid : List Lexeme) (names : List (List ℕ)) (fees : List ℕ) → SoFar first old mid names fees → depth (path_value (path_so names fees)) ≤ 1
so_far-flat first old mid names fees h = rw h.is (omega (arith, hops_flat h.others fees))
