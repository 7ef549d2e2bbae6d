-- What an accepted creation leaves.
use Rattle.std.proofs.Common.{◌≡◌, ℕ, Bool, true, false, not, ◌||◌, List, Some, None, Ok, ◌⊎◌, inl, inr, refl, sym, ap, ◌∙◌, subst, arith}
use Rattle.std.specs.Prelude.{IsTrue, if◌then◌else◌, ok_or}
use Rattle.std.specs.Option.{is_some}
use Rattle.std.specs.declared.cmp.Ordering.TheVariants.{Less, Equal, Greater}
use Rattle.std.specs.declared.cmp.Ordering.{Ordering}
use Rattle.std.specs.Ordering.{is_lt, is_eq, ordering_reverse, nat_cmp}
use Rattle.std.specs.Str.{bytes_eq}
use Rattle.std.specs.Cmp.Lexicographic.{slice_cmp}
use Rattle.std.proofs.lemmas.Bool.{not-false, or_parts}
use Rattle.std.proofs.lemmas.Cmp.{nat_list_cmp_total}
use Rattle.std.proofs.lemmas.Map.Text.{is_eq-slice_cmp}
use Rattle.amm_names.specs.Names.{is_token_name}
use Rattle.amm_names.specs.Pools.{is_before, pool_between, pool_spelling, pool_token0, pool_token1, is_fee}
use Rattle.amm_names.proofs.Spelling.{IsPool, token0_of_spelling, token1_of_spelling}
use Rattle.amm_model.specs.declared.fault.Refusal.TheVariants as code
use Rattle.amm_model.specs.Ledger.{Ledger, is_listed, pair_of, zero_pair}
use Rattle.amm_model.specs.Outcome.{Made}
use Rattle.amm_model.specs.Postings.{add_pair}
use Rattle.amm_model.specs.Factory.{create}
use Rattle.amm_model.specs.Sound.{IsSound}
use Rattle.amm_model.proofs.Guards.{given, not_refused, same_answer, was_some, was_none}
use Rattle.amm_model.proofs.PairSound.{add_pair_made, add_pair_sound, one_more_pair, found_before, pair_stays, pair_cases}
use Rattle.amm_model.proofs.Keeping.{Keeps, SameSettings, free_not_locked}
use Rattle.amm_model.proofs.Laters.{Kept, kept_of}

-- the pool, between two listed tokens, was not there; it was added
pub record Created (old : Ledger) (a b : List ℕ) (fee : ℕ) (pool : List ℕ) (made : Ledger) : Type 0 where
  pub between : pool_between a b fee ≡ Some pool
  pub first : is_listed old.tokens a ≡ true
  pub second : is_listed old.tokens b ≡ true
  pub absent : pair_of old.pairs pool ≡ None
  pub added : Made (Unit {0})
  pub adds : add_pair old pool ≡ Ok added
  pub after : made ≡ added.ledger

pub create_created : (ledger : Ledger) (a b : List ℕ) (fee : ℕ) (made : Made (List ℕ)) → create ledger a b fee ≡ Ok made → Created ledger a b fee made.answer made.ledger
unfolding create
create_created ledger a b fee made is =
    let named = given (ok_or (pool_between a b fee) code.Identical) _ made is in
    let pool : List ℕ = named.value in
    let listed = not_refused (not (is_listed ledger.tokens a) || not (is_listed ledger.tokens b)) code.UnknownToken _ made named.after in
    let new = not_refused (is_some (pair_of ledger.pairs pool)) code.PairExists _ made listed.1 in
    let last = given (add_pair ledger pool) _ made new.1 in
    let e = same_answer (record { ledger = last.value.ledger; answer = pool }) made last.after in
    let both = or_parts (not (is_listed ledger.tokens a)) (not (is_listed ledger.tokens b)) listed.0 in
    subst (λ (m : Made (List ℕ)). Created ledger a b fee m.answer m.ledger) e record {
      between = was_some (pool_between a b fee) code.Identical pool named.was;
      first = not-false (is_listed ledger.tokens a) both.0;
      second = not-false (is_listed ledger.tokens b) both.1;
      absent = was_none (pair_of ledger.pairs pool) new.0;
      added = last.value;
      adds = last.was;
      after = refl;
    }

-- ---- the tokens of the pool between two

turned : (a b : List ℕ) → bytes_eq a b ≡ false → is_before a b ≡ false → is_before b a ≡ true
turned a b differ not_below = by (slice_cmp nat_cmp a b) refl (is_eq-slice_cmp a b ∙ differ) not_below
  where
    by : (o : Ordering) → slice_cmp nat_cmp a b ≡ o → is_eq (slice_cmp nat_cmp a b) ≡ false → is_lt (slice_cmp nat_cmp a b) ≡ false → is_before b a ≡ true
    by Less e f g = let both : is_lt Less ≡ false = ap is_lt (sym e) ∙ g in cc
    by Equal e f g = let both : is_eq Equal ≡ false = ap is_eq (sym e) ∙ f in cc
    by Greater e f g = ap is_lt (nat_list_cmp_total.antisymm b a ∙ ap ordering_reverse e)

-- the pool's tokens are the two, in the one order or in the other
abbrev pub AreTokens : List ℕ → List ℕ → List ℕ → Type 0
AreTokens pool a b = ((pool_token0 pool ≡ a) × (pool_token1 pool ≡ b)) ⊎ ((pool_token0 pool ≡ b) × (pool_token1 pool ≡ a))

module _ (a b : List ℕ) (fee : ℕ) (first : IsTrue (is_token_name a)) (second : IsTrue (is_token_name b)) (at_a_fee : IsTrue (is_fee fee)) where
  in_order : is_before a b ≡ true → IsPool a b fee
  in_order below = record { first = first; second = second; ascending = below; at_a_fee = at_a_fee }

  in_turn : is_before b a ≡ true → IsPool b a fee
  in_turn below = record { first = second; second = first; ascending = below; at_a_fee = at_a_fee }

  pub tokens_between : (pool : List ℕ) → pool_between a b fee ≡ Some pool → AreTokens pool a b
  unfolding pool_between
  tokens_between pool is = by (bytes_eq a b) (is_before a b) refl refl is
    where
      spelled : (x y : List ℕ) → IsPool x y fee → pool_spelling x y fee ≡ pool → (pool_token0 pool ≡ x) × (pool_token1 pool ≡ y)
      spelled x y named e = (ap pool_token0 (sym e) ∙ token0_of_spelling x y fee named, ap pool_token1 (sym e) ∙ token1_of_spelling x y fee named)

      by : (same below : Bool) → bytes_eq a b ≡ same → is_before a b ≡ below → (if same then None else Some (if below then pool_spelling a b fee else pool_spelling b a fee)) ≡ Some pool → AreTokens pool a b
      by true below e f gives = cc
      by false true e f gives = inl (spelled a b (in_order f) cc)
      by false false e f gives = inr (spelled b a (in_turn (turned a b e f)) cc)

module _ (ledger : Ledger) (a b : List ℕ) (fee : ℕ) (made : Made (List ℕ)) (first : IsTrue (is_token_name a)) (second : IsTrue (is_token_name b)) (at_a_fee : IsTrue (is_fee fee))
    (is : create ledger a b fee ≡ Ok made) where
  abbrev c : Created ledger a b fee made.answer made.ledger
  c = create_created ledger a b fee made is

  both : (is_listed ledger.tokens (pool_token0 made.answer) ≡ true) × (is_listed ledger.tokens (pool_token1 made.answer) ≡ true)
  both = elim (tokens_between a b fee first second at_a_fee made.answer c.between) [
    | inl e ↦ (ap (is_listed ledger.tokens) e.0 ∙ c.first, ap (is_listed ledger.tokens) e.1 ∙ c.second)
    | inr e ↦ (ap (is_listed ledger.tokens) e.0 ∙ c.second, ap (is_listed ledger.tokens) e.1 ∙ c.first)
  ]

  pub create_sound : IsSound ledger → IsSound made.ledger
  create_sound sound = subst IsSound (sym c.after) (add_pair_sound ledger made.answer c.added c.adds c.absent both.0 both.1 sound)

-- ---- what a creation keeps

new_pair_keeps : (ledger : Ledger) (pool : List ℕ) → pair_of ledger.pairs pool ≡ None → Keeps ledger (one_more_pair ledger pool)
new_pair_keeps ledger pool absent = record {
  stays = pair_stays ledger pool;
  locked = λ q pair is shut. found_before ledger.pairs pool zero_pair q pair is;
  no_other = λ q pair is shut. elim (pair_cases ledger pool q pair absent is) [
    | inl was ↦ was
    | inr new ↦ absurd (free_not_locked zero_pair pair refl (sym new.1) shut)
  ];
  zero = λ q. omega arith;
  totals = λ token. refl;
}

same_with_pair : (ledger : Ledger) (pool : List ℕ) → SameSettings ledger (one_more_pair ledger pool)
same_with_pair ledger pool = record { tokens = refl; fee_to = refl; setter = refl; time = refl; quotes = refl; observations = refl }

module _ (ledger : Ledger) (a b : List ℕ) (fee : ℕ) (made : Made (List ℕ)) (first : IsTrue (is_token_name a)) (second : IsTrue (is_token_name b)) (at_a_fee : IsTrue (is_fee fee))
    (is : create ledger a b fee ≡ Ok made) where
  abbrev new : Created ledger a b fee made.answer made.ledger
  new = create_created ledger a b fee made is

  made_is : made.ledger ≡ one_more_pair ledger made.answer
  made_is = new.after ∙ (add_pair_made ledger made.answer new.added new.adds).1

  pub create_kept : Kept ledger made.ledger
  create_kept = kept_of ledger made.ledger (subst (Keeps ledger) (sym made_is) (new_pair_keeps ledger made.answer new.absent)) (subst (SameSettings ledger) (sym made_is) (same_with_pair ledger made.answer))
      (create_sound ledger a b fee made first second at_a_fee is)
