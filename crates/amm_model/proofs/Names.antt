-- Names, holders and assets are the same or apart.
use Rattle.std.proofs.Common.{◌≡◌, ◌≢◌, Bool, true, false, ℕ, List, Option, Some, None, cond, IsSome, refl, sym, ap, ◌∙◌, ◌⊎◌, inl, inr, rules}
use Rattle.std.proofs.lemmas.Bool.{cases_Bool}
use Rattle.std.specs.Cmp.{Equal-is}
use Rattle.std.specs.Cmp.Lexicographic.{nat_list_eq_equiv}
use Rattle.std.proofs.lemmas.Slice.Eq.{slice_eq-Decides}
use Rattle.std.proofs.lemmas.Bool.Decides.{Decides-eqb}
use Rattle.std.proofs.lemmas.Map.{lookup-set_value}
use Rattle.amm_names.specs.declared.holder.Holder.{Holder}
use Rattle.amm_names.specs.declared.holder.Asset.{Asset}
use Rattle.amm_model.specs.declared.pair.PairRecord.{PairRecord}
use Rattle.amm_names.specs.Order.{holder_cmp, asset_cmp, same_holder, same_asset}
use Rattle.amm_model.specs.Pools.{same_name}
use Rattle.amm_model.specs.Ledger.{Pairs, pair_of, set_pair}
use Rattle.amm_names.proofs.OrderLemmas.{holder_antisymmetric, asset_antisymmetric}
use Rattle.amm_model.proofs.LedgerLemmas.{same_holder_itself, same_asset_itself}

pub same_holder_is : (x y : Holder) → same_holder x y ≡ true → x ≡ y
same_holder_is x y e = holder_antisymmetric x y ((Equal-is (holder_cmp x y)).0 e)

pub same_asset_is : (x y : Asset) → same_asset x y ≡ true → x ≡ y
same_asset_is x y e = asset_antisymmetric x y ((Equal-is (asset_cmp x y)).0 e)

told_apart : {X : Type 0} (x y : X) (b : Bool) → (b ≡ true → x ≡ y) → x ≢ y → b ≡ false
told_apart x y true is apart = absurd (apart (is refl))
told_apart x y false is apart = refl

pub holders_apart : (x y : Holder) → x ≢ y → same_holder x y ≡ false
holders_apart x y apart = told_apart x y (same_holder x y) (same_holder_is x y) apart

pub assets_apart : (x y : Asset) → x ≢ y → same_asset x y ≡ false
assets_apart x y apart = told_apart x y (same_asset x y) (same_asset_is x y) apart

pub same_name_is : (x y : List ℕ) → same_name x y ≡ true → x ≡ y
same_name_is x y e = (slice_eq-Decides Decides-eqb x y (same_name x y) refl).0 e

pub same_name_itself : (x : List ℕ) → same_name x x ≡ true
same_name_itself x = nat_list_eq_equiv.refl x

pub names_apart : (x y : List ℕ) → x ≢ y → same_name x y ≡ false
names_apart x y apart = told_apart x y (same_name x y) (same_name_is x y) apart

false_apart : {X : Type 0} (test : X → X → Bool) (x y : X) → test x x ≡ true → test x y ≡ false → x ≢ y
false_apart test x y self e is = let both : test x x ≡ false = ap (test x) is ∙ e in cc

pub name_cases : (x y : List ℕ) → (x ≡ y) ⊎ (x ≢ y)
name_cases x y = elim (cases_Bool (same_name x y)) [ inl e ↦ inl (same_name_is x y e) | inr e ↦ inr (false_apart same_name x y (same_name_itself x) e) ]

pub asset_cases : (x y : Asset) → (x ≡ y) ⊎ (x ≢ y)
asset_cases x y = elim (cases_Bool (same_asset x y)) [ inl e ↦ inl (same_asset_is x y e) | inr e ↦ inr (false_apart same_asset x y (same_asset_itself x) e) ]

pub holder_cases : (x y : Holder) → (x ≡ y) ⊎ (x ≢ y)
holder_cases x y = elim (cases_Bool (same_holder x y)) [ inl e ↦ inl (same_holder_is x y e) | inr e ↦ inr (false_apart same_holder x y (same_holder_itself x) e) ]

-- the record of any pool after one is written
pub pair_of-set_pair : (pairs : Pairs) (pool : List ℕ) (new : PairRecord) (q : List ℕ) → IsSome (pair_of pairs pool)
    → pair_of (set_pair pairs pool new) q ≡ cond (same_name pool q) (Some new) (pair_of pairs q)
pair_of-set_pair pairs pool new q there = lookup-set_value nat_list_eq_equiv (same_name pool) (λ x y e. nat_list_eq_equiv.congr pool x y e) q new pairs there

pub pair_of-set_here : (pairs : Pairs) (pool : List ℕ) (new : PairRecord) → IsSome (pair_of pairs pool) → pair_of (set_pair pairs pool new) pool ≡ Some new
pair_of-set_here pairs pool new there = pair_of-set_pair pairs pool new pool there ∙ ap (λ b. cond b (Some new) (pair_of pairs pool)) (same_name_itself pool)

pub pair_of-set_other : (pairs : Pairs) (pool : List ℕ) (new : PairRecord) (q : List ℕ) → IsSome (pair_of pairs pool) → q ≢ pool → pair_of (set_pair pairs pool new) q ≡ pair_of pairs q
pair_of-set_other pairs pool new q there apart = pair_of-set_pair pairs pool new q there ∙ ap (λ b. cond b (Some new) (pair_of pairs q)) (names_apart pool q (λ e. apart (sym e)))

pub some_there : {X : Type 0} (o : Option X) (x : X) → o ≡ Some x → IsSome o
some_there (Some y) x e = search rules
some_there None x e = cc

pub one_value : {X : Type 0} (o : Option X) (x y : X) → o ≡ Some x → o ≡ Some y → x ≡ y
one_value o x y e f = let both : Some x ≡ Some y = sym e ∙ f in cc
