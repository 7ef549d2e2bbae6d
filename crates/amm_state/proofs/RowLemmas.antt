-- What a table's rows give at a holder.
use Rattle.std.proofs.Common.{◌≡◌, ℕ, ◌+◌, Bool, true, false, cond, List, [], ◌∷◌, Option, Some, is_some, ◌||◌, refl, sym, ap, ◌∙◌, arith}
use Rattle.std.specs.Option.{unwrap_or}
use Rattle.std.specs.Map.{lookup}
use Rattle.std.specs.Cmp.{eq_by_cmp_equiv}
use Rattle.amm_names.specs.declared.holder.Holder.{Holder}
use Rattle.amm_names.specs.contracts.holder.HolderPartialEq.TheImpl as holder_is
use Rattle.amm_names.specs.Order.{same_holder, holder_cmp}
use Rattle.amm_model.specs.Ledger.{amount, set_amount, sum_held}
use Rattle.amm_names.proofs.OrderLemmas.{holder_eq, holder_total, holder_antisymmetric}
use Rattle.amm_model.specs.Tidy.{IsTidy}
use Rattle.amm_model.proofs.LedgerLemmas.{amount-set_amount, amount-empty, IsTidy-empty, IsTidy-set_amount, same_held, sum_held-set_amount}
use Rattle.std.specs.FinSet as set
use Rattle.amm_state.specs.Rows.{AssetTable, held_of, holders_of, table_of, with_row}

abbrev pub eq : Holder → Holder → Bool
eq = (holder_is.ghosts).eq

-- what is read of the first entry, if it is the one, or of what a look-up found behind it
pub read_first : {T X : Type 0} (f : T → X) (b : Bool) (t d : T) (o : Option T) → f (unwrap_or (cond b (Some t) o) d) ≡ cond b (f t) (f (unwrap_or o d))
read_first f true t d o = refl
read_first f false t d o = refl

is_some_first : {T : Type 0} (b : Bool) (t : T) (o : Option T) → is_some (cond b (Some t) o) ≡ (b || is_some o)
is_some_first true t o = refl
is_some_first false t o = refl

-- the amount of a holder, and 0 where it has no row
abbrev pub row_amount : List (Holder × ℕ) → Holder → ℕ
row_amount rows q = unwrap_or (lookup (eq q) rows) 0

pub amount-held_of : (rows : List (Holder × ℕ)) (q : Holder) → amount (held_of rows) q ≡ row_amount rows q
unfolding held_of
amount-held_of [] q = amount-empty q
amount-held_of (e ∷ rows) q =
    amount-set_amount (held_of rows) e.0 e.1 q ∙ ap (cond (same_holder q e.0) e.1) (amount-held_of rows q)
    ∙ ap (λ b. cond b e.1 (row_amount rows q)) (sym (holder_eq q e.0)) ∙ sym (read_first (λ n. n) (eq q e.0) e.1 0 (lookup (eq q) rows))

pub IsTidy-held_of : (rows : List (Holder × ℕ)) → IsTidy (held_of rows)
unfolding held_of
IsTidy-held_of [] = IsTidy-empty
IsTidy-held_of (e ∷ rows) = IsTidy-set_amount (held_of rows) e.0 e.1 (IsTidy-held_of rows)

-- rows that differ at one holder alone
pub held_of-updated : (old new : List (Holder × ℕ)) (h : Holder) (n : ℕ)
    → ((q : Holder) → lookup (eq q) new ≡ cond (eq h q) (Some n) (lookup (eq q) old)) → held_of new ≡ set_amount (held_of old) h n
held_of-updated old new h n updates =
    same_held _ _ (IsTidy-held_of new) (IsTidy-set_amount _ h n (IsTidy-held_of old)) (λ q.
    amount-held_of new q ∙ ap (λ o. unwrap_or o 0) (updates q) ∙ read_first (λ k. k) (eq h q) n 0 (lookup (eq q) old)
    ∙ ap (λ b. cond b n (row_amount old q)) (holder_eq h q ∙ (eq_by_cmp_equiv holder_total).symm h q)
    ∙ ap (cond (same_holder q h) n) (sym (amount-held_of old q)) ∙ sym (amount-set_amount (held_of old) h n q))

pub contains-holders_of : (rows : List (Holder × ℕ)) (q : Holder) → set.contains (holders_of rows) q ≡ is_some (lookup (eq q) rows)
unfolding holders_of
contains-holders_of [] q = set.contains-empty holder_cmp q
contains-holders_of (e ∷ rows) q =
    set.contains-insert holder_total (holders_of rows) e.0 q ∙ ap (λ b. same_holder q e.0 || b) (contains-holders_of rows q)
    ∙ ap (λ b. b || is_some (lookup (eq q) rows)) (sym (holder_eq q e.0)) ∙ sym (is_some_first (eq q e.0) e.1 (lookup (eq q) rows))

pub holders_of-updated : (old new : List (Holder × ℕ)) (h : Holder) (n : ℕ)
    → ((q : Holder) → lookup (eq q) new ≡ cond (eq h q) (Some n) (lookup (eq q) old)) → holders_of new ≡ set.insert (holders_of old) h
holders_of-updated old new h n updates =
    set.same_set holder_total holder_antisymmetric _ _ (λ q.
    contains-holders_of new q ∙ ap is_some (updates q) ∙ is_some_first (eq h q) n (lookup (eq q) old)
    ∙ ap (λ b. b || is_some (lookup (eq q) old)) (holder_eq h q ∙ (eq_by_cmp_equiv holder_total).symm h q)
    ∙ ap (λ b. same_holder q h || b) (sym (contains-holders_of old q)) ∙ sym (set.contains-insert holder_total (holders_of old) h q))

-- rows that differ at one holder alone
pub table_of-updated : (old new : List (Holder × ℕ)) (h : Holder) (n : ℕ)
    → ((q : Holder) → lookup (eq q) new ≡ cond (eq h q) (Some n) (lookup (eq q) old)) → table_of new ≡ with_row (table_of old) h n
table_of-updated old new h n updates = λ i. record { held = held_of-updated old new h n updates i; rows = holders_of-updated old new h n updates i }

-- the amount of a holder, as a look-up found it
pub found_amount : (rows : List (Holder × ℕ)) (q : Holder) (o : Option ℕ) → o ≡ lookup (eq q) rows → unwrap_or o 0 ≡ amount (held_of rows) q
found_amount rows q o is = ap (λ x. unwrap_or x 0) is ∙ sym (amount-held_of rows q)

-- the total after a change at one holder
pub sums-with_row : (old new : AssetTable) (h : Holder) (n was : ℕ) → was ≡ amount old.held h → new ≡ with_row old h n → sum_held new.held + was ≡ sum_held old.held + n
sums-with_row old new h n was e f =
    let changed : sum_held new.held ≡ sum_held (set_amount old.held h n) = ap (λ (t : AssetTable). sum_held t.held) f in
    omega (arith, sum_held-set_amount old.held h n)
