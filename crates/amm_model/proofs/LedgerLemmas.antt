-- What a change of one balance does to the balances and to the totals.
use Rattle.std.proofs.Common.{◌≡◌, ℕ, ◌+◌, ◌≤◌, ◌==◌, nat_lt, Bool, true, false, cond, None, Some, refl, sym, ap, ◌∙◌, arith, []}
use Rattle.std.proofs.lemmas.Bool.{eqb-true, le-ltb}
use Rattle.std.proofs.lemmas.List.{nil_from_length}
use Rattle.std.specs.Option.{unwrap_or}
use Rattle.std.specs.Cmp.{eq_by_cmp_equiv, Equal-is}
use Rattle.std.specs.FinMap as fin
use Rattle.amm_names.specs.declared.holder.Holder.{Holder}
use Rattle.amm_names.specs.declared.holder.Asset.{Asset}
use Rattle.amm_names.specs.Order.{holder_cmp, asset_cmp, same_holder, same_asset}
use Rattle.amm_model.specs.Ledger.{Holdings, HoldingsByAsset, Ledger, amount, set_amount, sum_held, holdings_of, set_holdings, balance, total, set_balance}
use Rattle.amm_model.specs.Outcome.{ledger_only}
use Rattle.amm_model.specs.Postings.{transfer}
use Rattle.amm_model.specs.Tidy.{IsTidy, IsTidyByAsset}
use Rattle.amm_names.proofs.OrderLemmas.{holder_total, holder_antisymmetric, asset_total, asset_antisymmetric}
use Rattle.amm_model.proofs.FinSum.{in_all, sum-insert, sum-remove, value_at_most_sum}

-- at each holder but the changed one the amount stays
pub amount-set_amount : (held : Holdings) (h : Holder) (n : ℕ) (q : Holder) → amount (set_amount held h n) q ≡ cond (same_holder q h) n (amount held q)
unfolding amount set_amount
amount-set_amount held h n q =
    elim (n == 0) as (λ b. (n == 0) ≡ b → unwrap_or (fin.get (cond b (fin.remove held h) (fin.insert held h n)) q) 0 ≡ cond (same_holder q h) n (unwrap_or (fin.get held q) 0)) [
      | true ↦ λ z. rw (fin.get-remove holder_total held h q) (elim (same_holder q h) as (λ b. unwrap_or (cond b None (fin.get held q)) 0 ≡ cond b n (unwrap_or (fin.get held q) 0)) [ true ↦ sym (eqb-true n 0 z) | false ↦ refl ])
      | false ↦ λ z. rw (fin.get-insert holder_total held h n q) (elim (same_holder q h) as (λ b. unwrap_or (cond b (Some n) (fin.get held q)) 0 ≡ cond b n (unwrap_or (fin.get held q) 0)) [ true ↦ refl | false ↦ refl ])
    ] refl

pub sum_held-set_amount : (held : Holdings) (h : Holder) (n : ℕ) → sum_held (set_amount held h n) + amount held h ≡ sum_held held + n
unfolding amount set_amount sum_held
sum_held-set_amount held h n =
    elim (n == 0) as (λ b. (n == 0) ≡ b → in_all (cond b (fin.remove held h) (fin.insert held h n)) + unwrap_or (fin.get held h) 0 ≡ in_all held + n) [
      | true ↦ λ z. let e = eqb-true n 0 z in let r = sum-remove holder_total holder_antisymmetric held h in r ∙ omega arith
      | false ↦ λ z. sum-insert holder_total held h n
    ] refl

pub amount_within_sum : (held : Holdings) (h : Holder) → amount held h ≤ sum_held held
unfolding amount sum_held
amount_within_sum held h = value_at_most_sum holder_total held h

pub holdings_of-set_holdings : (all : HoldingsByAsset) (a : Asset) (held : Holdings) (q : Asset) → holdings_of (set_holdings all a held) q ≡ cond (same_asset q a) held (holdings_of all q)
unfolding holdings_of set_holdings
holdings_of-set_holdings all a held q =
    elim (fin.len held == 0) as (λ b. (fin.len held == 0) ≡ b → unwrap_or (fin.get (cond b (fin.remove all a) (fin.insert all a held)) q) fin.empty ≡ cond (same_asset q a) held (unwrap_or (fin.get all q) fin.empty)) [
      | true ↦ λ z. rw (fin.get-remove asset_total all a q) (elim (same_asset q a) as (λ b. unwrap_or (cond b None (fin.get all q)) fin.empty ≡ cond b held (unwrap_or (fin.get all q) fin.empty)) [ true ↦ sym (fin.empty_of_len held (eqb-true _ 0 z)) | false ↦ refl ])
      | false ↦ λ z. rw (fin.get-insert asset_total all a held q) (elim (same_asset q a) as (λ b. unwrap_or (cond b (Some held) (fin.get all q)) fin.empty ≡ cond b held (unwrap_or (fin.get all q) fin.empty)) [ true ↦ refl | false ↦ refl ])
    ] refl

pub amount-empty : (q : Holder) → amount fin.empty q ≡ 0
unfolding amount
amount-empty q = rw (fin.get-empty holder_cmp q)

pub sum_held-empty : sum_held fin.empty ≡ 0
unfolding sum_held
sum_held-empty =
    let m : Holdings = fin.empty in
    let none : fin.entries m ≡ [] = nil_from_length (fin.entries m) (sym (fin.len-entries m) ∙ fin.len-empty holder_cmp ℕ) in
    rw none

pub IsTidy-empty : IsTidy fin.empty
IsTidy-empty q = rw (amount-empty q) (fin.get-empty holder_cmp q)

pub IsTidy-set_amount : (held : Holdings) (h : Holder) (n : ℕ) → IsTidy held → IsTidy (set_amount held h n)
unfolding set_amount
IsTidy-set_amount held h n tidy q = rw (amount-set_amount held h n q)
    (elim (n == 0) as (λ b. (n == 0) ≡ b → fin.get (cond b (fin.remove held h) (fin.insert held h n)) q ≡ cond (cond (same_holder q h) n (amount held q) == 0) None (Some (cond (same_holder q h) n (amount held q)))) [
      | true ↦ λ z. rw (fin.get-remove holder_total held h q) (elim (same_holder q h) as (λ b. cond b None (fin.get held q) ≡ cond (cond b n (amount held q) == 0) None (Some (cond b n (amount held q)))) [ true ↦ rw z refl | false ↦ tidy q ])
      | false ↦ λ z. rw (fin.get-insert holder_total held h n q) (elim (same_holder q h) as (λ b. cond b (Some n) (fin.get held q) ≡ cond (cond b n (amount held q) == 0) None (Some (cond b n (amount held q)))) [ true ↦ rw z refl | false ↦ tidy q ])
    ] refl)

-- two tidy holdings with the same amounts are the same
pub same_held : (a b : Holdings) → IsTidy a → IsTidy b → ((q : Holder) → amount a q ≡ amount b q) → a ≡ b
same_held a b s t is = fin.same_map holder_total holder_antisymmetric a b (λ q. s q ∙ ap (λ n. cond (n == 0) None (Some n)) (is q) ∙ sym (t q))

pub holdings_of-empty : (q : Asset) → holdings_of fin.empty q ≡ fin.empty
unfolding holdings_of
holdings_of-empty q = rw (fin.get-empty asset_cmp q)

pub IsTidyByAsset-empty : IsTidyByAsset fin.empty
IsTidyByAsset-empty q = rw (holdings_of-empty q, fin.len-empty holder_cmp ℕ) (fin.get-empty asset_cmp q)

pub IsTidyByAsset-set_holdings : (all : HoldingsByAsset) (a : Asset) (held : Holdings) → IsTidyByAsset all → IsTidyByAsset (set_holdings all a held)
unfolding set_holdings
IsTidyByAsset-set_holdings all a held tidy q = rw (holdings_of-set_holdings all a held q)
    (elim (fin.len held == 0) as (λ b. (fin.len held == 0) ≡ b → fin.get (cond b (fin.remove all a) (fin.insert all a held)) q ≡ cond (fin.len (cond (same_asset q a) held (holdings_of all q)) == 0) None (Some (cond (same_asset q a) held (holdings_of all q)))) [
      | true ↦ λ z. rw (fin.get-remove asset_total all a q) (elim (same_asset q a) as (λ b. cond b None (fin.get all q) ≡ cond (fin.len (cond b held (holdings_of all q)) == 0) None (Some (cond b held (holdings_of all q)))) [ true ↦ rw z refl | false ↦ tidy q ])
      | false ↦ λ z. rw (fin.get-insert asset_total all a held q) (elim (same_asset q a) as (λ b. cond b (Some held) (fin.get all q) ≡ cond (fin.len (cond b held (holdings_of all q)) == 0) None (Some (cond b held (holdings_of all q)))) [ true ↦ rw z refl | false ↦ tidy q ])
    ] refl)

-- two tidy maps with the same holdings of each asset are the same
pub same_holdings : (a b : HoldingsByAsset) → IsTidyByAsset a → IsTidyByAsset b → ((q : Asset) → holdings_of a q ≡ holdings_of b q) → a ≡ b
same_holdings a b s t is = fin.same_map asset_total asset_antisymmetric a b (λ q. s q ∙ ap (λ (held : Holdings). cond (fin.len held == 0) None (Some held)) (is q) ∙ sym (t q))

pub same_asset_itself : (a : Asset) → same_asset a a ≡ true
same_asset_itself a = (eq_by_cmp_equiv asset_total).refl a

-- the holdings of an asset, as they were just set
pub holdings_of-set_here : (all : HoldingsByAsset) (a : Asset) (held : Holdings) → holdings_of (set_holdings all a held) a ≡ held
holdings_of-set_here all a held = holdings_of-set_holdings all a held a ∙ ap (λ b. cond b held (holdings_of all a)) (same_asset_itself a)

-- the total moves by what the balance moves
pub total-set_balance : (l : Ledger) (a : Asset) (h : Holder) (n : ℕ) → total (set_balance l a h n) a + balance l a h ≡ total l a + n
total-set_balance l a h n = rw (holdings_of-set_here l.holdings a (set_amount (holdings_of l.holdings a) h n)) (sum_held-set_amount (holdings_of l.holdings a) h n)

pub balance_within_total : (l : Ledger) (a : Asset) (h : Holder) → balance l a h ≤ total l a
balance_within_total l a h = amount_within_sum (holdings_of l.holdings a) h

-- nobody has anything, so no asset has a total
pub total-nothing : (a : Asset) → sum_held (holdings_of fin.empty a) ≡ 0
total-nothing a = rw (holdings_of-empty a) sum_held-empty

-- a transfer to oneself needs the funds and changes nothing
pub transfer_to_oneself : (l : Ledger) (a : Asset) (f t : Holder) (n : ℕ) → n ≤ balance l a f → same_holder f t ≡ true → transfer l a f t n ≡ ledger_only l
unfolding transfer
transfer_to_oneself l a f t n funds same =
    let enough : nat_lt (balance l a f) n ≡ false = le-ltb (balance l a f) n funds in
    rw (enough, same)

pub same_holder_itself : (h : Holder) → same_holder h h ≡ true
same_holder_itself h = (eq_by_cmp_equiv holder_total).refl h

twice : {X : Type 0} (b : Bool) (x y z : X) → (b ≡ true → x ≡ z) → cond b x (cond b y z) ≡ z
twice true x y z e = e refl
twice false x y z e = refl

-- an amount that is put back
pub set_amount-back : (held : Holdings) (h : Holder) (n : ℕ) → IsTidy held → set_amount (set_amount held h n) h (amount held h) ≡ held
set_amount-back held h n tidy =
    same_held _ held (IsTidy-set_amount _ h _ (IsTidy-set_amount held h n tidy)) tidy (λ q.
    amount-set_amount _ h (amount held h) q ∙ ap (cond (same_holder q h) (amount held h)) (amount-set_amount held h n q)
    ∙ twice (same_holder q h) (amount held h) n (amount held q) (λ e. ap (amount held) (sym (holder_antisymmetric q h ((Equal-is (holder_cmp q h)).0 e)))))

-- holdings that are put back
pub set_holdings-back : (all : HoldingsByAsset) (a : Asset) (held : Holdings) → IsTidyByAsset all → set_holdings (set_holdings all a held) a (holdings_of all a) ≡ all
set_holdings-back all a held tidy =
    same_holdings _ all (IsTidyByAsset-set_holdings _ a _ (IsTidyByAsset-set_holdings all a held tidy)) tidy (λ q.
    holdings_of-set_holdings _ a (holdings_of all a) q ∙ ap (cond (same_asset q a) (holdings_of all a)) (holdings_of-set_holdings all a held q)
    ∙ twice (same_asset q a) (holdings_of all a) held (holdings_of all q) (λ e. ap (holdings_of all) (sym (asset_antisymmetric q a ((Equal-is (asset_cmp q a)).0 e)))))

-- a balance that is put back, where the holdings of the asset are tidy
pub set_balance-back : (l : Ledger) (a : Asset) (h : Holder) (n : ℕ) → IsTidyByAsset l.holdings → IsTidy (holdings_of l.holdings a) → set_balance (set_balance l a h n) a h (balance l a h) ≡ l
set_balance-back l a h n all held =
    let here = holdings_of-set_here l.holdings a (set_amount (holdings_of l.holdings a) h n) in
    let back : set_amount (holdings_of (set_holdings l.holdings a (set_amount (holdings_of l.holdings a) h n)) a) h (balance l a h) ≡ holdings_of l.holdings a =
    ap (λ (x : Holdings). set_amount x h (balance l a h)) here ∙ set_amount-back (holdings_of l.holdings a) h n held in
    ap (λ (x : HoldingsByAsset). record l { holdings = x }) (ap (set_holdings (set_holdings l.holdings a (set_amount (holdings_of l.holdings a) h n)) a) back ∙ set_holdings-back l.holdings a _ all)

-- a balance that was just set
pub balance-set_here : (l : Ledger) (a : Asset) (h : Holder) (n : ℕ) → balance (set_balance l a h n) a h ≡ n
balance-set_here l a h n =
    ap (λ (x : Holdings). amount x h) (holdings_of-set_here l.holdings a (set_amount (holdings_of l.holdings a) h n)) ∙ amount-set_amount (holdings_of l.holdings a) h n h
    ∙ ap (λ b. cond b n (balance l a h)) (same_holder_itself h)

-- the balance of any account after one is set
pub balance-set_balance : (l : Ledger) (a : Asset) (h : Holder) (n : ℕ) (q : Asset) (p : Holder)
    → balance (set_balance l a h n) q p ≡ cond (same_asset q a) (cond (same_holder p h) n (balance l a p)) (balance l q p)
balance-set_balance l a h n q p =
    ap (λ (x : Holdings). amount x p) (holdings_of-set_holdings l.holdings a (set_amount (holdings_of l.holdings a) h n) q)
    ∙ elim (same_asset q a) as (λ b. amount (cond b (set_amount (holdings_of l.holdings a) h n) (holdings_of l.holdings q)) p ≡ cond b (cond (same_holder p h) n (balance l a p)) (balance l q p)) [
      | true ↦ amount-set_amount (holdings_of l.holdings a) h n p
      | false ↦ refl
    ]

-- the total of another asset stays
pub total-set_other : (l : Ledger) (a : Asset) (h : Holder) (n : ℕ) (q : Asset) → same_asset q a ≡ false → total (set_balance l a h n) q ≡ total l q
total-set_other l a h n q apart = ap sum_held (holdings_of-set_holdings l.holdings a (set_amount (holdings_of l.holdings a) h n) q ∙ ap (λ b. cond b (set_amount (holdings_of l.holdings a) h n) (holdings_of l.holdings q)) apart)
