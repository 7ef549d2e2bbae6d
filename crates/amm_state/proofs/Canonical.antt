-- Where nothing changes, the ledger is the same.
use Rattle.std.proofs.Common.{◌≡◌, ℕ, ◌+◌, ◌-◌, ◌≤◌, nat_lt, Bool, true, false, cond, List, refl, sym, ap, subst, ◌∙◌, arith}
use Rattle.std.proofs.lemmas.Bool.{le-ltb}
use Rattle.amm_names.specs.declared.holder.Holder.{Holder}
use Rattle.amm_names.specs.declared.holder.Asset.{Asset}
use Rattle.amm_names.specs.Order.{same_holder, same_asset}
use Rattle.amm_model.specs.Ledger.{Holdings, HoldingsByAsset, Ledger, amount, set_amount, holdings_of, set_holdings, balance, set_balance, with_more, with_less, with_transfer, opening_ledger, with_setter}
use Rattle.amm_model.specs.Outcome.{ledger_only}
use Rattle.amm_model.specs.Postings.{transfer}
use Rattle.amm_model.proofs.Names.{same_holder_is, same_asset_is}
use Rattle.amm_model.specs.Tidy.{IsTidy, IsTidyByAsset}
use Rattle.amm_model.proofs.LedgerLemmas.{IsTidy-empty, IsTidy-set_amount, IsTidyByAsset-empty, IsTidyByAsset-set_holdings, holdings_of-empty, same_held, same_holdings, amount-set_amount, holdings_of-set_holdings}
use Rattle.amm_state.specs.Journal.{IsCanonical}

pub canonical-set_balance : (l : Ledger) (a : Asset) (h : Holder) (n : ℕ) → IsCanonical l → IsCanonical (set_balance l a h n)
canonical-set_balance l a h n c = record {
  amounts = λ q. subst (λ (x : Holdings). IsTidy x) (sym (holdings_of-set_holdings l.holdings a held q)) (at q (same_asset q a));
  assets = IsTidyByAsset-set_holdings l.holdings a held c.assets;
}
  where
    held : Holdings
    held = set_amount (holdings_of l.holdings a) h n

    at : (q : Asset) (b : Bool) → IsTidy (cond b held (holdings_of l.holdings q))
    at q true = IsTidy-set_amount (holdings_of l.holdings a) h n (c.amounts a)
    at q false = c.amounts q

same_as_there : {X : Type 0} (b : Bool) (x z : X) → (b ≡ true → x ≡ z) → cond b x z ≡ z
same_as_there true x z e = e refl
same_as_there false x z e = refl

set_amount-same : (held : Holdings) (h : Holder) → IsTidy held → set_amount held h (amount held h) ≡ held
set_amount-same held h tidy =
    same_held _ held (IsTidy-set_amount held h _ tidy) tidy (λ q. amount-set_amount held h (amount held h) q
    ∙ same_as_there (same_holder q h) (amount held h) (amount held q) (λ e. ap (amount held) (sym (same_holder_is q h e))))

set_holdings-same : (all : HoldingsByAsset) (a : Asset) → IsTidyByAsset all → set_holdings all a (holdings_of all a) ≡ all
set_holdings-same all a tidy =
    same_holdings _ all (IsTidyByAsset-set_holdings all a _ tidy) tidy (λ q. holdings_of-set_holdings all a (holdings_of all a) q
    ∙ same_as_there (same_asset q a) (holdings_of all a) (holdings_of all q) (λ e. ap (holdings_of all) (sym (same_asset_is q a e))))

-- a balance that is set to what it is
pub set_balance-same : (l : Ledger) (a : Asset) (h : Holder) → IsCanonical l → set_balance l a h (balance l a h) ≡ l
set_balance-same l a h c = ap (λ (x : HoldingsByAsset). record l { holdings = x })
    (ap (set_holdings l.holdings a) (set_amount-same (holdings_of l.holdings a) h (c.amounts a)) ∙ set_holdings-same l.holdings a c.assets)

-- to take no units away changes nothing
pub taken-nothing : (l : Ledger) (a : Asset) (h : Holder) → IsCanonical l → with_less l a h 0 ≡ l
taken-nothing l a h c = let same : balance l a h - 0 ≡ balance l a h = omega arith in ap (set_balance l a h) same ∙ set_balance-same l a h c

added-nothing : (l : Ledger) (a : Asset) (h : Holder) → IsCanonical l → with_more l a h 0 ≡ l
added-nothing l a h c = let same : balance l a h + 0 ≡ balance l a h = omega arith in ap (set_balance l a h) same ∙ set_balance-same l a h c

-- to move no units changes nothing
pub moved-nothing : (l : Ledger) (a : Asset) (f t : Holder) → IsCanonical l → with_transfer l a f t 0 ≡ l
moved-nothing l a f t c = ap (λ (x : Ledger). with_more x a t 0) (taken-nothing l a f c) ∙ added-nothing l a t c

-- a transfer to another
pub transfer-apart : (l : Ledger) (a : Asset) (f t : Holder) (n : ℕ) → n ≤ balance l a f → same_holder f t ≡ false → transfer l a f t n ≡ ledger_only (with_transfer l a f t n)
unfolding transfer
transfer-apart l a f t n funds apart = let enough : nat_lt (balance l a f) n ≡ false = le-ltb (balance l a f) n funds in rw (enough, apart)

-- nobody has anything
pub canonical-opening : (setter : List ℕ) → IsCanonical (with_setter opening_ledger setter)
canonical-opening setter = record { amounts = λ q. subst (λ (x : Holdings). IsTidy x) (sym (holdings_of-empty q)) IsTidy-empty; assets = IsTidyByAsset-empty }
