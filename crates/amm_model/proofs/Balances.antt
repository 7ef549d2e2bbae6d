-- What the balances and totals are after one balance is set.
use Rattle.std.proofs.Common.{◌≡◌, ◌≢◌, ◌≤◌, ◌+◌, ◌-◌, ℕ, Bool, true, false, cond, ◌⊎◌, inl, inr, refl, sym, ap, ◌∙◌, arith}
use Rattle.std.proofs.lemmas.Bool.{cond-false}
use Rattle.amm_names.specs.declared.holder.Holder.{Holder}
use Rattle.amm_names.specs.declared.holder.Asset.{Asset}
use Rattle.amm_names.specs.Order.{same_holder, same_asset}
use Rattle.amm_model.specs.Ledger.{Ledger, balance, total, set_balance, with_more, with_less}
use Rattle.amm_model.proofs.LedgerLemmas.{balance-set_balance, balance-set_here, total-set_balance, total-set_other}
use Rattle.amm_model.proofs.Names.{holder_cases, asset_cases, holders_apart, assets_apart}

-- nothing but balances changed
pub record Rest (old new : Ledger) : Type 0 where
  pub tokens : new.tokens ≡ old.tokens
  pub pairs : new.pairs ≡ old.pairs
  pub fee_to : new.fee_to ≡ old.fee_to
  pub setter : new.setter ≡ old.setter
  pub time : new.time ≡ old.time
  pub quotes : new.quotes ≡ old.quotes
  pub observations : new.observations ≡ old.observations

pub rest_then : (a b c : Ledger) → Rest a b → Rest b c → Rest a c
rest_then a b c first second = record {
  tokens = second.tokens ∙ first.tokens;
  pairs = second.pairs ∙ first.pairs;
  fee_to = second.fee_to ∙ first.fee_to;
  setter = second.setter ∙ first.setter;
  time = second.time ∙ first.time;
  quotes = second.quotes ∙ first.quotes;
  observations = second.observations ∙ first.observations;
}

pub rest_same : (a : Ledger) → Rest a a
rest_same a = record { tokens = refl; pairs = refl; fee_to = refl; setter = refl; time = refl; quotes = refl; observations = refl }

-- the holder has n of the asset now, and no other account changed
pub record Changed (asset : Asset) (holder : Holder) (n : ℕ) (old new : Ledger) : Type 0 where
  pub rest : Rest old new
  pub here : balance new asset holder ≡ n
  pub elsewhere : (q : Asset) (p : Holder) → ((q ≡ asset) × (p ≡ holder)) ⊎ (balance new q p ≡ balance old q p)
  pub whole : total new asset + balance old asset holder ≡ total old asset + n
  pub totals : (q : Asset) → q ≢ asset → total new q ≡ total old q

pub set_balance_changed : (l : Ledger) (a : Asset) (h : Holder) (n : ℕ) → Changed a h n l (set_balance l a h n)
set_balance_changed l a h n = record {
  rest = record { tokens = refl; pairs = refl; fee_to = refl; setter = refl; time = refl; quotes = refl; observations = refl };
  here = balance-set_here l a h n;
  elsewhere = λ q p. elim (asset_cases q a) [
    | inr other ↦ inr (balance-set_balance l a h n q p ∙ cond-false (same_asset q a) (cond (same_holder p h) n (balance l a p)) (balance l q p) (assets_apart q a other))
    | inl same ↦ elim (holder_cases p h) [
      | inl here ↦ inl (same, here)
      | inr other ↦ inr (ap (λ (k : Asset). balance (set_balance l a h n) k p) same ∙ at_holder p other ∙ sym (ap (λ (k : Asset). balance l k p) same))
    ]
  ];
  whole = total-set_balance l a h n;
  totals = λ q other. total-set_other l a h n q (assets_apart q a other);
} where
  at_holder : (p : Holder) → p ≢ h → balance (set_balance l a h n) a p ≡ balance l a p
  at_holder p other = balance-set_balance l a h n a p ∙ both (same_asset a a) (same_holder p h) n (balance l a p) (holders_apart p h other)
    where
      both : (s b : Bool) (x y : ℕ) → b ≡ false → cond s (cond b x y) y ≡ y
      both true b x y e = cond-false b x y e
      both false b x y e = refl

-- the holder has n more of the asset
pub record Added (asset : Asset) (holder : Holder) (n : ℕ) (old new : Ledger) : Type 0 where
  pub rest : Rest old new
  pub here : balance new asset holder ≡ balance old asset holder + n
  pub grown : (q : Asset) (p : Holder) → balance old q p ≤ balance new q p
  pub others : (q : Asset) (p : Holder) → q ≢ asset → balance new q p ≡ balance old q p
  pub whole : total new asset ≡ total old asset + n
  pub totals : (q : Asset) → q ≢ asset → total new q ≡ total old q

other_account : (a q : Asset) (h p : Holder) (x y : ℕ) → q ≢ a → ((q ≡ a) × (p ≡ h)) ⊎ (x ≡ y) → x ≡ y
other_account a q h p x y other (inl both) = absurd (other both.0)
other_account a q h p x y other (inr e) = e

pub changed_added : (a : Asset) (h : Holder) (n : ℕ) (old new : Ledger) → Changed a h (balance old a h + n) old new → Added a h n old new
changed_added a h n old new c = record {
  rest = c.rest;
  here = c.here;
  grown = λ q p. elim (c.elsewhere q p) [
    | inl both ↦ (let e : balance new q p ≡ balance new a h = ap (λ (k : Asset). balance new k p) both.0 ∙ ap (balance new a) both.1 in
        let f : balance old q p ≡ balance old a h = ap (λ (k : Asset). balance old k p) both.0 ∙ ap (balance old a) both.1 in
        omega (arith, c.here))
    | inr e ↦ omega arith
  ];
  others = λ q p other. other_account a q h p _ _ other (c.elsewhere q p);
  whole = omega (arith, c.whole);
  totals = c.totals;
}

pub added_added : (l : Ledger) (a : Asset) (h : Holder) (n : ℕ) → Added a h n l (with_more l a h n)
added_added l a h n = changed_added a h n l _ (set_balance_changed l a h (balance l a h + n))

-- the holder has n fewer of the asset
pub record Taken (asset : Asset) (holder : Holder) (n : ℕ) (old new : Ledger) : Type 0 where
  pub rest : Rest old new
  pub here : balance new asset holder + n ≡ balance old asset holder
  pub elsewhere : (q : Asset) (p : Holder) → ((q ≡ asset) × (p ≡ holder)) ⊎ (balance new q p ≡ balance old q p)
  pub others : (q : Asset) (p : Holder) → q ≢ asset → balance new q p ≡ balance old q p
  pub whole : total new asset + n ≡ total old asset
  pub totals : (q : Asset) → q ≢ asset → total new q ≡ total old q

-- what another holder has does not fall
pub taken_kept : (a : Asset) (h : Holder) (n : ℕ) (old new : Ledger) → Taken a h n old new → (q : Asset) (p : Holder) → p ≢ h → balance old q p ≤ balance new q p
taken_kept a h n old new with_less q p other = elim (with_less.elsewhere q p) [ inl both ↦ absurd (other both.1) | inr e ↦ omega arith ]

pub changed_taken : (a : Asset) (h : Holder) (n : ℕ) (old new : Ledger) → n ≤ balance old a h → Changed a h (balance old a h - n) old new → Taken a h n old new
changed_taken a h n old new funds c = record {
  rest = c.rest;
  here = omega (arith, c.here);
  elsewhere = c.elsewhere;
  others = λ q p other. other_account a q h p _ _ other (c.elsewhere q p);
  whole = omega (arith, c.whole);
  totals = c.totals;
}

pub taken_taken : (l : Ledger) (a : Asset) (h : Holder) (n : ℕ) → n ≤ balance l a h → Taken a h n l (with_less l a h n)
taken_taken l a h n funds = changed_taken a h n l _ funds (set_balance_changed l a h (balance l a h - n))
