-- What a transfer between two holders leaves, account by account.
use Rattle.std.proofs.Common.{◌≡◌, ◌≢◌, ◌≤◌, ◌+◌, ◌-◌, ℕ, nat_lt, false, ◌⊎◌, inl, inr, sym, ◌∙◌, arith}
use Rattle.std.proofs.lemmas.Bool.{le-ltb}
use Rattle.amm_names.specs.declared.holder.Holder.{Holder}
use Rattle.amm_names.specs.declared.holder.Asset.{Asset}
use Rattle.amm_model.specs.Ledger.{Ledger, balance, with_less, with_transfer}
use Rattle.amm_model.specs.Outcome.{ledger_only}
use Rattle.amm_model.specs.Postings.{transfer}
use Rattle.amm_model.proofs.Names.{holders_apart}
use Rattle.amm_model.proofs.Balances.{Rest, rest_then, Changed, set_balance_changed}

-- n units of the asset went from one holder to another, and nothing else changed
pub record Moved (asset : Asset) (from to : Holder) (n : ℕ) (old new : Ledger) : Type 0 where
  pub rest : Rest old new
  pub less : balance new asset from + n ≡ balance old asset from
  pub more : balance new asset to ≡ balance old asset to + n
  pub others : (any : Asset) (who : Holder) → (any ≢ asset) ⊎ ((who ≢ from) × (who ≢ to)) → balance new any who ≡ balance old any who

-- another account than the one that changed
apart_stays : (a : Asset) (h : Holder) (n : ℕ) (old new : Ledger) → Changed a h n old new → (q : Asset) (p : Holder) → (q ≢ a) ⊎ (p ≢ h) → balance new q p ≡ balance old q p
apart_stays a h n old new c q p apart = elim (c.elsewhere q p) [
  | inl both ↦ elim apart [ inl other ↦ absurd (other both.0) | inr other ↦ absurd (other both.1) ]
  | inr e ↦ e
]

pub moved_moved : (l : Ledger) (a : Asset) (f t : Holder) (n : ℕ) → n ≤ balance l a f → f ≢ t → Moved a f t n l (with_transfer l a f t n)
moved_moved l a f t n funds apart = record {
  rest = rest_then l mid new first.rest second.rest;
  less = omega (arith, still_from, first.here);
  more = omega (arith, still_to, second.here);
  others = λ q p other. elim other [
    | inl asset ↦ apart_stays a t _ mid new second q p (inl asset) ∙ apart_stays a f _ l mid first q p (inl asset)
    | inr holder ↦ apart_stays a t _ mid new second q p (inr holder.1) ∙ apart_stays a f _ l mid first q p (inr holder.0)
  ];
} where
  mid : Ledger
  mid = with_less l a f n

  new : Ledger
  new = with_transfer l a f t n

  first : Changed a f (balance l a f - n) l (with_less l a f n)
  first = set_balance_changed l a f (balance l a f - n)

  second : Changed a t (balance (with_less l a f n) a t + n) (with_less l a f n) (with_transfer l a f t n)
  second = set_balance_changed (with_less l a f n) a t (balance (with_less l a f n) a t + n)

  still_from : balance (with_transfer l a f t n) a f ≡ balance (with_less l a f n) a f
  still_from = apart_stays a t _ (with_less l a f n) (with_transfer l a f t n) second a f (inr apart)

  still_to : balance (with_less l a f n) a t ≡ balance l a t
  still_to = apart_stays a f _ l (with_less l a f n) first a t (inr (λ e. apart (sym e)))

-- a transfer with the funds is made
pub transfer_made : (l : Ledger) (a : Asset) (f t : Holder) (n : ℕ) → n ≤ balance l a f → f ≢ t → transfer l a f t n ≡ ledger_only (with_transfer l a f t n)
unfolding transfer
transfer_made l a f t n funds apart =
    let enough : nat_lt (balance l a f) n ≡ false = le-ltb (balance l a f) n funds in
    rw (enough, holders_apart f t apart)
