-- One path more for the best share.
use Rattle.std.proofs.Common.{◌≡◌, ℕ, ◌+◌, ◌<◌, ◌≤◌, ◌⊎◌, inl, inr, List, arith, refl, below_more}
use Rattle.amm_graph.specs.declared.path.Path.{Path}
use Rattle.amm_split.specs.declared.rows.Row.{Row}
use Rattle.amm_split.specs.declared.shares.Terms.{Terms}
use Rattle.amm_split.specs.declared.shares.Offer.{Offer}
use Rattle.amm_split.specs.declared.shares.Choice.{Choice}
use Rattle.amm_split.specs.Shares.{Fits, IsBest, IsFreeAt, IsOffer, amounts_at, gain_on}

-- a path that cannot be taken changes nothing
pub skipped : (terms : Terms) (left : ℕ) (used : List ℕ) (paths : List Path) (rows : List Row) (i : ℕ) (best : Choice) → IsBest terms left used paths rows i best →
    (IsFreeAt used paths i → ⊥) → IsBest terms left used paths rows (i + 1) best
skipped terms left used paths rows i best was clash = record {
  found = λ g. (omega (arith, (was.found g).0), (was.found g).1, (was.found g).2, (was.found g).3);
  most = λ j k below. below_more (λ (j : ℕ). IsFreeAt used paths j → Fits terms left k → gain_on terms (amounts_at rows j) k ≤ best.gain) i
      (λ j lt free fit. was.most j k lt free fit) (λ free fit. absurd (clash free)) j below;
  first = λ j k below. below_more (λ (j : ℕ). IsFreeAt used paths j → Fits terms left k → 1 ≤ best.gain → gain_on terms (amounts_at rows j) k ≡ best.gain → (best.path < j) ⊎ ((best.path ≡ j) × (best.size ≤ k))) i
      (λ j lt free fit some same. was.first j k lt free fit some same) (λ free fit some same. absurd (clash free)) j below;
}

-- nor does one that gains no more
pub kept : (terms : Terms) (left : ℕ) (used : List ℕ) (paths : List Path) (rows : List Row) (i : ℕ) (best : Choice) (offer : Offer) → IsBest terms left used paths rows i best →
    IsOffer terms left (amounts_at rows i) offer → offer.gain ≤ best.gain → IsBest terms left used paths rows (i + 1) best
kept terms left used paths rows i best offer was offers less = record {
  found = λ g. (omega (arith, (was.found g).0), (was.found g).1, (was.found g).2, (was.found g).3);
  most = λ j k below. below_more (λ (j : ℕ). IsFreeAt used paths j → Fits terms left k → gain_on terms (amounts_at rows j) k ≤ best.gain) i
      (λ j lt free fit. was.most j k lt free fit) (λ free fit. omega (arith, offers.most k fit)) j below;
  first = λ j k below. below_more (λ (j : ℕ). IsFreeAt used paths j → Fits terms left k → 1 ≤ best.gain → gain_on terms (amounts_at rows j) k ≡ best.gain → (best.path < j) ⊎ ((best.path ≡ j) × (best.size ≤ k))) i
      (λ j lt free fit some same. was.first j k lt free fit some same) (λ free fit some same. inl (was.found some).0) j below;
}

-- one that gains more is the best
pub taken : (terms : Terms) (left : ℕ) (used : List ℕ) (paths : List Path) (rows : List Row) (i : ℕ) (best : Choice) (offer : Offer) → IsBest terms left used paths rows i best →
    IsFreeAt used paths i → IsOffer terms left (amounts_at rows i) offer → best.gain < offer.gain →
    IsBest terms left used paths rows (i + 1) (record { path = i; size = offer.size; gain = offer.gain })
taken terms left used paths rows i best offer was free-here offers more = record {
  found = λ g. (omega arith, free-here, (offers.found g).0, (offers.found g).1);
  most = λ j k below. below_more (λ (j : ℕ). IsFreeAt used paths j → Fits terms left k → gain_on terms (amounts_at rows j) k ≤ offer.gain) i
      (λ j lt free fit. omega (arith, was.most j k lt free fit)) (λ free fit. offers.most k fit) j below;
  first = λ j k below. below_more (λ (j : ℕ). IsFreeAt used paths j → Fits terms left k → 1 ≤ offer.gain → gain_on terms (amounts_at rows j) k ≡ offer.gain → (i < j) ⊎ ((i ≡ j) × (offer.size ≤ k))) i
      (λ j lt free fit some same. absurd (omega (arith, was.most j k lt free fit))) (λ free fit some same. inr (refl, offers.least k fit some same)) j below;
}
