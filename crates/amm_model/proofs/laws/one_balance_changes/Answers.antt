use Rattle.std.proofs.Common.{inl, inr}
use Rattle.amm_model.proofs.Balances.{set_balance_changed}
use Rattle.amm_model.proofs.laws.one_balance_changes.Goals as goal

pub returns-clause-here : goal.returns-clause-here
returns-clause-here c ledger asset holder n = (set_balance_changed ledger asset holder n).here

pub returns-clause-holders : goal.returns-clause-holders
returns-clause-holders c ledger asset holder n other apart = elim ((set_balance_changed ledger asset holder n).elsewhere asset other) [
  | inl same ↦ absurd (apart same.1)
  | inr stays ↦ stays
]

pub returns-clause-assets : goal.returns-clause-assets
returns-clause-assets c ledger asset holder n other any apart = elim ((set_balance_changed ledger asset holder n).elsewhere other any) [
  | inl same ↦ absurd (apart same.0)
  | inr stays ↦ stays
]

pub returns-clause-total : goal.returns-clause-total
returns-clause-total c ledger asset holder n = (set_balance_changed ledger asset holder n).whole

pub returns-clause-totals : goal.returns-clause-totals
returns-clause-totals c ledger asset holder n other apart = (set_balance_changed ledger asset holder n).totals other apart
