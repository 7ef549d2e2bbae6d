-- What the factory does to the ledger: pairs are created, and the setter says who gets the
-- protocol's fee.
use Rattle.std.specs.Prelude.{ℕ, not, ◌||◌, Ok, ok_or}
use Rattle.std.specs.Option.{is_some}
use Rattle.amm_names.specs.Names.{Name}
use Rattle.amm_names.specs.declared.holder.Holder.{Holder}
use Rattle.amm_names.specs.Pools.{pool_between}
use Rattle.amm_model.specs.declared.fault.Refusal.TheVariants as code
use Rattle.amm_model.specs.Outcome.{◌>>=◌, refuse_if, Outcome, ledger_only}
use Rattle.amm_model.specs.Pools.{same_name}
use Rattle.amm_model.specs.Ledger.{Ledger, is_listed, pair_of, with_fee_to, with_setter}
use Rattle.amm_model.specs.Postings.{add_pair}

-- a new pair of two listed tokens at a fee, all its numbers 0 (core, UniswapV2Factory.createPair)
unfoldable pub create : Ledger → (a b : Name) → (fee : ℕ) → Outcome Name
create ledger a b fee = do
  pool ← ok_or (pool_between a b fee) code.Identical
  _ ← refuse_if (not (is_listed ledger.tokens a) || not (is_listed ledger.tokens b)) code.UnknownToken
  _ ← refuse_if (is_some (pair_of ledger.pairs pool)) code.PairExists
  made ← add_pair ledger pool
  Ok (record { ledger = made.ledger; answer = pool })

-- another receiver of the protocol's fee, set by the setter alone (core, UniswapV2Factory.setFeeTo)
unfoldable pub set_fee_to : Ledger → (actor : Name) → Holder → Outcome (Unit {0})
set_fee_to ledger actor to = do
  _ ← refuse_if (not (same_name actor ledger.setter)) code.Forbidden
  ledger_only (with_fee_to ledger to)

-- another setter, set by the setter alone (core, UniswapV2Factory.setFeeToSetter)
unfoldable pub set_setter : Ledger → (actor to : Name) → Outcome (Unit {0})
set_setter ledger actor to = do
  _ ← refuse_if (not (same_name actor ledger.setter)) code.Forbidden
  ledger_only (with_setter ledger to)
