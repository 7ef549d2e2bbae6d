-- A swap in one go: it locks nothing, since nothing runs between its halves. The word serves a
-- private function alone; that it is the swap is proved.
use Rattle.std.specs.Prelude.{ℕ, List}
use Rattle.amm_names.specs.declared.holder.Holder.{Holder}
use Rattle.amm_model.specs.declared.pair.SwapReceipt.{SwapReceipt}
use Rattle.amm_model.specs.Outcome.{◌>>=◌, Outcome}
use Rattle.amm_model.specs.Ledger.{Ledger}
use Rattle.amm_model.specs.Operations.{lending_pair, send_both, settle_swap}

-- a swap that writes the record once
unfoldable pub swap_straight : Ledger → List ℕ → (out0 out1 : ℕ) → Holder → Outcome SwapReceipt
swap_straight ledger pool out0 out1 to = do
  pair ← lending_pair ledger pool out0 out1 to
  sent ← send_both ledger pool out0 out1 to
  settle_swap sent.ledger pool pair out0 out1
