use Rattle.std.proofs.Common.{◌<◌, ◌≤◌, ℕ, get_or}
use Rattle.amm_names.specs.declared.holder.Holder.TheVariants as holders
use Rattle.amm_names.specs.declared.holder.Asset.TheVariants as assets
use Rattle.amm_model.specs.declared.problem.Part.{Part}
use Rattle.amm_model.specs.Ledger.{balance}
use Rattle.amm_settle.proofs.performing.has_parts.Given as goal

abbrev pub invariant-loop-part : goal.invariant-loop-part
invariant-loop-part l =
    (k : ℕ) (d : Part) → k < l.part-index → (get_or l.parts k d).amount ≤ balance l.book.ledger (assets.Token (get_or l.parts k d).token) (holders.User l.actor)
