use Rattle.std.proofs.Common.{length-append, length, ap, ◌∙◌, subst, sym, ℕ, ◌+◌, ◌<◌, List, [], ◌∷◌}
use Rattle.amm_split.specs.declared.rows.Row.{Row}
use Rattle.amm_split.specs.Shares.{IsRow, amounts_at, hops_at}
use Rattle.amm_split.proofs.RowByRow.{rows-more}
use Rattle.amm_split.proofs.rows.rows_of.Goals as goal

pub loop-path-preserved : goal.loop-path-preserved
loop-path-preserved c = record {
  many = ap length c.in_ok-push.ensures.items ∙ (length-append c.loop-path.rows.items (c.row_of.result ∷ []) ∙ ap (λ (n : ℕ). n + 1) c.loop-path.invariant.many);
  each = subst (λ (rows : List Row). (i : ℕ) → i < c.loop-path.path-index + 1 → IsRow c.args.problem.now.pools (hops_at c.args.paths.now i) c.args.d (amounts_at rows i)) (sym c.in_ok-push.ensures.items)
      (rows-more c.args.problem.now.pools c.args.paths.now c.args.d c.loop-path.path-index c.loop-path.rows.items c.row_of.result c.loop-path.invariant.many c.loop-path.invariant.each c.row_of.ensures);
}
