-- One row more.
use Rattle.std.proofs.Common.{◌≡◌, ℕ, ◌+◌, ◌<◌, ◌++◌, List, [], ◌∷◌, length, ap, subst, sym, ◌∙◌, get_or, below_more}
use Rattle.std.proofs.Math.ListN.{get_or-append}
use Rattle.std.proofs.Math.Seq.{get_or-append_seam}
use Rattle.amm_model.specs.declared.problem.ProblemPool.{ProblemPool}
use Rattle.amm_graph.specs.declared.path.Path.{Path}
use Rattle.amm_split.specs.declared.rows.Row.{Row}
use Rattle.amm_split.specs.Shares.{AreRows, AreWide, IsRow, amounts_at, hops_at, no_row}

pub rows-more : (pools : List ProblemPool) (paths : List Path) (d n : ℕ) (rows : List Row) (row : Row) → length rows ≡ n →
    ((i : ℕ) → i < n → IsRow pools (hops_at paths i) d (amounts_at rows i)) → IsRow pools (hops_at paths n) d row.amounts →
    (i : ℕ) → i < n + 1 → IsRow pools (hops_at paths i) d (amounts_at (rows ++ row ∷ []) i)
rows-more pools paths d n rows row many each here = below_more (λ (i : ℕ). IsRow pools (hops_at paths i) d (amounts_at (rows ++ row ∷ []) i)) n
    (λ i lt. subst (λ (r : Row). IsRow pools (hops_at paths i) d r.amounts) (sym (get_or-append rows (row ∷ []) no_row i (subst (λ (m : ℕ). i < m) (sym many) lt))) (each i lt))
    (subst (λ (r : Row). IsRow pools (hops_at paths n) d r.amounts) (sym (ap (λ (m : ℕ). get_or (rows ++ row ∷ []) m no_row) (sym many) ∙ get_or-append_seam rows row [] no_row)) here)

pub wide-of : (pools : List ProblemPool) (paths : List Path) (d : ℕ) (rows : List Row) → AreRows pools paths d rows → AreWide rows (length paths)
wide-of pools paths d rows are = record {
  many = are.many;
  long = λ i inside. (are.each i inside).long;
  below = λ i k inside. (are.each i inside).below k;
}
