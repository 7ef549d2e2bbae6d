use Rattle.std.proofs.lemmas.List.Filters.{dedup_is}
use Rattle.amm_model.proofs.Problems.{tokens_ascend, tokens_kept}
use Rattle.amm_model.proofs.parts.tokens_of.Goals as goal

pub returns-clause-ascending : goal.returns-clause-ascending
returns-clause-ascending c = tokens_ascend _ _ c.sort_unstable.ensures.sorted (dedup_is _ _ _ c.dedup.ensures.filtered)

pub returns-clause-tokens : goal.returns-clause-tokens
returns-clause-tokens c =
    rw c.in_ok-tokens.ensures at (tokens_kept _ _ _ c.sort_unstable.ensures.permutation (dedup_is _ _ _ c.dedup.ensures.filtered))
