-- The lists of a book: tokens and pairs.
use Rattle.std.proofs.Common.{◌≡◌, ℕ, true, false, cond, List, [], ◌∷◌, ◌++◌, nat_eq, None, Some, refl, ap, ◌∙◌}
use Rattle.std.specs.Cmp.Lexicographic.{pointwise}
use Rattle.std.proofs.lemmas.Map.Steps.{set_value_same}
use Rattle.indexmap.specs.IndexSet.{insert_key}
use Rattle.amm_model.specs.declared.pair.PairRecord.{PairRecord}
use Rattle.amm_model.specs.Ledger.{Pairs, pair_of, set_pair, is_listed}

-- a token that is not there goes last
pub insert_key-new : (tokens : List (List ℕ)) (token : List ℕ) → is_listed tokens token ≡ false → insert_key (pointwise nat_eq) tokens token ≡ tokens ++ token ∷ []
insert_key-new tokens token absent = ap (λ b. cond b tokens (tokens ++ token ∷ [])) absent

-- a record for a pool that has no pair is not kept
pub set_pair-missing : (pairs : Pairs) (pool : List ℕ) (pair : PairRecord) → pair_of pairs pool ≡ None → set_pair pairs pool pair ≡ pairs
set_pair-missing [] pool pair none = refl
set_pair-missing (e ∷ pairs) pool pair none =
    elim (pointwise nat_eq pool e.0) as (λ b. cond b (Some e.1) (pair_of pairs pool) ≡ None → cond b ((e.0, pair) ∷ pairs) (e ∷ set_pair pairs pool pair) ≡ e ∷ pairs) [
      | true ↦ λ is. cc
      | false ↦ λ is. ap (λ (rest : Pairs). e ∷ rest) (set_pair-missing pairs pool pair is)
    ] none

-- of two records that are written for a pool the second stays
pub set_pair-twice : (pairs : Pairs) (pool : List ℕ) (x y : PairRecord) → set_pair (set_pair pairs pool x) pool y ≡ set_pair pairs pool y
set_pair-twice [] pool x y = refl
set_pair-twice (e ∷ pairs) pool x y =
    elim (pointwise nat_eq pool e.0) as (λ b. pointwise nat_eq pool e.0 ≡ b → set_pair (cond b ((e.0, x) ∷ pairs) (e ∷ set_pair pairs pool x)) pool y ≡ cond b ((e.0, y) ∷ pairs) (e ∷ set_pair pairs pool y)) [
      | true ↦ λ p. rw p refl
      | false ↦ λ p. rw p (ap (λ (rest : Pairs). e ∷ rest) (set_pair-twice pairs pool x y))
    ] refl

-- a record that is put back
pub set_pair-back : (pairs : Pairs) (pool : List ℕ) (old new : PairRecord) → pair_of pairs pool ≡ Some old → set_pair (set_pair pairs pool new) pool old ≡ pairs
set_pair-back pairs pool old new is = set_pair-twice pairs pool new old ∙ set_value_same (pointwise nat_eq pool) pairs old is
