-- One step of the walk over cycles.
use Rattle.std.proofs.Common.{◌≡◌, ◌≢◌, ℕ, ◌+◌, ◌<◌, ◌≤◌, ◌^◌, inl, inr, Bool, true, false, Some, None, List, [], ◌∷◌, ◌++◌, length, map, arith, refl, sym, ap, subst, ◌∙◌, append_assoc, length-append}
use Rattle.std.specs.Prelude.{All}
use Rattle.std.proofs.lemmas.Bool.{cases_lt}
use Rattle.std.proofs.lemmas.List.Elements.{All-push, All-tail}
use Rattle.amm_model.specs.declared.problem.ProblemPool.{ProblemPool}
use Rattle.amm_model.specs.declared.route.Hop.{Hop}
use Rattle.amm_model.specs.Routing.{OpenView, IsOpenProblem, no_pool, token_place}
use Rattle.amm_names.specs.Names.{Name}
use Rattle.amm_model.specs.Paths.{IsHop, Leads, hop_from, hop_to}
use Rattle.amm_model.specs.Cycles.{IsCycle, IsCycleValue, profit}
use Rattle.amm_model.proofs.Problems.{target_there, token_at, tokens_differ}
use Rattle.amm_graph.specs.Ways.{hop_over}
use Rattle.amm_graph.proofs.AllPaths.{HaveTwoTokens, hop_over-back, hop_over-some}
use Rattle.amm_graph.proofs.Sides.{name_at, names_apart}
use Rattle.amm_graph.proofs.Lists.{All-none, AllPairs-none}
use Rattle.amm_cycle.specs.Chains.{IsApart, IsBegun, IsMost, IsMostBelow, IsMostOver}
use Rattle.amm_cycle.proofs.Middles.{before, behind, middle, pairs-push}

abbrev Apart : ℕ → ℕ → Type 0
Apart a b = a ≢ b

abbrev Other : Name → Name → Type 0
Other a b = a ≢ b

abbrev place_of : Hop → ℕ
place_of hop = hop.pool

pub two_tokens : (problem : OpenView) → IsOpenProblem problem → HaveTwoTokens problem.pools
two_tokens problem sound k below = tokens_differ problem.pools sound.spelled.each k no_pool below

-- ---- a hop in the middle of a cycle

leaves : (pools : List ProblemPool) (first at last : Name) (begun rest : List Hop) (hop : Hop) → Leads pools first begun at → Leads pools first (begun ++ hop ∷ rest) last → hop_from pools hop ≡ at
leaves pools first at last [] rest hop begins leads = leads.0 ∙ begins
leaves pools first at last (b ∷ begun) rest hop begins leads = leaves pools (hop_to pools b) at last begun rest hop begins.1 leads.1

leads-on : (pools : List ProblemPool) (first last : Name) (begun rest : List Hop) (hop : Hop) → Leads pools first (begun ++ hop ∷ rest) last → Leads pools (hop_to pools hop) rest last
leads-on pools first last [] rest hop leads = leads.1
leads-on pools first last (b ∷ begun) rest hop leads = leads-on pools (hop_to pools b) last begun rest hop leads.1

-- hops that lead to t have it behind one of them
no_end : (pools : List ProblemPool) (first t : Name) (next : Hop) (rest : List Hop) → Leads pools first (next ∷ rest) t → All (Other t) (map (hop_to pools) (next ∷ rest)) → ⊥
no_end pools first t next [] leads all = all 0 t (omega arith) (sym leads.1)
no_end pools first t next (more ∷ rest) leads all = no_end pools (hop_to pools next) t more rest leads.1 (All-tail (Other t) (hop_to pools next) (map (hop_to pools) (more ∷ rest)) all)

pub is_apart : (pools : List ProblemPool) (t : Name) (begun rest : List Hop) (hop : Hop) → IsCycle pools t (begun ++ hop ∷ rest) → All (IsApart pools hop) begun
is_apart pools t begun rest hop cycle k d below =
    (before Apart place_of begun rest hop cycle.different k d below, before Other (hop_to pools) begun rest hop cycle.simple k d below)

-- t stands at the ends alone
ended : (pools : List ProblemPool) (t : Name) (begun rest : List Hop) (hop next : Hop) → hop_to pools hop ≡ t → IsCycle pools t (begun ++ hop ∷ next ∷ rest) → ⊥
ended pools t begun rest hop next ends cycle =
    no_end pools (hop_to pools hop) t next rest (leads-on pools t t begun (next ∷ rest) hop cycle.leads)
    (subst (λ (n : Name). All (Other n) (map (hop_to pools) (next ∷ rest))) ends (behind Other (hop_to pools) begun (next ∷ rest) hop cycle.simple))

not_ended : (pools : List ProblemPool) (t : Name) (begun : List Hop) (hop : Hop) → hop_to pools hop ≢ t → IsCycle pools t (begun ++ hop ∷ []) → ⊥
not_ended pools t begun hop past cycle = past (leads-on pools t t begun [] hop cycle.leads)

-- ---- what was met of the cycles that go on with a hop

pub none_over : (pools : List ProblemPool) (t at : Name) (begun : List Hop) (most i : ℕ) → HaveTwoTokens pools → IsBegun pools t at begun → hop_over pools at i ≡ None → IsMostOver pools t begun most i
none_over pools t at begun most i two begins none hop rest same cycle =
    let found = hop_over-back pools at hop two (middle (IsHop pools) begun rest hop cycle.over) (leaves pools t at t begun rest hop begins.leads cycle.leads) in
    let wrong : None ≡ Some hop = sym none ∙ ap (hop_over pools at) (sym same) ∙ found in
    absurd cc

pub some_over : (pools : List ProblemPool) (t at : Name) (begun : List Hop) (hop : Hop) (most i : ℕ) → HaveTwoTokens pools → IsBegun pools t at begun → hop_over pools at i ≡ Some hop →
    ((rest : List Hop) → IsCycle pools t (begun ++ hop ∷ rest) → IsMost pools (begun ++ hop ∷ rest) most) → IsMostOver pools t begun most i
some_over pools t at begun hop most i two begins some met other rest place cycle =
    let found = hop_over-back pools at other two (middle (IsHop pools) begun rest other cycle.over) (leaves pools t at t begun rest other begins.leads cycle.leads) in
    let both : Some hop ≡ Some other = sym some ∙ ap (hop_over pools at) (sym place) ∙ found in
    let same : hop ≡ other = cc in
    subst (λ (h : Hop). (IsCycle pools t (begun ++ h ∷ rest) → IsMost pools (begun ++ h ∷ rest) most)) same (met rest) cycle

pub met_apart : (pools : List ProblemPool) (t : Name) (begun : List Hop) (hop : Hop) (most : ℕ) → ¬ All (IsApart pools hop) begun →
    (rest : List Hop) → IsCycle pools t (begun ++ hop ∷ rest) → IsMost pools (begun ++ hop ∷ rest) most
met_apart pools t begun hop most not rest cycle = absurd (not (is_apart pools t begun rest hop cycle))

pub met_closed : (pools : List ProblemPool) (t : Name) (begun longer : List Hop) (hop : Hop) (most : ℕ) → hop_to pools hop ≡ t → longer ≡ begun ++ hop ∷ [] → IsMost pools longer most →
    (rest : List Hop) → IsCycle pools t (begun ++ hop ∷ rest) → IsMost pools (begun ++ hop ∷ rest) most
met_closed pools t begun longer hop most ends is met [] cycle = subst (λ (hops : List Hop). IsMost pools hops most) is met
met_closed pools t begun longer hop most ends is met (next ∷ rest) cycle = absurd (ended pools t begun rest hop next ends cycle)

pub met_long : (pools : List ProblemPool) (t : Name) (begun : List Hop) (hop : Hop) (most : ℕ) → hop_to pools hop ≢ t → length begun ≡ 3 →
    (rest : List Hop) → IsCycle pools t (begun ++ hop ∷ rest) → IsMost pools (begun ++ hop ∷ rest) most
met_long pools t begun hop most past long [] cycle = absurd (not_ended pools t begun hop past cycle)
met_long pools t begun hop most past long (next ∷ rest) cycle = absurd (omega (arith, cycle.short.1, length-append begun (hop ∷ next ∷ rest)))

pub met_on : (pools : List ProblemPool) (t : Name) (begun longer : List Hop) (hop : Hop) (most : ℕ) → hop_to pools hop ≢ t → longer ≡ begun ++ hop ∷ [] →
    IsMostBelow pools t longer most (length pools) → (rest : List Hop) → IsCycle pools t (begun ++ hop ∷ rest) → IsMost pools (begun ++ hop ∷ rest) most
met_on pools t begun longer hop most past is met [] cycle = absurd (not_ended pools t begun hop past cycle)
met_on pools t begun longer hop most past is met (next ∷ rest) cycle =
    let same : longer ++ next ∷ rest ≡ begun ++ hop ∷ next ∷ rest = ap (λ (l : List Hop). l ++ next ∷ rest) is ∙ append_assoc begun (hop ∷ []) (next ∷ rest) in
    let legal = middle (IsHop pools) (begun ++ hop ∷ []) rest next (subst (λ (l : List Hop). All (IsHop pools) l) (sym (append_assoc begun (hop ∷ []) (next ∷ rest))) cycle.over) in
    subst (λ (l : List Hop). IsMost pools l most) same (met next.pool legal.there next rest refl (subst (λ (l : List Hop). IsCycle pools t l) (sym same) cycle))

pub more_below : (pools : List ProblemPool) (t : Name) (begun : List Hop) (less most i : ℕ) → less ≤ most → IsMostBelow pools t begun less i → IsMostOver pools t begun most i → IsMostBelow pools t begun most (i + 1)
more_below pools t begun less most i more earlier here j below hop rest place cycle e size = elim (cases_lt j i) [
  | inl passed ↦ (let least = earlier j passed hop rest place cycle e size in omega arith)
  | inr last ↦ (let same : j ≡ i = omega arith in here hop rest (place ∙ same) cycle e size)
]

-- ---- one hop more

leads-push : (pools : List ProblemPool) (first at : Name) (begun : List Hop) (hop : Hop) → Leads pools first begun at → hop_from pools hop ≡ at → Leads pools first (begun ++ hop ∷ []) (hop_to pools hop)
leads-push pools first at [] hop leads from = (from ∙ sym leads, refl)
leads-push pools first at (b ∷ begun) hop leads from = (leads.0, leads-push pools (hop_to pools b) at begun hop leads.1 from)

pub begun_more : (pools : List ProblemPool) (t at : Name) (begun : List Hop) (hop : Hop) (i : ℕ) → i < length pools → IsBegun pools t at begun → hop_over pools at i ≡ Some hop → All (IsApart pools hop) begun →
    IsBegun pools t (hop_to pools hop) (begun ++ hop ∷ [])
begun_more pools t at begun hop i below begins some apart =
    let found = hop_over-some pools at i hop some in
    record {
      over = All-push (IsHop pools) begun hop begins.over (record { there = rw found.place below; admissible = rw found.place found.admissible });
      different = pairs-push Apart place_of begun hop begins.different (λ k d under. (apart k d under).0);
      leads = leads-push pools t at begun hop begins.leads found.leaves;
      simple = pairs-push Other (hop_to pools) begun hop begins.simple (λ k d under. (apart k d under).1);
    }

-- a hop leads elsewhere
leads_away : (pools : List ProblemPool) (hop : Hop) → HaveTwoTokens pools → hop.pool < length pools → hop_from pools hop ≡ hop_to pools hop → ⊥
leads_away pools hop two there = by_side hop.pool hop.zero_in there
  where
    by_side : (place : ℕ) (z : Bool) → (let h : Hop = record { pool = place; zero_in = z } in place < length pools → hop_from pools h ≡ hop_to pools h → ⊥)
    by_side place true below e = two place below e
    by_side place false below e = two place below (sym e)

pub cycle_closed : (pools : List ProblemPool) (t : Name) (begun longer : List Hop) (hop : Hop) → HaveTwoTokens pools → length begun ≤ 3 → hop_to pools hop ≡ t → longer ≡ begun ++ hop ∷ [] →
    IsBegun pools t (hop_to pools hop) (begun ++ hop ∷ []) → IsCycle pools t longer
cycle_closed pools t begun longer hop two short ends is begins =
    subst (λ (l : List Hop). IsCycle pools t l) (sym is) (record {
      short = (long begun begins, omega (arith, length-append begun (hop ∷ [])));
      over = begins.over;
      different = begins.different;
      leads = subst (λ (n : Name). Leads pools t (begun ++ hop ∷ []) n) ends begins.leads;
      simple = begins.simple;
    })
  where
    long : (hops : List Hop) → IsBegun pools t (hop_to pools hop) (hops ++ hop ∷ []) → 2 ≤ length (hops ++ hop ∷ [])
    long [] only = absurd (leads_away pools hop two (only.over 0 hop (omega arith)).there (only.leads.0 ∙ sym ends))
    long (b ∷ hops) only = omega (arith, length-append hops (hop ∷ []))

pub begun_none : (pools : List ProblemPool) (t at : Name) (hops : List Hop) → hops ≡ [] → at ≡ t → IsBegun pools t at hops
begun_none pools t at hops none is = rw none (record {
  over = All-none (IsHop pools);
  different = AllPairs-none Apart;
  leads = sym is;
  simple = AllPairs-none Other;
})

-- the whole walk
pub all_met : (pools : List ProblemPool) (t : Name) (begun : List Hop) (most : ℕ) → begun ≡ [] → IsMostBelow pools t begun most (length pools) → (value : ℕ) → IsCycleValue pools t value → value ≤ most
all_met pools t begun most none met value is = of_hops is.hops is.is_cycle is.given
  where
    from_none : IsMostBelow pools t [] most (length pools)
    from_none = subst (λ (l : List Hop). IsMostBelow pools t l most (length pools)) none met

    of_hops : (hops : List Hop) → IsCycle pools t hops → value ≡ profit pools hops (2 ^ is.e) → value ≤ most
    of_hops [] cycle given = absurd (omega (arith, cycle.short.0))
    of_hops (hop ∷ rest) cycle given =
        let least = from_none hop.pool (cycle.over 0 hop (omega arith)).there hop rest refl cycle is.e is.size in
        omega arith

-- ---- places of tokens

pub target_name : (problem : OpenView) (at : ℕ) → IsOpenProblem problem → at ≡ token_place problem.tokens problem.t → name_at problem at ≡ problem.t
target_name problem at sound is = ap (name_at problem) is ∙ token_at problem.tokens problem.t (target_there problem sound)

pub leads_to_target : (problem : OpenView) (next to : ℕ) (hop : Hop) → IsOpenProblem problem → to ≡ token_place problem.tokens problem.t → name_at problem next ≡ hop_to problem.pools hop → next ≡ to → hop_to problem.pools hop ≡ problem.t
leads_to_target problem next to hop sound is leads same = sym leads ∙ ap (name_at problem) same ∙ target_name problem to sound is

pub leads_past_target : (problem : OpenView) (next to : ℕ) (hop : Hop) → IsOpenProblem problem → to ≡ token_place problem.tokens problem.t → name_at problem next ≡ hop_to problem.pools hop →
    next < length problem.tokens → to < length problem.tokens → next ≢ to → hop_to problem.pools hop ≢ problem.t
leads_past_target problem next to hop sound is leads first second apart e = names_apart problem sound next to first second apart (leads ∙ e ∙ sym (target_name problem to sound is))

pub begun_long : (begun longer : List Hop) (hop : Hop) (n : ℕ) → longer ≡ begun ++ hop ∷ [] → length longer ≡ n + 1 → length begun ≡ n
begun_long begun longer hop n is long = omega (arith, ap length is, length-append begun (hop ∷ []))
