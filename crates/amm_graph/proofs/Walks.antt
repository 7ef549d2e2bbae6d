-- One step of the walk.
use Rattle.std.proofs.Common.{◌≡◌, ℕ, Bool, true, false, cond, Some, None, List, [], ◌∷◌, ◌++◌, length, map, arith, zero, suc, refl, sym, ap, ◌∙◌, append_assoc}
use Rattle.std.specs.Str.{bytes_eq}
use Rattle.std.proofs.lemmas.List.{append-nil, map-append}
use Rattle.amm_model.specs.declared.problem.ProblemPool.{ProblemPool}
use Rattle.amm_model.specs.declared.route.Hop.{Hop}
use Rattle.amm_names.specs.Names.{Name}
use Rattle.amm_model.specs.Paths.{hop_to}
use Rattle.amm_graph.specs.declared.path.Path.{Path}
use Rattle.amm_graph.specs.Hops.{hops_of}
use Rattle.amm_graph.specs.Ways.{behind, hop_over, joined, onward, through, ways}

-- one hop more before each list
pub behind-hop : (begun : List Hop) (hop : Hop) (lists : List (List Hop)) →
    behind (begun ++ hop ∷ []) lists ≡ behind begun (map (λ (hops : List Hop). hop ∷ hops) lists)
behind-hop begun hop [] = refl
behind-hop begun hop (hops ∷ lists) = ap (λ (l : List Hop). l ∷ behind (begun ++ hop ∷ []) lists) (append_assoc begun (hop ∷ []) hops) ∙ ap (λ (ls : List (List Hop)). (begun ++ hop ∷ hops) ∷ ls) (behind-hop begun hop lists)

pub behind-append : (begun : List Hop) (xs ys : List (List Hop)) → behind begun (xs ++ ys) ≡ behind begun xs ++ behind begun ys
behind-append begun [] ys = refl
behind-append begun (x ∷ xs) ys = ap (λ (l : List (List Hop)). (begun ++ x) ∷ l) (behind-append begun xs ys)

-- the pool has no hop from the token
pub no_hop : (rest : Name → List (List Hop)) (pools : List ProblemPool) (s t at : Name) (i : ℕ) → hop_over pools at i ≡ None → through rest pools s t at i ≡ []
no_hop rest pools s t at i none = ap (onward rest pools s t) none

-- the hop leads to the target, back to the start, or on
pub hop_ends : (rest : Name → List (List Hop)) (pools : List ProblemPool) (s t at next : Name) (i : ℕ) (hop : Hop) → hop_over pools at i ≡ Some hop → next ≡ hop_to pools hop →
    bytes_eq next t ≡ true → through rest pools s t at i ≡ (hop ∷ []) ∷ []
hop_ends rest pools s t at next i hop some is ends =
    ap (onward rest pools s t) some ∙ ap (λ (b : Bool). cond b ((hop ∷ []) ∷ []) (cond (bytes_eq (hop_to pools hop) s) [] (map (λ (hops : List Hop). hop ∷ hops) (rest (hop_to pools hop))))) (ap (λ (n : Name). bytes_eq n t) (sym is) ∙ ends)

pub hop_returns : (rest : Name → List (List Hop)) (pools : List ProblemPool) (s t at next : Name) (i : ℕ) (hop : Hop) → hop_over pools at i ≡ Some hop → next ≡ hop_to pools hop →
    bytes_eq next t ≡ false → bytes_eq next s ≡ true → through rest pools s t at i ≡ []
hop_returns rest pools s t at next i hop some is ends returns =
    ap (onward rest pools s t) some
    ∙ ap (λ (b : Bool). cond b ((hop ∷ []) ∷ []) (cond (bytes_eq (hop_to pools hop) s) [] (map (λ (hops : List Hop). hop ∷ hops) (rest (hop_to pools hop))))) (ap (λ (n : Name). bytes_eq n t) (sym is) ∙ ends)
    ∙ ap (λ (b : Bool). cond b [] (map (λ (hops : List Hop). hop ∷ hops) (rest (hop_to pools hop)))) (ap (λ (n : Name). bytes_eq n s) (sym is) ∙ returns)

pub hop_leads_on : (rest : Name → List (List Hop)) (pools : List ProblemPool) (s t at next : Name) (i : ℕ) (hop : Hop) → hop_over pools at i ≡ Some hop → next ≡ hop_to pools hop →
    bytes_eq next t ≡ false → bytes_eq next s ≡ false → through rest pools s t at i ≡ map (λ (hops : List Hop). hop ∷ hops) (rest next)
hop_leads_on rest pools s t at next i hop some is ends returns =
    ap (onward rest pools s t) some
    ∙ ap (λ (b : Bool). cond b ((hop ∷ []) ∷ []) (cond (bytes_eq (hop_to pools hop) s) [] (map (λ (hops : List Hop). hop ∷ hops) (rest (hop_to pools hop))))) (ap (λ (n : Name). bytes_eq n t) (sym is) ∙ ends)
    ∙ ap (λ (b : Bool). cond b [] (map (λ (hops : List Hop). hop ∷ hops) (rest (hop_to pools hop)))) (ap (λ (n : Name). bytes_eq n s) (sym is) ∙ returns)
    ∙ ap (λ (n : Name). map (λ (hops : List Hop). hop ∷ hops) (rest n)) (sym is)

-- no hop is left
pub no_ways : (n : ℕ) (pools : List ProblemPool) (s t at : Name) → n ≡ 0 → ways n pools s t at ≡ []
unfolding ways
no_ways zero pools s t at e = refl
no_ways (suc n) pools s t at e = absurd (omega arith)

-- all pools were passed
pub ways-all : (n m i : ℕ) (pools : List ProblemPool) (s t at : Name) → m ≡ suc n → i ≡ length pools →
    joined (through (ways n pools s t) pools s t at) i ≡ ways m pools s t at
unfolding ways
ways-all n m i pools s t at one_more all =
    ap (joined (through (ways n pools s t) pools s t at)) all ∙ ap (λ (k : ℕ). ways k pools s t at) (sym one_more)

-- one path is added
pub one_added : (xs ys : List Path) (path : Path) (begun : List Hop) (hop : Hop) (lists : List (List Hop)) → ys ≡ xs ++ path ∷ [] → hops_of path ≡ begun ++ hop ∷ [] →
    lists ≡ (hop ∷ []) ∷ [] → map hops_of ys ≡ map hops_of xs ++ behind begun lists
one_added xs ys path begun hop lists pushed is one =
    ap (map hops_of) pushed ∙ map-append hops_of xs (path ∷ []) ∙ ap (λ (hops : List Hop). map hops_of xs ++ hops ∷ []) is
    ∙ ap (λ (ls : List (List Hop)). map hops_of xs ++ behind begun ls) (sym one)

-- none is added
pub none_added : (xs : List (List Hop)) (begun : List Hop) (lists : List (List Hop)) → lists ≡ [] → xs ≡ xs ++ behind begun lists
none_added xs begun lists none = sym (append-nil xs) ∙ ap (λ (ls : List (List Hop)). xs ++ behind begun ls) (sym none)

-- those with one hop more are added
pub longer_added : (xs ys : List (List Hop)) (begun longer : List Hop) (hop : Hop) (lists rest : List (List Hop)) → ys ≡ xs ++ behind longer rest → longer ≡ begun ++ hop ∷ [] →
    lists ≡ map (λ (hops : List Hop). hop ∷ hops) rest → ys ≡ xs ++ behind begun lists
longer_added xs ys begun longer hop lists rest added is all =
    added ∙ ap (λ (l : List Hop). xs ++ behind l rest) is ∙ ap (λ (ls : List (List Hop)). xs ++ ls) (behind-hop begun hop rest) ∙ ap (λ (ls : List (List Hop)). xs ++ behind begun ls) (sym all)

-- those over one pool more
pub more_added : (xs ys zs : List (List Hop)) (begun : List Hop) (f : ℕ → List (List Hop)) (i : ℕ) → ys ≡ xs ++ behind begun (joined f i) → zs ≡ ys ++ behind begun (f i) →
    zs ≡ xs ++ behind begun (joined f (suc i))
more_added xs ys zs begun f i before here =
    here ∙ ap (λ (ls : List (List Hop)). ls ++ behind begun (f i)) before ∙ append_assoc xs (behind begun (joined f i)) (behind begun (f i))
    ∙ ap (λ (ls : List (List Hop)). xs ++ ls) (sym (behind-append begun (joined f i) (f i)))

behind-nothing : (lists : List (List Hop)) → behind [] lists ≡ lists
behind-nothing [] = refl
behind-nothing (hops ∷ lists) = ap (λ (ls : List (List Hop)). hops ∷ ls) (behind-nothing lists)

-- the whole walk
pub all_added : (found old : List (List Hop)) (begun : List Hop) (n : ℕ) (pools : List ProblemPool) (s t at : Name) → found ≡ old ++ behind begun (ways n pools s t at) → old ≡ [] → begun ≡ [] → n ≡ 3 →
    found ≡ ways 3 pools s t at
all_added found old begun n pools s t at added none empty all =
    added ∙ ap (λ (ls : List (List Hop)). ls ++ behind begun (ways n pools s t at)) none ∙ ap (λ (l : List Hop). behind l (ways n pools s t at)) empty
    ∙ behind-nothing (ways n pools s t at) ∙ ap (λ (k : ℕ). ways k pools s t at) all
