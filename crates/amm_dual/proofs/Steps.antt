-- One move of a pass: taken, or of no help.
use Rattle.std.proofs.Common.{◌≡◌, ◌≢◌, ℕ, ◌+◌, ◌*◌, ◌<◌, ◌≤◌, ◌/◌, ◌^◌, Bool, true, false, Some, None, List, [], length, arith, refl, ap, sym, subst, ◌∙◌, get_or, set, get_or-set_same, get_or-set_other, below_more}
use Rattle.std.specs.Prelude.{Option, IfSome}
use Rattle.std.proofs.Math.ListN.{length-set}
use Rattle.std.proofs.lemmas.List.{set-get_or, set-set}
use Rattle.amm_model.specs.declared.prices.Turn.{Turn}
use Rattle.amm_model.specs.Routing.{OpenView, IsOpenProblem, ArePrices, no_pool, token0_of, token1_of}
use Rattle.amm_model.specs.Bound.{bound_of, price_of}
use Rattle.amm_model.specs.Settled.{IsMove, IsSettled, prices_after, price_after, prices_after_turn}
use Rattle.amm_dual.specs.declared.moves.Move.{Move}
use Rattle.std.proofs.lemmas.List.Elements.{All-set}
use Rattle.amm_dual.specs.declared.changes.Change.{Change}
use Rattle.amm_dual.specs.declared.changes.Changes.{Changes}
use Rattle.amm_dual.specs.Running.{RunningView, after}
use Rattle.amm_dual.specs.Moves.{Helps, NoHelpAt, NoHelpBelow, move_of, turns_of, turns_with}
use Rattle.amm_model.proofs.Problems.{token_at, tokens_differ, tokens_there}
use Rattle.amm_dual.proofs.Numbers.{IsSound, move_sound, moves_complete, one_of, target_of, zero_of}

-- a price that was set among prices is one
pub set-in-range : (prices : List ℕ) (place next : ℕ) → place < length prices → ArePrices (set prices place next) → (1 ≤ next) × (next < 2 ^ 40)
set-in-range prices place next below are =
    subst (λ (n : ℕ). (1 ≤ n) × (n < 2 ^ 40)) (get_or-set_same prices place next 0 below) (are place 0 (rw length-set below))

-- and so where another was set after it
pub first-in-range : (prices : List ℕ) (place next other price : ℕ) → place < length prices → other ≢ place → ArePrices (set (set prices place next) other price) → (1 ≤ next) × (next < 2 ^ 40)
first-in-range prices place next other price below apart are =
    subst (λ (n : ℕ). (1 ≤ n) × (n < 2 ^ 40)) (get_or-set_other (set prices place next) other place price 0 (λ e. apart (sym e)) ∙ get_or-set_same prices place next 0 below)
    (are place 0 (rw (length-set (set prices place next) other price, length-set prices place next) below))

-- a price set and set back
pub set-back : (prices : List ℕ) (place next old : ℕ) → old ≡ get_or prices place 0 → set (set prices place next) place old ≡ prices
set-back prices place next old is = set-set prices place next old ∙ ap (set prices place) is ∙ set-get_or prices place 0

-- what was set is the price after a turn
pub turned-is : (prices : List ℕ) (k : ℕ) (turn : Turn) (price next : ℕ) → price ≡ get_or prices turn.place 0 → next ≡ price_after k turn.up price → set prices turn.place next ≡ prices_after_turn k prices turn
turned-is prices k turn price next price-is next-is = ap (set prices turn.place) (next-is ∙ ap (price_after k turn.up) price-is)

-- the second turn is of no help after the first
pub second-steady : (problem mid : OpenView) (prices middle : List ℕ) (k before : ℕ) (first second : Turn) → mid ≡ problem → middle ≡ prices_after_turn k prices first →
    (ArePrices (prices_after_turn k middle second) → before ≤ bound_of mid (prices_after_turn k middle second) + before / 65536) →
    ArePrices (prices_after_turn k (prices_after_turn k prices first) second) → before ≤ bound_of problem (prices_after_turn k (prices_after_turn k prices first) second) + before / 65536
second-steady problem mid prices middle k before first second same is steady =
    subst (λ (o : OpenView). ArePrices (prices_after_turn k (prices_after_turn k prices first) second) → before ≤ bound_of o (prices_after_turn k (prices_after_turn k prices first) second) + before / 65536) same
    (subst (λ (ps : List ℕ). ArePrices (prices_after_turn k ps second) → before ≤ bound_of mid (prices_after_turn k ps second) + before / 65536) is steady)

-- a move leaves the target's price
pub unit-kept : (problem next : OpenView) (prices after : List ℕ) (step : Move) → next ≡ problem → IsMove problem (turns_of step) → after ≡ prices_after step.k prices (turns_of step) →
    price_of next.tokens after next.t ≡ price_of problem.tokens prices problem.t
unit-kept problem next prices after step same is_move is =
    ap (λ (o : OpenView). price_of o.tokens after o.t) same ∙ ap (λ (ps : List ℕ). get_or ps (target_of problem) 0) is ∙ by_second step.second is_move
  where
    by_second : (o : Option Turn) → (let m : Move = record { k = step.k; first = step.first; second = o } in IsMove problem (turns_of m) → get_or (prices_after step.k prices (turns_of m)) (target_of problem) 0 ≡ get_or prices (target_of problem) 0)
    by_second None may = get_or-set_other prices step.first.place (target_of problem) _ 0 (λ e. may.1 (sym e))
    by_second (Some second) may =
        get_or-set_other (prices_after_turn step.k prices step.first) second.place (target_of problem) _ 0 (λ e. may.1.1 (sym e))
        ∙ get_or-set_other prices step.first.place (target_of problem) _ 0 (λ e. may.0.1 (sym e))

-- the places of a sound move are within the prices, and differ
pub first-within : (problem : OpenView) (prices : List ℕ) (step : Move) → length prices ≡ length problem.tokens → IsMove problem (turns_of step) → step.first.place < length prices
first-within problem prices step many is_move = rw many (by_second step.second is_move)
  where
    by_second : (o : Option Turn) → (let m : Move = record { k = step.k; first = step.first; second = o } in IsMove problem (turns_of m) → step.first.place < length problem.tokens)
    by_second None may = may.0
    by_second (Some second) may = may.0.0

-- no listed move helps: none does
pub settled-from : (problem : OpenView) (prices : List ℕ) → length prices ≡ length problem.tokens → ArePrices prices → price_of problem.tokens prices problem.t ≡ 2 ^ 20 →
    NoHelpBelow problem prices (64 * (length problem.tokens + length problem.pools)) → IsSettled problem prices
settled-from problem prices many ranges unit none = record {
  as_many = many;
  ranges = ranges;
  unit = unit;
  steady = λ k turns low high is_move are.
      (let there = moves_complete problem k turns low high is_move in
      let same : prices_after there.step.k prices (turns_of there.step) ≡ prices_after k prices turns = ap (λ (j : ℕ). prices_after j prices (turns_of there.step)) there.size ∙ ap (prices_after k prices) there.same in
      subst (λ (ps : List ℕ). bound_of problem prices ≤ bound_of problem ps + bound_of problem prices / 65536) same
      (none there.n there.below there.step there.is (subst (λ (ps : List ℕ). ArePrices ps) (sym same) are)));
}

-- a move that helps: the prices are not settled
pub not_settled : (problem : OpenView) (prices : List ℕ) (n : ℕ) → Helps problem prices n → ((step : Move) → move_of problem n ≡ Some step → IsSound problem step) → IsSettled problem prices → ⊥
not_settled problem prices n helps sound settled =
    let step = sound helps.step helps.is in
    let least = settled.steady helps.step.k (turns_of helps.step) step.size.0 step.size.1 step.is_move helps.possible in
    let less = helps.lower in
    omega arith

-- one number more
pub none-more : (now next : RunningView) (n : ℕ) → next.prices ≡ now.prices → next.problem ≡ now.problem → NoHelpBelow now.problem now.prices n → NoHelpAt now.problem now.prices n →
    NoHelpBelow next.problem next.prices (n + 1)
none-more now next n prices same before here =
    subst (λ (o : OpenView). NoHelpBelow o next.prices (n + 1)) (sym same)
    (subst (λ (ps : List ℕ). NoHelpBelow now.problem ps (n + 1)) (sym prices) (below_more (λ (m : ℕ). NoHelpAt now.problem now.prices m) n before here))

pub lower-after : (helped : Bool) (first now next : RunningView) (P : Type 0) →
    (helped ≡ true → bound_of now.problem now.prices < bound_of first.problem first.prices) → (helped ≡ false → (now.prices ≡ first.prices) × P) → now.problem ≡ first.problem →
    bound_of next.problem next.prices < bound_of now.problem now.prices → bound_of next.problem next.prices < bound_of first.problem first.prices
lower-after true first now next P lower kept same less = omega (arith, lower refl)
lower-after false first now next P lower kept same less =
    let e = ap (λ (p : OpenView). bound_of p now.prices) same ∙ ap (bound_of first.problem) (kept refl).0 in omega arith

pub same-after : (first now next : RunningView) → next.prices ≡ now.prices → next.problem ≡ now.problem →
    bound_of now.problem now.prices < bound_of first.problem first.prices → bound_of next.problem next.prices < bound_of first.problem first.prices
same-after first now next prices same less =
    let e = ap (λ (p : OpenView). bound_of p next.prices) same ∙ ap (bound_of now.problem) prices in omega arith

-- the two places of a pool's tokens differ
places_apart : (problem : OpenView) → IsOpenProblem problem → (i : ℕ) → i < length problem.pools → zero_of problem i ≢ one_of problem i
places_apart problem sound i below e =
    let there = tokens_there problem sound i no_pool below in
    tokens_differ problem.pools sound.spelled.each i no_pool below
    (sym (token_at problem.tokens (token0_of (get_or problem.pools i no_pool)) there.0) ∙ ap (λ (k : ℕ). get_or problem.tokens k []) e ∙ token_at problem.tokens (token1_of (get_or problem.pools i no_pool)) there.1)

pub second-within : (problem : OpenView) → IsOpenProblem problem → (prices : List ℕ) (step : Move) → length prices ≡ length problem.tokens → IsMove problem (turns_of step) →
    IfSome step.second (λ turn. (turn.place < length prices) × (turn.place ≢ step.first.place))
second-within problem sound prices step many is_move = by_second step.second is_move
  where
    by_second : (o : Option Turn) → (let m : Move = record { k = step.k; first = step.first; second = o } in IsMove problem (turns_of m) → IfSome o (λ turn. (turn.place < length prices) × (turn.place ≢ step.first.place)))
    by_second None may = tt
    by_second (Some second) (may0, may1, (i, inside, zero_is, one_is)) =
        (rw many may1.0, λ e. places_apart problem sound i inside (sym zero_is ∙ sym e ∙ one_is))

-- the move at a number is sound
pub step_sound : (now mid : OpenView) (n : ℕ) (step : Move) (o : Option Move) → mid ≡ now → IsOpenProblem mid → n < 64 * (length now.tokens + length now.pools) → o ≡ move_of mid n → o ≡ Some step →
    IsSound now step × IsOpenProblem now × (move_of now n ≡ Some step)
step_sound now mid n step o same sound below at is =
    subst (λ (p : OpenView). n < 64 * (length p.tokens + length p.pools) → IsSound p step × IsOpenProblem p × (move_of p n ≡ Some step)) same
    (λ under. (move_sound mid sound n step under (sym at ∙ is), sound, sym at ∙ is)) below

-- whether the move was taken or not, the target keeps its price
pub unit-either : (b : Bool) (problem next : OpenView) (prices after : List ℕ) (step : Move) → next ≡ problem → IsMove problem (turns_of step) →
    (b ≡ true → after ≡ prices_after step.k prices (turns_of step)) → (b ≡ false → after ≡ prices) → price_of next.tokens after next.t ≡ price_of problem.tokens prices problem.t
unit-either true problem next prices after step same is_move taken kept = unit-kept problem next prices after step same is_move (taken refl)
unit-either false problem next prices after step same is_move taken kept =
    ap (λ (o : OpenView). price_of o.tokens after o.t) same ∙ ap (λ (ps : List ℕ). price_of problem.tokens ps problem.t) (kept refl)

-- changes to prices in range leave prices
pub ranges-after : (prices : List ℕ) (changes : Changes) → ArePrices prices → (1 ≤ changes.first.price) × (changes.first.price < 2 ^ 40) → (1 ≤ changes.second.price) × (changes.second.price < 2 ^ 40) →
    ArePrices (after prices changes)
ranges-after prices changes are first second =
    All-set (λ (p : ℕ). (1 ≤ p) × (p < 2 ^ 40)) (set prices changes.first.place changes.first.price) changes.second.place changes.second.price second
    (All-set (λ (p : ℕ). (1 ≤ p) × (p < 2 ^ 40)) prices changes.first.place changes.first.price first are)

-- what one turn makes of the prices, and what two make
abbrev pub IsTurnOf : List ℕ → ℕ → Turn → Change → Type 0
IsTurnOf prices k turn change = (change.place ≡ turn.place) × (change.price ≡ price_after k turn.up (get_or prices turn.place 0)) × (1 ≤ change.price) × (change.price < 2 ^ 40)

turned-by : (prices : List ℕ) (k : ℕ) (turn : Turn) (change : Change) → IsTurnOf prices k turn change → set prices change.place change.price ≡ prices_after_turn k prices turn
turned-by prices k turn change is = ap (λ (p : ℕ). set prices p change.price) is.0 ∙ ap (set prices turn.place) is.1

pub one-turn : (prices : List ℕ) (k : ℕ) (turn : Turn) (change : Change) → IsTurnOf prices k turn change →
    (let changes : Changes = record { first = change; second = change } in after prices changes ≡ prices_after_turn k prices turn)
one-turn prices k turn change is = set-set prices change.place change.price change.price ∙ turned-by prices k turn change is

pub two-turns : (prices : List ℕ) (k : ℕ) (one two : Turn) (first second : Change) → two.place ≢ one.place → IsTurnOf prices k one first → IsTurnOf prices k two second →
    (let changes : Changes = record { first = first; second = second } in after prices changes ≡ prices_after_turn k (prices_after_turn k prices one) two)
two-turns prices k one two first second apart is also =
    let same : get_or (prices_after_turn k prices one) two.place 0 ≡ get_or prices two.place 0 = get_or-set_other prices one.place two.place _ 0 apart in
    let price : second.price ≡ price_after k two.up (get_or (prices_after_turn k prices one) two.place 0) = also.1 ∙ ap (price_after k two.up) (sym same) in
    ap (λ (ps : List ℕ). set ps second.place second.price) (turned-by prices k one first is)
    ∙ ap (λ (p : ℕ). set (prices_after_turn k prices one) p second.price) also.0 ∙ ap (set (prices_after_turn k prices one) two.place) price

-- a turn to what is no price
abbrev pub IsNoTurn : List ℕ → ℕ → Turn → Type 0
IsNoTurn prices k turn = (1 ≤ price_after k turn.up (get_or prices turn.place 0)) → (price_after k turn.up (get_or prices turn.place 0) < 2 ^ 40) → ⊥

pub no-first : (prices : List ℕ) (k : ℕ) (first : Turn) (second : Option Turn) → first.place < length prices → IfSome second (λ turn. (turn.place < length prices) × (turn.place ≢ first.place)) →
    IsNoTurn prices k first → ArePrices (prices_after k prices (turns_with first second)) → ⊥
no-first prices k first None below apart none are = let range = set-in-range prices first.place _ below are in none range.0 range.1
no-first prices k first (Some second) below apart none are = let range = first-in-range prices first.place _ second.place _ below apart.1 are in none range.0 range.1

pub no-second : (prices : List ℕ) (k : ℕ) (first second : Turn) → second.place < length prices → second.place ≢ first.place →
    IsNoTurn prices k second → ArePrices (prices_after_turn k (prices_after_turn k prices first) second) → ⊥
no-second prices k first second below apart none are =
    let same : get_or (prices_after_turn k prices first) second.place 0 ≡ get_or prices second.place 0 = get_or-set_other prices first.place second.place _ 0 apart in
    let range = set-in-range (prices_after_turn k prices first) second.place _ (rw (length-set prices first.place) below) are in
    let found = subst (λ (p : ℕ). (1 ≤ price_after k second.up p) × (price_after k second.up p < 2 ^ 40)) same range in
    none found.0 found.1

-- a price after changes that leave prices is one
pub price-in-range : (prices : List ℕ) (changes : Changes) (place : ℕ) → place < length prices → ArePrices (after prices changes) →
    (1 ≤ get_or (after prices changes) place 0) × (get_or (after prices changes) place 0 < 2 ^ 40)
price-in-range prices changes place below are =
    are place 0 (rw (length-set (set prices changes.first.place changes.first.price) changes.second.place changes.second.price, length-set prices changes.first.place changes.first.price) below)

pub no-second-of : (prices : List ℕ) (k : ℕ) (first : Turn) (o : Option Turn) (second : Turn) → o ≡ Some second → IfSome o (λ turn. (turn.place < length prices) × (turn.place ≢ first.place)) →
    IsNoTurn prices k second → ArePrices (prices_after k prices (turns_with first o)) → ⊥
no-second-of prices k first o second is there none =
    let apart = subst (λ (x : Option Turn). IfSome x (λ turn. (turn.place < length prices) × (turn.place ≢ first.place))) is there in
    subst (λ (x : Option Turn). ArePrices (prices_after k prices (turns_with first x)) → ⊥) (sym is) (no-second prices k first second apart.0 apart.1 none)

-- a move of one token
pub one-step : (prices : List ℕ) (k : ℕ) (first : Turn) (o : Option Turn) (change : Change) → o ≡ None → first.place < length prices → ArePrices prices → IsTurnOf prices k first change →
    (let changes : Changes = record { first = change; second = change } in
    (change.place < length prices) × (change.place < length prices) × (after prices changes ≡ prices_after k prices (turns_with first o)) × ArePrices (after prices changes)
    × (1 ≤ change.price) × (change.price < 2 ^ 40) × (1 ≤ change.price) × (change.price < 2 ^ 40))
one-step prices k first o change is below are turn =
    let changes : Changes = record { first = change; second = change } in
    let within : change.place < length prices = rw turn.0 below in
    let same : after prices changes ≡ prices_after k prices (turns_with first o) =
    subst (λ (x : Option Turn). after prices changes ≡ prices_after k prices (turns_with first x)) (sym is) (one-turn prices k first change turn) in
    (within, within, same, ranges-after prices changes are (turn.2, turn.3) (turn.2, turn.3), turn.2, turn.3, turn.2, turn.3)
