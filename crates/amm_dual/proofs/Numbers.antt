-- The moves by their numbers: each is one, and each is there.
use Rattle.std.proofs.Common.{◌≡◌, ◌≢◌, ℕ, ◌+◌, ◌-◌, ◌*◌, ◌/◌, ◌%◌, ◌<◌, ◌≤◌, Bool, true, false, cond, nat_eq, Some, None, List, [], ◌∷◌, length, arith, refl, sym, ap, subst, ◌∙◌, get_or}
use Rattle.std.specs.Prelude.{nat_lt, nat_le}
use Rattle.std.proofs.lemmas.Bool.{ne_eqb, ltb-true, ltb-false, lt-ltb}
use Rattle.std.proofs.lemmas.Bool.Decides.{nat_tests}
use Rattle.amm_model.specs.declared.prices.Turn.{Turn}
use Rattle.amm_model.specs.Routing.{OpenView, IsOpenProblem, no_pool, token0_of, token1_of, token_place}
use Rattle.amm_model.specs.Settled.{IsMove}
use Rattle.amm_model.proofs.Problems.{tokens_there}
use Rattle.amm_dual.specs.declared.moves.Move.{Move}
use Rattle.amm_dual.specs.Moves.{move_of, pool_move, token_move, turns_of}

abbrev pub target_of : OpenView → ℕ
target_of problem = token_place problem.tokens problem.t

abbrev pub zero_of : OpenView → ℕ → ℕ
zero_of problem i = token_place problem.tokens (token0_of (get_or problem.pools i no_pool))

abbrev pub one_of : OpenView → ℕ → ℕ
one_of problem i = token_place problem.tokens (token1_of (get_or problem.pools i no_pool))

abbrev pub the_token_move : (place k : ℕ) → Bool → Move
the_token_move place k up = record { k = k; first = record { place = place; up = up }; second = None }

abbrev pub the_pool_move : (zero_place one_place k : ℕ) → (first_up second_up : Bool) → Move
the_pool_move zero_place one_place k first_up second_up = record { k = k; first = record { place = zero_place; up = first_up }; second = Some (record { place = one_place; up = second_up }) }

pub token_move-is : (problem : OpenView) (place k : ℕ) (up : Bool) (b : Bool) → nat_eq place (target_of problem) ≡ b → token_move problem place k up ≡ cond b None (Some (the_token_move place k up))
unfolding token_move
token_move-is problem place k up b is = ap (λ (x : Bool). cond x None (Some (the_token_move place k up))) is

pub pool_move-is : (problem : OpenView) (i k : ℕ) (first_up second_up : Bool) (b c : Bool) → nat_eq (zero_of problem i) (target_of problem) ≡ b → nat_eq (one_of problem i) (target_of problem) ≡ c →
    pool_move problem i k first_up second_up ≡ cond b None (cond c None (Some (the_pool_move (zero_of problem i) (one_of problem i) k first_up second_up)))
unfolding pool_move
pool_move-is problem i k first_up second_up b c first second =
    let step = the_pool_move (zero_of problem i) (one_of problem i) k first_up second_up in
    ap (λ (x : Bool). cond x None (cond (nat_eq (one_of problem i) (target_of problem)) None (Some step))) first ∙ ap (λ (x : Bool). cond b None (cond x None (Some step))) second

-- which of the two it is
pub move_of-is : (problem : OpenView) (n : ℕ) (b : Bool) → nat_lt (n / 64) (length problem.tokens) ≡ b →
    move_of problem n ≡ cond b (token_move problem (n / 64) (n % 64 / 4 + 1) (nat_le 2 (n % 4))) (pool_move problem (n / 64 - length problem.tokens) (n % 64 / 4 + 1) (nat_le 2 (n % 4)) (nat_eq (n % 2) 1))
unfolding move_of
move_of-is problem n b is =
    ap (λ (x : Bool). cond x (token_move problem (n / 64) (n % 64 / 4 + 1) (nat_le 2 (n % 4))) (pool_move problem (n / 64 - length problem.tokens) (n % 64 / 4 + 1) (nat_le 2 (n % 4)) (nat_eq (n % 2) 1))) is

-- ---- each is a move

pub record IsSound (problem : OpenView) (step : Move) : Type 0 where
  pub size : (1 ≤ step.k) × (step.k ≤ 16)
  pub is_move : IsMove problem (turns_of step)

token_sound : (problem : OpenView) (place k : ℕ) (up : Bool) (step : Move) → place < length problem.tokens → 1 ≤ k → k ≤ 16 → token_move problem place k up ≡ Some step → IsSound problem step
token_sound problem place k up step below low high is = pick (nat_eq place (target_of problem)) refl
  where
    pick : (b : Bool) → nat_eq place (target_of problem) ≡ b → IsSound problem step
    pick true e = let none : None ≡ Some step = sym (token_move-is problem place k up true e) ∙ is in absurd cc
    pick false e =
        let some : Some (the_token_move place k up) ≡ Some step = sym (token_move-is problem place k up false e) ∙ is in
        let same : the_token_move place k up ≡ step = cc in
        let apart : place ≢ target_of problem = grind (arith, nat_tests) in
        subst (λ (m : Move). IsSound problem m) same (record { size = (low, high); is_move = (below, apart) })

pool_sound : (problem : OpenView) → IsOpenProblem problem → (i k : ℕ) (first_up second_up : Bool) (step : Move) → i < length problem.pools → 1 ≤ k → k ≤ 16 →
    pool_move problem i k first_up second_up ≡ Some step → IsSound problem step
pool_sound problem sound i k first_up second_up step below low high is = pick (nat_eq (zero_of problem i) (target_of problem)) (nat_eq (one_of problem i) (target_of problem)) refl refl
  where
    pick : (b c : Bool) → nat_eq (zero_of problem i) (target_of problem) ≡ b → nat_eq (one_of problem i) (target_of problem) ≡ c → IsSound problem step
    pick true c e f = let none : None ≡ Some step = sym (pool_move-is problem i k first_up second_up true c e f) ∙ is in absurd cc
    pick false true e f = let none : None ≡ Some step = sym (pool_move-is problem i k first_up second_up false true e f) ∙ is in absurd cc
    pick false false e f =
        let made = the_pool_move (zero_of problem i) (one_of problem i) k first_up second_up in
        let some : Some made ≡ Some step = sym (pool_move-is problem i k first_up second_up false false e f) ∙ is in
        let same : made ≡ step = cc in
        let apart0 : zero_of problem i ≢ target_of problem = grind (arith, nat_tests) in
        let apart1 : one_of problem i ≢ target_of problem = grind (arith, nat_tests) in
        let there = tokens_there problem sound i no_pool below in
        subst (λ (m : Move). IsSound problem m) same (record { size = (low, high); is_move = ((there.0, apart0), (there.1, apart1), (i, below, refl, refl)) })

pub move_sound : (problem : OpenView) → IsOpenProblem problem → (n : ℕ) (step : Move) → n < 64 * (length problem.tokens + length problem.pools) → move_of problem n ≡ Some step → IsSound problem step
move_sound problem sound n step below is = pick (nat_lt (n / 64) (length problem.tokens)) refl
  where
    size : n % 64 / 4 + 1 ≤ 16
    size = omega arith

    pick : (b : Bool) → nat_lt (n / 64) (length problem.tokens) ≡ b → IsSound problem step
    pick true e = token_sound problem (n / 64) (n % 64 / 4 + 1) (nat_le 2 (n % 4)) step (ltb-true _ _ e) (omega arith) size (sym (move_of-is problem n true e) ∙ is)
    pick false e =
        let past = ltb-false _ _ e in
        pool_sound problem sound (n / 64 - length problem.tokens) (n % 64 / 4 + 1) (nat_le 2 (n % 4)) (nat_eq (n % 2) 1) step (omega arith) (omega arith) size (sym (move_of-is problem n false e) ∙ is)

-- ---- each move is there

abbrev bit : Bool → ℕ
bit b = cond b 1 0

-- the number of a move
abbrev number : (who k : ℕ) → (a b : Bool) → ℕ
number who k a b = 64 * who + 4 * (k - 1) + 2 * bit a + bit b

record IsNumber (who k : ℕ) (a b : Bool) (n : ℕ) : Type 0 where
  whose : n / 64 ≡ who
  size : n % 64 / 4 + 1 ≡ k
  first : nat_le 2 (n % 4) ≡ a
  second : nat_eq (n % 2) 1 ≡ b

number_is : (who k : ℕ) (a b : Bool) → 1 ≤ k → k ≤ 16 → IsNumber who k a b (number who k a b)
number_is who k a b low high = record { whose = whose a b; size = size a b; first = first a b; second = second a b }
  where
    whose : (a b : Bool) → number who k a b / 64 ≡ who
    whose true true = omega arith
    whose true false = omega arith
    whose false true = omega arith
    whose false false = omega arith

    size : (a b : Bool) → number who k a b % 64 / 4 + 1 ≡ k
    size true true = omega arith
    size true false = omega arith
    size false true = omega arith
    size false false = omega arith

    first : (a b : Bool) → nat_le 2 (number who k a b % 4) ≡ a
    first true true = let e : number who k true true % 4 ≡ 3 = omega arith in rw e refl
    first true false = let e : number who k true false % 4 ≡ 2 = omega arith in rw e refl
    first false true = let e : number who k false true % 4 ≡ 1 = omega arith in rw e refl
    first false false = let e : number who k false false % 4 ≡ 0 = omega arith in rw e refl

    second : (a b : Bool) → nat_eq (number who k a b % 2) 1 ≡ b
    second true true = let e : number who k true true % 2 ≡ 1 = omega arith in rw e refl
    second true false = let e : number who k true false % 2 ≡ 0 = omega arith in rw e refl
    second false true = let e : number who k false true % 2 ≡ 1 = omega arith in rw e refl
    second false false = let e : number who k false false % 2 ≡ 0 = omega arith in rw e refl

-- What stands at some number.
pub record IsThere (problem : OpenView) (k : ℕ) (turns : List Turn) : Type 0 where
  pub n : ℕ
  pub below : n < 64 * (length problem.tokens + length problem.pools)
  pub step : Move
  pub is : move_of problem n ≡ Some step
  pub size : step.k ≡ k
  pub same : turns_of step ≡ turns

pub moves_complete : (problem : OpenView) (k : ℕ) (turns : List Turn) → 1 ≤ k → k ≤ 16 → IsMove problem turns → IsThere problem k turns
moves_complete problem k [] low high is_move = absurd is_move
moves_complete problem k (turn ∷ []) low high is_move =
    let n = number turn.place k turn.up false in
    let num = number_is turn.place k turn.up false low high in
    record {
      n = n;
      below = below turn.up;
      step = the_token_move turn.place k turn.up;
      is = move_of-is problem n true (rw num.whose (lt-ltb _ _ is_move.0)) ∙ rw (num.whose, num.size, num.first) (token_move-is problem turn.place k turn.up false (ne_eqb turn.place (target_of problem) is_move.1));
      size = refl;
      same = refl;
    }
  where
    below : (a : Bool) → number turn.place k a false < 64 * (length problem.tokens + length problem.pools)
    below true = let l = is_move.0 in omega arith
    below false = let l = is_move.0 in omega arith
moves_complete problem k (first ∷ second ∷ []) low high (may0, may1, (i, inside, zero_is, one_is)) =
    let n = number (length problem.tokens + i) k first.up second.up in
    let num = number_is (length problem.tokens + i) k first.up second.up low high in
    let who : n / 64 - length problem.tokens ≡ i = omega (arith, num.whose) in
    let past : nat_lt (n / 64) (length problem.tokens) ≡ false = rw num.whose (not_below (length problem.tokens) i) in
    record {
      n = n;
      below = below first.up second.up;
      step = the_pool_move (zero_of problem i) (one_of problem i) k first.up second.up;
      is = move_of-is problem n false past ∙ rw (who, num.size, num.first, num.second) (pool_move-is problem i k first.up second.up false false
          (ne_eqb (zero_of problem i) (target_of problem) (λ e. may0.1 (zero_is ∙ e))) (ne_eqb (one_of problem i) (target_of problem) (λ e. may1.1 (one_is ∙ e))));
      size = refl;
      same = ap (λ (p : ℕ). (let t : Turn = record { place = p; up = first.up } in t) ∷ (let u : Turn = record { place = one_of problem i; up = second.up } in u) ∷ []) (sym zero_is)
          ∙ ap (λ (p : ℕ). first ∷ (let u : Turn = record { place = p; up = second.up } in u) ∷ []) (sym one_is);
    }
  where
    below : (a b : Bool) → number (length problem.tokens + i) k a b < 64 * (length problem.tokens + length problem.pools)
    below true true = omega arith
    below true false = omega arith
    below false true = omega arith
    below false false = omega arith

    not_below : (a b : ℕ) → nat_lt (a + b) a ≡ false
    not_below a b = grind (arith, nat_tests)
moves_complete problem k (a ∷ b ∷ c ∷ more) low high is_move = absurd is_move

pub not_lt : (a b : ℕ) → b ≤ a → nat_lt a b ≡ false
not_lt a b past = grind (arith, nat_tests)
