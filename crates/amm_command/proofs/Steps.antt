-- The steps of a loan by how many loans may be open.
use Rattle.std.proofs.Common.{◌≡◌, ℕ, zero, suc, ◌+◌, ◌-◌, ◌<◌, List, [], ◌∷◌, ◌++◌, length, take, drop, get_or, map, Vec, Global, Result, Ok, Err, refl, sym, ap, ◌∙◌, arith, rules, add-one, drop-cons}
use Rattle.std.proofs.Math.Seq.{take-suc}
use Rattle.std.proofs.lemmas.List.{map-append, take-append-drop}
use Rattle.serde_json.specs.Data.{Data}
use Rattle.amm_model.specs.declared.fault.Refusal.{Refusal}
use Rattle.amm_model.specs.declared.fault.Refusal.TheVariants.{BadCommand}
use Rattle.amm_model.specs.declared.fault.Fault.{Fault}
use Rattle.amm_model.specs.declared.fault.Fault.TheVariants as faults
use Rattle.amm_model.specs.Outcome.{◌>>=◌, Fails, Gives}
use Rattle.amm_model.specs.Json.{each}
use Rattle.amm_model.specs.CommandView.{Move, moves_of, move_of_step, moves_of_steps}
use Rattle.amm_model.specs.Forms.{as_list}
use Rattle.amm_model.specs.Reading.{as_step, as_steps, step_count, steps_inside}
use Rattle.amm_model.specs.declared.command.Step.{Step, Flash, the_lemmas}
use Rattle.amm_model.specs.declared.command.Step.TheVariants.{rolls-Flash}
use Rattle.amm_model.specs.declared.command.Step.TheOpen.{Step-F}
use Rattle.amm_model.specs.declared.command.Step.TheViews.{out-Step, roll-Step, roll-out-Step}

pub as_steps-none : (loans : ℕ) (actor : List ℕ) (d : Data) → loans ≡ 0 → as_steps loans actor d ≡ Err BadCommand
unfolding as_steps
as_steps-none zero actor d h = refl
as_steps-none (suc n) actor d h = absurd (omega arith)

pub as_steps-some : (loans : ℕ) (actor : List ℕ) (d : Data) → 0 < loans → as_steps loans actor d ≡ (as_list d >>= λ ds. each (as_step (as_steps (loans - 1) actor) actor) ds >>= λ ms. Ok (moves_of ms))
unfolding as_steps
as_steps-some zero actor d h = absurd (omega arith)
as_steps-some (suc n) actor d h =
    let same : n ≡ suc n - 1 = omega arith in
    ap (λ k. as_list d >>= λ ds. each (as_step (as_steps k actor) actor) ds >>= λ ms. Ok (moves_of ms)) same

-- what refuses a first part refuses the whole
pub Fails-bind : {A B : Type 0} (e : Fault) (r : Result A Refusal) (f : A → Result B Refusal) → Fails e r → Fails e (r >>= f)
Fails-bind faults.Memory r f h = tt
Fails-bind (faults.Refused code) r f h = ap (λ s. s >>= f) h

-- a call whose result is returned inside another value
pub Gives-map : {X Y Z : Type 0} (v : X → Y) (g : Y → Z) (r : Result X Fault) (m : Result Y Refusal) → Gives v r m → Gives (λ x. g (v x)) r (m >>= λ y. Ok (g y))
Gives-map v g (Ok x) m h = ap (λ s. s >>= λ y. Ok (g y)) h
Gives-map v g (Err e) m h = Fails-bind e m (λ y. Ok (g y)) h

pub step_count-append : (xs ys : List Move) → step_count (moves_of (xs ++ ys)) ≡ step_count (moves_of xs) + step_count (moves_of ys)
step_count-append [] ys = omega arith
step_count-append (x ∷ xs) ys = omega (arith, step_count-append xs ys)

pub steps_inside-flash : (pool : List ℕ) (out0 out1 : ℕ) (steps : Vec Step Global) → steps_inside (move_of_step (Flash pool out0 out1 steps)) ≡ step_count (moves_of_steps steps.items)
steps_inside-flash pool out0 out1 steps = search (rules, the_lemmas)

-- the count up to one step, and of all, around that step
pub step_count-next :
    (xs : List Step) (i : ℕ) (x : Step) → i < length xs → x ≡ get_or xs i x →
    step_count (moves_of_steps (take (i + 1) xs)) ≡ step_count (moves_of_steps (take i xs)) + suc (steps_inside (move_of_step x))
step_count-next xs i x lt is =
    rw (add-one, take-suc xs i x lt, ← is, map-append, step_count-append (map move_of_step (take i xs)) (move_of_step x ∷ [])) (omega arith)

pub step_count-around :
    (xs : List Step) (i : ℕ) (x : Step) → i < length xs → x ≡ get_or xs i x →
    step_count (moves_of_steps xs) ≡ step_count (moves_of_steps (take i xs)) + suc (steps_inside (move_of_step x)) + step_count (moves_of_steps (drop (suc i) xs))
step_count-around xs i x lt is =
    let whole : take i xs ++ (x ∷ drop (suc i) xs) ≡ xs = ap (λ z. take i xs ++ (z ∷ drop (suc i) xs)) is ∙ (ap (λ ds. take i xs ++ ds) (sym (drop-cons xs i x lt)) ∙ take-append-drop i xs) in
    ap (λ l. step_count (moves_of_steps l)) (sym whole) ∙ rw (map-append, step_count-append (map move_of_step (take i xs)) (map move_of_step (x ∷ drop (suc i) xs))) (omega arith)

-- a step that is no loan has no steps inside, layer by layer
steps_inside-layer : (l : Step-F Step) → ((pool : List ℕ) (out0 out1 : ℕ) (steps : Vec Step Global) → roll-Step l ≡ Flash pool out0 out1 steps → ⊥) → steps_inside (move_of_step (roll-Step l)) ≡ 0
steps_inside-layer (Step-F.Transfer asset to n) h = search (rules, the_lemmas)
steps_inside-layer (Step-F.Create a b fee) h = search (rules, the_lemmas)
steps_inside-layer (Step-F.Mint p to) h = search (rules, the_lemmas)
steps_inside-layer (Step-F.Burn p to) h = search (rules, the_lemmas)
steps_inside-layer (Step-F.Swap p m n to) h = search (rules, the_lemmas)
steps_inside-layer (Step-F.Skim p to) h = search (rules, the_lemmas)
steps_inside-layer (Step-F.Sync p) h = search (rules, the_lemmas)
steps_inside-layer (Step-F.Flash p m n steps) h = absurd (h p m n steps (rolls-Flash p m n steps))
steps_inside-layer (Step-F.Add want to deadline) h = search (rules, the_lemmas)
steps_inside-layer (Step-F.Remove want to deadline) h = search (rules, the_lemmas)
steps_inside-layer (Step-F.SwapIn path x min to deadline) h = search (rules, the_lemmas)
steps_inside-layer (Step-F.SwapOut path y max to deadline) h = search (rules, the_lemmas)
steps_inside-layer (Step-F.Settle quote deadline) h = search (rules, the_lemmas)

pub steps_inside-other : (s : Step) → ((pool : List ℕ) (out0 out1 : ℕ) (steps : Vec Step Global) → s ≡ Flash pool out0 out1 steps → ⊥) → steps_inside (move_of_step s) ≡ 0
steps_inside-other s h =
    let back = roll-out-Step s in
    ap (λ t. steps_inside (move_of_step t)) (sym back) ∙ steps_inside-layer (out-Step s) (λ p m n v e. h p m n v (sym back ∙ e))
