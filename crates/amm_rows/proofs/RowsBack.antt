-- The row of a command is read as the command, kind by kind.
use Rattle.std.proofs.Common.{◌≡◌, ℕ, zero, suc, ◌+◌, ◌*◌, ◌≤◌, List, [], ◌∷◌, true, nat_le, Ok, refl, sym, ap, ◌∙◌, arith}
use Rattle.std.specs.Prelude.{IsTrue, ⊤}
use Rattle.std.specs.Str.{bytes_eq, IsUtf8}
use Rattle.std.proofs.lemmas.Bool.Decides.{nat_tests}
use Rattle.std.proofs.lemmas.Slice.Eq.{bytes_eq-Decides}
use Rattle.json.proofs.Printed.Utf8.{IsUtf8-are_ascii}
use Rattle.serde_json.specs.Data.{Data, string}
use Rattle.serde_json.specs.View.{items_of}
use Rattle.serde_json.specs.Written.{compact_text}
use Rattle.amm_names.specs.Names.{is_user_name}
use Rattle.amm_rows.proofs.Ascii.{IsUtf8-user, IsUtf8-token}
use Rattle.amm_model.specs.Outcome.{◌>>=◌}
use Rattle.amm_model.specs.Json.{each, list}
use Rattle.amm_model.specs.CommandView as view
use Rattle.amm_model.specs.CommandView.{CommandView, Move, Moves, moves_of}
use Rattle.amm_model.specs.Reading.{as_step, as_steps, step_row, move_row, market_row, row_of, act_row, command_of_line, steps_inside}
use Rattle.amm_model.specs.declared.limits.TheConstants.{STEP_LIMIT}
use Rattle.amm_command.specs.Spelled.{ArePlain, inner_depth}
use Rattle.amm_command.specs.Rows.{move_kind, move_values, step_value, steps_values, command_kind, command_values, row_value}
use Rattle.amm_rows.specs.WellSpelled.{HasUtf8, ItemsHaveUtf8}
use Rattle.amm_rows.specs.Writable.{IsStepRow, AreStepRows, IsRow}
use Rattle.amm_command.proofs.Lists.{elements-items_of, items_plain}
use Rattle.amm_command.proofs.Baskets.{parts_flat}
use Rattle.amm_rows.proofs.Apart.{asset_reads, holder_reads}
use Rattle.amm_rows.proofs.ValuesBack.{user_reads, token_reads, pool_reads, pool_utf8, asset_utf8, holder_utf8, amount_reads, amount_plain, fee_back, path_back}
use Rattle.amm_rows.proofs.PartsBack.{parts_back}
use Rattle.amm_rows.proofs.WrittenBack.{written_back}

-- a step is read from its values, where so many loans may be open
record StepBack (loans : ℕ) (actor : List ℕ) (m : Move) : Type 0 where
  fits : move_row (as_steps loans actor) (move_kind m) (move_values actor m) ≡ Ok m
  plain : ArePlain (move_values actor m)
  flat : inner_depth (move_values actor m) ≤ 2 * loans + 1
  utf8 : ItemsHaveUtf8 (items_of (move_values actor m))

abbrev moves_list : Moves → List Move
moves_list view.no_moves = []
moves_list (view.move m ms) = m ∷ moves_list ms

moves_same : (ms : Moves) → moves_of (moves_list ms) ≡ ms
moves_same view.no_moves = refl
moves_same (view.move m ms) = ap (view.move m) (moves_same ms)

record StepsBack (loans : ℕ) (actor : List ℕ) (ms : Moves) : Type 0 where
  fits : each (as_step (as_steps loans actor) actor) (steps_values actor ms) ≡ Ok (moves_list ms)
  plain : ArePlain (steps_values actor ms)
  flat : inner_depth (steps_values actor ms) ≤ 2 * loans + 2
  utf8 : ItemsHaveUtf8 (items_of (steps_values actor ms))

word_utf8 : (m : Move) → IsUtf8 (move_kind m)
word_utf8 (view.transfer asset to n) = IsUtf8-are_ascii _ refl
word_utf8 (view.create a b fee) = IsUtf8-are_ascii _ refl
word_utf8 (view.mint pool to) = IsUtf8-are_ascii _ refl
word_utf8 (view.burn pool to) = IsUtf8-are_ascii _ refl
word_utf8 (view.swap pool m n to) = IsUtf8-are_ascii _ refl
word_utf8 (view.skim pool to) = IsUtf8-are_ascii _ refl
word_utf8 (view.sync pool) = IsUtf8-are_ascii _ refl
word_utf8 (view.flash pool m n steps) = IsUtf8-are_ascii _ refl
word_utf8 (view.add want to deadline) = IsUtf8-are_ascii _ refl
word_utf8 (view.remove want to deadline) = IsUtf8-are_ascii _ refl
word_utf8 (view.swap_in path x min to deadline) = IsUtf8-are_ascii _ refl
word_utf8 (view.swap_out path y max to deadline) = IsUtf8-are_ascii _ refl
word_utf8 (view.settle quote deadline) = IsUtf8-are_ascii _ refl

one_step : (loans : ℕ) (actor : List ℕ) (m : Move) → StepBack loans actor m → as_step (as_steps loans actor) actor (step_value actor m) ≡ Ok m
unfolding as_step
one_step loans actor m h =
    let self : bytes_eq actor actor ≡ true = (bytes_eq-Decides actor actor).1 refl in
    ap (λ ds. step_row (as_steps loans actor) actor ds) (ap (λ ds. string (move_kind m) ∷ string actor ∷ ds) (elements-items_of (move_values actor m))) ∙ rw self h.fits

steps_more : (loans : ℕ) (actor : List ℕ) (m : Move) (ms : Moves) → IsTrue (is_user_name actor) → StepBack loans actor m → StepsBack loans actor ms → StepsBack loans actor (view.move m ms)
unfolding each
steps_more loans actor m ms user one more = record {
  fits = rw (one_step loans actor m one, more.fits) refl;
  plain = ((tt, (tt, items_plain (move_values actor m) one.plain)), more.plain);
  flat = omega (arith, one.flat, more.flat);
  utf8 = ((word_utf8 m, (IsUtf8-user actor user, one.utf8)), more.utf8);
}

steps_none : (loans : ℕ) (actor : List ℕ) → StepsBack loans actor view.no_moves
unfolding each
steps_none loans actor = record { fits = refl; plain = tt; flat = omega arith; utf8 = tt }

-- the steps of a loan, this one among those that may be open
steps_read : (loans : ℕ) (actor : List ℕ) (ms : Moves) → StepsBack loans actor ms → as_steps (suc loans) actor (list (steps_values actor ms)) ≡ Ok ms
unfolding as_steps
steps_read loans actor ms h =
    ap (λ ds. each (as_step (as_steps loans actor) actor) ds >>= λ found. Ok (moves_of found)) (elements-items_of (steps_values actor ms))
    ∙ ap (λ r. r >>= λ found. Ok (moves_of found)) h.fits ∙ ap Ok (moves_same ms)

mutual
  unfolding move_row

  step_back : (m : Move) (loans : ℕ) (actor : List ℕ) → IsTrue (is_user_name actor) → IsStepRow m loans → StepBack loans actor m
  step_back (view.transfer asset to n) loans actor user h = record {
    fits = rw (asset_reads asset h.0, holder_reads to h.1.0, amount_reads n h.1.1) refl;
    plain = (tt, (tt, (amount_plain n h.1.1, tt)));
    flat = omega arith;
    utf8 = (asset_utf8 asset h.0, (holder_utf8 to h.1.0, (tt, tt)));
  }
  step_back (view.create a b fee) loans actor user h =
      let end = fee_back fee h.1.1 in
      record {
        fits = rw (token_reads a h.0, token_reads b h.1.0, end.fits) refl;
        plain = (tt, (tt, end.plain));
        flat = omega (arith, end.flat);
        utf8 = (IsUtf8-token a h.0, (IsUtf8-token b h.1.0, end.utf8));
      }
  step_back (view.mint pool to) loans actor user h = record {
    fits = rw (pool_reads pool h.0, holder_reads to h.1) refl;
    plain = (tt, (tt, tt));
    flat = omega arith;
    utf8 = (pool_utf8 pool h.0, (holder_utf8 to h.1, tt));
  }
  step_back (view.burn pool to) loans actor user h = record {
    fits = rw (pool_reads pool h.0, holder_reads to h.1) refl;
    plain = (tt, (tt, tt));
    flat = omega arith;
    utf8 = (pool_utf8 pool h.0, (holder_utf8 to h.1, tt));
  }
  step_back (view.swap pool m n to) loans actor user h = record {
    fits = rw (pool_reads pool h.0, amount_reads m h.1.0, amount_reads n h.1.1.0, holder_reads to h.1.1.1) refl;
    plain = (tt, (amount_plain m h.1.0, (amount_plain n h.1.1.0, (tt, tt))));
    flat = omega arith;
    utf8 = (pool_utf8 pool h.0, (tt, (tt, (holder_utf8 to h.1.1.1, tt))));
  }
  step_back (view.skim pool to) loans actor user h = record {
    fits = rw (pool_reads pool h.0, holder_reads to h.1) refl;
    plain = (tt, (tt, tt));
    flat = omega arith;
    utf8 = (pool_utf8 pool h.0, (holder_utf8 to h.1, tt));
  }
  step_back (view.sync pool) loans actor user h = record {
    fits = rw (pool_reads pool h) refl;
    plain = (tt, tt);
    flat = omega arith;
    utf8 = (pool_utf8 pool h, tt);
  }
  step_back (view.flash pool m n steps) zero actor user h = absurd h
  step_back (view.flash pool m n steps) (suc loans) actor user h =
      let inside = steps_back steps loans actor user h.1.1.1 in
      record {
        fits = rw (pool_reads pool h.0, amount_reads m h.1.0, amount_reads n h.1.1.0, steps_read loans actor steps inside) refl;
        plain = (tt, (amount_plain m h.1.0, (amount_plain n h.1.1.0, (items_plain (steps_values actor steps) inside.plain, tt))));
        flat = omega (arith, inside.flat);
        utf8 = (pool_utf8 pool h.0, (tt, (tt, (inside.utf8, tt))));
      }
  step_back (view.add want to deadline) loans actor user h =
      let w = h.0 in
      let end = fee_back want.fee w.fee in
      record {
        fits = rw (token_reads want.a w.a, token_reads want.b w.b, amount_reads want.a_desired w.a_desired, amount_reads want.b_desired w.b_desired, amount_reads want.a_min w.a_min, amount_reads want.b_min w.b_min, holder_reads to h.1.0, amount_reads deadline h.1.1, end.fits) refl;
        plain = (tt, (tt, (amount_plain want.a_desired w.a_desired, (amount_plain want.b_desired w.b_desired, (amount_plain want.a_min w.a_min, (amount_plain want.b_min w.b_min, (tt, (amount_plain deadline h.1.1, end.plain))))))));
        flat = omega (arith, end.flat);
        utf8 = (IsUtf8-token want.a w.a, (IsUtf8-token want.b w.b, (tt, (tt, (tt, (tt, (holder_utf8 to h.1.0, (tt, end.utf8))))))));
      }
  step_back (view.remove want to deadline) loans actor user h =
      let w = h.0 in
      let end = fee_back want.fee w.fee in
      record {
        fits = rw (token_reads want.a w.a, token_reads want.b w.b, amount_reads want.shares w.shares, amount_reads want.a_min w.a_min, amount_reads want.b_min w.b_min, holder_reads to h.1.0, amount_reads deadline h.1.1, end.fits) refl;
        plain = (tt, (tt, (amount_plain want.shares w.shares, (amount_plain want.a_min w.a_min, (amount_plain want.b_min w.b_min, (tt, (amount_plain deadline h.1.1, end.plain)))))));
        flat = omega (arith, end.flat);
        utf8 = (IsUtf8-token want.a w.a, (IsUtf8-token want.b w.b, (tt, (tt, (tt, (holder_utf8 to h.1.0, (tt, end.utf8)))))));
      }
  step_back (view.swap_in path x min to deadline) loans actor user h =
      let along = path_back path h.0 in
      record {
        fits = rw (along.fits, amount_reads x h.1.0, amount_reads min h.1.1.0, holder_reads to h.1.1.1.0, amount_reads deadline h.1.1.1.1) refl;
        plain = (along.plain, (amount_plain x h.1.0, (amount_plain min h.1.1.0, (tt, (amount_plain deadline h.1.1.1.1, tt)))));
        flat = omega (arith, along.flat);
        utf8 = (along.utf8, (tt, (tt, (holder_utf8 to h.1.1.1.0, (tt, tt)))));
      }
  step_back (view.swap_out path y max to deadline) loans actor user h =
      let along = path_back path h.0 in
      record {
        fits = rw (along.fits, amount_reads y h.1.0, amount_reads max h.1.1.0, holder_reads to h.1.1.1.0, amount_reads deadline h.1.1.1.1) refl;
        plain = (along.plain, (amount_plain y h.1.0, (amount_plain max h.1.1.0, (tt, (amount_plain deadline h.1.1.1.1, tt)))));
        flat = omega (arith, along.flat);
        utf8 = (along.utf8, (tt, (tt, (holder_utf8 to h.1.1.1.0, (tt, tt)))));
      }
  step_back (view.settle quote deadline) loans actor user h = record {
    fits = rw (amount_reads quote h.0, amount_reads deadline h.1) refl;
    plain = (amount_plain quote h.0, (amount_plain deadline h.1, tt));
    flat = omega arith;
    utf8 = (tt, (tt, tt));
  }

  steps_back : (ms : Moves) (loans : ℕ) (actor : List ℕ) → IsTrue (is_user_name actor) → AreStepRows ms loans → StepsBack loans actor ms
  steps_back view.no_moves loans actor user h = steps_none loans actor
  steps_back (view.move m ms) loans actor user h = steps_more loans actor m ms user (step_back m loans actor user h.0) (steps_back ms loans actor user h.1)

-- ---- commands

-- the row of a step's kind is that of a command with an actor
act_of : (m : Move) (ds : List Data) → row_of (move_kind m) ds ≡ act_row (move_kind m) ds
unfolding row_of market_row
act_of (view.transfer asset to n) ds = refl
act_of (view.create a b fee) ds = refl
act_of (view.mint pool to) ds = refl
act_of (view.burn pool to) ds = refl
act_of (view.swap pool m n to) ds = refl
act_of (view.skim pool to) ds = refl
act_of (view.sync pool) ds = refl
act_of (view.flash pool m n steps) ds = refl
act_of (view.add want to deadline) ds = refl
act_of (view.remove want to deadline) ds = refl
act_of (view.swap_in path x min to deadline) ds = refl
act_of (view.swap_out path y max to deadline) ds = refl
act_of (view.settle quote deadline) ds = refl

act_back : (actor : List ℕ) (m : Move) → IsRow (view.act actor m) → command_of_line (compact_text (row_value (view.act actor m))) ≡ Ok (view.act actor m)
act_back actor m h =
    let one = step_back m 8 actor h.0 h.1.0 in
    let inside : steps_inside m ≤ 256 = h.1.1 in
    let few : nat_le (steps_inside m) STEP_LIMIT ≡ true = grind (arith, nat_tests) in
    written_back (view.act actor m)
    (act_of m (string actor ∷ move_values actor m) ∙ rw (user_reads actor h.0, one.fits, few) refl)
    (tt, one.plain) (omega (arith, one.flat)) (word_utf8 m, (IsUtf8-user actor h.0, one.utf8))

pub row_back : (c : CommandView) → IsRow c → command_of_line (compact_text (row_value c)) ≡ Ok c
unfolding row_of market_row
row_back (view.deposit user token n) h =
    written_back (view.deposit user token n) (rw (user_reads user h.0, token_reads token h.1.0, amount_reads n h.1.1) refl)
    (tt, (tt, (amount_plain n h.1.1, tt))) (omega arith) (IsUtf8-are_ascii _ refl, (IsUtf8-user user h.0, (IsUtf8-token token h.1.0, (tt, tt))))
row_back (view.withdraw user token n) h =
    written_back (view.withdraw user token n) (rw (user_reads user h.0, token_reads token h.1.0, amount_reads n h.1.1) refl)
    (tt, (tt, (amount_plain n h.1.1, tt))) (omega arith) (IsUtf8-are_ascii _ refl, (IsUtf8-user user h.0, (IsUtf8-token token h.1.0, (tt, tt))))
row_back (view.time n) h = written_back (view.time n) (rw (amount_reads n h) refl) (amount_plain n h, tt) (omega arith) (IsUtf8-are_ascii _ refl, (tt, tt))
row_back (view.fee_to actor to) h =
    written_back (view.fee_to actor to) (rw (user_reads actor h.0, holder_reads to h.1) refl) (tt, (tt, tt)) (omega arith) (IsUtf8-are_ascii _ refl, (IsUtf8-user actor h.0, (holder_utf8 to h.1, tt)))
row_back (view.setter actor to) h =
    written_back (view.setter actor to) (rw (user_reads actor h.0, user_reads to h.1) refl) (tt, (tt, tt)) (omega arith) (IsUtf8-are_ascii _ refl, (IsUtf8-user actor h.0, (IsUtf8-user to h.1, tt)))
row_back (view.quote_out path n) h =
    let along = path_back path h.0 in
    written_back (view.quote_out path n) (rw (along.fits, amount_reads n h.1) refl) (along.plain, (amount_plain n h.1, tt)) (omega (arith, along.flat)) (IsUtf8-are_ascii _ refl, (along.utf8, (tt, tt)))
row_back (view.quote_in path n) h =
    let along = path_back path h.0 in
    written_back (view.quote_in path n) (rw (along.fits, amount_reads n h.1) refl) (along.plain, (amount_plain n h.1, tt)) (omega (arith, along.flat)) (IsUtf8-are_ascii _ refl, (along.utf8, (tt, tt)))
row_back (view.split s t d) h =
    written_back (view.split s t d) (rw (token_reads s h.0, token_reads t h.1.0, amount_reads d h.1.1) refl)
    (tt, (tt, (amount_plain d h.1.1, tt))) (omega arith) (IsUtf8-are_ascii _ refl, (IsUtf8-token s h.0, (IsUtf8-token t h.1.0, (tt, tt))))
row_back (view.certificate quote) h = written_back (view.certificate quote) (rw (amount_reads quote h) refl) (amount_plain quote h, tt) (omega arith) (IsUtf8-are_ascii _ refl, (tt, tt))
row_back (view.pool pool) h = written_back (view.pool pool) (rw (pool_reads pool h) refl) (tt, tt) (omega arith) (IsUtf8-are_ascii _ refl, (pool_utf8 pool h, tt))
row_back (view.balance asset holder) h =
    written_back (view.balance asset holder) (rw (asset_reads asset h.0, holder_reads holder h.1) refl) (tt, (tt, tt)) (omega arith) (IsUtf8-are_ascii _ refl, (asset_utf8 asset h.0, (holder_utf8 holder h.1, tt)))
row_back (view.total asset) h = written_back (view.total asset) (rw (asset_reads asset h) refl) (tt, tt) (omega arith) (IsUtf8-are_ascii _ refl, (asset_utf8 asset h, tt))
row_back (view.observe actor pool) h =
    written_back (view.observe actor pool) (rw (user_reads actor h.0, pool_reads pool h.1) refl) (tt, (tt, tt)) (omega arith) (IsUtf8-are_ascii _ refl, (IsUtf8-user actor h.0, (pool_utf8 pool h.1, tt)))
row_back (view.average first second) h =
    written_back (view.average first second) (rw (amount_reads first h.0, amount_reads second h.1) refl)
    (amount_plain first h.0, (amount_plain second h.1, tt)) (omega arith) (IsUtf8-are_ascii _ refl, (tt, (tt, tt)))
row_back (view.consult first second token n) h =
    written_back (view.consult first second token n) (rw (amount_reads first h.0, amount_reads second h.1.0, token_reads token h.1.1.0, amount_reads n h.1.1.1) refl)
    (amount_plain first h.0, (amount_plain second h.1.0, (tt, (amount_plain n h.1.1.1, tt)))) (omega arith) (IsUtf8-are_ascii _ refl, (tt, (tt, (IsUtf8-token token h.1.1.0, (tt, tt)))))
row_back (view.window pool seconds) h =
    written_back (view.window pool seconds) (rw (pool_reads pool h.0, amount_reads seconds h.1) refl)
    (tt, (amount_plain seconds h.1, tt)) (omega arith) (IsUtf8-are_ascii _ refl, (pool_utf8 pool h.0, (tt, tt)))
row_back (view.basket actor parts t min deadline) h =
    let back = parts_back parts h.1.0 in
    written_back (view.basket actor parts t min deadline) (rw (user_reads actor h.0, back.fits, token_reads t h.1.1.0, amount_reads min h.1.1.1.0, amount_reads deadline h.1.1.1.1) refl)
    (tt, (back.plain, (tt, (amount_plain min h.1.1.1.0, (amount_plain deadline h.1.1.1.1, tt))))) (omega (arith, parts_flat parts))
    (IsUtf8-are_ascii _ refl, (IsUtf8-user actor h.0, (back.utf8, (IsUtf8-token t h.1.1.0, (tt, (tt, tt))))))
row_back (view.cycle actor t deadline) h =
    written_back (view.cycle actor t deadline) (rw (user_reads actor h.0, token_reads t h.1.0, amount_reads deadline h.1.1) refl)
    (tt, (tt, (amount_plain deadline h.1.1, tt))) (omega arith) (IsUtf8-are_ascii _ refl, (IsUtf8-user actor h.0, (IsUtf8-token t h.1.0, (tt, tt))))
row_back (view.act actor m) h = act_back actor m h
