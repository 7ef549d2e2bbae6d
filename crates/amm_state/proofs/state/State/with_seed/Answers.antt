use Rattle.std.proofs.Common.{ℕ, List, [], ◌∙◌, arith}
use Rattle.std.proofs.lemmas.Map.Keys.{IsDistinct-from_apart}
use Rattle.amm_model.specs.Ledger.{opening_ledger, with_setter}
use Rattle.amm_model.specs.Sound.{IsSound, IsAtRest}
use Rattle.amm_model.proofs.LedgerLemmas.{total-nothing}
use Rattle.amm_state.proofs.Canonical.{canonical-opening}
use Rattle.amm_state.proofs.state.State.with_seed.Goals as goal

opening_sound : (setter : List ℕ) → IsSound (with_setter opening_ledger setter)
opening_sound setter = record {
  pairs = λ pool pair is. cc;
  names = IsDistinct-from_apart _ [] (λ i j d before short. absurd (omega arith));
  totals = λ a. omega (arith, total-nothing a);
  known = λ a some. absurd (some (total-nothing a));
  tokens = omega arith;
  count = omega arith;
  time = omega arith;
  quotes = omega arith;
  answers = λ i d short. absurd (omega arith);
  observations = record { few = omega arith; in_order = λ i j d before short. absurd (omega arith); past = λ i d short. absurd (omega arith) };
}

opening_rest : (setter : List ℕ) → IsAtRest (with_setter opening_ledger setter)
opening_rest setter = record { sound = opening_sound setter; unlocked = λ pool pair is. cc }

pub invariant_of-result : goal.invariant_of-result
invariant_of-result c =
    let is = c.in_ok-book.ensures.ok ∙ c.new.ensures in
    (rw is (opening_rest c.unwrap-setter.result), rw is (canonical-opening c.unwrap-setter.result), c.new-3.ensures)
