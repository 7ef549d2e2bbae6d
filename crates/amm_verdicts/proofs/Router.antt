-- What the router does looks at no quotes, and hands them on.
use Rattle.std.proofs.Common.{◌≡◌, ◌∙◌, ℕ, List, [], ◌∷◌, drop, nat_lt, Result, Ok, Err, refl, ap}
use Rattle.std.specs.Prelude.{if◌then◌else◌, ok_or}
use Rattle.std.specs.Option.{is_some}
use Rattle.amm_names.specs.declared.holder.Holder.{Holder}
use Rattle.amm_names.specs.declared.holder.Holder.TheVariants as holders
use Rattle.amm_names.specs.declared.holder.Asset.TheVariants as assets
use Rattle.amm_names.specs.Names.{Name}
use Rattle.amm_names.specs.Pools.{is_before, pool_between}
use Rattle.amm_model.specs.declared.command.AddWant.{AddWant}
use Rattle.amm_model.specs.declared.command.RemoveWant.{RemoveWant}
use Rattle.amm_model.specs.declared.fault.Refusal.{Refusal}
use Rattle.amm_model.specs.declared.fault.Refusal.TheVariants as code
use Rattle.amm_model.specs.declared.route.Quote.{Quote}
use Rattle.amm_model.specs.declared.route_path.RoutePath.{RoutePath}
use Rattle.amm_model.specs.Ledger.{Ledger, pair_of}
use Rattle.amm_model.specs.Operations.{burn, mint, swap}
use Rattle.amm_model.specs.Outcome.{◌>>=◌, Outcome, refuse_if}
use Rattle.amm_model.specs.Postings.{transfer}
use Rattle.amm_model.specs.Router.{add, amounts_from, amounts_in, amounts_out, amounts_to, exact_in, exact_out, first_of, last_of, matched_amounts, next_of, output_for, paid_in_order, pay_first, remove, side_of, swap_along, swap_amounts, with_pool}
use Rattle.amm_verdicts.proofs.Requoted.{burn_same, create_same, either, mint_same, outcome_having, swap_same, then_made, then_same, transfer_same, with_quotes}

-- the same steps after the same first one
pub both_then : {A B : Type 0} (first second : Result A Refusal) (next other : A → Result B Refusal) → second ≡ first → ((x : A) → other x ≡ next x) → (second >>= other) ≡ (first >>= next)
both_then (Ok x) second next other is same = ap (λ r. r >>= other) is ∙ same x
both_then (Err why) second next other is same = ap (λ r. r >>= other) is

module _ (quotes : List Quote) where
  -- ---- amounts

  side_same : (l : Ledger) (from to : Name) (fee : ℕ) → side_of (with_quotes l quotes) from to fee ≡ side_of l from to fee
  unfolding side_of
  side_same l from to fee = refl

  from_same : (l : Ledger) (tokens : List Name) (fees : List ℕ) (x : ℕ) → amounts_from (with_quotes l quotes) tokens fees x ≡ amounts_from l tokens fees x
  unfolding amounts_from
  from_same l [] fees x = refl
  from_same l (from ∷ []) fees x = refl
  from_same l (from ∷ to ∷ tokens) [] x = refl
  from_same l (from ∷ to ∷ tokens) (fee ∷ fees) x =
      both_then (side_of l from to fee) _ _ _ (side_same l from to fee) (λ side.
      both_then (output_for fee x side.rin side.rout) _ _ _ refl (λ y.
      both_then (amounts_from l (to ∷ tokens) fees y) _ _ _ (from_same l (to ∷ tokens) fees y) (λ _. refl)))

  to_same : (l : Ledger) (tokens : List Name) (fees : List ℕ) (y : ℕ) → amounts_to (with_quotes l quotes) tokens fees y ≡ amounts_to l tokens fees y
  unfolding amounts_to
  to_same l [] fees y = refl
  to_same l (from ∷ []) fees y = refl
  to_same l (from ∷ to ∷ tokens) [] y = refl
  to_same l (from ∷ to ∷ tokens) (fee ∷ fees) y =
      both_then (amounts_to l (to ∷ tokens) fees y) _ _ _ (to_same l (to ∷ tokens) fees y) (λ amounts.
      both_then (side_of l from to fee) _ _ _ (side_same l from to fee) (λ _. refl))

  pub out_same : (l : Ledger) (path : RoutePath) (x : ℕ) → amounts_out (with_quotes l quotes) path x ≡ amounts_out l path x
  out_same l path x = from_same l path.tokens path.fees x

  pub in_same : (l : Ledger) (path : RoutePath) (y : ℕ) → amounts_in (with_quotes l quotes) path y ≡ amounts_in l path y
  unfolding amounts_in
  in_same l path y = both_then (amounts_to l path.tokens path.fees y) _ _ _ (to_same l path.tokens path.fees y) (λ _. refl)

  -- ---- swaps along a path

  along_same : (l : Ledger) (tokens : List Name) (fees amounts : List ℕ) (receiver : Holder) →
      swap_along (with_quotes l quotes) tokens fees amounts receiver ≡ outcome_having quotes (swap_along l tokens fees amounts receiver)
  unfolding swap_along
  along_same l [] fees amounts receiver = refl
  along_same l (from ∷ []) fees amounts receiver = refl
  along_same l (from ∷ to ∷ tokens) [] amounts receiver = refl
  along_same l (from ∷ to ∷ tokens) (fee ∷ fees) [] receiver = refl
  along_same l (from ∷ to ∷ tokens) (fee ∷ fees) (y ∷ amounts) receiver =
      then_same quotes (ok_or (pool_between from to fee) code.Identical) _ _ (λ pool.
      then_same quotes (next_of (to ∷ tokens) fees receiver) _ _ (λ next.
      then_made quotes (swap l pool (if is_before from to then 0 else y) (if is_before from to then y else 0) next) _ _ _
      (swap_same quotes l pool (if is_before from to then 0 else y) (if is_before from to then y else 0) next)
      (λ swapped. along_same swapped.ledger (to ∷ tokens) fees amounts receiver)))

  pay_same : (l : Ledger) (actor : Name) (tokens : List Name) (fees : List ℕ) (x : ℕ) →
      pay_first (with_quotes l quotes) actor tokens fees x ≡ outcome_having quotes (pay_first l actor tokens fees x)
  unfolding pay_first
  pay_same l actor [] fees x = refl
  pay_same l actor (from ∷ []) fees x = refl
  pay_same l actor (from ∷ to ∷ tokens) [] x = refl
  pay_same l actor (from ∷ to ∷ tokens) (fee ∷ fees) x =
      then_same quotes (ok_or (pool_between from to fee) code.Identical) _ _ (λ pool. transfer_same quotes l (assets.Token from) (holders.User actor) (holders.Pool pool) x)

  amounts_same : (l : Ledger) (actor : Name) (path : RoutePath) (amounts : List ℕ) (to : Holder) →
      swap_amounts (with_quotes l quotes) actor path amounts to ≡ outcome_having quotes (swap_amounts l actor path amounts to)
  unfolding swap_amounts
  amounts_same l actor path amounts to =
      then_made quotes (pay_first l actor path.tokens path.fees (first_of amounts)) _ _ _ (pay_same l actor path.tokens path.fees (first_of amounts)) (λ paid.
      then_made quotes (swap_along paid.ledger path.tokens path.fees (drop 1 amounts) to) _ _ _ (along_same paid.ledger path.tokens path.fees (drop 1 amounts) to) (λ _. refl))

  -- amounts that are found alike, and a swap of them
  found_then : {A B : Type 0} (first second : Result A Refusal) (next other : A → Outcome B) → second ≡ first → ((x : A) → other x ≡ outcome_having quotes (next x)) →
      (second >>= other) ≡ outcome_having quotes (first >>= next)
  found_then first second next other is same = ap (λ r. r >>= other) is ∙ then_same quotes first next other same

  pub exact_in_same : (l : Ledger) (actor : Name) (path : RoutePath) (x least : ℕ) (to : Holder) (deadline : ℕ) →
      exact_in (with_quotes l quotes) actor path x least to deadline ≡ outcome_having quotes (exact_in l actor path x least to deadline)
  unfolding exact_in
  exact_in_same l actor path x least to deadline =
      then_same quotes (refuse_if (nat_lt deadline l.time) code.Expired) _ _ (λ _.
      found_then (amounts_out l path x) _ _ _ (out_same l path x) (λ amounts.
      then_same quotes (refuse_if (nat_lt (last_of amounts) least) code.InsufficientOutputAmount) _ _ (λ _. amounts_same l actor path amounts to)))

  pub exact_out_same : (l : Ledger) (actor : Name) (path : RoutePath) (y most : ℕ) (to : Holder) (deadline : ℕ) →
      exact_out (with_quotes l quotes) actor path y most to deadline ≡ outcome_having quotes (exact_out l actor path y most to deadline)
  unfolding exact_out
  exact_out_same l actor path y most to deadline =
      then_same quotes (refuse_if (nat_lt deadline l.time) code.Expired) _ _ (λ _.
      found_then (amounts_in l path y) _ _ _ (in_same l path y) (λ amounts.
      then_same quotes (refuse_if (nat_lt most (first_of amounts)) code.ExcessiveInputAmount) _ _ (λ _. amounts_same l actor path amounts to)))

  -- ---- liquidity

  with_pool_same : (l : Ledger) (a b : Name) (fee : ℕ) → with_pool (with_quotes l quotes) a b fee ≡ outcome_having quotes (with_pool l a b fee)
  unfolding with_pool
  with_pool_same l a b fee =
      then_same quotes (ok_or (pool_between a b fee) code.Identical) _ _ (λ pool. either quotes (is_some (pair_of l.pairs pool)) _ _ _ _ refl (create_same quotes l a b fee))

  pub add_same : (l : Ledger) (actor : Name) (want : AddWant) (to : Holder) (deadline : ℕ) →
      add (with_quotes l quotes) actor want to deadline ≡ outcome_having quotes (add l actor want to deadline)
  unfolding add
  add_same l actor want to deadline =
      then_same quotes (refuse_if (nat_lt deadline l.time) code.Expired) _ _ (λ _.
      then_made quotes (with_pool l want.a want.b want.fee) _ _ _ (with_pool_same l want.a want.b want.fee) (λ there.
      found_then (side_of there.ledger want.a want.b want.fee) _ _ _ (side_same there.ledger want.a want.b want.fee) (λ side.
      then_same quotes (matched_amounts want side.rin side.rout) _ _ (λ amounts.
      then_made quotes (transfer there.ledger (assets.Token want.a) (holders.User actor) (holders.Pool side.pool) amounts.a) _ _ _
      (transfer_same quotes there.ledger (assets.Token want.a) (holders.User actor) (holders.Pool side.pool) amounts.a) (λ first.
      then_made quotes (transfer first.ledger (assets.Token want.b) (holders.User actor) (holders.Pool side.pool) amounts.b) _ _ _
      (transfer_same quotes first.ledger (assets.Token want.b) (holders.User actor) (holders.Pool side.pool) amounts.b) (λ second.
      then_made quotes (mint second.ledger side.pool to) _ _ _ (mint_same quotes second.ledger side.pool to) (λ _. refl)))))))

  pub remove_same : (l : Ledger) (actor : Name) (want : RemoveWant) (to : Holder) (deadline : ℕ) →
      remove (with_quotes l quotes) actor want to deadline ≡ outcome_having quotes (remove l actor want to deadline)
  unfolding remove
  remove_same l actor want to deadline =
      then_same quotes (refuse_if (nat_lt deadline l.time) code.Expired) _ _ (λ _.
      found_then (side_of l want.a want.b want.fee) _ _ _ (side_same l want.a want.b want.fee) (λ side.
      then_made quotes (transfer l (assets.Share side.pool) (holders.User actor) (holders.Pool side.pool) want.shares) _ _ _
      (transfer_same quotes l (assets.Share side.pool) (holders.User actor) (holders.Pool side.pool) want.shares) (λ sent.
      then_made quotes (burn sent.ledger side.pool to) _ _ _ (burn_same quotes sent.ledger side.pool to) (λ burnt.
      then_same quotes (refuse_if (nat_lt (paid_in_order side burnt.answer).a want.a_min) code.InsufficientAAmount) _ _ (λ _.
      then_same quotes (refuse_if (nat_lt (paid_in_order side burnt.answer).b want.b_min) code.InsufficientBAmount) _ _ (λ _. refl))))))
