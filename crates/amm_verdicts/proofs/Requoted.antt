-- Ledgers that differ in their quotes alone: what an operation does with one it does with the
-- other, and hands the quotes on.
use Rattle.std.proofs.Common.{◌≡◌, ◌∙◌, ◌==◌, ◌+◌, ◌-◌, ℕ, List, Bool, true, false, not, ◌||◌, ◌&&◌, nat_lt, nat_le, length, Result, Ok, Err, refl, ap}
use Rattle.std.specs.Prelude.{if◌then◌else◌, ok_or}
use Rattle.std.specs.Option.{is_some}
use Rattle.amm_names.specs.declared.holder.Holder.{Holder}
use Rattle.amm_names.specs.declared.holder.Holder.TheVariants as holders
use Rattle.amm_names.specs.declared.holder.Asset.{Asset}
use Rattle.amm_names.specs.declared.holder.Asset.TheVariants as assets
use Rattle.amm_names.specs.Names.{Name}
use Rattle.amm_names.specs.Order.{same_holder}
use Rattle.amm_names.specs.Pools.{pool_between}
use Rattle.amm_model.specs.declared.fault.Refusal.{Refusal}
use Rattle.amm_model.specs.declared.fault.Refusal.TheVariants as code
use Rattle.amm_model.specs.declared.limits.TheConstants.{AMOUNT_LIMIT, FIRST_LOCKED, PAIR_LIMIT, TOKEN_LIMIT}
use Rattle.amm_model.specs.declared.pair.BurnReceipt.{BurnReceipt}
use Rattle.amm_model.specs.declared.pair.MintReceipt.{MintReceipt}
use Rattle.amm_model.specs.declared.pair.PairRecord.{PairRecord}
use Rattle.amm_model.specs.declared.route.Quote.{Quote}
use Rattle.amm_model.specs.Factory.{create, set_fee_to, set_setter}
use Rattle.amm_model.specs.Ledger.{Ledger, balance, is_listed, pair_of, total, with_more, with_pair}
use Rattle.amm_model.specs.Operations.{burn, burn_amounts, came_in, fee_due, free_pair, give_back, if_there, is_nobody, keeps_product, lend, lending_pair, locked_pair, mint, own_shares, send_both, settle_swap, shares_for, skim, swap, sync, updated_record, with_fee, with_product, with_shares}
use Rattle.amm_model.specs.Outcome.{◌>>=◌, Made, Outcome, refuse_if}
use Rattle.amm_model.specs.Pools.{asset0, asset1, held0, held1, same_name, supply}
use Rattle.amm_model.specs.Postings.{add_pair, issue, list_token, retire, set_time, transfer}

-- the ledger with these quotes in place of its own
abbrev pub with_quotes : Ledger → List Quote → Ledger
with_quotes ledger quotes = record ledger { quotes = quotes }

abbrev pub made_with : {A : Type 0} → List Quote → Made A → Made A
made_with quotes made = record { ledger = with_quotes made.ledger quotes; answer = made.answer }

-- the outcome with these quotes in the ledger that it leaves
abbrev pub outcome_having : {A : Type 0} → List Quote → Outcome A → Outcome A
outcome_having quotes (Ok made) = Ok (made_with quotes made)
outcome_having quotes (Err why) = Err why

module _ (quotes : List Quote) where
  -- a step that looks at no ledger, or finds the same in both
  pub then_same : {A B : Type 0} (first : Result A Refusal) (next other : A → Outcome B) → ((x : A) → other x ≡ outcome_having quotes (next x)) →
      (first >>= other) ≡ outcome_having quotes (first >>= next)
  then_same (Ok x) next other same = same x
  then_same (Err why) next other same = refl

  -- a step that leaves ledgers which differ in their quotes alone
  pub then_made : {A B : Type 0} (first second : Outcome A) (next other : Made A → Outcome B) → second ≡ outcome_having quotes first →
      ((made : Made A) → other (made_with quotes made) ≡ outcome_having quotes (next made)) → (second >>= other) ≡ outcome_having quotes (first >>= next)
  then_made (Ok made) second next other is same = ap (λ o. o >>= other) is ∙ same made
  then_made (Err why) second next other is same = ap (λ o. o >>= other) is

  pub either : {A : Type 0} (test : Bool) (x y v w : Outcome A) → v ≡ outcome_having quotes x → w ≡ outcome_having quotes y →
      (if test then v else w) ≡ outcome_having quotes (if test then x else y)
  either true x y v w first second = first
  either false x y v w first second = second

  -- ---- postings

  pub transfer_same : (l : Ledger) (asset : Asset) (from to : Holder) (n : ℕ) → transfer (with_quotes l quotes) asset from to n ≡ outcome_having quotes (transfer l asset from to n)
  unfolding transfer
  transfer_same l asset from to n = either (nat_lt (balance l asset from) n) _ _ _ _ refl (either (same_holder from to) _ _ _ _ refl refl)

  pub issue_same : (l : Ledger) (asset : Asset) (holder : Holder) (n : ℕ) → issue (with_quotes l quotes) asset holder n ≡ outcome_having quotes (issue l asset holder n)
  unfolding issue
  issue_same l asset holder n = either (nat_lt AMOUNT_LIMIT (total l asset + n)) _ _ _ _ refl refl

  pub retire_same : (l : Ledger) (asset : Asset) (holder : Holder) (n : ℕ) → retire (with_quotes l quotes) asset holder n ≡ outcome_having quotes (retire l asset holder n)
  unfolding retire
  retire_same l asset holder n = either (nat_lt (balance l asset holder) n) _ _ _ _ refl refl

  pub list_same : (l : Ledger) (token : Name) → list_token (with_quotes l quotes) token ≡ outcome_having quotes (list_token l token)
  list_same l token = either (is_listed l.tokens token) _ _ _ _ refl (either (nat_le TOKEN_LIMIT (length l.tokens)) _ _ _ _ refl refl)

  add_pair_same : (l : Ledger) (pool : Name) → add_pair (with_quotes l quotes) pool ≡ outcome_having quotes (add_pair l pool)
  add_pair_same l pool = either (nat_le PAIR_LIMIT (length l.pairs)) _ _ _ _ refl refl

  pub time_same : (l : Ledger) (time : ℕ) → set_time (with_quotes l quotes) time ≡ outcome_having quotes (set_time l time)
  time_same l time = either (nat_lt time l.time) _ _ _ _ refl refl

  -- ---- the factory

  pub create_same : (l : Ledger) (a b : Name) (fee : ℕ) → create (with_quotes l quotes) a b fee ≡ outcome_having quotes (create l a b fee)
  unfolding create
  create_same l a b fee =
      then_same (ok_or (pool_between a b fee) code.Identical) _ _ (λ pool.
      then_same (refuse_if (not (is_listed l.tokens a) || not (is_listed l.tokens b)) code.UnknownToken) _ _ (λ _.
      then_same (refuse_if (is_some (pair_of l.pairs pool)) code.PairExists) _ _ (λ _.
      then_made (add_pair l pool) _ _ _ (add_pair_same l pool) (λ _. refl))))

  pub fee_to_same : (l : Ledger) (actor : Name) (to : Holder) → set_fee_to (with_quotes l quotes) actor to ≡ outcome_having quotes (set_fee_to l actor to)
  unfolding set_fee_to
  fee_to_same l actor to = then_same (refuse_if (not (same_name actor l.setter)) code.Forbidden) _ _ (λ _. refl)

  pub setter_same : (l : Ledger) (actor to : Name) → set_setter (with_quotes l quotes) actor to ≡ outcome_having quotes (set_setter l actor to)
  unfolding set_setter
  setter_same l actor to = then_same (refuse_if (not (same_name actor l.setter)) code.Forbidden) _ _ (λ _. refl)

  -- ---- pairs

  pub sync_same : (l : Ledger) (pool : Name) → sync (with_quotes l quotes) pool ≡ outcome_having quotes (sync l pool)
  unfolding sync
  sync_same l pool = then_same (free_pair l pool) _ _ (λ pair. then_same (updated_record l pool pair) _ _ (λ _. refl))

  send_both_same : (l : Ledger) (pool : Name) (n0 n1 : ℕ) (to : Holder) → send_both (with_quotes l quotes) pool n0 n1 to ≡ outcome_having quotes (send_both l pool n0 n1 to)
  unfolding send_both
  send_both_same l pool n0 n1 to =
      then_made (transfer l (asset0 pool) (holders.Pool pool) to n0) _ _ _ (transfer_same l (asset0 pool) (holders.Pool pool) to n0)
      (λ first. transfer_same first.ledger (asset1 pool) (holders.Pool pool) to n1)

  pub skim_same : (l : Ledger) (pool : Name) (to : Holder) → skim (with_quotes l quotes) pool to ≡ outcome_having quotes (skim l pool to)
  unfolding skim
  skim_same l pool to =
      then_same (free_pair l pool) _ _ (λ pair.
      then_made (send_both l pool (held0 l pool - pair.r0) (held1 l pool - pair.r1) to) _ _ _ (send_both_same l pool (held0 l pool - pair.r0) (held1 l pool - pair.r1) to) (λ _. refl))

  pub lend_same : (l : Ledger) (pool : Name) (out0 out1 : ℕ) (to : Holder) → lend (with_quotes l quotes) pool out0 out1 to ≡ outcome_having quotes (lend l pool out0 out1 to)
  unfolding lend lending_pair
  lend_same l pool out0 out1 to =
      then_same (lending_pair l pool out0 out1 to) _ _ (λ pair.
      then_made (send_both (with_pair l pool (locked_pair pair)) pool out0 out1 to) _ _ _ (send_both_same (with_pair l pool (locked_pair pair)) pool out0 out1 to) (λ _. refl))

  settle_swap_same : (l : Ledger) (pool : Name) (pair : PairRecord) (out0 out1 : ℕ) → settle_swap (with_quotes l quotes) pool pair out0 out1 ≡ outcome_having quotes (settle_swap l pool pair out0 out1)
  unfolding settle_swap
  settle_swap_same l pool pair out0 out1 =
      let paid = came_in l pool pair out0 out1 in
      then_same (refuse_if (paid.in0 == 0 && paid.in1 == 0) code.InsufficientInputAmount) _ _ (λ _.
      then_same (refuse_if (not (keeps_product l pool pair paid)) code.K) _ _ (λ _.
      then_same (updated_record l pool pair) _ _ (λ _. refl)))

  pub give_back_same : (l : Ledger) (pool : Name) (out0 out1 : ℕ) → give_back (with_quotes l quotes) pool out0 out1 ≡ outcome_having quotes (give_back l pool out0 out1)
  unfolding give_back
  give_back_same l pool out0 out1 = then_same (if_there (pair_of l.pairs pool)) _ _ (λ pair. settle_swap_same l pool pair out0 out1)

  pub swap_same : (l : Ledger) (pool : Name) (out0 out1 : ℕ) (to : Holder) → swap (with_quotes l quotes) pool out0 out1 to ≡ outcome_having quotes (swap l pool out0 out1 to)
  unfolding swap
  swap_same l pool out0 out1 to = then_made (lend l pool out0 out1 to) _ _ _ (lend_same l pool out0 out1 to) (λ lent. give_back_same lent.ledger pool out0 out1)

  -- ---- shares

  with_fee_same : (l : Ledger) (pool : Name) (fee : ℕ) → with_fee (with_quotes l quotes) pool fee ≡ with_quotes (with_fee l pool fee) quotes
  unfolding with_fee
  with_fee_same l pool fee = by (fee == 0)
    where
      more : Ledger
      more = with_more l (assets.Share pool) l.fee_to fee

      by : (test : Bool) → (if test then with_quotes l quotes else with_quotes more quotes) ≡ with_quotes (if test then l else more) quotes
      by true = refl
      by false = refl

  with_shares_same : (l : Ledger) (pool : Name) (to : Holder) (supply n : ℕ) → with_shares (with_quotes l quotes) pool to supply n ≡ with_quotes (with_shares l pool to supply n) quotes
  unfolding with_shares
  with_shares_same l pool to supply n = by (supply == 0)
    where
      first : Ledger
      first = with_more (with_more l (assets.Share pool) to n) (assets.Share pool) holders.Zero FIRST_LOCKED

      later : Ledger
      later = with_more l (assets.Share pool) to n

      by : (test : Bool) → (if test then with_quotes first quotes else with_quotes later quotes) ≡ with_quotes (if test then first else later) quotes
      by true = refl
      by false = refl

  -- what a mint does after the shares were given
  abbrev minted : Ledger → Name → PairRecord → (nobody : Bool) → (shares fee : ℕ) → Outcome MintReceipt
  minted given pool pair nobody shares fee = do
    _ ← refuse_if (shares == 0) code.InsufficientLiquidityMinted
    new ← updated_record given pool pair
    Ok (record { ledger = with_pair given pool (with_product nobody new); answer = record { shares = shares; fee_shares = fee } })

  minted_same : (given : Ledger) (pool : Name) (pair : PairRecord) (nobody : Bool) (shares fee : ℕ) →
      minted (with_quotes given quotes) pool pair nobody shares fee ≡ outcome_having quotes (minted given pool pair nobody shares fee)
  minted_same given pool pair nobody shares fee =
      then_same (refuse_if (shares == 0) code.InsufficientLiquidityMinted) _ _ (λ _. then_same (updated_record given pool pair) _ _ (λ _. refl))

  pub mint_same : (l : Ledger) (pool : Name) (to : Holder) → mint (with_quotes l quotes) pool to ≡ outcome_having quotes (mint l pool to)
  unfolding mint fee_due shares_for
  mint_same l pool to = then_same (free_pair l pool) _ _ after
    where
      after : (pair : PairRecord) → (let fee = fee_due l pool pair in let before = supply l pool + fee in let shares = shares_for l pool pair before in
          minted (with_shares (with_fee (with_quotes l quotes) pool fee) pool to before shares) pool pair (is_nobody l.fee_to) shares fee
          ≡ outcome_having quotes (minted (with_shares (with_fee l pool fee) pool to before shares) pool pair (is_nobody l.fee_to) shares fee))
      after pair =
          let fee = fee_due l pool pair in
          let before = supply l pool + fee in
          let shares = shares_for l pool pair before in
          let given = with_shares (with_fee l pool fee) pool to before shares in
          ap (λ (g : Ledger). minted g pool pair (is_nobody l.fee_to) shares fee)
          (ap (λ (g : Ledger). with_shares g pool to before shares) (with_fee_same l pool fee) ∙ with_shares_same (with_fee l pool fee) pool to before shares)
          ∙ minted_same given pool pair (is_nobody l.fee_to) shares fee

  -- what a burn does after the fee was given
  abbrev burnt : Ledger → Name → Holder → PairRecord → (nobody : Bool) → (own : ℕ) → BurnReceipt → Outcome BurnReceipt
  burnt given pool to pair nobody own parts = do
    fewer ← retire given (assets.Share pool) (holders.Pool pool) own
    sent ← send_both fewer.ledger pool parts.amount0 parts.amount1 to
    new ← updated_record sent.ledger pool pair
    Ok (record { ledger = with_pair sent.ledger pool (with_product nobody new); answer = parts })

  burnt_same : (given : Ledger) (pool : Name) (to : Holder) (pair : PairRecord) (nobody : Bool) (own : ℕ) (parts : BurnReceipt) →
      burnt (with_quotes given quotes) pool to pair nobody own parts ≡ outcome_having quotes (burnt given pool to pair nobody own parts)
  burnt_same given pool to pair nobody own parts =
      then_made (retire given (assets.Share pool) (holders.Pool pool) own) _ _ _ (retire_same given (assets.Share pool) (holders.Pool pool) own) (λ fewer.
      then_made (send_both fewer.ledger pool parts.amount0 parts.amount1 to) _ _ _ (send_both_same fewer.ledger pool parts.amount0 parts.amount1 to) (λ sent.
      then_same (updated_record sent.ledger pool pair) _ _ (λ _. refl)))

  pub burn_same : (l : Ledger) (pool : Name) (to : Holder) → burn (with_quotes l quotes) pool to ≡ outcome_having quotes (burn l pool to)
  unfolding burn fee_due burn_amounts
  burn_same l pool to =
      then_same (free_pair l pool) _ _ (λ pair. (let fee = fee_due l pool pair in
      let before = supply l pool + fee in
      let parts = burn_amounts l pool before fee in
      then_same (refuse_if (before == 0) code.InsufficientLiquidityBurned) _ _ (λ _.
      then_same (refuse_if (parts.amount0 == 0 || parts.amount1 == 0) code.InsufficientLiquidityBurned) _ _ (λ _.
      ap (λ (g : Ledger). burnt g pool to pair (is_nobody l.fee_to) (own_shares l pool) parts) (with_fee_same l pool fee)
      ∙ burnt_same (with_fee l pool fee) pool to pair (is_nobody l.fee_to) (own_shares l pool) parts))))
