-- A loan of a pool, within which other steps run, and its payment.
use Rattle.std.proofs.Common.{◌≡◌, ◌≢◌, ◌≤◌, ◌+◌, ℕ, Bool, true, false, cond, ◌⊎◌, List, Some, Ok, inl, inr, refl, sym, ap, ◌∙◌, arith, subst}
use Rattle.std.specs.Str.{bytes_eq}
use Rattle.std.proofs.lemmas.Slice.Eq.{bytes_eq-Decides}
use Rattle.amm_names.specs.Names.{Name}
use Rattle.amm_names.specs.declared.holder.Holder.{Holder}
use Rattle.amm_names.specs.declared.holder.Holder.TheVariants as holders
use Rattle.amm_names.specs.declared.holder.Asset.{Asset}
use Rattle.amm_names.specs.declared.holder.Asset.TheVariants as assets
use Rattle.amm_model.specs.declared.pair.PairRecord.{PairRecord}
use Rattle.amm_model.specs.declared.pair.SwapReceipt.{SwapReceipt}
use Rattle.amm_model.specs.declared.problem.ProblemPool.{ProblemPool}
use Rattle.amm_model.specs.declared.reply.Answer.{Answer}
use Rattle.amm_model.specs.declared.reply.Answer.TheVariants as answers
use Rattle.amm_model.specs.Outcome.{Made, ledger_only}
use Rattle.amm_model.specs.Ledger.{Ledger, Pairs, balance, is_listed, with_transfer, pair_of}
use Rattle.amm_model.specs.Operations.{locked_pair}
use Rattle.amm_model.specs.CommandView as view
use Rattle.amm_model.specs.CommandView.{Move, Moves}
use Rattle.amm_model.specs.Meaning.{known_asset, send, meaning, meaning_of_all}
use Rattle.amm_model.proofs.Moved.{Moved, moved_moved, transfer_made}
use Rattle.amm_model.proofs.Names.{same_name_itself, some_there, pair_of-set_other}
use Rattle.amm_settle.proofs.Trading.{IsAsKept, IsSoundPool}
use Rattle.amm_loans.proofs.Lent.{LendDone, lend_done, ReturnDone, return_done}
use Rattle.amm_loans.proofs.Sides.{IsBorrowed, IsSide}

-- What the steps within a loan keep of its pool.
pub record IsLeft (pool : Name) (old new : Ledger) : Type 0 where
  pub tokens : new.tokens ≡ old.tokens
  pub here : pair_of new.pairs pool ≡ pair_of old.pairs pool
  pub held : (any : Asset) → balance new any (holders.Pool pool) ≡ balance old any (holders.Pool pool)

-- The loan was paid and returned: the actor has its input less, and nothing else changed but the
-- pool.
pub record IsPaid (pool : Name) (actor from : Name) (x : ℕ) (old new : Ledger) : Type 0 where
  pub less : balance new (assets.Token from) (holders.User actor) + x ≡ balance old (assets.Token from) (holders.User actor)
  pub others : (any : Asset) (who : Holder) → who ≢ holders.Pool pool → (any ≢ assets.Token from) ⊎ (who ≢ holders.User actor) → balance new any who ≡ balance old any who
  pub tokens : new.tokens ≡ old.tokens
  pub pairs : (name : Name) → name ≢ pool → pair_of new.pairs name ≡ pair_of old.pairs name

-- ---- token by token

-- names that a test tells apart
told_no : (x y : Name) → bytes_eq x y ≡ false → x ≢ y
told_no x y test e = let yes : bytes_eq x y ≡ true = ap (bytes_eq x) (sym e) ∙ same_name_itself x in cc

by_test : (n o w : ℕ) (b : Bool) → (b ≡ true → n ≡ o + w) → (b ≡ false → n ≡ o) → n ≡ o + cond b w 0
by_test n o w true same other = same refl
by_test n o w false same other = omega (arith, other refl)

pub borrowed_tokens : (pool : ProblemPool) (pair : PairRecord) (actor to : Name) (y : ℕ) (old new : Ledger) → IsBorrowed pool pair actor to y old new → (name : Name)
    → balance new (assets.Token name) (holders.User actor) ≡ balance old (assets.Token name) (holders.User actor) + cond (bytes_eq name to) y 0
borrowed_tokens pool pair actor to y old new borrowed name =
    by_test _ _ y (bytes_eq name to)
    (λ b. subst (λ (t : Name). balance new (assets.Token t) (holders.User actor) ≡ balance old (assets.Token t) (holders.User actor) + y) (sym ((bytes_eq-Decides name to).0 b)) borrowed.gives)
    (λ b. borrowed.others (assets.Token name) (holders.User actor) (inl (λ e. told_no name to b (let same : name ≡ to = cc in same))))

pub paid_tokens : (pool actor from : Name) (x : ℕ) (old new : Ledger) → IsPaid pool actor from x old new → (name : Name)
    → balance old (assets.Token name) (holders.User actor) ≡ balance new (assets.Token name) (holders.User actor) + cond (bytes_eq name from) x 0
paid_tokens pool actor from x old new paid name =
    by_test _ _ x (bytes_eq name from)
    (λ b. subst (λ (t : Name). balance old (assets.Token t) (holders.User actor) ≡ balance new (assets.Token t) (holders.User actor) + x) (sym ((bytes_eq-Decides name from).0 b)) (sym paid.less))
    (λ b. sym (paid.others (assets.Token name) (holders.User actor) (λ e. cc) (inl (λ e. told_no name from b (let same : name ≡ from = cc in same)))))

-- ---- the loan

abbrev pub pays : (pool from : Name) (x : ℕ) → Moves
pays pool from x = view.move (view.transfer (assets.Token from) (holders.Pool pool) x) view.no_moves

-- What a loan that was returned is answered.
abbrev pub flash_made : Ledger → SwapReceipt → Made Answer
flash_made ledger receipt = record { ledger = ledger; answer = answers.Flash receipt }

-- The loan is made, and returned after its payment.
pub record LoanDone (old lent ran : Ledger) (pool : Name) (actor from : Name) (x out0 out1 : ℕ) : Type 0 where
  pub made : Made SwapReceipt
  pub is : (steps : Moves) → meaning_of_all lent actor steps ≡ meaning_of_all ran actor (pays pool from x) → meaning old actor (view.flash pool out0 out1 steps) ≡ Ok (flash_made made.ledger made.answer)
  pub paid : IsPaid pool actor from x ran made.ledger

module _ (ledger : Ledger) (pool : ProblemPool) (actor from to : Name) (x y out0 out1 b0 b1 : ℕ) (side : IsSide pool actor from to x y out0 out1 b0 b1)
    (kept : IsAsKept ledger pool) (sound : IsSoundPool pool) (listed : is_listed ledger.tokens from ≡ true) where
  pub lent : LendDone ledger pool.name kept.pair out0 out1 actor
  lent = lend_done ledger pool out0 out1 b0 b1 actor kept sound side.fair

  pub borrowed : IsBorrowed pool kept.pair actor to y ledger lent.value.ledger
  borrowed = side.borrowed kept.pair ledger lent.value.ledger kept.there lent.leaves

  module _ (ran : Ledger) (left : IsLeft pool.name lent.value.ledger ran) (funds : x ≤ balance ran (assets.Token from) (holders.User actor)) where
    not_itself : (◌≢◌ {A = Holder} (holders.User actor) (holders.Pool pool.name))
    not_itself e = cc

    abbrev after : Ledger
    after = with_transfer ran (assets.Token from) (holders.User actor) (holders.Pool pool.name) x

    payment : Moved (assets.Token from) (holders.User actor) (holders.Pool pool.name) x ran after
    payment = moved_moved ran (assets.Token from) (holders.User actor) (holders.Pool pool.name) x funds not_itself

    known : is_listed ran.tokens from ≡ true
    known = ap (λ (ts : List Name). is_listed ts from) (left.tokens ∙ borrowed.tokens) ∙ listed

    sends : meaning_of_all ran actor (pays pool.name from x) ≡ ledger_only after
    unfolding meaning meaning_of_all send known_asset
    sends = rw (known, transfer_made ran (assets.Token from) (holders.User actor) (holders.Pool pool.name) x funds not_itself) refl

    from_apart : (◌≢◌ {A = Asset} (assets.Token from) (assets.Token to))
    from_apart e = side.apart (let same : from ≡ to = cc in same)

    to_apart : (◌≢◌ {A = Asset} (assets.Token to) (assets.Token from))
    to_apart e = from_apart (sym e)

    came : balance after (assets.Token from) (holders.Pool pool.name) ≡ balance ledger (assets.Token from) (holders.Pool pool.name) + x
    came = omega (arith, payment.more, left.held (assets.Token from), borrowed.others (assets.Token from) (holders.Pool pool.name) (inl from_apart))

    gone : balance after (assets.Token to) (holders.Pool pool.name) + y ≡ balance ledger (assets.Token to) (holders.Pool pool.name)
    gone = omega (arith, payment.others (assets.Token to) (holders.Pool pool.name) (inl to_apart), left.held (assets.Token to), borrowed.takes)

    there : pair_of after.pairs pool.name ≡ Some (locked_pair kept.pair)
    there = ap (λ (ps : Pairs). pair_of ps pool.name) payment.rest.pairs ∙ left.here ∙ borrowed.here

    returned : ReturnDone after pool.name out0 out1
    returned = let back = side.back ledger after kept came gone in return_done after pool (locked_pair kept.pair) out0 out1 b0 b1 there kept.r0 kept.r1 back.0 back.1 side.fair

    pub loan_done : LoanDone ledger lent.value.ledger ran pool.name actor from x out0 out1
    unfolding meaning
    loan_done = record {
      made = returned.value;
      is = λ steps run. rw (lent.is, run, sends, returned.is) refl;
      paid = subst (IsPaid pool.name actor from x ran) (sym returned.after) record {
        less = payment.less;
        others = λ any who not_pool apart. elim apart [ inl other ↦ payment.others any who (inl other) | inr not_user ↦ payment.others any who (inr (not_user, not_pool)) ];
        tokens = payment.rest.tokens;
        pairs = λ name apart. pair_of-set_other after.pairs pool.name returned.pair name (some_there (pair_of after.pairs pool.name) (locked_pair kept.pair) there) apart
            ∙ ap (λ (ps : Pairs). pair_of ps name) payment.rest.pairs;
      };
    }
