-- A journal after one more change, and after one is undone.
use Rattle.std.proofs.Common.{◌≡◌, ℕ, ◌+◌, ◌-◌, ◌≤◌, Bool, true, false, cond, Some, Ok, List, [], ◌∷◌, ◌||◌, refl, sym, ap, subst, ◌∙◌, arith}
use Rattle.std.proofs.lemmas.Bool.{or_right}
use Rattle.std.specs.Cmp.{eq_by_cmp_equiv}
use Rattle.std.specs.FinMap as map
use Rattle.std.specs.FinSet as set
use Rattle.amm_names.specs.declared.holder.Holder.{Holder}
use Rattle.amm_names.specs.declared.holder.Asset.{Asset}
use Rattle.amm_names.specs.Order.{same_asset, same_holder}
use Rattle.amm_model.specs.Ledger.{Ledger, Pairs, pair_of, set_pair, balance, total, set_balance}
use Rattle.amm_model.specs.declared.limits.TheConstants.{AMOUNT_LIMIT}
use Rattle.amm_names.proofs.OrderLemmas.{asset_total, holder_total}
use Rattle.amm_model.proofs.Names.{same_asset_is}
use Rattle.amm_model.proofs.LedgerLemmas.{total-set_balance, balance_within_total, balance-set_here, set_balance-back}
use Rattle.amm_state.specs.declared.journal.Undo.{Undo}
use Rattle.amm_state.specs.declared.journal.Undo.TheVariants.{Balance, Token, NewPair, Pair, NewQuote, NewObservation, FeeTo, Setter, Time}
use Rattle.amm_state.specs.declared.rows.Before.{Before}
use Rattle.amm_state.specs.Rows.{Holders}
use Rattle.amm_state.specs.Assets.{Rows, holders_at, has_row}
use Rattle.amm_state.specs.Book.{BookView, with_balance, with_ledger, with_pairs}
use Rattle.amm_state.specs.Moves.{of_book, IsMoved}
use Rattle.amm_model.specs.declared.pair.PairRecord.{PairRecord}
use Rattle.amm_state.proofs.AssetLemmas.{holders_at-insert}
use Rattle.amm_state.proofs.BookLemmas.{set_pair-back}
use Rattle.amm_state.proofs.Canonical.{canonical-set_balance}
use Rattle.amm_state.specs.Journal.{undo, undo_all, StaysWithin, HasRows, IsRevertible, IsStart}

abbrev pub add_row : Rows → Asset → Holder → Rows
add_row rows a h = map.insert rows a (set.insert (holders_at rows a) h)

has_row-add_row : (rows : Rows) (a : Asset) (h : Holder) (q : Asset) (p : Holder) → has_row (add_row rows a h) q p ≡ cond (same_asset q a) (same_holder p h || has_row rows a p) (has_row rows q p)
has_row-add_row rows a h q p = ap (λ (hs : Holders). set.contains hs p) (holders_at-insert rows a _ q) ∙ at (same_asset q a)
  where
    at : (b : Bool) → set.contains (cond b (set.insert (holders_at rows a) h) (holders_at rows q)) p ≡ cond b (same_holder p h || has_row rows a p) (has_row rows q p)
    at true = set.contains-insert holder_total (holders_at rows a) h p
    at false = refl

pub has_row-added : (rows : Rows) (a : Asset) (h : Holder) → has_row (add_row rows a h) a h ≡ true
has_row-added rows a h = has_row-add_row rows a h a h ∙ ap (λ b. cond b (same_holder h h || has_row rows a h) (has_row rows a h)) ((eq_by_cmp_equiv asset_total).refl a)
    ∙ ap (λ b. b || has_row rows a h) ((eq_by_cmp_equiv holder_total).refl h)

-- a row is never lost
pub has_row-kept : (rows : Rows) (a : Asset) (h : Holder) (q : Asset) (p : Holder) → has_row rows q p ≡ true → has_row (add_row rows a h) q p ≡ true
has_row-kept rows a h q p had = has_row-add_row rows a h q p ∙ at (same_asset q a) refl
  where
    at : (b : Bool) → same_asset q a ≡ b → cond b (same_holder p h || has_row rows a p) (has_row rows q p) ≡ true
    at true e = or_right (same_holder p h) _ (ap (λ (x : Asset). has_row rows x p) (sym (same_asset_is q a e)) ∙ had)
    at false e = had

pub HasRows-kept : (changes : List Undo) (rows : Rows) (a : Asset) (h : Holder) → HasRows changes rows → HasRows changes (add_row rows a h)
HasRows-kept [] rows a h all = tt
HasRows-kept (Balance q p n ∷ changes) rows a h all = (has_row-kept rows a h q p all.0, HasRows-kept changes rows a h all.1)
HasRows-kept (Token ∷ changes) rows a h all = HasRows-kept changes rows a h all
HasRows-kept (NewPair ∷ changes) rows a h all = HasRows-kept changes rows a h all
HasRows-kept (Pair pool pair ∷ changes) rows a h all = HasRows-kept changes rows a h all
HasRows-kept (NewQuote ∷ changes) rows a h all = HasRows-kept changes rows a h all
HasRows-kept (NewObservation ∷ changes) rows a h all = HasRows-kept changes rows a h all
HasRows-kept (FeeTo holder ∷ changes) rows a h all = HasRows-kept changes rows a h all
HasRows-kept (Setter user ∷ changes) rows a h all = HasRows-kept changes rows a h all
HasRows-kept (Time time ∷ changes) rows a h all = HasRows-kept changes rows a h all

-- one more balance was changed
module _ (changes noted : List Undo) (book new : BookView) (a : Asset) (h : Holder) (n before : ℕ) (is : noted ≡ Balance a h before ∷ changes)
    (was : before ≡ balance book.ledger a h) (next : new ≡ with_balance book a h n) (r : IsRevertible changes book) where
  back : set_balance (set_balance book.ledger a h n) a h (balance book.ledger a h) ≡ book.ledger
  back = set_balance-back book.ledger a h n r.canonical.assets (r.canonical.amounts a)

  all : noted ≡ Balance a h (balance book.ledger a h) ∷ changes
  all = is ∙ ap (λ (k : ℕ). Balance a h k ∷ changes) was

  pub balance_leads_back : undo_all noted new.ledger ≡ undo_all changes book.ledger
  balance_leads_back = rw (all, next) (ap (undo_all changes) back)

  pub balance_changed : total book.ledger a ≤ AMOUNT_LIMIT → IsRevertible noted new
  balance_changed limit =
      let l : Ledger = book.ledger in
      let sums = total-set_balance l a h n in
      let here = balance-set_here l a h n in
      let whole = balance_within_total l a h in
      rw (all, next) record {
        within = (omega arith, subst (StaysWithin changes) (sym back) r.within);
        rows = (has_row-added book.rows a h, HasRows-kept changes book.rows a h r.rows);
        start = subst (λ (x : Ledger). IsStart (undo_all changes x)) (sym back) r.start;
        canonical = canonical-set_balance l a h n r.canonical;
      }

-- units were moved: two more balances were changed
module _ (changes noted : List Undo) (book new : BookView) (a : Asset) (f t : Holder) (n : ℕ) (b : Before) (is : noted ≡ Balance a t b.receiver ∷ Balance a f b.sender ∷ changes)
    (moved : IsMoved (of_book a) book new f t n (Ok b)) (r : IsRevertible changes book) where
  abbrev less : BookView
  less = with_balance book a f (b.sender - n)

  taken_back : IsRevertible (Balance a f b.sender ∷ changes) less
  taken_back = balance_changed changes _ book less a f (b.sender - n) b.sender refl moved.sender refl r moved.limit

  pub move_leads_back : undo_all noted new.ledger ≡ undo_all changes book.ledger
  move_leads_back = balance_leads_back (Balance a f b.sender ∷ changes) noted less new a t (b.receiver + n) b.receiver is moved.receiver moved.ok taken_back
      ∙ balance_leads_back changes _ book less a f (b.sender - n) b.sender refl moved.sender refl r

  pub move_changed : IsRevertible noted new
  move_changed =
      let sums = total-set_balance book.ledger a f (b.sender - n) in
      balance_changed (Balance a f b.sender ∷ changes) noted less new a t (b.receiver + n) b.receiver is moved.receiver moved.ok taken_back (omega (arith, moved.sender, moved.funds, moved.limit))

-- one more pair was changed
module _ (changes noted : List Undo) (book new : BookView) (pool : List ℕ) (old pair : PairRecord) (is : noted ≡ Pair pool old ∷ changes)
    (was : pair_of book.ledger.pairs pool ≡ Some old) (next : new ≡ with_ledger book (with_pairs book.ledger (set_pair book.ledger.pairs pool pair))) where
  pair_back : undo (Pair pool old) (record book.ledger { pairs = set_pair book.ledger.pairs pool pair }) ≡ book.ledger
  pair_back = ap (λ (k : Pairs). record book.ledger { pairs = k }) (set_pair-back book.ledger.pairs pool old pair was)

  pub pair_leads_back : undo_all noted new.ledger ≡ undo_all changes book.ledger
  pair_leads_back = rw (is, next) (ap (undo_all changes) pair_back)

  pub pair_changed : IsRevertible changes book → IsRevertible noted new
  pair_changed r = rw (is, next) record {
    within = subst (StaysWithin changes) (sym pair_back) r.within;
    rows = r.rows;
    start = subst (λ (x : Ledger). IsStart (undo_all changes x)) (sym pair_back) r.start;
    canonical = record { amounts = r.canonical.amounts; assets = r.canonical.assets };
  }
