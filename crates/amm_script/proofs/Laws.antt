-- What accepted steps keep, whatever they are: soundness, locks, the zero holder, the totals of
-- tokens and the settings.
use Rattle.std.proofs.Common.{◌≡◌, ℕ, List, Result, Ok, OnOk, subst}
use Rattle.amm_names.specs.declared.holder.Holder.{Holder}
use Rattle.amm_names.specs.declared.holder.Holder.TheVariants as holders
use Rattle.amm_names.specs.declared.holder.Asset.{Asset}
use Rattle.amm_model.specs.declared.reply.Answer.{Answer}
use Rattle.amm_model.specs.declared.reply.Answer.TheVariants as answers
use Rattle.std.specs.Prelude.{ok_or}
use Rattle.amm_model.specs.declared.fault.Refusal.TheVariants as code
use Rattle.amm_model.specs.declared.route.Quote.{Quote}
use Rattle.amm_model.specs.Ledger.{Ledger, quote_of}
use Rattle.amm_model.specs.Settlement.{settle}
use Rattle.amm_model.specs.Outcome.{Made, Outcome}
use Rattle.amm_model.specs.Postings.{transfer}
use Rattle.amm_model.specs.Operations.{mint, burn, swap, skim, sync, lend, give_back}
use Rattle.amm_model.specs.Factory.{create}
use Rattle.amm_model.specs.Router.{add, remove, exact_in, exact_out}
use Rattle.amm_model.specs.CommandView as view
use Rattle.amm_model.specs.CommandView.{Move, Moves}
use Rattle.amm_model.specs.Fits.{FitsMove, FitMoves, HasNames, HaveNames}
use Rattle.amm_model.specs.Later.{Later}
use Rattle.amm_model.specs.declared.fault.Fault.{Fault}
use Rattle.amm_model.specs.declared.pair.PairRecord.{PairRecord}
use Rattle.amm_model.specs.declared.pair.MintReceipt.{MintReceipt}
use Rattle.amm_model.specs.declared.pair.SwapReceipt.{SwapReceipt}
use Rattle.amm_model.specs.declared.route_path.RoutePath.{RoutePath}
use Rattle.amm_model.specs.Meaning.{known_asset, send, as_answer, sync_reply, meaning, meaning_of_all}
use Rattle.amm_model.proofs.Guards.{given, same_answer}
use Rattle.amm_state.specs.Tx.{TxView, Accepts, Meets}
use Rattle.amm_state.proofs.Meets.{on_ok}
use Rattle.amm_model.proofs.Laters.{Kept, kept_same, kept_then, transfer_kept}
use Rattle.amm_path.proofs.Kept.{exact_in_kept, exact_out_kept, add_kept, remove_kept}
use Rattle.amm_settle.proofs.Kept.{settle_kept}
use Rattle.amm_factory.proofs.Creation.{create_kept}
use Rattle.amm_pair.proofs.Tokens.{tokens_differ}
use Rattle.amm_pair.proofs.Operations.{sync_kept, skim_kept}
use Rattle.amm_pair.proofs.Lending.{swap_kept}
use Rattle.amm_pair.proofs.Shares.{mint_kept}
use Rattle.amm_pair.proofs.Burning.{burn_kept}
use Rattle.amm_pair.proofs.Laters.{loan_kept}

-- the answer in another form changes no ledger
answered : {A : Type 0} (old : Ledger) (form : A → Answer) (outcome : Outcome A) (made : Made Answer) → ((done : Made A) → outcome ≡ Ok done → Kept old done.ledger) → as_answer form outcome ≡ Ok made → Kept old made.ledger
answered old form outcome made each is =
    let first = given outcome _ made is in
    subst (λ (k : Made Answer). Kept old k.ledger) (same_answer _ made first.after) (each first.value first.was)

pub send_kept : (old : Ledger) (actor : List ℕ) (asset : Asset) (to : Holder) (n : ℕ) (made : Made Answer) → send old actor asset to n ≡ Ok made → Kept old made.ledger
unfolding send
send_kept old actor asset to n made is =
    let first = given (known_asset old asset) _ made is in
    let second = given (transfer old asset (holders.User actor) to n) _ made first.after in
    subst (λ (k : Made Answer). Kept old k.ledger) (same_answer _ made second.after) (transfer_kept old asset actor to n second.value second.was)

mutual
  unfolding meaning meaning_of_all

  -- an accepted step keeps so much
  pub step_kept : (m : Move) (old : Ledger) (actor : List ℕ) (made : Made Answer) → HasNames m → FitsMove m → meaning old actor m ≡ Ok made → Kept old made.ledger
  step_kept (view.transfer asset to n) old actor made names fits is = send_kept old actor asset to n made is
  step_kept (view.create a b fee) old actor made names fits is = answered old answers.Create (create old a b fee) made (λ done e. create_kept old a b fee done names.0 names.1 fits e) is
  step_kept (view.mint pool to) old actor made names fits is = answered old answers.Mint (mint old pool to) made (mint_kept old pool to) is
  step_kept (view.burn pool to) old actor made names fits is = answered old answers.Burn (burn old pool to) made (λ done e. burn_kept old pool to done e (tokens_differ pool names)) is
  step_kept (view.swap pool out0 out1 to) old actor made names fits is = answered old answers.Swap (swap old pool out0 out1 to) made (swap_kept old pool out0 out1 to) is
  step_kept (view.skim pool to) old actor made names fits is = answered old answers.Skim (skim old pool to) made (λ done e. skim_kept old pool to done e (tokens_differ pool names)) is
  step_kept (view.sync pool) old actor made names fits is = answered old sync_reply (sync old pool) made (λ done e. sync_kept old pool done e) is
  step_kept (view.flash pool out0 out1 steps) old actor made names fits is =
      let lent = given (lend old pool out0 out1 (holders.User actor)) _ made is in
      let ran = given (meaning_of_all lent.value.ledger actor steps) _ made lent.after in
      let within = steps_kept steps lent.value.ledger actor ran.value names fits.1.1 ran.was in
      answered old answers.Flash (give_back ran.value.ledger pool out0 out1) made
      (λ done e. loan_kept old pool out0 out1 (holders.User actor) lent.value lent.was ran.value.ledger within.later done e within.zero) ran.after
  step_kept (view.add want to deadline) old actor made names fits is = answered old answers.Add (add old actor want to deadline) made (λ done e. add_kept old actor want to deadline done (record { first = names.0; second = names.1; at_a_fee = fits.0.fee }) e) is
  step_kept (view.remove want to deadline) old actor made names fits is = answered old answers.Remove (remove old actor want to deadline) made (λ done e. remove_kept old actor want to deadline done (record { first = names.0; second = names.1; at_a_fee = fits.0.fee }) e) is
  step_kept (view.swap_in path x least to deadline) old actor made names fits is =
      answered old answers.SwapIn (exact_in old actor path x least to deadline) made (λ done e. exact_in_kept old actor path x least to deadline done e) is
  step_kept (view.swap_out path y most to deadline) old actor made names fits is =
      answered old answers.SwapOut (exact_out old actor path y most to deadline) made (λ done e. exact_out_kept old actor path y most to deadline done e) is
  step_kept (view.settle number deadline) old actor made names fits is =
      let quote = given (ok_or (quote_of old.quotes number) code.NoQuote) _ made is in
      answered old answers.Settle (settle old actor quote.value deadline) made (λ done e. settle_kept old actor quote.value deadline done e) quote.after

  -- so do steps one after another
  pub steps_kept : (ms : Moves) (old : Ledger) (actor : List ℕ) (made : Made (Unit {0})) → HaveNames ms → FitMoves ms → meaning_of_all old actor ms ≡ Ok made → Kept old made.ledger
  steps_kept view.no_moves old actor made names fits is = subst (λ (k : Made (Unit {0})). Kept old k.ledger) (same_answer (record { ledger = old; answer = tt }) made is) (kept_same old)
  steps_kept (view.move m ms) old actor made names fits is =
      let first = given (meaning old actor m) _ made is in
      kept_then old first.value.ledger made.ledger (step_kept m old actor first.value names.0 fits.0 first.was) (steps_kept ms first.value.ledger actor made names.1 fits.1 first.after)

-- ---- what is promised of the ledger after an accepted call, where no name has to be one

module _ (old new : TxView) where
  abbrev made_by : {A : Type 0} → A → Made A
  made_by answer = record { ledger = new.present; answer = answer }

  pub transfer_later : (actor : List ℕ) (asset : Asset) (to : Holder) (n : ℕ) (answer : Result Answer Fault) → Meets old new answer (send old.present actor asset to n) → OnOk answer (Later old.present new.present)
  transfer_later actor asset to n answer meets = on_ok (Later old.present) old new answer _ meets (λ made is. (send_kept old.present actor asset to n made is).later)

  pub sync_later : (pool : List ℕ) (pair : PairRecord) → Accepts old new pair (sync old.present pool) → Later old.present new.present
  sync_later pool pair accepted = (sync_kept old.present pool (made_by pair) accepted.gives).later

  pub mint_later : (pool : List ℕ) (to : Holder) (receipt : MintReceipt) → Accepts old new receipt (mint old.present pool to) → Later old.present new.present
  mint_later pool to receipt accepted = (mint_kept old.present pool to (made_by receipt) accepted.gives).later

  pub swap_later : (pool : List ℕ) (out0 out1 : ℕ) (to : Holder) (receipt : SwapReceipt) → Accepts old new receipt (swap old.present pool out0 out1 to) → Later old.present new.present
  swap_later pool out0 out1 to receipt accepted = (swap_kept old.present pool out0 out1 to (made_by receipt) accepted.gives).later

  pub swap_in_later : (actor : List ℕ) (path : RoutePath) (x least : ℕ) (to : Holder) (deadline : ℕ) (amounts : List ℕ) → Accepts old new amounts (exact_in old.present actor path x least to deadline)
      → Later old.present new.present
  swap_in_later actor path x least to deadline amounts accepted = (exact_in_kept old.present actor path x least to deadline (made_by amounts) accepted.gives).later

  pub swap_out_later : (actor : List ℕ) (path : RoutePath) (y most : ℕ) (to : Holder) (deadline : ℕ) (amounts : List ℕ) → Accepts old new amounts (exact_out old.present actor path y most to deadline)
      → Later old.present new.present
  swap_out_later actor path y most to deadline amounts accepted = (exact_out_kept old.present actor path y most to deadline (made_by amounts) accepted.gives).later

  pub settle_later : (actor : List ℕ) (quote : Quote) (deadline delivered : ℕ) → Accepts old new delivered (settle old.present actor quote deadline) → Later old.present new.present
  settle_later actor quote deadline delivered accepted = (settle_kept old.present actor quote deadline (made_by delivered) accepted.gives).later
