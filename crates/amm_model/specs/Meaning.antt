-- What each command and step does to the ledger, and what it answers.
use Rattle.std.specs.Prelude.{ℕ, ◌≡◌, not, Result, Ok, ok_or}
use Rattle.std.specs.Option.{is_none}
use Rattle.amm_names.specs.Names.{Name}
use Rattle.amm_names.specs.declared.holder.Holder.{Holder}
use Rattle.amm_names.specs.declared.holder.Holder.TheVariants as holders
use Rattle.amm_names.specs.declared.holder.Asset.{Asset}
use Rattle.amm_names.specs.declared.holder.Asset.TheVariants as assets
use Rattle.amm_model.specs.declared.pair.PairRecord.{PairRecord}
use Rattle.amm_model.specs.declared.fault.Refusal.{Refusal}
use Rattle.amm_model.specs.declared.fault.Refusal.TheVariants as code
use Rattle.amm_model.specs.declared.reply.Answer.{Answer}
use Rattle.amm_model.specs.declared.reply.Answer.TheVariants as answers
use Rattle.amm_model.specs.Outcome.{◌>>=◌, refuse_if, Outcome, ledger_only}
use Rattle.amm_model.specs.Ledger.{Ledger, balance, total, is_listed, pair_of, quote_of, observation_at}
use Rattle.amm_model.specs.Postings.{list_token, issue, retire, transfer, set_time}
use Rattle.amm_model.specs.Pools.{held0, held1, supply}
use Rattle.amm_model.specs.Operations.{mint, burn, swap, skim, sync, lend, give_back}
use Rattle.amm_model.specs.Factory.{create, set_fee_to, set_setter}
use Rattle.amm_model.specs.Router.{add, remove, exact_in, exact_out, amounts_out, amounts_in}
use Rattle.amm_model.specs.Settlement.{settle}
use Rattle.amm_model.specs.Splits.{SplitsTo}
use Rattle.amm_model.specs.Sales.{SellsTo}
use Rattle.amm_model.specs.CycleRuns.{CyclesTo}
use Rattle.amm_model.specs.Oracle.{observe, average, consult, window}
use Rattle.amm_model.specs.CommandView as view
use Rattle.amm_model.specs.CommandView.{CommandView, Move, Moves}

-- the ledger as it is, with an answer
abbrev pub ledger_with : Ledger → Answer → Outcome Answer
ledger_with ledger answer = Ok (record { ledger = ledger; answer = answer })

-- the ledger that was made, with an answer in place of its own
abbrev pub outcome_with : {A : Type 0} → Answer → Outcome A → Outcome Answer
outcome_with answer outcome = do
  made ← outcome
  Ok (record { ledger = made.ledger; answer = answer })

-- an asset can be spoken of where it is a listed token, or the shares of a pair that is there
unfoldable pub known_asset : Ledger → Asset → Result (Unit {0}) Refusal
known_asset ledger (assets.Token token) = refuse_if (not (is_listed ledger.tokens token)) code.UnknownToken
known_asset ledger (assets.Share pool) = refuse_if (is_none (pair_of ledger.pairs pool)) code.NoPair

-- ---- steps

-- units of an asset from the actor to a holder (core, UniswapV2ERC20.transfer)
unfoldable pub send : Ledger → (actor : Name) → Asset → Holder → ℕ → Outcome Answer
send ledger actor asset to n = do
  _ ← known_asset ledger asset
  outcome_with answers.Transfer (transfer ledger asset (holders.User actor) to n)

-- what an operation answers, as the answer to a step
abbrev pub as_answer : {A : Type 0} → (A → Answer) → Outcome A → Outcome Answer
as_answer view outcome = do
  made ← outcome
  ledger_with made.ledger (view made.answer)

-- the reserves that a record tells
abbrev pub sync_reply : PairRecord → Answer
sync_reply pair = answers.Sync pair.r0 pair.r1

unfoldable mutual
  -- What a step of the actor does. A loan is lent to the actor, whose steps run, and is then given
  -- back (core, UniswapV2Pair.swap with data).
  pub meaning : Ledger → (actor : Name) → Move → Outcome Answer
  meaning ledger actor (view.transfer asset to n) = send ledger actor asset to n
  meaning ledger actor (view.create a b fee) = as_answer answers.Create (create ledger a b fee)
  meaning ledger actor (view.mint pool to) = as_answer answers.Mint (mint ledger pool to)
  meaning ledger actor (view.burn pool to) = as_answer answers.Burn (burn ledger pool to)
  meaning ledger actor (view.swap pool out0 out1 to) = as_answer answers.Swap (swap ledger pool out0 out1 to)
  meaning ledger actor (view.skim pool to) = as_answer answers.Skim (skim ledger pool to)
  meaning ledger actor (view.sync pool) = as_answer sync_reply (sync ledger pool)
  meaning ledger actor (view.flash pool out0 out1 steps) = do
    lent ← lend ledger pool out0 out1 (holders.User actor)
    ran ← meaning_of_all lent.ledger actor steps
    as_answer answers.Flash (give_back ran.ledger pool out0 out1)
  meaning ledger actor (view.add want to deadline) = as_answer answers.Add (add ledger actor want to deadline)
  meaning ledger actor (view.remove want to deadline) = as_answer answers.Remove (remove ledger actor want to deadline)
  meaning ledger actor (view.swap_in path x least to deadline) = as_answer answers.SwapIn (exact_in ledger actor path x least to deadline)
  meaning ledger actor (view.swap_out path y most to deadline) = as_answer answers.SwapOut (exact_out ledger actor path y most to deadline)
  meaning ledger actor (view.settle number deadline) = do
    quote ← ok_or (quote_of ledger.quotes number) code.NoQuote
    as_answer answers.Settle (settle ledger actor quote deadline)

  -- what a list of steps does, one after another; the first code ends it
  pub meaning_of_all : Ledger → (actor : Name) → Moves → Outcome (Unit {0})
  meaning_of_all ledger actor view.no_moves = ledger_only ledger
  meaning_of_all ledger actor (view.move step steps) = do
    made ← meaning ledger actor step
    meaning_of_all made.ledger actor steps

-- ---- commands that are no steps

-- units of a token into the ledger, which lists the token
unfoldable pub deposit : Ledger → (user token : Name) → ℕ → Outcome Answer
deposit ledger user token n = do
  listed ← list_token ledger token
  issued ← issue listed.ledger (assets.Token token) (holders.User user) n
  ledger_with issued.ledger (answers.Deposit (balance issued.ledger (assets.Token token) (holders.User user)) (total issued.ledger (assets.Token token)))

-- units of a token out of the ledger
unfoldable pub withdraw : Ledger → (user token : Name) → ℕ → Outcome Answer
withdraw ledger user token n = do
  _ ← known_asset ledger (assets.Token token)
  retired ← retire ledger (assets.Token token) (holders.User user) n
  ledger_with retired.ledger (answers.Withdraw (balance retired.ledger (assets.Token token) (holders.User user)) (total retired.ledger (assets.Token token)))

-- what a query finds, as an answer; it changes nothing
abbrev pub query : {A : Type 0} → Ledger → (A → Answer) → Result A Refusal → Outcome Answer
query ledger view found = do
  x ← found
  ledger_with ledger (view x)

-- the record of a pair, what its pool holds of the two tokens, and its shares
abbrev pub pool_answer : Ledger → (pool : Name) → PairRecord → Answer
pool_answer ledger pool pair = answers.Pool pair (held0 ledger pool) (held1 ledger pool) (supply ledger pool)

-- what an observation that was made is answered: its number, and what is kept
abbrev pub observe_answer : Outcome ℕ → Outcome Answer
observe_answer outcome = do
  made ← outcome
  kept ← ok_or (observation_at made.ledger.observations made.answer) code.NoObservation
  ledger_with made.ledger (answers.Observe made.answer kept)

-- What a command may come to: a split, a basket and a cycle to any quote that answers its problem,
-- each other command to one outcome.
unfoldable pub MayComeTo : Ledger → CommandView → Outcome Answer → Type 0
MayComeTo ledger (view.deposit user token n) outcome = deposit ledger user token n ≡ outcome
MayComeTo ledger (view.withdraw user token n) outcome = withdraw ledger user token n ≡ outcome
MayComeTo ledger (view.time n) outcome = outcome_with answers.Time (set_time ledger n) ≡ outcome
MayComeTo ledger (view.fee_to actor to) outcome = outcome_with answers.FeeTo (set_fee_to ledger actor to) ≡ outcome
MayComeTo ledger (view.setter actor to) outcome = outcome_with answers.Setter (set_setter ledger actor to) ≡ outcome
MayComeTo ledger (view.quote_out path n) outcome = query ledger answers.QuoteOut (amounts_out ledger path n) ≡ outcome
MayComeTo ledger (view.quote_in path n) outcome = query ledger answers.QuoteIn (amounts_in ledger path n) ≡ outcome
MayComeTo ledger (view.split s t d) outcome = SplitsTo ledger s t d outcome
MayComeTo ledger (view.certificate number) outcome = query ledger answers.Certificate (ok_or (quote_of ledger.quotes number) code.NoQuote) ≡ outcome
MayComeTo ledger (view.pool pool) outcome = query ledger (pool_answer ledger pool) (ok_or (pair_of ledger.pairs pool) code.NoPair) ≡ outcome
MayComeTo ledger (view.balance asset holder) outcome = query ledger (λ _. answers.Balance (balance ledger asset holder)) (known_asset ledger asset) ≡ outcome
MayComeTo ledger (view.total asset) outcome = query ledger (λ _. answers.Total (total ledger asset)) (known_asset ledger asset) ≡ outcome
MayComeTo ledger (view.observe actor pool) outcome = observe_answer (observe ledger pool) ≡ outcome
MayComeTo ledger (view.average first second) outcome = query ledger answers.Average (average ledger first second) ≡ outcome
MayComeTo ledger (view.consult first second token n) outcome = query ledger answers.Consult (consult ledger first second token n) ≡ outcome
MayComeTo ledger (view.window pool seconds) outcome = query ledger answers.Window (window ledger pool seconds) ≡ outcome
MayComeTo ledger (view.basket actor parts t min deadline) outcome = SellsTo ledger actor parts t min deadline outcome
MayComeTo ledger (view.cycle actor t deadline) outcome = CyclesTo meaning ledger actor t deadline outcome
MayComeTo ledger (view.act actor step) outcome = meaning ledger actor step ≡ outcome
