-- What performed legs and an accepted settlement keep.
use Rattle.std.proofs.Common.{◌≡◌, ℕ, nat_lt, not, List, [], ◌∷◌, Ok, subst}
use Rattle.std.specs.Prelude.{if◌then◌else◌}
use Rattle.amm_names.specs.Names.{Name}
use Rattle.amm_names.specs.declared.holder.Holder.TheVariants as holders
use Rattle.amm_names.specs.declared.holder.Asset.TheVariants as assets
use Rattle.amm_model.specs.declared.problem.ProblemPool.{ProblemPool}
use Rattle.amm_model.specs.declared.route.Leg.{Leg}
use Rattle.amm_model.specs.declared.route.Quote.{Quote}
use Rattle.amm_model.specs.declared.fault.Refusal.TheVariants as code
use Rattle.amm_model.specs.Outcome.{Made}
use Rattle.amm_model.specs.Ledger.{Ledger, balance}
use Rattle.amm_model.specs.Postings.{transfer}
use Rattle.amm_model.specs.Operations.{swap}
use Rattle.amm_model.specs.Legs.{leg_pool, token_in}
use Rattle.amm_model.specs.Settlement.{pools_of_legs, any_locked, all_as_kept, perform_leg, perform_legs, settle}
use Rattle.amm_model.proofs.Guards.{given, not_refused, same_answer}
use Rattle.amm_model.proofs.Laters.{Kept, kept_same, kept_then, transfer_kept}
use Rattle.amm_pair.proofs.Lending.{swap_kept}

leg_kept : (ledger : Ledger) (actor : Name) (pools : List ProblemPool) (leg : Leg) (made : Made (Unit {0})) → perform_leg ledger actor pools leg ≡ Ok made → Kept ledger made.ledger
unfolding perform_leg
leg_kept ledger actor pools leg made is =
    let pool = (leg_pool pools leg).name in
    let out0 = if leg.zero_in then 0 else leg.output in
    let out1 = if leg.zero_in then leg.output else 0 in
    let paid = given (transfer ledger (assets.Token (token_in pools leg)) (holders.User actor) (holders.Pool pool) leg.input) _ made is in
    let swapped = given (swap paid.value.ledger pool out0 out1 (holders.User actor)) _ made paid.after in
    subst (λ (m : Made (Unit {0})). Kept ledger m.ledger) (same_answer (record { ledger = swapped.value.ledger; answer = tt }) made swapped.after)
    (kept_then ledger paid.value.ledger swapped.value.ledger
    (transfer_kept ledger (assets.Token (token_in pools leg)) actor (holders.Pool pool) leg.input paid.value paid.was)
    (swap_kept paid.value.ledger pool out0 out1 (holders.User actor) swapped.value swapped.was))

-- Whatever the legs are, they keep what every step keeps.
pub legs_kept : (legs : List Leg) (ledger : Ledger) (actor : Name) (pools : List ProblemPool) (made : Made (Unit {0})) → perform_legs ledger actor pools legs ≡ Ok made → Kept ledger made.ledger
unfolding perform_legs
legs_kept [] ledger actor pools made is =
    subst (λ (m : Made (Unit {0})). Kept ledger m.ledger) (same_answer (record { ledger = ledger; answer = tt }) made is) (kept_same ledger)
legs_kept (leg ∷ legs) ledger actor pools made is =
    let first = given (perform_leg ledger actor pools leg) _ made is in
    kept_then ledger first.value.ledger made.ledger (leg_kept ledger actor pools leg first.value first.was)
    (legs_kept legs first.value.ledger actor pools made first.after)

-- So does the settlement of a quote, whatever it is.
pub settle_kept : (ledger : Ledger) (actor : Name) (quote : Quote) (deadline : ℕ) (made : Made ℕ) → settle ledger actor quote deadline ≡ Ok made → Kept ledger made.ledger
unfolding settle
settle_kept ledger actor quote deadline made is =
    let timely = not_refused (nat_lt deadline ledger.time) code.Expired _ made is in
    let free = not_refused (any_locked ledger (pools_of_legs quote)) code.Locked _ made timely.1 in
    let kept = not_refused (not (all_as_kept ledger (pools_of_legs quote))) code.Stale _ made free.1 in
    let funded = not_refused (nat_lt (balance ledger (assets.Token quote.problem.s) (holders.User actor)) quote.problem.d) code.Funds _ made kept.1 in
    let performed = given (perform_legs ledger actor quote.problem.pools quote.route.legs) _ made funded.1 in
    subst (λ (m : Made ℕ). Kept ledger m.ledger) (same_answer (record { ledger = performed.value.ledger; answer = quote.delivered }) made performed.after)
    (legs_kept quote.route.legs ledger actor quote.problem.pools performed.value performed.was)
