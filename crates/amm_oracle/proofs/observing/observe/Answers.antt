use Rattle.std.proofs.Common.{subst}
use Rattle.std.proofs.lemmas.Result.{err_from_is_err_and}
use Rattle.amm_model.specs.declared.pair.PairRecord.{PairRecord}
use Rattle.amm_model.specs.Operations.{sync}
use Rattle.amm_model.specs.Oracle.{add_observation, observe}
use Rattle.amm_model.specs.Outcome.{Made}
use Rattle.amm_model.specs.Sound.{IsSound}
use Rattle.amm_state.specs.Tx.{Meets}
use Rattle.amm_state.proofs.Meets.{on_ok}
use Rattle.amm_state.proofs.TxLemmas.{meets_after}
use Rattle.amm_oracle.proofs.Observed.{synced_there, synced_record, observe_sound, meets_failed}
use Rattle.amm_oracle.proofs.observing.observe.Goals as goal

pub returns-in_err-sync-clause-meets : goal.returns-in_err-sync-clause-meets
unfolding observe
returns-in_err-sync-clause-meets c =
    let p = err_from_is_err_and c.from_residual.result c.from_residual.ensures.1 in
    rw (p.1, p.2) (meets_failed c.args.tx.now c.sync.new.tx c.in_err-sync.field-0.0 (sync c.args.tx.now.present c.args.pool.now)
    (λ synced. add_observation synced.ledger c.args.pool.now synced.answer) c.in_err-sync.ensures.meets)

pub add_observation-requires-clause-there : goal.add_observation-requires-clause-there
add_observation-requires-clause-there c =
    let synced : Made PairRecord = record { ledger = c.sync.new.tx.present; answer = c.in_ok-sync.field-0 } in
    synced_there c.args.tx.now.present c.args.pool.now synced c.in_ok-sync.ensures.meets.gives

pub returns-clause-meets : goal.returns-clause-meets
unfolding observe
returns-clause-meets c =
    let synced : Made PairRecord = record { ledger = c.sync.new.tx.present; answer = c.in_ok-sync.field-0 } in
    let read = synced_record c.args.tx.now.present c.args.pool.now synced c.in_ok-sync.ensures.meets.gives in
    meets_after c.args.tx.now c.sync.new.tx c.add_observation.new.self c.in_ok-sync.field-0 (sync c.args.tx.now.present c.args.pool.now)
    (λ m. add_observation m.ledger c.args.pool.now m.answer) c.add_observation.result c.in_ok-sync.ensures.meets
    (subst (λ (r : PairRecord). Meets c.sync.new.tx c.add_observation.new.self c.add_observation.result (add_observation c.sync.new.tx.present c.args.pool.now r)) read c.add_observation.ensures)

pub returns-clause-sound : goal.returns-clause-sound
returns-clause-sound c = on_ok IsSound _ _ _ _ (returns-clause-meets c) (λ made is. observe_sound c.args.tx.now.present c.args.pool.now made is c.requires.sound)
