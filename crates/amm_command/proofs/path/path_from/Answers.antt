use Rattle.std.proofs.Common.{◌∙◌}
use Rattle.std.proofs.lemmas.Result.{err_from_is_err_and}
use Rattle.amm_model.specs.declared.route_path.RoutePath.{RoutePath}
use Rattle.amm_command.proofs.Hops.{next_at, stops_at, ends_at, within_at}
use Rattle.amm_command.proofs.path.path_from.Goals as goal

pub returns-in_err-fee : goal.returns-in_err-fee
returns-in_err-fee c =
    let p = err_from_is_err_and c.from_residual-in_err-fee.result c.from_residual-in_err-fee.ensures.1 in
    let path : RoutePath = record { tokens = c.loop-at.tokens.items; fees = c.loop-at.fees.items } in
    rw (p.1, p.2, c.loop-at.invariant.same) (stops_at c.args.values.now c.loop-at.at path c.in_err-fee.field-0.0 c.loop-at-test.true c.in_err-fee.ensures.value)

pub loop-at-preserved : goal.loop-at-preserved
loop-at-preserved c =
    let next = next_at c.args.values.now c.loop-at.at c.loop-at.tokens.items c.loop-at.fees.items c.in_ok-fee.fee c.in_ok-fee.token c.in_ok-fee.count c.loop-at-test.true c.in_ok-fee.ensures.value in
    record {
      within = within_at c.args.values.now c.loop-at.at c.in_ok-fee.count c.loop-at-test.true c.in_ok-fee.ensures.no_more;
      same = rw (c.in_ok-push-2.ensures.items, c.in_ok-push-3.ensures.items) (c.loop-at.invariant.same ∙ next);
    }

pub returns : goal.returns
returns c =
    rw (c.from_vec.ensures, c.from_vec-2.ensures) (c.loop-at.invariant.same ∙ ends_at c.args.values.now c.loop-at.at (record { tokens = c.loop-at.tokens.items; fees = c.loop-at.fees.items }) c.loop-at-test.false)
