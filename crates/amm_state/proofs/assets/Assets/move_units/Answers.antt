use Rattle.std.proofs.Common.{◌≡◌, ◌+◌, ◌-◌, ◌<◌, ◌≤◌, Some, None, is_some, refl, ap, sym, subst, ◌∙◌, OnOk, IfOk, IfErr, arith}
use Rattle.std.proofs.lemmas.Result.{IfOk-weaker, on_err_weaker}
use Rattle.amm_model.specs.declared.fault.Refusal.TheVariants.{Funds}
use Rattle.amm_model.specs.Ledger.{amount, sum_held, holdings_of}
use Rattle.amm_model.specs.declared.limits.TheConstants.{AMOUNT_LIMIT}
use Rattle.amm_model.proofs.LedgerLemmas.{amount-empty}
use Rattle.amm_state.specs.Rows.{AssetTable, Because, with_row}
use Rattle.amm_state.specs.Assets.{Tables, with_amount}
use Rattle.amm_state.proofs.AssetLemmas.{found_table, put_in_place, tables_of-rewritten, amount-with_amount, with_amount-twice}
use Rattle.amm_state.proofs.assets.Assets.move_units.Goals as goal

pub returns-in_default : goal.returns-in_default
returns-in_default c =
    let e = found_table c.self.inside.tables.entries c.args.asset.now None _ c.self.view_is c.in_default.ensures.value in
    let none : 0 ≡ amount (holdings_of c.args.self.now.holdings c.args.asset.now) c.args.from.now = sym (amount-empty c.args.from.now) ∙ ap (λ (t : AssetTable). amount t.held c.args.from.now) e in
    record { moved = record { sender = tt; funds = tt; receiver = tt; limit = tt; ok = tt; fault = (refl, omega (arith, none, c.requires)); err = rw c.get_mut.follows.holds-at-none c.self.view_is } }

pub returns : goal.returns
returns c =
    let e = found_table c.self.inside.tables.entries c.args.asset.now (Some c.in-Some.rows.now) _ c.self.view_is c.in-Some.ensures.value in
    let updates = ((c.get_mut.follows.holds c.move_units.new.self).3 (ap is_some (sym c.in-Some.ensures.value))).0 in
    let moved = c.move_units.ensures.moved in
    record {
      moved = record {
        sender = subst (λ (t : AssetTable). IfOk c.move_units.result (λ before. before.sender ≡ amount t.held c.args.from.now)) e moved.sender;
        funds = moved.funds;
        receiver = IfOk-weaker c.move_units.result _ _ (λ before had. had ∙ ap (λ (t : AssetTable). amount (with_row t c.args.from.now (before.sender - c.args.n)).held c.args.to.now) e
            ∙ amount-with_amount c.args.self.now c.args.asset.now c.args.from.now (before.sender - c.args.n) c.args.to.now) moved.receiver;
        limit = subst (λ (t : AssetTable). OnOk c.move_units.result (sum_held t.held ≤ AMOUNT_LIMIT)) e moved.limit;
        ok = IfOk-weaker c.move_units.result _ _ (λ before written.
            put_in_place c.self.inside.tables.entries _ c.args.asset.now c.in-Some.rows.now c.move_units.new.self (λ t. with_row (with_row t c.args.from.now (before.sender - c.args.n)) c.args.to.now (before.receiver + c.args.n))
            _ refl updates c.in-Some.ensures.value written
            ∙ with_amount-twice c.self.inside.tables.entries c.args.asset.now c.args.from.now (before.sender - c.args.n) c.args.to.now (before.receiver + c.args.n)
            ∙ ap (λ (t : Tables). with_amount (with_amount t c.args.asset.now c.args.from.now (before.sender - c.args.n)) c.args.asset.now c.args.to.now (before.receiver + c.args.n)) c.self.view_is) moved.ok;
        fault = subst (λ (t : AssetTable). IfErr c.move_units.result (λ fault. Because fault Funds (amount t.held c.args.from.now < c.args.n))) e moved.fault;
        err = on_err_weaker c.move_units.result (λ same. tables_of-rewritten c.self.inside.tables.entries _ c.args.asset.now c.move_units.new.self updates (ap Some same ∙ c.in-Some.ensures.value) ∙ c.self.view_is) moved.err;
      };
    }
