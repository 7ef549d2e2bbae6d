use Rattle.std.proofs.Common.{◌≢◌, ◌≤◌, ◌+◌, ◌==◌, ℕ, sym, subst}
use Rattle.std.specs.Prelude.{if◌then◌else◌}
use Rattle.amm_model.specs.declared.limits.TheConstants.{AMOUNT_LIMIT, FIRST_LOCKED}
use Rattle.amm_pair.proofs.Shares.{shares_room}
use Rattle.amm_pair.proofs.mint_burn.shares_for.Goals as goal

pub returns-clause-room : goal.returns-clause-room
returns-clause-room c = subst (λ (n : ℕ). n ≢ 0 → c.args.before + (n + (if c.args.before == 0 then FIRST_LOCKED else 0)) ≤ AMOUNT_LIMIT) (sym c.shares_by_formula.ensures)
    (shares_room c.args.book.now.ledger c.args.pool.now c.args.pair.now c.args.before c.requires.sound c.requires.covered.first c.requires.covered.second c.requires.backed)
