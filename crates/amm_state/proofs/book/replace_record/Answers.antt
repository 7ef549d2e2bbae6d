use Rattle.std.proofs.Common.{◌≡◌, sym, ◌∙◌}
use Rattle.amm_state.proofs.BookLemmas.{set_pair-missing}
use Rattle.amm_state.proofs.book.replace_record.Goals as goal

pub returns-in-None-clause-written : goal.returns-in-None-clause-written
returns-in-None-clause-written c =
    let was : c.get_mut.follows.lender-at-none.entries ≡ c.args.pairs.now.entries = rw c.get_mut.follows.holds-at-none in
    was ∙ sym (set_pair-missing c.args.pairs.now.entries c.args.pool.now c.args.pair (sym c.in-None.ensures.value))
