use Rattle.std.proofs.Common.{◌≡◌, ◌∙◌, IsSome, Some, ap, sym, subst}
use Rattle.amm_model.proofs.Names.{some_there}
use Rattle.amm_model.specs.Ledger.{Ledger, Pairs, pair_of}
use Rattle.amm_state.specs.Tx.{TxView}
use Rattle.amm_pair.proofs.Straight.{both_still}
use Rattle.amm_pair.proofs.swaps.swap_straight.Goals as goal

pub settle-requires-clause-there : goal.settle-requires-clause-there
settle-requires-clause-there c =
    let before = c.admit.new.self.present in
    let still = both_still before c.args.pool.now c.args.out0 c.args.out1 c.args.to.now before _ c.in_ok-send_both.ensures.gives in
    let found = c.in_ok-pair.ensures.found in
    let same = ap (λ (t : TxView). t.present) (c.in_ok-pair.ensures.ok c.in_ok-pair.pair found).1 in
    let there = subst (λ (l : Ledger). pair_of l.pairs c.args.pool.now ≡ Some c.in_ok-pair.pair) (c.book.ensures ∙ sym same) (rw found at c.lendable.ensures.there) in
    subst (λ (ps : Pairs). IsSome (pair_of ps c.args.pool.now)) (sym still) (some_there (pair_of before.pairs c.args.pool.now) c.in_ok-pair.pair there)
