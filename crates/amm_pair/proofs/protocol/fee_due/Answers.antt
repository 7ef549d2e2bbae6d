use Rattle.std.proofs.Common.{◌≡◌, ◌≤◌, ◌+◌, ◌*◌, ℕ, sym, ap, ◌∙◌, subst}
use Rattle.amm_model.specs.Formulas.{fee_shares_of}
use Rattle.amm_model.specs.Pools.{supply}
use Rattle.amm_pool.proofs.Products.{fee_within}
use Rattle.amm_pair.proofs.Minting.{square_small}
use Rattle.amm_pair.proofs.protocol.fee_due.Goals as goal

pub returns-clause-within : goal.returns-clause-within
returns-clause-within c =
    let value : c.fee_shares.result ≡ fee_shares_of (supply c.args.book.now.ledger c.args.pool.now) c.args.pair.now.r0 c.args.pair.now.r1 c.args.pair.now.k_last =
    c.fee_shares.ensures ∙ ap (λ (n : ℕ). fee_shares_of n c.args.pair.now.r0 c.args.pair.now.r1 c.args.pair.now.k_last) c.supply.ensures.sum in
    subst (λ (n : ℕ). (supply c.args.book.now.ledger c.args.pool.now + n) * (supply c.args.book.now.ledger c.args.pool.now + n) ≤ c.args.pair.now.r0 * c.args.pair.now.r1) (sym value)
    (fee_within (supply c.args.book.now.ledger c.args.pool.now) c.args.pair.now.r0 c.args.pair.now.r1 c.args.pair.now.k_last c.requires.backed)

pub returns-clause-small : goal.returns-clause-small
returns-clause-small c = square_small _ c.args.pair.now.r0 c.args.pair.now.r1 (returns-clause-within c) c.requires.reserves.0 c.requires.reserves.1
