use Rattle.amm_names.specs.declared.holder.Holder.TheVariants as holders
use Rattle.amm_model.proofs.Laters.{kept_rest}
use Rattle.amm_pair.proofs.Shares.{mint_kept}
use Rattle.ledger_tests.proofs.market.mint_shares.Goals as goal

pub returns-clause-rest : goal.returns-clause-rest
returns-clause-rest c = kept_rest _ _ (mint_kept c.args.tx.now.present c.args.pool.now (holders.User c.args.to.now) _ c.in_ok-mint.ensures.meets.gives) c.requires.rest
