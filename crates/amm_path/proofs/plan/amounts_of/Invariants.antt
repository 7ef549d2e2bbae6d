use Rattle.std.proofs.Common.{◌≡◌, ◌∷◌, take, map}
use Rattle.amm_path.proofs.plan.amounts_of.Given as goal

abbrev pub invariant-loop-trade : goal.invariant-loop-trade
invariant-loop-trade l = l.amounts.items ≡ l.plan.input ∷ map (λ trade. trade.output) (take l.trade-index l.plan.trades.items)
