-- What holds of verdicts.
use Rattle.std.proofs.Common.{◌≡◌, ◌≤◌, List, length, refl, subst, sym}
use Rattle.amm_model.specs.declared.route.Quote.{Quote}
use Rattle.amm_model.specs.Routing.{ArePrices, IsProblem, IsRoute, PoolTrade, delivered_by, open_view}
use Rattle.amm_model.specs.SplitAnswers.{IsSplitAnswer}
use Rattle.amm_bound.proofs.Law.{no_route_beats_bound}
use Rattle.amm_check.specs.Verdicts.{IsVerdict}
use Rattle.amm_check.specs.declared.verdict.Verdict.{Verdict}
use Rattle.amm_check.specs.declared.verdict.Verdict.TheVariants.{Yes, BadRoute, BadDelivered, BadBound}

pub one_verdict : (quote : Quote) (v w : Verdict) → IsVerdict quote v → IsVerdict quote w → v ≡ w
one_verdict quote Yes Yes p q = refl
one_verdict quote Yes BadRoute p q = absurd (q p.0)
one_verdict quote Yes BadDelivered p q = absurd (q.1 p.1)
one_verdict quote Yes BadBound p q = absurd (q.2 p.2)
one_verdict quote BadRoute Yes p q = absurd (p q.0)
one_verdict quote BadRoute BadRoute p q = refl
one_verdict quote BadRoute BadDelivered p q = absurd (p q.0)
one_verdict quote BadRoute BadBound p q = absurd (p q.0)
one_verdict quote BadDelivered Yes p q = absurd (p.1 q.1)
one_verdict quote BadDelivered BadRoute p q = absurd (q p.0)
one_verdict quote BadDelivered BadDelivered p q = refl
one_verdict quote BadDelivered BadBound p q = absurd (p.1 q.1)
one_verdict quote BadBound Yes p q = absurd (p.2 q.2)
one_verdict quote BadBound BadRoute p q = absurd (q p.0)
one_verdict quote BadBound BadDelivered p q = absurd (q.1 p.1)
one_verdict quote BadBound BadBound p q = refl

pub answer_right : (quote : Quote) → IsSplitAnswer quote → IsVerdict quote Yes
answer_right quote split = (split.delivers.0, sym split.delivers.1, sym split.bound)

pub unbeaten : (quote : Quote) → IsProblem quote.problem → ArePrices quote.prices → length quote.prices ≡ length quote.problem.tokens →
    IsVerdict quote Yes → (route : List PoolTrade) → IsRoute (open_view quote.problem) route → delivered_by (open_view quote.problem) route ≤ quote.bound
unbeaten quote sound ranges as_many right route is_route =
    subst (λ bound. delivered_by (open_view quote.problem) route ≤ bound) right.2 (no_route_beats_bound (open_view quote.problem) quote.prices route sound as_many ranges is_route)
