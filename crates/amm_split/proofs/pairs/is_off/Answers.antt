use Rattle.std.proofs.Common.{◌≡◌, ◌≢◌, ℕ, true, false}
use Rattle.amm_split.proofs.Pairs2.{each_hop}
use Rattle.amm_split.proofs.pairs.is_off.Goals as goal

pub returns-then-not-differs_from : goal.returns-then-not-differs_from
returns-then-not-differs_from c = (
  (λ says. absurd (let e : false ≡ true = says in cc)),
  (λ all. absurd (let yes = c.differs_from.ensures.1 ((each_hop (λ (q : ℕ). c.args.place ≢ q) c.args.path.now).0 all).0 in cc)),
)

pub returns-then-not-differs_from-2 : goal.returns-then-not-differs_from-2
returns-then-not-differs_from-2 c = (
  (λ says. absurd (let e : false ≡ true = says in cc)),
  (λ all. absurd (let yes = c.differs_from-2.ensures.1 ((each_hop (λ (q : ℕ). c.args.place ≢ q) c.args.path.now).0 all).1 in cc)),
)

pub returns : goal.returns
returns c = (
  (λ says. (each_hop (λ (q : ℕ). c.args.place ≢ q) c.args.path.now).1 (c.differs_from.ensures.0 c.if-not-differs_from.false, c.differs_from-2.ensures.0 c.if-not-differs_from-2.false, c.differs_from-3.ensures.0 says)),
  (λ all. c.differs_from-3.ensures.1 ((each_hop (λ (q : ℕ). c.args.place ≢ q) c.args.path.now).0 all).2),
)
