use Rattle.std.proofs.Common.{◌≡◌, ◌≢◌, ℕ, true, false}
use Rattle.std.specs.Prelude.{All}
use Rattle.amm_split.proofs.Pairs2.{each_hop}
use Rattle.amm_split.proofs.shares.is_free.Goals as goal

pub returns-then-not-is_unused_from : goal.returns-then-not-is_unused_from
returns-then-not-is_unused_from c = (
  (λ says. absurd (let e : false ≡ true = says in cc)),
  (λ all. absurd (let yes = c.is_unused_from.ensures.1 ((each_hop (λ (p : ℕ). All (λ (q : ℕ). p ≢ q) c.args.used.now) c.args.path.now).0 all).0 in cc)),
)

pub returns-then-not-is_unused_from-2 : goal.returns-then-not-is_unused_from-2
returns-then-not-is_unused_from-2 c = (
  (λ says. absurd (let e : false ≡ true = says in cc)),
  (λ all. absurd (let yes = c.is_unused_from-2.ensures.1 ((each_hop (λ (p : ℕ). All (λ (q : ℕ). p ≢ q) c.args.used.now) c.args.path.now).0 all).1 in cc)),
)

pub returns : goal.returns
returns c = (
  (λ says. (each_hop (λ (p : ℕ). All (λ (q : ℕ). p ≢ q) c.args.used.now) c.args.path.now).1 (c.is_unused_from.ensures.0 c.if-not-is_unused_from.false, c.is_unused_from-2.ensures.0 c.if-not-is_unused_from-2.false, c.is_unused_from-3.ensures.0 says)),
  (λ all. c.is_unused_from-3.ensures.1 ((each_hop (λ (p : ℕ). All (λ (q : ℕ). p ≢ q) c.args.used.now) c.args.path.now).0 all).2),
)
