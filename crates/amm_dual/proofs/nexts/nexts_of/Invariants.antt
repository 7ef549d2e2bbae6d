use Rattle.std.proofs.Common.{◌≡◌, ◌<◌, ℕ, length, map}
use Rattle.std.specs.Prelude.{slice_index_or}
use Rattle.amm_model.specs.Routing.{places_of}
use Rattle.amm_dual.specs.Nexts.{AreNextsFrom, no_nexts}
use Rattle.amm_dual.proofs.nexts.nexts_of.Given as goal

abbrev pub invariant-loop-token : goal.invariant-loop-token
invariant-loop-token l = record {
  many : length l.list.items ≡ l.token;
  each : (token : ℕ) → token < l.token → AreNextsFrom (map (places_of l.problem.tokens) l.problem.pools) token 0 (slice_index_or l.list.items token no_nexts).places;
}
