use Rattle.std.proofs.Common.{◌≡◌, ◌-◌, ◌*◌, ◌++◌, [], map, get_or}
use Rattle.amm_graph.specs.Hops.{hops_of}
use Rattle.amm_graph.specs.Ways.{behind, joined, through, ways}
use Rattle.amm_graph.proofs.walk.+walk.Given as goal

abbrev pub decreases-extend : goal.decreases-extend
decreases-extend l = 2 * (3 - l.begun.now.count)

abbrev pub decreases-follow : goal.decreases-follow
decreases-follow l = 2 * (3 - l.begun.now.count) - 1

-- the paths over the pools passed were added
abbrev pub invariant-extend-loop-i : goal.invariant-extend-loop-i
invariant-extend-loop-i l =
    map hops_of l.found.items ≡ map hops_of l.fn.found.items
    ++ behind (hops_of l.begun) (joined (through (ways (2 - l.begun.count) l.problem.pools (get_or l.problem.tokens l.ends.from []) (get_or l.problem.tokens l.ends.to []))
    l.problem.pools (get_or l.problem.tokens l.ends.from []) (get_or l.problem.tokens l.ends.to []) (get_or l.problem.tokens l.at [])) l.i)
