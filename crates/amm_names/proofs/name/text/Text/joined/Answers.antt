use Rattle.std.proofs.Common.{rules, arith, ap, ◌≡◌, ◌≤◌, ◌+◌, length}
use Rattle.amm_names.proofs.Padding.{IsPadded-join, take-join}
use Rattle.amm_names.proofs.name.text.Text.joined.Goals as goal

pub invariant_of-result : goal.invariant_of-result
invariant_of-result g c =
    let long : length c.more.inside.bytes ≡ g.row.M = search rules in
    let room : c.self.inside.len + g.row.M ≤ g.row.N = omega (arith, ap length c.self.view_is, c.self.invariant.full) in
    rw (c.write_at.ensures, long) (IsPadded-join g.row.N g.row.M c.self.inside.len c.more.inside.len c.self.inside.bytes c.more.inside.bytes c.self.invariant c.more.invariant long room)

pub returns : goal.returns
returns g c =
    let long : length c.more.inside.bytes ≡ g.row.M = search rules in
    let room : c.self.inside.len + g.row.M ≤ g.row.N = omega (arith, ap length c.self.view_is, c.self.invariant.full) in
    rw (← c.self.view_is, ← c.more.view_is, c.write_at.ensures, long) (take-join g.row.N g.row.M c.self.inside.len c.more.inside.len c.self.inside.bytes c.more.inside.bytes c.self.invariant c.more.invariant long room)
