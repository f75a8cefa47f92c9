use Rattle.std.proofs.Common.{◌≡◌, ◌≤◌, ◌+◌, length, arith}
use Rattle.covering.proofs.Cutoffs.{none_shorter, shortest_best}
use Rattle.covering.proofs.table.Table.shortest_cover.Goals as goal

pub returns : goal.returns
returns c =
    let long : c.len.result ≡ length c.loop-columns.cover.items = omega (arith, c.len.ensures, c.loop-columns.cover.ok) in
    shortest_best c.args.self.now c.loop-columns.cover.items c.loop-columns.invariant (λ x h. omega arith)

pub returns-in-None : goal.returns-in-None
returns-in-None c =
    let none = rw c.in-None.is at c.in_ok-shorter.ensures in
    let fewer : length c.loop-columns.cover.items ≤ c.in-Some.columns + 1 = omega (arith, c.len.ensures, c.loop-columns.cover.ok, c.in-Some.ensures.0, c.in-Some.ensures.1) in
    shortest_best c.args.self.now c.loop-columns.cover.items c.loop-columns.invariant (none_shorter c.args.self.now (length c.loop-columns.cover.items) c.in-Some.columns fewer none)
