use Rattle.std.proofs.Common.{◌∙◌, arith}
use Rattle.covering.specs.Lagrange.{beyond}
use Rattle.covering.proofs.Charges.{range_sum}
use Rattle.covering.proofs.lagrangian.over.Goals as goal

pub loop-column-preserved : goal.loop-column-preserved
loop-column-preserved c =
    let one = range_sum (beyond c.args.loads.now c.args.scaled_costs.now) c.loop-column.column in
    let before = c.loop-column.invariant in
    let now = c.in-Some.ensures.1 in
    let less = c.saturating_sub-beyond.ensures in
    let scaled_cost = c.from.ensures ∙ c.at.ensures in
    omega arith
