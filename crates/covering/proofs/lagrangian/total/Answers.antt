use Rattle.std.proofs.Common.{arith}
use Rattle.covering.proofs.Charges.{total_more}
use Rattle.covering.proofs.lagrangian.total.Goals as goal

pub loop-weight-preserved : goal.loop-weight-preserved
loop-weight-preserved c =
    let one = total_more c.args.weights.now c.loop-weight.weight-index c.loop-weight-test.true in
    let is = c.from-total.ensures in
    let fits = c.type_inv.weights c.loop-weight.weight-index in
    record { sum = (let before = c.loop-weight.invariant.sum in omega arith); bound = (let before = c.loop-weight.invariant.bound in omega arith) }
