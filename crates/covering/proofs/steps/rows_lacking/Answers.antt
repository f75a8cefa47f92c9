use Rattle.std.proofs.Common.{arith}
use Rattle.std.proofs.lemmas.Grind.{common_steps}
use Rattle.covering.proofs.steps.rows_lacking.Goals as goal
use Rattle.covering.proofs.steps.rows_lacking.Goals.{then-not-contains+in_ok-copy_of+in_ok-push, else-not-contains}

pub loop-row-preserved : goal.loop-row-preserved
loop-row-preserved c = elim c.if-not-contains.branch [ then-not-contains+in_ok-copy_of+in_ok-push w ↦ grind (arith, common_steps) | else-not-contains w ↦ grind (arith, common_steps) ]
