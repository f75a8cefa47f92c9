use Rattle.std.proofs.Common.{◌+◌, length}
use Rattle.covering.specs.Steps.{Steps}
use Rattle.covering.proofs.reduction.reduce_by.Given as goal

abbrev pub invariant-loop-table : goal.invariant-loop-table
invariant-loop-table l = Steps l.choice l.fn.table l.table

abbrev pub decreases-loop-table : goal.decreases-loop-table
decreases-loop-table l = length l.table.live + length l.table.rows
