use Rattle.std.proofs.Common.{◌+◌, length}
use Rattle.covering.specs.Search.{IsWeaklyReduced}
use Rattle.covering.proofs.table.Table.reduce_weakly.Given as goal

abbrev pub invariant-loop-table : goal.invariant-loop-table
invariant-loop-table l = IsWeaklyReduced l.choice l.fn.self l.table

abbrev pub decreases-loop-table : goal.decreases-loop-table
decreases-loop-table l = length l.table.live + length l.table.rows
