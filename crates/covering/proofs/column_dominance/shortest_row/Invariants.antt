use Rattle.std.proofs.Common.{◌≡◌, true}
use Rattle.covering.specs.Table.{has}
use Rattle.covering.proofs.column_dominance.shortest_row.Given as goal

abbrev pub invariant-loop-number : goal.invariant-loop-number
invariant-loop-number l = has l.shortest l.among ≡ true
