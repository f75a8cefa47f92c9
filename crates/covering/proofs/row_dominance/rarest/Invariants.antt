use Rattle.std.proofs.Common.{◌≡◌, true}
use Rattle.covering.specs.Table.{has}
use Rattle.covering.proofs.row_dominance.rarest.Given as goal

abbrev pub invariant-loop-column : goal.invariant-loop-column
invariant-loop-column l = has l.rarest l.row ≡ true
