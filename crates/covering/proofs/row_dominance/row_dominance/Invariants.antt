use Rattle.covering.specs.Table.{items_of}
use Rattle.covering.specs.Reduce.{RowDominanceSoFar}
use Rattle.covering.proofs.row_dominance.row_dominance.Given as goal

abbrev pub invariant-loop-number : goal.invariant-loop-number
invariant-loop-number l = RowDominanceSoFar (items_of l.rows) l.number l.stay.items
