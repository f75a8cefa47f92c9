use Rattle.std.proofs.Common.{take}
use Rattle.covering.specs.Table.{items_of}
use Rattle.covering.specs.Cover.{counted}
use Rattle.covering.specs.Reduce.{ColumnDominanceSoFar, is_preferred}
use Rattle.covering.proofs.column_dominance.complete_dominance.Given as goal

abbrev pub invariant-loop-column : goal.invariant-loop-column
invariant-loop-column l = ColumnDominanceSoFar (is_preferred l.preference (counted l.choice l.literals)) l.live (items_of l.transpose) (take l.column-index l.live) l.keep.items
