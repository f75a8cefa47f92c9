use Rattle.std.proofs.Common.{take}
use Rattle.covering.specs.Table.{items_of}
use Rattle.covering.specs.Reduce.{Enters}
use Rattle.covering.proofs.transpose.enter.Given as goal

abbrev pub invariant-loop-column : goal.invariant-loop-column
invariant-loop-column l = Enters (items_of l.initial.columns.items) (take l.column-index l.row) l.number (items_of l.columns.items)
