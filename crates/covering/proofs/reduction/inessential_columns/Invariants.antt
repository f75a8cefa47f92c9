use Rattle.std.proofs.Common.{take}
use Rattle.covering.specs.Table.{items_of}
use Rattle.covering.specs.Reduce.{MarksInessentialColumns}
use Rattle.covering.proofs.reduction.inessential_columns.Given as goal

abbrev pub invariant-loop-row : goal.invariant-loop-row
invariant-loop-row l = MarksInessentialColumns l.columns (items_of (take l.row-index l.rows)) l.keep.items
