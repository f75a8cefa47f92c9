use Rattle.std.proofs.Common.{◌≡◌, take}
use Rattle.covering.specs.Table.{items_of}
use Rattle.covering.proofs.table.copy_rows.Given as goal

abbrev pub invariant-loop-row : goal.invariant-loop-row
invariant-loop-row l = items_of l.kept.items ≡ items_of (take l.row-index l.rows)
