use Rattle.std.proofs.Common.{◌≡◌, ◌++◌, map, take, drop}
use Rattle.std.specs.Prelude.{filter}
use Rattle.covering.specs.Table.{items_of}
use Rattle.covering.specs.Search.{marked}
use Rattle.covering.proofs.marks.retain_marked_in_rows.Given as goal

abbrev pub invariant-loop-row : goal.invariant-loop-row
invariant-loop-row l = items_of l.row-items ≡ map (filter (marked l.keep)) (take l.row-index (items_of l.fn.rows.items)) ++ drop l.row-index (items_of l.fn.rows.items)
