use Rattle.std.proofs.Common.{◌≡◌, take, true}
use Rattle.std.specs.List.{list_all}
use Rattle.covering.specs.Table.{is_row}
use Rattle.covering.proofs.table.are_rows.Given as goal

abbrev pub invariant-loop-row : goal.invariant-loop-row
invariant-loop-row l = list_all (λ row. is_row l.columns row.items) (take l.row-index l.rows) ≡ true
