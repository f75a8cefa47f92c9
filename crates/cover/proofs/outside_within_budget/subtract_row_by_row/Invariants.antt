use Rattle.std.proofs.Common.{take}
use Rattle.rows.specs.Places.{places}
use Rattle.sums.specs.Outside.{IsRest}
use Rattle.cover.proofs.outside_within_budget.subtract_row_by_row.Given as goal

abbrev pub invariant-loop-row : goal.invariant-loop-row
invariant-loop-row l = IsRest l.fn.shape (places (take l.row-index l.rows)) l.others l.all.items
