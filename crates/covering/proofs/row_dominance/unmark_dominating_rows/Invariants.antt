use Rattle.std.proofs.Common.{take}
use Rattle.covering.specs.Table.{items_of}
use Rattle.covering.specs.Reduce.{UnmarksDominatingRows}
use Rattle.covering.proofs.row_dominance.unmark_dominating_rows.Given as goal

abbrev pub invariant-loop-number : goal.invariant-loop-number
invariant-loop-number l = UnmarksDominatingRows (items_of l.rows) l.at (take l.number-index l.among) l.initial.stay.items l.stay.items
