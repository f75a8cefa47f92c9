use Rattle.std.proofs.Common.{◌≡◌, take, not}
use Rattle.std.specs.Prelude.{filter}
use Rattle.covering.specs.Table.{has, items_of}
use Rattle.covering.proofs.steps.rows_lacking.Given as goal

abbrev pub invariant-loop-row : goal.invariant-loop-row
invariant-loop-row l = items_of l.kept.items ≡ filter (λ row. not (has l.column row)) (items_of (take l.row-index l.rows))
