use Rattle.std.proofs.Common.{◌≡◌, take, false}
use Rattle.covering.specs.Table.{has}
use Rattle.covering.proofs.columns.contains.Given as goal

abbrev pub invariant-loop-x : goal.invariant-loop-x
invariant-loop-x l = has l.column (take l.x-index l.row) ≡ false
