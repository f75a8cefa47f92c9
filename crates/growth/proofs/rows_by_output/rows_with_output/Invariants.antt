use Rattle.std.proofs.Common.{◌≡◌, take}
use Rattle.growth.specs.RowsByOutput.{with_output}
use Rattle.growth.proofs.rows_by_output.rows_with_output.Given as goal

abbrev pub invariant-loop-row : goal.invariant-loop-row
invariant-loop-row l = l.found.items ≡ with_output l.j (take l.row-index l.rows)
