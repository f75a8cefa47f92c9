use Rattle.std.proofs.Common.{◌≡◌, length}
use Rattle.rows.specs.Places.{behind}
use Rattle.growth.specs.RowsByOutput.{AreByOutput}
use Rattle.growth.proofs.rows_by_output.RowsByOutput.new.Given as goal

abbrev pub invariant-loop-j : goal.invariant-loop-j
invariant-loop-j l = record {
  long : length l.by_output.items ≡ l.j;
  rows : AreByOutput (behind l.all.items) l.all.items l.by_output.items;
}
