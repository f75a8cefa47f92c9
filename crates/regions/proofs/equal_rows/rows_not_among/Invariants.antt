use Rattle.std.proofs.Common.{take, ◌++◌}
use Rattle.regions.specs.Reason.{AreAmong}
use Rattle.regions.proofs.equal_rows.rows_not_among.Given as goal

abbrev pub invariant-loop-row : goal.invariant-loop-row
invariant-loop-row l = record {
  some : AreAmong l.rest.items l.rows;
  all : AreAmong (take l.row-index l.rows) (l.rest.items ++ l.others);
}
