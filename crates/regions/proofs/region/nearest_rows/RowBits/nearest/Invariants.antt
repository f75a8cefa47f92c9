use Rattle.regions.specs.Reason.{AreAmong}
use Rattle.regions.proofs.region.nearest_rows.RowBits.nearest.Given as goal

abbrev pub invariant-loop-w : goal.invariant-loop-w
invariant-loop-w l = AreAmong l.some.items l.rows
