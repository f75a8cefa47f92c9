use Rattle.regions.specs.Reason.{AreAmong}
use Rattle.regions.proofs.region.nearest_first.rows_sharing_literal.Given as goal

abbrev pub invariant-loop-row : goal.invariant-loop-row
invariant-loop-row l = AreAmong l.some.items l.rows
