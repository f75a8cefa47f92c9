use Rattle.regions.specs.Reason.{AreAmong}
use Rattle.regions.proofs.region.nearest_rows.push_rows_at_bits.Given as goal

abbrev pub invariant-loop : goal.invariant-loop
invariant-loop l = AreAmong l.some.items l.rows
