use Rattle.std.proofs.Common.{◌-◌, ◌≤◌, length}
use Rattle.regions.proofs.region.nearest_rows.RowBits.literal_columns.Given as goal

abbrev pub invariant-loop-from : goal.invariant-loop-from
invariant-loop-from l = l.from ≤ length l.region.symbols

abbrev pub decreases-loop-from : goal.decreases-loop-from
decreases-loop-from l = length l.region.symbols - l.from
