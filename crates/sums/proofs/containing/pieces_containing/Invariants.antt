use Rattle.std.proofs.Common.{◌-◌, ◌≤◌, length}
use Rattle.sums.proofs.OverRegion.{ArePiecesBefore}
use Rattle.sums.proofs.containing.pieces_containing.Given as goal

abbrev pub invariant-loop-from : goal.invariant-loop-from
invariant-loop-from l = (l.from ≤ length l.region.symbols) × ArePiecesBefore l.region l.row l.cube l.from l.pieces.items

abbrev pub decreases-loop-from : goal.decreases-loop-from
decreases-loop-from l = length l.region.symbols - l.from
