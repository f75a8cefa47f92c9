use Rattle.std.proofs.Common.{take}
use Rattle.std.specs.List.{Contains}
use Rattle.cube.specs.Cube.{Cube}
use Rattle.sums.proofs.containing.rows_at_distance.Given as goal

abbrev pub invariant-loop-row : goal.invariant-loop-row
invariant-loop-row l = (c : Cube) → Contains l.kept.items c → Contains (take l.row-index l.rows) c
