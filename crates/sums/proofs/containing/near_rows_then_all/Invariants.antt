use Rattle.std.specs.List.{Contains}
use Rattle.cube.specs.Cube.{Cube}
use Rattle.sums.proofs.containing.near_rows_then_all.Given as goal

abbrev pub invariant-loop-count : goal.invariant-loop-count
invariant-loop-count l = (c : Cube) → Contains l.all.items c → Contains l.rows.items c
