use Rattle.std.proofs.Common.{◌≡◌, map, take}
use Rattle.covering.specs.Table.{items_of}
use Rattle.minimum.specs.Points.{holders}
use Rattle.minimum.proofs.points.point_table.Given as goal

abbrev pub invariant-loop-point : goal.invariant-loop-point
invariant-loop-point l = items_of l.rows.items ≡ map (holders l.columns.cubes) (take l.point-index l.points)
