use Rattle.std.proofs.Common.{take}
use Rattle.cover.specs.Cubes.{AreCubes}
use Rattle.growth.proofs.Near.{AreNearSoFar}
use Rattle.growth.proofs.near_rows.rows_not_far.Given as goal

abbrev pub invariant-loop-row : goal.invariant-loop-row
invariant-loop-row l = record {
  cubes : AreCubes l.rows.size l.near.items;
  same : AreNearSoFar l.cube (take l.row-index l.row-items) l.near.items;
}
