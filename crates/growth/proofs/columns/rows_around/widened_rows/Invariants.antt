use Rattle.std.proofs.Common.{take}
use Rattle.cover.specs.Cubes.{AreCubes}
use Rattle.growth.specs.Dominating.{IsAround}
use Rattle.growth.proofs.columns.rows_around.widened_rows.Given as goal

abbrev pub invariant-loop-row : goal.invariant-loop-row
invariant-loop-row l = record {
  cubes : AreCubes l.off.size l.rows.items;
  around : IsAround l.off l.point (take l.row-index l.row-items) l.rows.items;
}
