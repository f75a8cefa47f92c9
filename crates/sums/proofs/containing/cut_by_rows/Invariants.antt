use Rattle.std.proofs.Common.{take}
use Rattle.rows.specs.Cubes.{AreCubes}
use Rattle.rows.specs.Places.{places}
use Rattle.sums.specs.Containing.{Cuts}
use Rattle.sums.proofs.containing.cut_by_rows.Given as goal

abbrev pub invariant-loop-row : goal.invariant-loop-row
invariant-loop-row l = record {
  are_cubes : AreCubes l.fn.shape l.left.items;
  cuts : Cuts l.fn.shape l.region (places (take l.row-index l.rows)) l.fn.cubes.items l.left.items;
}
