use Rattle.std.proofs.Common.{take}
use Rattle.cube.specs.Size.{Size}
use Rattle.cube.specs.Cube.{holds, difference}
use Rattle.rows.specs.Cubes.{AreCubes}
use Rattle.rows.specs.Places.{places}
use Rattle.sums.specs.Outside.{Extends}
use Rattle.cover.proofs.outside_within_budget.expand_each_at.Given as goal

abbrev pub invariant-loop-cube : goal.invariant-loop-cube
invariant-loop-cube l = record {
  are_cubes : (size : Size) → AreCubes size l.cubes → AreCubes size l.larger.items;
  extends : Extends (difference (holds l.region) (places l.rows)) (places (take l.cube-index l.cubes)) (places l.larger.items);
}
