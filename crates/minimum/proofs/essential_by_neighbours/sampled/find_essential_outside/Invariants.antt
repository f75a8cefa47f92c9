use Rattle.std.proofs.Common.{take}
use Rattle.cube.specs.Cube.{IsSubset}
use Rattle.cover.specs.Places.{places}
use Rattle.growth.specs.declared.prime.Side.TheVariants.{Outside}
use Rattle.growth.specs.Growth.{on_side}
use Rattle.minimum.specs.Neighbours.{HaveSize, AreFoundIn}
use Rattle.minimum.proofs.essential_by_neighbours.sampled.find_essential_outside.Given as goal

abbrev pub invariant-loop-cube : goal.invariant-loop-cube
invariant-loop-cube l = record {
  cubes : HaveSize l.on.size l.found;
  found : IsSubset (places l.on.cubes) (on_side Outside l.off.cubes)
      → AreFoundIn l.on.size (on_side Outside l.off.cubes) (places l.on.cubes) (places (take l.cube-index l.cube-items)) l.found;
}
