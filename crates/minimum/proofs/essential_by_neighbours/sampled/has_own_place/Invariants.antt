use Rattle.std.proofs.Common.{◌≡◌, true, take}
use Rattle.cube.specs.Cube.{Place, holds}
use Rattle.cover.specs.Places.{places}
use Rattle.growth.specs.declared.prime.Side.TheVariants.{Outside}
use Rattle.growth.specs.Growth.{on_side}
use Rattle.minimum.specs.Neighbours.{IsAlone}
use Rattle.minimum.proofs.essential_by_neighbours.sampled.has_own_place.Given as goal

abbrev pub invariant-loop-cube : goal.invariant-loop-cube
invariant-loop-cube l = (p : Place) → holds l.prime p ≡ true → places (take l.cube-index l.cube-items) p ≡ true → IsAlone (on_side Outside l.off.cubes) l.prime p → ⊥
