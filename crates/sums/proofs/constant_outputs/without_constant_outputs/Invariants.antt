use Rattle.std.proofs.Common.{take}
use Rattle.cube.specs.Size.{Size}
use Rattle.cube.specs.Cube.{IsCube}
use Rattle.rows.specs.Cubes.{AreCubes}
use Rattle.sums.specs.Free.{IsRest}
use Rattle.sums.proofs.constant_outputs.without_constant_outputs.Given as goal

abbrev pub invariant-loop-row : goal.invariant-loop-row
invariant-loop-row l = (size : Size) → AreCubes size l.rows → IsCube size l.constant
    → IsRest size (take l.row-index l.rows) l.constant l.rest.items
