use Rattle.std.proofs.Common.{take}
use Rattle.cube.specs.Size.{Size}
use Rattle.cube.specs.Cube.{IsCube}
use Rattle.rows.specs.Cubes.{AreCubes}
use Rattle.sums.specs.Free.{AreWider}
use Rattle.sums.proofs.constant_outputs.with_outputs_of.Given as goal

abbrev pub invariant-loop-row : goal.invariant-loop-row
invariant-loop-row l = (size : Size) → AreCubes size l.rows → IsCube size l.constant
    → AreWider size l.constant (take l.row-index l.rows) l.wide.items
