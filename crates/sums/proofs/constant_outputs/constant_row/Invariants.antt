use Rattle.std.proofs.Common.{IfSome}
use Rattle.cube.specs.Size.{Size}
use Rattle.rows.specs.Cubes.{AreCubes}
use Rattle.sums.specs.Free.{IsFreePart}
use Rattle.sums.proofs.constant_outputs.constant_row.Given as goal

abbrev pub invariant-loop-row : goal.invariant-loop-row
invariant-loop-row l = (size : Size) → AreCubes size l.rows → IfSome l.constant (λ c. IsFreePart size l.rows c)
