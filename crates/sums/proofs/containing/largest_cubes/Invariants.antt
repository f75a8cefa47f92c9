use Rattle.std.proofs.Common.{◌≡◌, not, take, filter}
use Rattle.cube.specs.Size.{Size}
use Rattle.rows.specs.Cubes.{AreCubes}
use Rattle.sums.specs.Containing.{lies_in_larger}
use Rattle.sums.proofs.containing.largest_cubes.Given as goal

abbrev pub invariant-loop-cube : goal.invariant-loop-cube
invariant-loop-cube l = (size : Size) → AreCubes size l.cubes
    → l.kept.items ≡ filter (λ c. not (lies_in_larger size l.cubes c)) (take l.cube-index l.cubes)
