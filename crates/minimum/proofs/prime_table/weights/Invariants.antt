use Rattle.std.proofs.Common.{◌≡◌, map, take}
use Rattle.cube.specs.Cube.{literals}
use Rattle.minimum.proofs.prime_table.weights.Given as goal

abbrev pub invariant-loop-cube : goal.invariant-loop-cube
invariant-loop-cube l = l.weights.items ≡ map literals (take l.cube-index l.cube-items)
