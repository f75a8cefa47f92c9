use Rattle.std.proofs.Common.{◌≡◌, take, filter}
use Rattle.minimum.specs.EssentialPrimes.{intersects_cube}
use Rattle.minimum.proofs.essential_primes.intersecting_cubes.Given as goal

abbrev pub invariant-loop-cube : goal.invariant-loop-cube
invariant-loop-cube l = l.kept.items ≡ filter (intersects_cube l.prime) (take l.cube-index l.cubes)
