use Rattle.std.proofs.Common.{◌≡◌, take, filter}
use Rattle.minimum.specs.EssentialPrimes.{is_rival}
use Rattle.minimum.proofs.essential_primes.rivals.Given as goal

abbrev pub invariant-loop-cube : goal.invariant-loop-cube
invariant-loop-cube l = l.kept.items ≡ filter (is_rival l.prime) (take l.cube-index l.cubes)
