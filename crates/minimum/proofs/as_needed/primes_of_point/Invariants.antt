use Rattle.minimum.specs.AsNeeded.{AreOutside}
use Rattle.minimum.proofs.as_needed.primes_of_point.Given as goal

abbrev pub invariant-loop : goal.invariant-loop
invariant-loop l = AreOutside l.all l.outside
