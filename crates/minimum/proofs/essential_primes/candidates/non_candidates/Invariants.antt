use Rattle.minimum.specs.EssentialPrimes.{AreNonCandidates}
use Rattle.minimum.proofs.essential_primes.candidates.non_candidates.Given as goal

abbrev pub invariant-loop-cube : goal.invariant-loop-cube
invariant-loop-cube l = AreNonCandidates l.primes l.on l.cube-index l.non_candidates.items
