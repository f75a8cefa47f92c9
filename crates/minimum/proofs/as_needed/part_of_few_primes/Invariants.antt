use Rattle.cube.specs.Cube.{IsCube}
use Rattle.minimum.proofs.as_needed.part_of_few_primes.Given as goal

abbrev pub invariant-loop : goal.invariant-loop
invariant-loop l = IsCube l.list.size l.found
