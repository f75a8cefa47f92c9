use Rattle.std.proofs.Common.{◌≡◌, take, filter}
use Rattle.minimum.specs.Primes.{is_essential}
use Rattle.minimum.proofs.essential_primes.essential.Given as goal

abbrev pub invariant-loop-number : goal.invariant-loop-number
invariant-loop-number l = record {
  size : l.list.size ≡ l.primes.size;
  cubes : l.list.cubes ≡ filter (is_essential l.sets l.primes.cubes) (take l.number l.primes.cubes);
}
