use Rattle.std.proofs.Common.{◌≡◌, take}
use Rattle.minimum.specs.Primes.{chosen}
use Rattle.minimum.proofs.cubes.cubes_at.Given as goal

abbrev pub invariant-loop-number : goal.invariant-loop-number
invariant-loop-number l = record {
  size : l.picked.size ≡ l.list.size;
  cubes : l.picked.cubes ≡ chosen l.list.cubes (take l.number-index l.numbers);
}
