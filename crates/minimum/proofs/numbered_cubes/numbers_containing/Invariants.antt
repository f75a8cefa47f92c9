use Rattle.std.proofs.Common.{◌≡◌, filter, take}
use Rattle.minimum.specs.PrimeRows.{contains_region}
use Rattle.minimum.proofs.numbered_cubes.numbers_containing.Given as goal

abbrev pub invariant-loop-number : goal.invariant-loop-number
invariant-loop-number l = l.kept.items ≡ filter (contains_region l.cubes l.region) (take l.number-index l.numbers)
