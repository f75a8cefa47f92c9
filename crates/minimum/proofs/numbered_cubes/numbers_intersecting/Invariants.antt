use Rattle.std.proofs.Common.{◌≡◌, filter, take}
use Rattle.minimum.specs.PrimeRows.{intersects_region}
use Rattle.minimum.proofs.numbered_cubes.numbers_intersecting.Given as goal

abbrev pub invariant-loop-number : goal.invariant-loop-number
invariant-loop-number l = l.kept.items ≡ filter (intersects_region l.cubes l.region) (take l.number-index l.numbers)
