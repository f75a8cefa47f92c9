use Rattle.std.proofs.Common.{◌≡◌, false, take}
use Rattle.std.specs.List.{list_any}
use Rattle.minimum.specs.PrimeRows.{contains_region}
use Rattle.minimum.proofs.numbered_cubes.any_contains.Given as goal

abbrev pub invariant-loop-number : goal.invariant-loop-number
invariant-loop-number l = list_any (contains_region l.cubes l.region) (take l.number-index l.numbers) ≡ false
