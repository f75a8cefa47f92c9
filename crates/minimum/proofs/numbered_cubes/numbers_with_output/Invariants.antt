use Rattle.std.proofs.Common.{◌≡◌, filter, take}
use Rattle.minimum.specs.PrimeRows.{has_output}
use Rattle.minimum.proofs.numbered_cubes.numbers_with_output.Given as goal

abbrev pub invariant-loop-number : goal.invariant-loop-number
invariant-loop-number l = l.kept.items ≡ filter (has_output l.list.cubes l.j) (take l.number-index l.numbers)
