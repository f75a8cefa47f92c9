use Rattle.std.proofs.Common.{◌≡◌, map}
use Rattle.std.specs.List.{range_with_len}
use Rattle.covering.specs.Table.{items_of}
use Rattle.minimum.specs.PrimeRows.{with_output}
use Rattle.minimum.proofs.numbered_cubes.numbers_by_output.Given as goal

abbrev pub invariant-loop-j : goal.invariant-loop-j
invariant-loop-j l = items_of l.lists.items ≡ map (with_output l.list.cubes) (range_with_len 0 l.j)
