use Rattle.std.proofs.Common.{◌≡◌, map, take}
use Rattle.covering.specs.Parts.{pick}
use Rattle.covering.proofs.renumber.numbers_of.Given as goal

abbrev pub invariant-loop-column : goal.invariant-loop-column
invariant-loop-column l = map (pick l.live) l.numbers.items ≡ take l.column-index l.row
