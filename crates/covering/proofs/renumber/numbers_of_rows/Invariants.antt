use Rattle.std.proofs.Common.{◌≡◌, map, take}
use Rattle.covering.specs.Table.{items_of}
use Rattle.covering.specs.Parts.{pick}
use Rattle.covering.proofs.renumber.numbers_of_rows.Given as goal

abbrev pub invariant-loop-row : goal.invariant-loop-row
invariant-loop-row l = map (map (pick l.live)) (items_of l.lists.items) ≡ items_of (take l.row-index l.rows)
