use Rattle.std.proofs.Common.{◌≡◌, ◌<◌, ℕ, not, take}
use Rattle.covering.specs.Table.{has}
use Rattle.covering.specs.Search.{marked}
use Rattle.covering.proofs.marks.all_but_each.Given as goal

abbrev pub invariant-loop-column : goal.invariant-loop-column
invariant-loop-column l = (n : ℕ) → n < l.end → marked l.keep.items n ≡ not (has n (take l.column-index l.columns))
