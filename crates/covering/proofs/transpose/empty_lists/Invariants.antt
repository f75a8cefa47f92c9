use Rattle.std.proofs.Common.{◌≡◌, [], replicate}
use Rattle.covering.specs.Table.{items_of}
use Rattle.covering.proofs.transpose.empty_lists.Given as goal

abbrev pub invariant-loop-column : goal.invariant-loop-column
invariant-loop-column l = items_of l.lists.items ≡ replicate l.column []
