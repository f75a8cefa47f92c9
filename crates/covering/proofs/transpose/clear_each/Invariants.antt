use Rattle.std.proofs.Common.{◌≡◌, ◌++◌, [], map, take, drop}
use Rattle.covering.specs.Table.{items_of}
use Rattle.covering.proofs.transpose.clear_each.Given as goal

abbrev pub invariant-loop-list : goal.invariant-loop-list
invariant-loop-list l = items_of l.list-items ≡ map (λ _. []) (take l.list-index (items_of l.fn.lists.items)) ++ drop l.list-index (items_of l.fn.lists.items)
