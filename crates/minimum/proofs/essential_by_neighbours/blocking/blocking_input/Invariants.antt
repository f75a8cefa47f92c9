use Rattle.std.proofs.Common.{take}
use Rattle.minimum.specs.Neighbours.{flip}
use Rattle.minimum.proofs.Blocking.{LeadsInto}
use Rattle.minimum.proofs.essential_by_neighbours.blocking.blocking_input.Given as goal

abbrev pub invariant-loop-row : goal.invariant-loop-row
invariant-loop-row l = LeadsInto l.prime (flip l.i) (take l.row-index l.row-items) l.list.items
