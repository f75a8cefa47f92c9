use Rattle.std.proofs.Common.{take}
use Rattle.minimum.specs.Neighbours.{under}
use Rattle.minimum.proofs.Blocking.{LeadsInto}
use Rattle.minimum.proofs.essential_by_neighbours.blocking.blocking_output.Given as goal

abbrev pub invariant-loop-row : goal.invariant-loop-row
invariant-loop-row l = LeadsInto l.prime (under l.j) (take l.row-index l.row-items) l.list.items
