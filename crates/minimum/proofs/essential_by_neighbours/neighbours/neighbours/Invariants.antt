use Rattle.std.proofs.Common.{take}
use Rattle.minimum.specs.Neighbours.{AreNeighbours}
use Rattle.minimum.proofs.essential_by_neighbours.neighbours.neighbours.Given as goal

abbrev pub invariant-loop-row : goal.invariant-loop-row
invariant-loop-row l = AreNeighbours l.prime (take l.row-index l.row-items) l.near.items
