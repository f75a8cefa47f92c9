use Rattle.std.proofs.Common.{take}
use Rattle.cube.specs.Cube.{IsSubset, holds, intersection}
use Rattle.cover.specs.Places.{places}
use Rattle.minimum.proofs.essential_by_neighbours.common_place.parts_lie_in.Given as goal

abbrev pub invariant-loop-row : goal.invariant-loop-row
invariant-loop-row l = IsSubset (intersection (holds l.region) (places (take l.row-index l.rows))) (places l.nogoods)
