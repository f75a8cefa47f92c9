use Rattle.std.proofs.Common.{◌+◌, ◌-◌, length, take}
use Rattle.cube.specs.Cube.{IsSubset, holds, intersection}
use Rattle.cover.specs.Places.{places}
use Rattle.minimum.proofs.CommonPlace.{AreNogoods}
use Rattle.minimum.proofs.essential_by_neighbours.common_place.+nogood_around.Given as goal

abbrev pub decreases-nogood_around : goal.decreases-nogood_around
decreases-nogood_around l = length l.lists.now - l.from

abbrev pub invariant-loop-row : goal.invariant-loop-row
invariant-loop-row l = AreNogoods l.lists (l.next + 1) l.region l.nogoods.items × IsSubset (intersection (holds l.region) (places (take l.row-index l.rows))) (places l.nogoods.items)
