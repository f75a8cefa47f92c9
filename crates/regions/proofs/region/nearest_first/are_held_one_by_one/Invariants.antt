use Rattle.std.proofs.Common.{All, take}
use Rattle.cube.specs.Cube.{IsSubset, holds}
use Rattle.rows.specs.Places.{places, behind}
use Rattle.regions.specs.Reason.{AreKnown}
use Rattle.regions.proofs.region.nearest_first.are_held_one_by_one.Given as goal

abbrev pub invariant-loop-row : goal.invariant-loop-row
invariant-loop-row l = All (λ d. IsSubset (holds d.now) (places (behind l.others))) (take l.row-index l.rows)
    × AreKnown l.shape l.learned.known.items (behind l.others)
