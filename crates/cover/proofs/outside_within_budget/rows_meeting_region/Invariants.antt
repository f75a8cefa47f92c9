use Rattle.std.proofs.Common.{take}
use Rattle.cube.specs.Size.{Size}
use Rattle.cube.specs.Cube.{holds}
use Rattle.rows.specs.Cubes.{AreCubes}
use Rattle.sums.specs.Outside.{AreNear}
use Rattle.cover.proofs.outside_within_budget.rows_meeting_region.Given as goal

abbrev pub invariant-loop-row : goal.invariant-loop-row
invariant-loop-row l = (size : Size) → AreCubes size l.rows
    → AreNear size (holds l.region) (take l.row-index l.rows) l.meeting.items
