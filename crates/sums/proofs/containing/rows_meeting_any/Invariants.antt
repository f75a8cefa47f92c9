use Rattle.std.proofs.Common.{take}
use Rattle.cube.specs.Size.{Size}
use Rattle.rows.specs.Cubes.{AreCubes}
use Rattle.rows.specs.Places.{places}
use Rattle.sums.specs.Outside.{AreNear}
use Rattle.sums.proofs.containing.rows_meeting_any.Given as goal

abbrev pub invariant-loop-row : goal.invariant-loop-row
invariant-loop-row l = (size : Size) → AreCubes size l.rows
    → AreNear size (places l.cubes) (take l.row-index l.rows) l.meeting.items
