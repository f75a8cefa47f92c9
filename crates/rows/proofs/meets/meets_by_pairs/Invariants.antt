use Rattle.std.proofs.Common.{take}
use Rattle.cube.specs.Size.{Size}
use Rattle.rows.specs.Cubes.{AreCubes}
use Rattle.rows.specs.Reduced.{IsMeets}
use Rattle.rows.proofs.meets.meets_by_pairs.Given as goal

abbrev pub invariant-loop-row : goal.invariant-loop-row
invariant-loop-row l = (size : Size) → AreCubes size l.rows → AreCubes size l.others
    → IsMeets size (take l.row-index l.rows) l.others l.all.items
