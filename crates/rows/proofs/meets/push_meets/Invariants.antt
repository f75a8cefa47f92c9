use Rattle.std.proofs.Common.{◌≡◌, ◌++◌, ◌∷◌, [], List, take}
use Rattle.cube.specs.Size.{Size}
use Rattle.cube.specs.Cube.{Cube, IsCube}
use Rattle.rows.specs.Cubes.{AreCubes}
use Rattle.rows.specs.Reduced.{IsMeets}
use Rattle.rows.proofs.meets.push_meets.Given as goal

abbrev pub invariant-loop-other : goal.invariant-loop-other
invariant-loop-other l = (size : Size) → IsCube size l.row → AreCubes size l.others
    → (meets : List Cube) × (l.all.items ≡ l.initial.all.items ++ meets) × IsMeets size (l.row ∷ []) (take l.other-index l.others) meets
