-- What a list leaves out of a cube.
use Rattle.std.specs.Prelude.{Option, Some, None, List}
use Rattle.cube.specs.Size.{Size}
use Rattle.cube.specs.Cube.{Cube, IsCube, IsSubset, IsDisjoint, holds}
use Rattle.rows.specs.Places.{places}

-- a part of the cube, itself a cube, of which no place is in the list
pub record IsLeftOut (size : Size) (rows : List Cube) (c part : Cube) : Type 0 where
  pub is_cube : IsCube size part
  pub within : IsSubset (holds part) (holds c)
  pub outside : IsDisjoint (holds part) (places rows)

-- such a part, or none if each place of the cube is in the list
abbrev pub LeavesOut : Size → List Cube → Cube → Option Cube → Type 0
LeavesOut size rows c None = IsSubset (holds c) (places rows)
LeavesOut size rows c (Some part) = IsLeftOut size rows c part
