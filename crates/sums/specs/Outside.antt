-- Lists on the way to the places outside another list. No public clause cites this module.
use Rattle.std.specs.Prelude.{◌≡◌, Bool, not, ◌&&◌, ◌⊎◌, List, Contains}
use Rattle.cube.specs.Size.{Size}
use Rattle.cube.specs.Cube.{Cube, Place, holds, IsPlace, IsSubset, IsDisjoint}
use Rattle.rows.specs.Cubes.{AreCubes}
use Rattle.rows.specs.Places.{places}

-- cubes of the list, and all that have a place of s
pub record AreNear (size : Size) (s : Place → Bool) (rows near : List Cube) : Type 0 where
  pub are_cubes : AreCubes size near
  pub within : (c : Cube) → Contains near c → Contains rows c
  pub all : (c : Cube) → Contains rows c → IsDisjoint (holds c) s ⊎ Contains near c

-- cubes of exactly the places of s that are in no row
pub record IsRest (size : Size) (s : Place → Bool) (rows left : List Cube) : Type 0 where
  pub are_cubes : AreCubes size left
  pub places : (p : Place) → IsPlace size p → places left p ≡ (s p && not (places rows p))

-- all of t is in u, and all of u in s if t is
pub record Extends (s t u : Place → Bool) : Type 0 where
  pub over : IsSubset t u
  pub within : IsSubset t s → IsSubset u s
