-- Cubes of one size, whichever it is. No public clause cites this module.
use Rattle.std.specs.Prelude.{List}
use Rattle.cube.specs.Size.{Size}
use Rattle.cube.specs.Cube.{Cube}
use Rattle.rows.specs.Cubes.{AreCubes}

-- cubes of one size
pub record HaveOneSize (cubes : List Cube) : Type 0 where
  pub size : Size
  pub are_cubes : AreCubes size cubes

-- two lists of cubes of one size
pub record ShareOneSize (cubes others : List Cube) : Type 0 where
  pub size : Size
  pub are_cubes : AreCubes size cubes
  pub are_others : AreCubes size others
