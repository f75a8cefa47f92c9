-- A list of cubes of one size, as a contract sees it.
use Rattle.std.specs.Prelude.{List, All}
use Rattle.cube.specs.Size.{Size}
use Rattle.cube.specs.Cube.{Cube, IsCube}

-- cubes of one size, in their order
pub record Cubes : Type 0 where
  pub size : Size
  pub cubes : List Cube

-- each of them is a cube of that size
abbrev pub AreCubes : Size → List Cube → Type 0
AreCubes size cubes = All (IsCube size) cubes
