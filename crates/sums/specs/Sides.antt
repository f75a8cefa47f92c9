-- What the sum at one value of an input adds. No public clause cites this module.
use Rattle.std.specs.Prelude.{◌≡◌, ℕ, Bool, List}
use Rattle.cube.specs.Size.{Size}
use Rattle.cube.specs.Cube.{Cube, Place}
use Rattle.cube.specs.Sum.{complete_sum}
use Rattle.rows.specs.Cubes.{AreCubes}
use Rattle.rows.specs.Complete.{literal, cofactor_at, consensus_at}
use Rattle.rows.specs.Parts.{without_equal_rows}

-- cubes that add with a literal at input i what the complete sum at that value adds to that at both
pub record IsSide (size : Size) (i : ℕ) (b : Bool) (s : Place → Bool)
    (cubes : List Cube) : Type 0 where
  pub are_cubes : AreCubes size cubes
  pub adds : without_equal_rows i (literal b) cubes (complete_sum size (consensus_at i s))
      ≡ without_equal_rows i (literal b) (complete_sum size (cofactor_at i b s))
      (complete_sum size (consensus_at i s))
