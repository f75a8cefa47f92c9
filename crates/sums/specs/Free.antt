-- Outputs that rows without a literal have. No public clause cites this module.
use Rattle.std.specs.Prelude.{◌≡◌, ℕ, false, not, ◌&&◌, ◌||◌, List, slice_index_or, Contains}
use Rattle.cube.specs.Size.{Size}
use Rattle.cube.specs.Pattern.{matches}
use Rattle.cube.specs.Cube.{Cube, Place, holds, IsCube, IsSubset}
use Rattle.rows.specs.Cubes.{AreCubes}
use Rattle.rows.specs.Places.{places}
use Rattle.rows.specs.Parts.{has_literal}
use Rattle.sums.specs.Apart.{IsFree}

-- a cube without a literal within the places of a list
pub record IsFreePart (size : Size) (cubes : List Cube) (free : Cube) : Type 0 where
  pub is_cube : IsCube size free
  pub no_literal : IsFree free
  pub within : IsSubset (holds free) (places cubes)

-- cubes of the places of a list at other outputs than those of one cube
pub record IsRest (size : Size) (cubes : List Cube) (free : Cube) (rest : List Cube) : Type 0 where
  pub are_cubes : AreCubes size rest
  pub places : (p : Place) → places rest p
      ≡ (places cubes p && not (slice_index_or free.outputs p.output false))
  pub literals : (k : ℕ) → has_literal k cubes ≡ false → has_literal k rest ≡ false

-- m holds what c does, and that at the outputs of another cube too
abbrev pub IsWider : Cube → Cube → Cube → Type 0
IsWider free c m = (p : Place) → holds m p ≡ (matches c.symbols p.point
    && (slice_index_or c.outputs p.output false || slice_index_or free.outputs p.output false))

-- the cubes of a list, each wider by the outputs of one cube
pub record AreWider (size : Size) (free : Cube) (cubes wide : List Cube) : Type 0 where
  pub are_cubes : AreCubes size wide
  pub from : (m : Cube) → Contains wide m → (c : Cube) × Contains cubes c × IsWider free c m
  pub over : (c : Cube) → Contains cubes c → (m : Cube) × Contains wide m × IsWider free c m
