-- Rows in two parts that have no input in common. No public clause cites this module.
use Rattle.std.specs.Prelude.{◌≡◌, ℕ, Bool, true, false, ◌||◌, ◌<◌, ◌⊎◌, List, slice_index_or, Contains}
use Rattle.cube.specs.declared.symbol.Symbol.TheVariants.{Dash}
use Rattle.cube.specs.Size.{Size}
use Rattle.cube.specs.Cube.{Cube, Place}
use Rattle.rows.specs.Cubes.{AreCubes}
use Rattle.rows.specs.Places.{places}
use Rattle.rows.specs.Parts.{has_literal}

-- the cube has no literal
abbrev pub IsFree : Cube → Type 0
IsFree c = (k : ℕ) → slice_index_or c.symbols k Dash ≡ Dash

-- each literal of the cube is at an input of that side
abbrev pub IsOnSide : List Bool → Bool → Cube → Type 0
IsOnSide sides side c = (k : ℕ) → (slice_index_or c.symbols k Dash ≡ Dash)
    ⊎ (slice_index_or sides k false ≡ side)

-- some input has a literal in one of the cubes
abbrev pub HasSomeLiteral : Size → List Cube → Type 0
HasSomeLiteral size cubes = (i : ℕ) × (i < size.inputs) × (has_literal i cubes ≡ true)

-- the cubes on the one side and those on the other are all of them
pub record IsDivided (sides : List Bool) (cubes one other : List Cube) : Type 0 where
  pub all : (c : Cube) → Contains cubes c → Contains one c ⊎ Contains other c
  pub one_within : (c : Cube) → Contains one c → Contains cubes c
  pub other_within : (c : Cube) → Contains other c → Contains cubes c
  pub one_side : (c : Cube) → Contains one c → IsOnSide sides true c
  pub other_side : (c : Cube) → Contains other c → IsOnSide sides false c

-- two lists whose literals are at inputs of their own, with the same outputs, which together hold
-- the places of the cubes
pub record IsInParts (size : Size) (cubes one other : List Cube) : Type 0 where
  pub one_cubes : AreCubes size one
  pub other_cubes : AreCubes size other
  pub places : (p : Place) → places cubes p ≡ (places one p || places other p)
  pub apart : (k : ℕ) → (has_literal k one ≡ false) ⊎ (has_literal k other ≡ false)
  pub same_outputs : (c d : Cube) → Contains one c → Contains other d → c.outputs ≡ d.outputs
  pub no_more : (k : ℕ) → has_literal k cubes ≡ false → (has_literal k one || has_literal k other)
      ≡ false
  pub one_literal : HasSomeLiteral size one
  pub other_literal : HasSomeLiteral size other
