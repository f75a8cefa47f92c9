-- Rows that become one. No public clause cites this module.
use Rattle.std.specs.Prelude.{◌≡◌, ◌+◌, ◌≤◌, ◌||◌, List, length}
use Rattle.cube.specs.Cube.{Cube, Place, holds}
use Rattle.rows.specs.Cubes.{Cubes}
use Rattle.rows.specs.Places.{places}

-- c has the places of a and of b
abbrev pub IsUnion : Cube → Cube → Cube → Type 0
IsUnion a b c = (p : Place) → holds c p ≡ (holds a p || holds b p)

-- a list with the places of another and of some more rows, and with no more rows than both
pub record Adds (old : Cubes) (more : List Cube) (new : Cubes) : Type 0 where
  pub size : new.size ≡ old.size
  pub places : (p : Place) → places new.cubes p ≡ (places old.cubes p || places more p)
  pub no_more : length new.cubes ≤ length old.cubes + length more

-- a list with the places of another, and with no more rows
pub record StandsFor (old new : Cubes) : Type 0 where
  pub size : new.size ≡ old.size
  pub places : (p : Place) → places new.cubes p ≡ places old.cubes p
  pub no_more : length new.cubes ≤ length old.cubes
