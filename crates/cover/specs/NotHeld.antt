-- Rows that are not wholly in a set of places. No public clause cites this module.
use Rattle.std.specs.Prelude.{Bool, not}
use Rattle.cube.specs.Size.{Size}
use Rattle.cube.specs.Cube.{Cube, Place, holds}
use Rattle.cube.specs.Sum.{is_subset}

-- the row has a place outside the set
abbrev pub is_not_held : Size → (Place → Bool) → Cube → Bool
is_not_held size s d = not (is_subset size (holds d) s)
