-- The rows of a list by their outputs.
use Rattle.std.specs.Prelude.{◌≡◌, ℕ, true, false, List, Option, Some, Vec, slice_get, slice_index_or, filter}
use Rattle.std.specs.Borrow.{Bor}
use Rattle.cube.specs.Cube.{Cube, Place, holds}
use Rattle.rows.specs.Places.{places, behind}

-- the rows that have the output, in their order
abbrev pub with_output : ℕ → List (Bor Cube) → List (Bor Cube)
with_output j rows = filter (λ d. slice_index_or d.now.outputs j false) rows

-- references to all rows, and of some outputs to those that have them
pub record AreByOutput {Z : Type 0} (rows : List Cube) (all : List (Bor Cube))
    (by_output : List (Option (Vec (Bor Cube) Z))) : Type 0 where
  pub behind_all : behind all ≡ rows
  pub few : (j : ℕ) (found : Vec (Bor Cube) Z) → slice_get by_output j ≡ Some (Some found)
      → found.items ≡ with_output j all

-- rows that hold the same places of a region as others do
abbrev pub HoldSame : Cube → List Cube → List Cube → Type 0
HoldSame region few rows = (p : Place) → holds region p ≡ true → places few p ≡ places rows p
