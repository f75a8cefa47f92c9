-- Lists that stand for the places of others. Of these the public clause of `in_row_order` cites
-- HasSameCubes, and no other is cited by one.
use Rattle.std.specs.Prelude.{◌≡◌, ◌≢◌, ℕ, Bool, false, not, ◌&&◌, ◌<◌, ◌⊎◌, List, ◌++◌, length, slice_index_or, All, Contains}
use Rattle.std.specs.List.{list_any}
use Rattle.cube.specs.declared.symbol.Symbol.TheVariants.{Dash, Zero, One}
use Rattle.std.specs.List.Sorted.{IsStrictlySortedBy}
use Rattle.std.specs.declared.cmp.Ordering.TheVariants.{Less}
use Rattle.cube.specs.Size.{Size}
use Rattle.cube.specs.Cube.{Cube, Place, holds, IsSubset}
use Rattle.cube.specs.Order.{row_cmp}
use Rattle.rows.specs.Cubes.{AreCubes}
use Rattle.rows.specs.Places.{places}
use Rattle.rows.specs.Parts.{has_literal, has_symbol}

-- cubes of the places that are in a cube of each list, with literals only where these have them
pub record IsMeets (size : Size) (rows others meets : List Cube) : Type 0 where
  pub are_cubes : AreCubes size meets
  pub places : (p : Place) → places meets p ≡ (places rows p && places others p)
  pub literals : (k : ℕ) → has_literal k rows ≡ false → has_literal k others ≡ false
      → has_literal k meets ≡ false

-- the meets of the rows with one list, and then those with another
pub record IsMeetsWithBoth (size : Size) (rows others more meets : List Cube) : Type 0 where
  pub front : List Cube
  pub back : List Cube
  pub of_others : IsMeets size rows others front
  pub of_more : IsMeets size rows more back
  pub all : meets ≡ front ++ back

-- the cubes one after the other by their symbol at input i: those with `-`, with `0` and with `1`
pub record IsInThirds (size : Size) (i : ℕ) (cubes dashes zeros ones : List Cube) : Type 0 where
  pub all : cubes ≡ (dashes ++ zeros) ++ ones
  pub dash_cubes : AreCubes size dashes
  pub zero_cubes : AreCubes size zeros
  pub one_cubes : AreCubes size ones
  pub zeros_at : All (λ c. slice_index_or c.symbols i Dash ≡ Zero) zeros
  pub ones_at : All (λ c. slice_index_or c.symbols i Dash ≡ One) ones

-- no literal is left at input i, and none comes at another
pub record Frees (i : ℕ) (cubes freed : List Cube) : Type 0 where
  pub there : has_literal i freed ≡ false
  pub others : (k : ℕ) → k ≢ i → has_literal k cubes ≡ false → has_literal k freed ≡ false

-- cubes of the places of s, which stand for the list at one or both values of input i
pub record IsBranch (size : Size) (i : ℕ) (cubes : List Cube) (s : Place → Bool)
    (branch : List Cube) : Type 0 where
  pub are_cubes : AreCubes size branch
  pub places : (p : Place) → places branch p ≡ s p
  pub frees : Frees i cubes branch

-- a part of the list in which each of its cubes lies
pub record IsPartlyAbsorbed (cubes kept : List Cube) : Type 0 where
  pub within : (c : Cube) → Contains kept c → Contains cubes c
  pub over : (c : Cube) → Contains cubes c → (d : Cube) × Contains kept d
      × IsSubset (holds c) (holds d)

-- a part of the list that leaves out only cubes which lie in one of the others
pub record IsWithoutAbsorbed (cubes others kept : List Cube) : Type 0 where
  pub within : (c : Cube) → Contains kept c → Contains cubes c
  pub over : (c : Cube) → Contains cubes c → Contains kept c
      ⊎ ((d : Cube) × Contains others d × IsSubset (holds c) (holds d))

-- a part of the list in row order in which each of its cubes lies, and none in one before it
pub record IsAbsorbed (cubes kept : List Cube) : Type 0 where
  pub rising : IsStrictlySortedBy row_cmp kept
  pub within : (c : Cube) → Contains kept c → Contains cubes c
  pub over : (c : Cube) → Contains cubes c → (d : Cube) × Contains kept d
      × IsSubset (holds c) (holds d)
  pub apart : (c d : Cube) → Contains kept c → Contains kept d → row_cmp c d ≡ Less
      → IsSubset (holds d) (holds c) → ⊥

-- the same cubes
abbrev pub HasSameCubes : List Cube → List Cube → Type 0
HasSameCubes cubes others = (c : Cube) → (Contains cubes c → Contains others c)
    × (Contains others c → Contains cubes c)

-- no input has both literals, and all outputs are equal
pub record IsUnate (size : Size) (cubes : List Cube) : Type 0 where
  pub one_literal : (k : ℕ) → k < size.inputs → (has_symbol k Zero cubes ≡ false)
      ⊎ (has_symbol k One cubes ≡ false)
  pub same_outputs : (c d : Cube) → Contains cubes c → Contains cubes d → c.outputs ≡ d.outputs

-- the outputs that some cube of the first list has, and none of the second
pub record LeftOutputs (size : Size) (minuend subtrahend : List Cube)
    (bits : List Bool) : Type 0 where
  pub len : length bits ≡ size.outputs
  pub each : (j : ℕ) → j < size.outputs
      → slice_index_or bits j false
      ≡ (list_any (λ c. slice_index_or c.outputs j false) minuend
      && not (list_any (λ c. slice_index_or c.outputs j false) subtrahend))
