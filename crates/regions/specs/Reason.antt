-- Why the cubes of a list hold a region. No public clause cites this module.
use Rattle.std.specs.Prelude.{⊤, ◌≡◌, ◌≢◌, ℕ, ◌<◌, ◌+◌, Bool, true, ◌||◌, Option, Some, None, List, [], length, slice_get, slice_index_or, cond, ◌∷◌, All}
use Rattle.cube.specs.declared.symbol.Symbol.{Symbol}
use Rattle.cube.specs.declared.symbol.Symbol.TheVariants.{Dash}
use Rattle.cube.specs.Pattern.{agrees}
use Rattle.cube.specs.Size.{Size}
use Rattle.cube.specs.Cube.{Cube, HasSize, SameSize, IsSubset, holds, size_of}
use Rattle.std.specs.List.{Contains}
use Rattle.std.specs.Borrow.{Bor}
use Rattle.rows.specs.Places.{places, behind}
use Rattle.rows.specs.Splits.{dashes}
use Rattle.regions.specs.LeftOut.{IsLeftOut}
use Rattle.regions.specs.declared.region.Step.{Step}
use Rattle.regions.specs.declared.region.Step.TheVariants.{Row, Split}
use Rattle.regions.specs.declared.region.learned.Shown.{Shown}
use Rattle.regions.specs.declared.region.learned.Shown.TheVariants.{Held, LeftOut, Nothing}

-- a cube that holds the region, and whose places are all in the list
pub record IsReason (region : Cube) (rows : List Cube) (c : Cube) : Type 0 where
  pub size : SameSize c region
  pub above : IsSubset (holds region) (holds c)
  pub within : IsSubset (holds c) (places rows)

-- what splits or a search show of a region
abbrev pub Shows : Cube → List (Bor Cube) → Shown → Type 0
Shows region rows Held = IsSubset (holds region) (places (behind rows))
Shows region rows (LeftOut part) = IsLeftOut (size_of region) (behind rows) region part
Shows region rows Nothing = ⊤

-- a cube is found that holds the region, and of which one of the two holds each place
abbrev pub Joins : Cube → Cube → Cube → Option Cube → Type 0
Joins region one other None = ⊥
Joins region one other (Some c) =
    SameSize c region × (IsSubset (holds region) (holds c) × IsSubset (holds c) (λ p. holds one p || holds other p))

-- two parts of a region that hold all of its places
pub record HasParts (region part rest : Cube) : Type 0 where
  pub part_size : SameSize part region
  pub part_within : IsSubset (holds part) (holds region)
  pub rest_size : SameSize rest region
  pub rest_within : IsSubset (holds rest) (holds region)
  pub whole : IsSubset (holds region) (λ p. holds part p || holds rest p)

-- each of the references is to one of the rows
abbrev pub AreAmong : List (Bor Cube) → List (Bor Cube) → Type 0
AreAmong some rows = (d : Cube) → Contains (behind some) d → Contains (behind rows) d

-- rows of the region's size, and some of them that are looked at first
pub record AreRowsWithNear (region : Cube) (rows near : List (Bor Cube)) : Type 0 where
  pub sizes : All (λ d. SameSize d.now region) rows
  pub among : AreAmong near rows

-- cubes of the size whose places are all in the list
abbrev pub AreKnown : Size → List Cube → List Cube → Type 0
AreKnown size known rows = All (λ d. HasSize d size) known × IsSubset (places known) (places rows)

-- cubes of the region's size that the rows hold, as a search learns them
abbrev pub AreLearned : Cube → List (Bor Cube) → List Cube → Type 0
AreLearned region rows known = AreKnown (size_of region) known (behind rows)

-- rows of the region's size, and cubes that a search learned of them
pub record AreRowsWithLearned (region : Cube) (rows : List (Bor Cube)) (known : List Cube) : Type 0 where
  pub sizes : All (λ d. SameSize d.now region) rows
  pub learned : AreLearned region rows known

-- what a search shows of a region, with cubes that it learned of the rows
pub record ShowsAndLearns (region : Cube) (rows : List (Bor Cube)) (known : List Cube) (shown : Shown) : Type 0 where
  pub learned : AreLearned region rows known
  pub shows : Shows region rows shown

-- the cube has no literal at an input where the region has none
abbrev pub IsClosed : Cube → Cube → Type 0
IsClosed region c = (i : ℕ) → i < length region.symbols
    → slice_index_or region.symbols i Dash ≡ Dash → slice_index_or c.symbols i Dash ≡ Dash

-- what is next for a region and the cubes that meet it
abbrev pub Leads : Cube → List Cube → Step → Type 0
Leads region rows (Row k) = (k < length rows)
    × ((d : Cube) → slice_get rows k ≡ Some d → IsClosed region d)
Leads region rows (Split i literal) = (slice_get region.symbols i ≡ Some Dash) × (literal ≢ Dash)

-- each bit agrees with one of the two
abbrev pub Share : Symbol → Symbol → Type 0
Share s t = (b : Bool) → (agrees s b || agrees t b) ≡ true

-- how many outputs there are
abbrev pub set_bits : List Bool → ℕ
set_bits [] = 0
set_bits (b ∷ bs) = cond b 1 0 + set_bits bs

-- the inputs at which a region can be split, and its outputs
abbrev pub extent : Cube → ℕ
extent c = dashes c.symbols + set_bits c.outputs
