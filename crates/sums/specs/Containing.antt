-- The cubes of a complete sum that contain a region, and lists on the way to them.
use Rattle.std.specs.Prelude.{◌≡◌, Bool, true, not, ◌&&◌, ◌⊎◌, List, [], ◌∷◌, Contains, refl}
use Rattle.std.specs.List.{filter, list_any}
use Rattle.cube.specs.declared.symbol.Symbol.{Symbol}
use Rattle.cube.specs.declared.symbol.Symbol.TheVariants.{Dash, Zero, One}
use Rattle.cube.specs.Size.{Size}
use Rattle.cube.specs.Cube.{Cube, Place, holds, difference, IsCube, IsSubset, IsDisjoint}
use Rattle.cube.specs.Sum.{complete_sum}
use Rattle.rows.specs.Cubes.{AreCubes}
use Rattle.rows.specs.Contained.{is_within}

-- the cubes of the complete sum that contain the region, in row order
abbrev pub sum_containing : Size → (Place → Bool) → Cube → List Cube
sum_containing size s region = filter (is_within size region) (complete_sum size s)

-- the cube lies in one of the list that does not lie in it
abbrev pub lies_in_larger : Size → List Cube → Cube → Bool
lies_in_larger size cubes c = list_any (λ d. is_within size c d && not (is_within size d c)) cubes

-- those that do not
abbrev pub largest : Size → List Cube → List Cube
largest size cubes = filter (λ c. not (lies_in_larger size cubes c)) cubes

-- cubes within s that contain the region, in which each such cube lies
pub record IsOver (size : Size) (region : Cube) (s : Place → Bool) (cubes : List Cube) : Type 0 where
  pub are_cubes : AreCubes size cubes
  pub contain : (c : Cube) → Contains cubes c → IsSubset (holds region) (holds c)
  pub within : (c : Cube) → Contains cubes c → IsSubset (holds c) s
  pub over : (c : Cube) → IsCube size c → IsSubset (holds region) (holds c) → IsSubset (holds c) s
      → (d : Cube) × Contains cubes d × IsSubset (holds c) (holds d)

-- such a list becomes one for the places that are not in u
abbrev pub Cuts : Size → Cube → (Place → Bool) → List Cube → List Cube → Type 0
Cuts size region u cubes cut = (s : Place → Bool) → IsOver size region s cubes
    → IsOver size region (difference s u) cut

-- pieces of a cube that contain the region and have no place of the row; each cube within that cube
-- of which the same is true lies in one of them
pub record ArePieces (size : Size) (region row cube : Cube) (pieces : List Cube) : Type 0 where
  pub are_cubes : AreCubes size pieces
  pub contain : (c : Cube) → Contains pieces c → IsSubset (holds region) (holds c)
  pub outside : (c : Cube) → Contains pieces c → IsDisjoint (holds c) (holds row)
  pub within : (c : Cube) → Contains pieces c → IsSubset (holds c) (holds cube)
  pub over : (c : Cube) → IsCube size c → IsSubset (holds region) (holds c)
      → IsSubset (holds c) (holds cube) → IsDisjoint (holds c) (holds row)
      → (d : Cube) × Contains pieces d × IsSubset (holds c) (holds d)

-- of a list the cubes that have no place of a row, and what is left of others outside the row and
-- contains the region
pub record IsCut (size : Size) (region row : Cube) (cubes kept pieces : List Cube) : Type 0 where
  pub kept_cubes : AreCubes size kept
  pub piece_cubes : AreCubes size pieces
  pub kept_within : (c : Cube) → Contains kept c → Contains cubes c
      × IsDisjoint (holds c) (holds row)
  pub pieces_within : (c : Cube) → Contains pieces c → IsSubset (holds region) (holds c)
      × IsDisjoint (holds c) (holds row)
      × ((d : Cube) × Contains cubes d × IsSubset (holds c) (holds d))
  pub over : (c d : Cube) → IsCube size c → Contains cubes d → IsSubset (holds region) (holds c)
      → IsSubset (holds c) (holds d) → IsDisjoint (holds c) (holds row)
      → (e : Cube) × (Contains kept e ⊎ Contains pieces e) × IsSubset (holds c) (holds e)

-- a row of two inputs and one output
abbrev row_of : Symbol → Symbol → Cube
row_of s t = record { symbols = s ∷ t ∷ []; outputs = true ∷ [] }

-- outside `11` the primes are `0-` and `-0`; of these `0-` contains `01`
example_containing : sum_containing (record { inputs = 2; outputs = 1 })
    (λ p. not (holds (row_of One One) p)) (row_of Zero One) ≡ row_of Zero Dash ∷ []
example_containing = refl
