-- A list without its contained cubes.
use Rattle.std.specs.Prelude.{Bool, true, not, ◌&&◌, ◌||◌, cond, List, [], ◌∷◌, ◌++◌, refl, ◌≡◌}
use Rattle.std.specs.List.{list_any}
use Rattle.cube.specs.declared.symbol.Symbol.{Symbol}
use Rattle.cube.specs.declared.symbol.Symbol.TheVariants.{Dash, Zero, One}
use Rattle.cube.specs.Size.{Size}
use Rattle.cube.specs.Cube.{Cube, holds}
use Rattle.cube.specs.Sum.{is_subset}

-- the places of c lie within those of d
abbrev pub is_within : Size → Cube → Cube → Bool
is_within size c d = is_subset size (holds c) (holds d)

-- c lies in an earlier cube, or in a later one that isn't equal to it
abbrev pub is_contained : Size → List Cube → Cube → List Cube → Bool
is_contained size earlier c later =
    list_any (is_within size c) earlier
    || list_any (λ d. is_within size c d && not (is_within size d c)) later

-- the cubes of `rest` that aren't contained, if `earlier` stands before them
abbrev pub contained_after : Size → List Cube → List Cube → List Cube
contained_after size earlier [] = []
contained_after size earlier (c ∷ later) =
    cond (is_contained size earlier c later) (contained_after size (earlier ++ c ∷ []) later)
    (c ∷ contained_after size (earlier ++ c ∷ []) later)

-- the cubes of the list that aren't contained in others of it, in their order
abbrev pub contained : Size → List Cube → List Cube
contained size cubes = contained_after size [] cubes

-- a row of two inputs and one output
abbrev row : Symbol → Symbol → Cube
row s t = record { symbols = s ∷ t ∷ []; outputs = true ∷ [] }

-- `11`, `1-`, `1-` and `0-` become `1-` and `0-`
example_contained : contained (record { inputs = 2; outputs = 1 })
    (row One One ∷ row One Dash ∷ row One Dash ∷ row Zero Dash ∷ [])
    ≡ row One Dash ∷ row Zero Dash ∷ []
example_contained = refl
