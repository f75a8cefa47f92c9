-- The cofactor of a list by a cube.
use Rattle.std.specs.Prelude.{◌≡◌, true, false, List, [], ◌∷◌, map, refl}
use Rattle.cube.specs.declared.symbol.Symbol.TheVariants.{Dash, Zero, One}
use Rattle.cube.specs.Size.{Size}
use Rattle.cube.specs.Cube.{Cube}
use Rattle.cube.specs.Cofactor.{cofactor}
use Rattle.rows.specs.Places.{meeting}

-- the cubes that have a place of c, in their order, each the cofactor by c
abbrev pub cofactors : Size → Cube → List Cube → List Cube
cofactors size c cubes = map (λ d. cofactor d c) (meeting size c cubes)

-- of `1- 10`, `0- 11` and `-1 01` by `1- 01` one is left, `-1 11`
example_cofactors : cofactors (record { inputs = 2; outputs = 2 })
    (record { symbols = One ∷ Dash ∷ []; outputs = false ∷ true ∷ [] })
    (record { symbols = One ∷ Dash ∷ []; outputs = true ∷ false ∷ [] }
    ∷ record { symbols = Zero ∷ Dash ∷ []; outputs = true ∷ true ∷ [] }
    ∷ record { symbols = Dash ∷ One ∷ []; outputs = false ∷ true ∷ [] } ∷ [])
    ≡ record { symbols = Dash ∷ One ∷ []; outputs = true ∷ true ∷ [] } ∷ []
example_cofactors = refl
