-- What the laws say of small cubes, computed.
use Rattle.std.specs.Prelude.{◌≡◌, true, false, ◌||◌, [], ◌∷◌, refl}
use Rattle.cube.specs.declared.symbol.Symbol.TheVariants.{Dash, One}
use Rattle.cube.specs.Size.{Size}
use Rattle.cube.specs.Cube.{Cube, holds}
use Rattle.cube.specs.Sum.{complete_sum, is_subset}

-- two inputs and one output
abbrev two_inputs : Size
two_inputs = record { inputs = 2; outputs = 1 }

-- the first input is one, the second is one, and both are
abbrev first : Cube
first = record { symbols = One ∷ Dash ∷ []; outputs = true ∷ [] }

abbrev second : Cube
second = record { symbols = Dash ∷ One ∷ []; outputs = true ∷ [] }

abbrev both : Cube
both = record { symbols = One ∷ One ∷ []; outputs = true ∷ [] }

-- a list with one maximal cube alone, or with a cube within another, is not the complete sum
only_maximal_cubes : complete_sum two_inputs (λ p. holds first p || holds second p || holds both p)
    ≡ second ∷ first ∷ []
only_maximal_cubes = refl

-- a cube within another is not equal to it: it has to hold the other too
within_one_way : is_subset two_inputs (holds both) (holds first) ≡ true
within_one_way = refl

not_the_other_way : is_subset two_inputs (holds first) (holds both) ≡ false
not_the_other_way = refl
