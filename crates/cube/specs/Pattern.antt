-- What one input symbol, and a row of them, say of a point.
use Rattle.std.specs.Prelude.{Bool, true, false, not, ◌&&◌, List, [], ◌∷◌}
use Rattle.cube.specs.declared.symbol.Symbol.{Symbol}
use Rattle.cube.specs.declared.symbol.Symbol.TheVariants.{Dash, Zero, One}

-- `0` and `1` agree with that bit, and `-` with both
abbrev pub agrees : Symbol → Bool → Bool
agrees Dash bit = true
agrees Zero bit = not bit
agrees One bit = bit

-- a point has as many bits as there are symbols, and each symbol agrees with its bit
abbrev pub matches : List Symbol → List Bool → Bool
matches [] [] = true
matches [] (bit ∷ bits) = false
matches (s ∷ symbols) [] = false
matches (s ∷ symbols) (bit ∷ bits) = agrees s bit && matches symbols bits

-- `0` and `1` are literals, and `-` is none
abbrev pub is_literal : Symbol → Bool
is_literal Dash = false
is_literal Zero = true
is_literal One = true
