-- The rows that are left of one without another, if they meet.
use Rattle.std.specs.Prelude.{ℕ, zero, suc, Bool, true, false, not, ◌&&◌, cond, List, [], ◌∷◌, slice_index_or}
use Rattle.std.specs.List.{list_any}
use Rattle.cube.specs.declared.symbol.Symbol.{Symbol}
use Rattle.cube.specs.declared.symbol.Symbol.TheVariants.{Dash, Zero, One}
use Rattle.std.specs.Simd.Lanes.{zip2}
use Rattle.cube.specs.Cube.{Cube, with_symbol}

-- the other literal
abbrev pub opposite : Symbol → Symbol
opposite Dash = Dash
opposite Zero = One
opposite One = Zero

-- an input where the first row says nothing and the second does
abbrev pub is_split : Symbol → Symbol → Bool
is_split Dash Zero = true
is_split Dash One = true
is_split s t = false

-- the outputs that the second row lacks
abbrev pub minus : List Bool → List Bool → List Bool
minus bs os = zip2 (λ b o. b && not o) bs os

-- without the outputs of the second row
abbrev pub rest_row : Cube → Cube → Cube
rest_row a b = record { symbols = a.symbols; outputs = minus a.outputs b.outputs }

-- that row, if an output is left
abbrev pub rest_rows : Cube → Cube → List Cube
rest_rows a b = cond (list_any (λ x. x) (minus a.outputs b.outputs)) (rest_row a b ∷ []) []

-- with the other value at input i
abbrev pub piece : Cube → Cube → ℕ → Cube
piece a b i = with_symbol a i (opposite (slice_index_or b.symbols i Dash))

-- the first row can be split at input i
abbrev pub splits : Cube → Cube → ℕ → Bool
splits a b i = is_split (slice_index_or a.symbols i Dash) (slice_index_or b.symbols i Dash)

-- the pieces at the inputs below k, the last first
abbrev pub pieces_below : Cube → Cube → ℕ → List Cube
pieces_below a b zero = []
pieces_below a b (suc k) = cond (splits a b k) (piece a b k ∷ pieces_below a b k)
    (pieces_below a b k)
