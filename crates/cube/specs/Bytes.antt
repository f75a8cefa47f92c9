-- Symbols as bytes, and bytes as symbols and outputs.
use Rattle.std.specs.Prelude.{ℕ, Bool, not, ◌==◌, if◌then◌else◌, List, slice_index, bit_and}
use Rattle.cube.specs.declared.symbol.Symbol.{Symbol}
use Rattle.cube.specs.declared.symbol.Symbol.TheVariants.{Dash, Zero, One}

-- one of three bytes, by the symbol
abbrev pub symbol_byte : ℕ → ℕ → ℕ → Symbol → ℕ
symbol_byte dash_byte zero_byte one_byte Dash = dash_byte
symbol_byte dash_byte zero_byte one_byte Zero = zero_byte
symbol_byte dash_byte zero_byte one_byte One = one_byte

-- the symbol that a byte asks for: `0` and `1` are the literals, and any other byte asks for none
abbrev pub byte_symbol : ℕ → Symbol
byte_symbol b = if b == 48 then Zero else if b == 49 then One else Dash

-- whether the mark of a byte has a bit of the mask
abbrev pub has_mark : List ℕ → ℕ → ℕ → Bool
has_mark marks mask b = not (bit_and (slice_index marks b) mask == 0)
