-- The symbols of rows, and the rows that they make.
use Rattle.std.specs.Prelude.{ℕ, ◌+◌, ◌*◌, ◌/◌, ◌%◌, Bool, false, not, List, [], length, drop, nat_lt, ◌==◌, if◌then◌else◌, Option, Some, None, codes}
use Rattle.std.specs.List.{list_any, enumerate_from}
use Rattle.std.specs.Simd.{first_chunks}
use Rattle.cube.specs.Size.{Size}

-- whether the byte is one of these
abbrev pub is_byte_of : List ℕ → ℕ → Bool
is_byte_of bytes b = list_any (λ s. b == s) bytes

-- whether a byte is a symbol of this place of a row: the inputs come first
abbrev pub is_symbol_at : ℕ → ℕ → ℕ → Bool
is_symbol_at n place b = if nat_lt place n then is_byte_of (codes "012-") b
    else is_byte_of (codes "01234-~") b

-- how many symbols a row has
abbrev pub width : Size → ℕ
width size = size.inputs + size.outputs

-- how many of the symbols stand in no whole row: none counts while the size isn't given
abbrev pub left_over : Option Size → ℕ → ℕ
left_over None count = 0
left_over (Some size) count = count % width size

-- whether one of these symbols, which go on a row that has so many, isn't of its place
abbrev pub any_bad : Option Size → ℕ → List ℕ → Bool
any_bad None unfinished symbols = false
any_bad (Some size) unfinished symbols =
    list_any (λ e. not (is_symbol_at size.inputs ((unfinished + e.0) % width size) e.1))
    (enumerate_from 0 symbols)

-- the whole rows
abbrev pub rows : Size → List ℕ → List (List ℕ)
rows size symbols = first_chunks (width size) (length symbols / width size) symbols

-- how many there are
abbrev pub row_count : Size → List ℕ → ℕ
row_count size symbols = length symbols / width size

-- the symbols after the last whole row: none counts while the size isn't given
abbrev pub unfinished_row : Option Size → List ℕ → List ℕ
unfinished_row None symbols = []
unfinished_row (Some size) symbols = drop (row_count size symbols * width size) symbols
