-- The three lists of a file, as given by its rows.
use Rattle.std.specs.Prelude.{ℕ, Bool, List, [], ◌==◌, take, drop, map, filter_map, if◌then◌else◌, Option, Some, None, codes}
use Rattle.std.specs.List.{list_any}
use Rattle.cube.specs.declared.symbol.Symbol.{Symbol}
use Rattle.cube.specs.declared.symbol.Symbol.TheVariants.{Dash, Zero, One}
use Rattle.cube.specs.Cube.{Cube}
use Rattle.cube.specs.Size.{Size}
use Rattle.pla.specs.declared.file_type.FileType.{FileType}
use Rattle.pla.specs.declared.file_type.FileType.TheVariants.{Fd, Fr, Fdr}
use Rattle.pla.specs.declared.row_lines.Part.{Part}
use Rattle.pla.specs.declared.row_lines.Part.TheVariants.{On, DontCare, Off}
use Rattle.pla.specs.Symbols.{is_byte_of, rows}

-- the symbols that put an output into a list, under the type
abbrev pub part_symbols : FileType → Part → List ℕ
part_symbols _ On = codes "14"
part_symbols Fd DontCare = codes "-2"
part_symbols Fdr DontCare = codes "-2"
part_symbols Fr Off = codes "0"
part_symbols Fdr Off = codes "0"
part_symbols _ _ = []

-- what a symbol asks of an input: 2 means -
abbrev pub input_symbol : ℕ → Symbol
input_symbol b = if b == 48 then Zero else if b == 49 then One else Dash

-- a row's cube in a list: its inputs, and the outputs that have one of the list's symbols, if there
-- is one
abbrev pub given_cube : ℕ → List ℕ → List ℕ → Option Cube
given_cube n letters row = let outputs = map (is_byte_of letters) (drop n row) in
    if list_any (λ out. out) outputs
    then Some (record { symbols = map input_symbol (take n row); outputs = outputs }) else None

-- a list, as the symbols give it: nothing while the size isn't given
abbrev pub given_list : FileType → Part → Option Size → List ℕ → List Cube
given_list type part None symbols = []
given_list type part (Some size) symbols =
    filter_map (given_cube size.inputs (part_symbols type part)) (rows size symbols)

-- the cube of these inputs and outputs, if it has an output
abbrev pub cube_by : List Symbol → List Bool → Option Cube
cube_by symbols outputs = if list_any (λ out. out) outputs
    then Some (record { symbols = symbols; outputs = outputs }) else None
