-- Rows, symbol by symbol.
use Rattle.std.specs.Prelude.{◌≡◌, ⊤, ℕ, ◌+◌, ◌<◌, ◌≤◌, true, List, [], ◌∷◌, ◌++◌, length, take, drop, slice_index, ◌==◌, if◌then◌else◌, Option, Some, None, option_to_list}
use Rattle.std.specs.List.{list_all}
use Rattle.cube.specs.Cube.{Cube}
use Rattle.cube.specs.Size.{Size}
use Rattle.pla.specs.declared.file_type.FileType.{FileType}
use Rattle.pla.specs.declared.fault.LineError.{LineError}
use Rattle.pla.specs.declared.fault.LineError.TheVariants.{Memory, Fault}
use Rattle.pla.specs.declared.fault.ReadKind.TheVariants.{BadSymbol}
use Rattle.pla.specs.declared.row_lines.Part.TheVariants.{On, DontCare, Off}
use Rattle.pla.specs.Lines.{is_row_blank}
use Rattle.pla.specs.Symbols.{is_symbol_at, width, unfinished_row}
use Rattle.pla.specs.Lists.{part_symbols, given_cube, given_list}

-- the symbols since the last whole row, and the lists of the whole rows
pub record RowsRead : Type 0 where
  pub size : Size
  pub pending : List ℕ
  pub on : List Cube
  pub dc : List Cube
  pub off : List Cube

-- what symbols give
abbrev pub rows_of : FileType → Size → List ℕ → RowsRead
rows_of type size symbols = record {
  size = size;
  pending = unfinished_row (Some size) symbols;
  on = given_list type On (Some size) symbols;
  dc = given_list type DontCare (Some size) symbols;
  off = given_list type Off (Some size) symbols;
}

-- one more row, which the pending symbols are
abbrev pub with_row : FileType → RowsRead → List ℕ → RowsRead
with_row type r row = record {
  size = r.size;
  pending = [];
  on = r.on ++ option_to_list (given_cube r.size.inputs (part_symbols type On) row);
  dc = r.dc ++ option_to_list (given_cube r.size.inputs (part_symbols type DontCare) row);
  off = r.off ++ option_to_list (given_cube r.size.inputs (part_symbols type Off) row);
}

-- one more symbol
abbrev pub with_symbol : FileType → RowsRead → ℕ → RowsRead
with_symbol type r b = let pending = r.pending ++ b ∷ [] in
    if length pending == width r.size then with_row type r pending
    else record r { pending = pending }

-- a run of symbols
abbrev pub with_run : FileType → RowsRead → List ℕ → RowsRead
with_run type r run = let pending = r.pending ++ run in
    if length pending == width r.size then with_row type r pending
    else record r { pending = pending }

-- the bytes are symbols of their places, within the inputs or within what comes after them
pub record IsRun (r : RowsRead) (run : List ℕ) : Type 0 where
  pub each : list_all (λ b. is_symbol_at r.size.inputs (length r.pending) b) run ≡ true
  pub part : length r.pending < r.size.inputs → length r.pending + length run ≤ r.size.inputs
  pub row : 1 < length run → length r.pending + length run ≤ width r.size

-- the code begins with a whole row, whose inputs and outputs stand apart by a blank
pub record BeginsRow (r : RowsRead) (code : List ℕ) : Type 0 where
  pub none : r.pending ≡ []
  pub some : 0 < r.size.inputs
  pub wide : 0 < r.size.outputs
  pub fits : width r.size < length code
  pub inputs : list_all (λ b. is_symbol_at r.size.inputs 0 b) (take r.size.inputs code) ≡ true
  pub blank : is_row_blank (slice_index code r.size.inputs) ≡ true
  pub outputs : list_all (λ b. is_symbol_at r.size.inputs r.size.inputs b)
      (take r.size.outputs (drop (r.size.inputs + 1) code)) ≡ true

-- more symbols, unless one isn't of its place
abbrev pub read_symbols : FileType → RowsRead → List ℕ → Option RowsRead
read_symbols type r [] = Some r
read_symbols type r (b ∷ bytes) = if is_symbol_at r.size.inputs (length r.pending) b
    then read_symbols type (with_symbol type r b) bytes else None

-- the symbols of a row line's code
abbrev pub read_code : FileType → RowsRead → List ℕ → Option RowsRead
read_code type r [] = Some r
read_code type r (b ∷ bytes) = if is_row_blank b then read_code type r bytes
    else if is_symbol_at r.size.inputs (length r.pending) b
    then read_code type (with_symbol type r b) bytes else None

-- the code was refused, out of memory, or a byte isn't a symbol of its place
abbrev pub IsBadCode : FileType → RowsRead → List ℕ → LineError → Type 0
IsBadCode type r code Memory = ⊤
IsBadCode type r code (Fault kind) = (kind ≡ BadSymbol) × (read_code type r code ≡ None)
