-- What a header and rows give together.
use Rattle.std.specs.Prelude.{◌≡◌, ⊤, ℕ, Bool, not, ◌||◌, List, [], length, if◌then◌else◌, option_map, Option, Some, None}
use Rattle.std.specs.List.{list_any}
use Rattle.std.specs.Option.{option_or}
use Rattle.cube.specs.Limits.{Limits}
use Rattle.cube.specs.Size.{Size}
use Rattle.pla.specs.declared.file_type.FileType.{FileType}
use Rattle.pla.specs.declared.file_type.FileType.TheVariants.{Fd}
use Rattle.pla.specs.declared.fault.LineError.{LineError}
use Rattle.pla.specs.declared.fault.LineError.TheVariants.{Memory, Fault}
use Rattle.pla.specs.declared.fault.ReadKind.{ReadKind}
use Rattle.pla.specs.declared.fault.ReadKind.TheVariants.{RowBeforeShape, BadSymbol}
use Rattle.pla.specs.Lines.{is_row_blank}
use Rattle.pla.specs.Header.{Header, size_in, type_in}
use Rattle.pla.specs.HeadView.{keyword_fault}
use Rattle.pla.specs.Reading.{RowsRead, rows_of, read_code}
use Rattle.pla.specs.Scan.{Parsed}

-- the size of the rows
abbrev pub size_of_rows : Option RowsRead → Option Size
size_of_rows rows = option_map (λ r. r.size) rows

-- the rows have the size that the header gives
abbrev pub IsTied : Header → Option RowsRead → Type 0
IsTied h rows = size_of_rows rows ≡ size_in h

-- a list of rows that may be absent
abbrev pub list_in : {X : Type 0} → (RowsRead → List X) → Option RowsRead → List X
list_in f None = []
list_in f (Some r) = f r

-- how many symbols stand in an unfinished row
abbrev pub unfinished_of : Option RowsRead → ℕ
unfinished_of rows = length (list_in (λ r. r.pending) rows)

-- a header with rows
abbrev pub parsed_by : Header → Option RowsRead → Parsed
parsed_by h rows = record {
  header = h;
  pending = list_in (λ r. r.pending) rows;
  on = list_in (λ r. r.on) rows;
  dc = list_in (λ r. r.dc) rows;
  off = list_in (λ r. r.off) rows;
}

-- the rows that symbols give under a header
abbrev pub rows_for : Header → List ℕ → Option RowsRead
rows_for h symbols = option_map (λ size. rows_of (type_in h) size symbols) (size_in h)

-- rows, as soon as the size is given
abbrev pub opened : Option RowsRead → Header → Option RowsRead
opened rows h = option_or rows (option_map (λ size. rows_of Fd size []) (size_in h))

-- whether a row line's code has a symbol
abbrev pub has_symbol : List ℕ → Bool
has_symbol code = list_any (λ b. not (is_row_blank b)) code

-- the header after a row line of this code
abbrev pub with_row_code : Header → List ℕ → Header
with_row_code h code = record h { has_symbols = h.has_symbols || has_symbol code }

-- the rows after a row line of this code, unless it is refused
abbrev pub read_row : FileType → Option RowsRead → List ℕ → Option (Option RowsRead)
read_row type None code = if has_symbol code then None else Some None
read_row type (Some r) code = option_map (λ read. Some read) (read_code type r code)

-- what a refused row line has
abbrev pub row_kind : Option RowsRead → ReadKind
row_kind None = RowBeforeShape
row_kind (Some r) = BadSymbol

-- a row line was refused, out of memory or for its symbols
abbrev pub IsBadRow : FileType → Option RowsRead → List ℕ → LineError → Type 0
IsBadRow type rows code Memory = ⊤
IsBadRow type rows code (Fault kind) = (kind ≡ row_kind rows) × (read_row type rows code ≡ None)

-- a keyword line was refused, out of memory, or has this first kind
abbrev pub IsKeywordFault : Limits → Header → List ℕ → LineError → Type 0
IsKeywordFault limits h line Memory = ⊤
IsKeywordFault limits h line (Fault kind) = keyword_fault limits h line ≡ Some kind
