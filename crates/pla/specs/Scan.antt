-- What a reader keeps of a text that came so far.
use Rattle.std.specs.Prelude.{◌≡◌, ⊤, ℕ, List, [], if◌then◌else◌, Some, None}
use Rattle.cube.specs.Limits.{Limits}
use Rattle.cube.specs.Cube.{Cube}
use Rattle.pla.specs.declared.echo.Echo.{Echo}
use Rattle.pla.specs.declared.fault.LineError.{LineError}
use Rattle.pla.specs.declared.fault.LineError.TheVariants.{Memory, Fault}
use Rattle.pla.specs.Lines.{all_symbols, ended_lines, open_rest}
use Rattle.pla.specs.Keywords.{looked_at}
use Rattle.pla.specs.Header.{Header, header_of, size_in, type_in}
use Rattle.pla.specs.Symbols.{unfinished_row}
use Rattle.pla.specs.declared.row_lines.Part.TheVariants.{On, DontCare, Off}
use Rattle.pla.specs.Lists.{given_list}
use Rattle.pla.specs.Fault.{sound, fault_on, open_fault}

-- what lines have given
pub record Parsed : Type 0 where
  pub header : Header
  -- the symbols since the last whole row
  pub pending : List ℕ
  pub on : List Cube
  pub dc : List Cube
  pub off : List Cube

-- what these lines give
abbrev pub parsed_of : Limits → List (List ℕ) → Parsed
parsed_of limits lines =
    let h = header_of limits lines in let symbols = all_symbols lines in record {
      header = h;
      pending = unfinished_row (size_in h) symbols;
      on = given_list (type_in h) On (size_in h) symbols;
      dc = given_list (type_in h) DontCare (size_in h) symbols;
      off = given_list (type_in h) Off (size_in h) symbols;
    }

-- the lines have no fault, none follows one that ends the description, and this is what they give
pub record StandsForLines (limits : Limits) (parsed : Parsed) (lines : List (List ℕ)) : Type 0 where
  pub faultless : sound limits lines ≡ lines
  pub within : looked_at lines ≡ lines
  pub given : parsed ≡ parsed_of limits lines

-- a line after these was refused, out of memory, or has this first kind
abbrev pub Refuses : Limits → List (List ℕ) → List ℕ → LineError → Type 0
Refuses limits before line Memory = ⊤
Refuses limits before line (Fault kind) = fault_on limits before line ≡ Some kind

-- what a reader keeps
pub record Scan : Type 0 where
  -- whether comments are passed on
  pub echo : Echo
  -- what the lines that a line feed ended have given
  pub parsed : Parsed
  -- the bytes since the last line feed
  pub rest : List ℕ

-- what is kept of a text: once the description has ended, no rest
abbrev pub scan_of : Limits → Echo → List ℕ → Scan
scan_of limits echo text = let parsed = parsed_of limits (looked_at (ended_lines text)) in record {
  echo = echo;
  parsed = parsed;
  rest = if parsed.header.ended then [] else open_rest text;
}

-- the text has no fault yet, and this is what is kept of it
pub record StandsFor (limits : Limits) (state : Scan) (text : List ℕ) : Type 0 where
  pub faultless : open_fault limits text ≡ None
  pub given : state ≡ scan_of limits state.echo text
