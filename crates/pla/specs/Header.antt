-- What the lines looked at so far have given.
use Rattle.std.specs.Prelude.{ℕ, Bool, List, length, nat_lt, Option, codes, unwrap_or}
use Rattle.std.specs.List.{list_any}
use Rattle.cube.specs.Limits.{Limits}
use Rattle.cube.specs.Size.{Size}
use Rattle.pla.specs.declared.file_type.FileType.{FileType}
use Rattle.pla.specs.declared.file_type.FileType.TheVariants.{Fd}
use Rattle.pla.specs.Lines.{all_symbols}
use Rattle.pla.specs.Keywords.{inputs_on, outputs_on, names_on, type_on, first_given, size_by, size_given, is_ending}
use Rattle.pla.specs.Symbols.{left_over}

-- what lines without a fault have given
pub record Header : Type 0 where
  -- how many lines there were
  pub lines : ℕ
  pub inputs : Option ℕ
  pub outputs : Option ℕ
  pub input_names : Option (List (List ℕ))
  pub output_names : Option (List (List ℕ))
  pub file_type : Option FileType
  -- how many symbols stand in a row that isn't whole yet
  pub unfinished : ℕ
  pub has_symbols : Bool
  -- whether one of them ended the description
  pub ended : Bool

-- the header of these lines
abbrev pub header_of : Limits → List (List ℕ) → Header
header_of limits lines = record {
  lines = length lines;
  inputs = first_given (inputs_on limits) lines;
  outputs = first_given (outputs_on limits) lines;
  input_names = first_given (names_on (codes ".ilb")) lines;
  output_names = first_given (names_on (codes ".ob")) lines;
  file_type = first_given type_on lines;
  unfinished = left_over (size_given limits lines) (length (all_symbols lines));
  has_symbols = nat_lt 0 (length (all_symbols lines));
  ended = list_any is_ending lines;
}

-- the size, once both numbers are given
abbrev pub size_in : Header → Option Size
size_in h = size_by h.inputs h.outputs

-- the type: fd if none is given
abbrev pub type_in : Header → FileType
type_in h = unwrap_or h.file_type Fd
