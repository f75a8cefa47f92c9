-- What a file describes.
use Rattle.std.specs.Prelude.{ℕ, List, Option, unwrap_or}
use Rattle.cube.specs.Limits.{Limits}
use Rattle.cube.specs.Size.{Size}
use Rattle.cube.specs.Cube.{Cube}
use Rattle.pla.specs.declared.ending.Ending.{Ending}
use Rattle.pla.specs.declared.file_type.FileType.{FileType}
use Rattle.pla.specs.Lines.{all_symbols, lines_of}
use Rattle.pla.specs.Keywords.{looked_at}
use Rattle.pla.specs.Header.{header_of, size_in, type_in}
use Rattle.pla.specs.declared.row_lines.Part.TheVariants.{On, DontCare, Off}
use Rattle.pla.specs.Lists.{given_list}

-- a function of several outputs: its size, the names, the type of the rows, and the lists as given
pub record Description : Type 0 where
  pub size : Size
  pub input_names : Option (List (List ℕ))
  pub output_names : Option (List (List ℕ))
  pub file_type : FileType
  pub on : List Cube
  pub dc : List Cube
  pub off : List Cube

-- the description that lines without a fault give
abbrev pub description_of : Limits → List (List ℕ) → Description
description_of limits lines =
    let h = header_of limits lines in let symbols = all_symbols lines in record {
      size = unwrap_or (size_in h) (record { inputs = 0; outputs = 0 });
      input_names = h.input_names;
      output_names = h.output_names;
      file_type = type_in h;
      on = given_list (type_in h) On (size_in h) symbols;
      dc = given_list (type_in h) DontCare (size_in h) symbols;
      off = given_list (type_in h) Off (size_in h) symbols;
    }

-- what a file describes that has no fault, by the lines that are looked at
abbrev pub described : Limits → Ending → List ℕ → Description
described limits ending bytes = description_of limits (looked_at (lines_of ending bytes))
