-- What the laws of the format say of small files, computed.
use Rattle.std.specs.Prelude.{◌≡◌, ℕ, true, List, [], ◌∷◌, None, Some, codes, refl}
use Rattle.std.specs.Fmt.{digits}
use Rattle.cube.specs.Limits.{Limits, format_limits}
use Rattle.cube.specs.declared.symbol.Symbol.{Symbol}
use Rattle.cube.specs.declared.symbol.Symbol.TheVariants.{Dash, Zero, One}
use Rattle.cube.specs.Cube.{Cube}
use Rattle.pla.specs.declared.ending.Ending.TheVariants.{End}
use Rattle.pla.specs.declared.fault.ReadKind.TheVariants.{TooManyLines, LineTooLong, BadNumber, WrongNumberOfNames}
use Rattle.pla.specs.declared.file_type.FileType.TheVariants.{Fdr as file_fdr}
use Rattle.pla.specs.declared.out_type.OutType.TheVariants.{Fdr}
use Rattle.pla.specs.Fault.{fault_of, at_line, fault_in, is_past_limit, is_too_long, is_refused, is_inside_row, is_repeated, is_bad_number, is_name_too_early, is_wrong_count, is_type_too_late, is_bad_type, is_row_too_early, is_bad_symbol}
use Rattle.pla.specs.Description.{Description, described}
use Rattle.pla.specs.Sets.{SetLists}
use Rattle.pla.specs.Text.{text_of}
use Rattle.pla.specs.Vectors.{text, HasFault}
use Rattle.pla.specs.WiderLimits.{SameLimitsOf, older_limits}

-- a bad number need not stay one under wider limits
abbrev many_inputs : List ℕ
many_inputs = text (codes ".i 257" ∷ codes ".o 1" ∷ [])

too_many_before : fault_of older_limits End many_inputs ≡ Some (at_line 1 BadNumber)
unfolding fault_in is_past_limit is_too_long is_refused is_inside_row is_repeated
    is_bad_number is_name_too_early is_wrong_count is_type_too_late is_bad_type
    is_row_too_early is_bad_symbol
too_many_before = refl

within_limits_now : fault_of format_limits End many_inputs ≡ None
unfolding fault_in is_past_limit is_too_long is_refused is_inside_row is_repeated
    is_bad_number is_name_too_early is_wrong_count is_type_too_late is_bad_type
    is_row_too_early is_bad_symbol
within_limits_now = refl

-- which limits a fault can come from
abbrev ones : Limits
ones = record { inputs = 1; outputs = 1; line_bytes = 1; lines = 1 }

pub record Older : Type 0 where
  pub limits : older_limits
      ≡ record { inputs = 256; outputs = 256; line_bytes = 65536; lines = 16777216 }
  pub more_lines : SameLimitsOf ones (record ones { lines = 2 }) TooManyLines → ⊥
  pub longer_lines : SameLimitsOf ones (record ones { line_bytes = 2 }) LineTooLong → ⊥
  pub more_inputs : SameLimitsOf ones (record ones { inputs = 2 }) BadNumber → ⊥
  pub more_outputs : SameLimitsOf ones (record ones { outputs = 2 }) BadNumber → ⊥
  pub another : SameLimitsOf ones older_limits WrongNumberOfNames

older : Older
older = record {
  limits = refl;
  more_lines = λ h. let same : 1 ≡ 2 = h in cc;
  longer_lines = λ h. let same : 1 ≡ 2 = h in cc;
  more_inputs = λ h. let same : 1 ≡ 2 = h.0 in cc;
  more_outputs = λ h. let same : 1 ≡ 2 = h.1 in cc;
  another = tt;
}

-- one input, one output, and a cube of its own in each list
abbrev one_cube : Symbol → Cube
one_cube symbol = record { symbols = symbol ∷ []; outputs = true ∷ [] }

abbrev three_lists : SetLists
three_lists =
    record {
      size = record { inputs = 1; outputs = 1 };
      on = one_cube One ∷ [];
      dc = one_cube Zero ∷ [];
      off = one_cube Dash ∷ [];
    }

abbrev three_described : Description
three_described = record {
  size = record { inputs = 1; outputs = 1 };
  input_names = None;
  output_names = Some (codes "f" ∷ []);
  file_type = file_fdr;
  on = one_cube One ∷ [];
  dc = one_cube Zero ∷ [];
  off = one_cube Dash ∷ [];
}

-- each list is read again as itself
lists_read_again : described format_limits End (text_of three_described Fdr three_lists)
    ≡ three_described
unfolding digits fault_in is_past_limit is_too_long is_refused is_inside_row
    is_repeated is_bad_number is_name_too_early is_wrong_count is_type_too_late
    is_bad_type is_row_too_early is_bad_symbol
lists_read_again = refl

-- a name that begins a comment is not read again
commented_name : HasFault (codes ".i 1" ∷ codes ".o 1" ∷ codes ".ilb #a" ∷ []) 3 WrongNumberOfNames
unfolding fault_in is_past_limit is_too_long is_refused is_inside_row is_repeated
    is_bad_number is_name_too_early is_wrong_count is_type_too_late is_bad_type
    is_row_too_early is_bad_symbol
commented_name = refl
