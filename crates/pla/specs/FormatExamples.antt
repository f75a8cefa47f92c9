-- What each byte, keyword and limit of the format means, and which of two faults is reported.
use Rattle.std.specs.Prelude.{◌≡◌, ℕ, true, List, [], ◌∷◌, ◌++◌, filter, Option, Some, None, codes, refl}
use Rattle.std.specs.List.{range_with_len}
use Rattle.cube.specs.Limits.{Limits, format_limits}
use Rattle.cube.specs.declared.symbol.Symbol.TheVariants.{Dash, Zero, One}
use Rattle.cube.specs.Cube.{Cube}
use Rattle.pla.specs.declared.ending.Ending.{Ending}
use Rattle.pla.specs.declared.ending.Ending.TheVariants.{End, Failed}
use Rattle.pla.specs.declared.fault.ReadFault.{ReadFault}
use Rattle.pla.specs.declared.fault.ReadKind.TheVariants.{TooManyLines, LineTooLong, RefusedKeyword, KeywordInsideRow, KeywordRepeated, BadNumber, NamesBeforeShape, WrongNumberOfNames, TypeAfterRow, BadType, RowBeforeShape, BadSymbol, ShapeMissing, UnfinishedRow, ReadFailed}
use Rattle.pla.specs.declared.echo.Echo.TheVariants.{Keep, Eat}
use Rattle.pla.specs.declared.file_type.FileType.{FileType}
use Rattle.pla.specs.declared.file_type.FileType.TheVariants.{F, Fd, Fr, Fdr}
use Rattle.pla.specs.Lines.{is_blank, is_row_blank}
use Rattle.pla.specs.Symbols.{is_symbol_at}
use Rattle.pla.specs.Description.{Description}
use Rattle.pla.specs.Fault.{fault_of, at_line, fault_in, is_past_limit, is_too_long, is_refused, is_inside_row, is_repeated, is_bad_number, is_name_too_early, is_wrong_count, is_type_too_late, is_bad_type, is_row_too_early, is_bad_symbol}
use Rattle.pla.specs.Vectors.{Describes, HasFault, PassesOn, text}

-- one input and one output
abbrev one_by_one : List (List ℕ)
one_by_one = codes ".i 1" ∷ codes ".o 1" ∷ []

-- a description of one input and one output, without names
abbrev small : FileType → List Cube → List Cube → List Cube → Description
small type on dc off =
    record {
      size = record { inputs = 1; outputs = 1 };
      input_names = None;
      output_names = None;
      file_type = type;
      on = on;
      dc = dc;
      off = off;
    }

-- the input 1, and 0, and any
abbrev at_one : Cube
at_one = record { symbols = One ∷ []; outputs = true ∷ [] }

abbrev at_zero : Cube
at_zero = record { symbols = Zero ∷ []; outputs = true ∷ [] }

abbrev at_both : Cube
at_both = record { symbols = Dash ∷ []; outputs = true ∷ [] }

-- ---- which of two faults on a line is reported

pub record FirstOfTwo : Type 0 where
  pub refused_inside_row : HasFault (one_by_one ++ codes "1" ∷ codes ".mv" ∷ []) 4 RefusedKeyword
  pub type_inside_row : HasFault
      (one_by_one ++ codes "1" ∷ codes ".type fr" ∷ []) 4 KeywordInsideRow
  pub bad_type_inside_row : HasFault
      (one_by_one ++ codes "1" ∷ codes ".type x" ∷ []) 4 KeywordInsideRow
  pub names_inside_row : HasFault
      (one_by_one ++ codes "1" ∷ codes ".ilb a b" ∷ []) 4 KeywordInsideRow
  pub repeated_number : HasFault (codes ".i 2" ∷ codes ".i x" ∷ []) 2 KeywordRepeated
  pub repeated_outputs : HasFault (codes ".o 2" ∷ codes ".o x" ∷ []) 2 KeywordRepeated
  pub repeated_names : HasFault
      (one_by_one ++ codes ".ilb a" ∷ codes ".ilb a b" ∷ []) 4 KeywordRepeated
  pub repeated_output_names : HasFault
      (one_by_one ++ codes ".ob a" ∷ codes ".ob a b" ∷ []) 4 KeywordRepeated
  pub repeated_type : HasFault (codes ".type f" ∷ codes ".type x" ∷ []) 2 KeywordRepeated
  pub repeated_late_type : HasFault
      (codes ".type fd" ∷ one_by_one ++ codes "1 1" ∷ codes ".type fd" ∷ []) 5 KeywordRepeated
  pub early_names : HasFault (codes ".i 1" ∷ codes ".ilb a b" ∷ []) 2 NamesBeforeShape
  pub early_output_names : HasFault (codes ".o 1" ∷ codes ".ob a b" ∷ []) 2 NamesBeforeShape
  pub late_bad_type : HasFault (one_by_one ++ codes "1 1" ∷ codes ".type x" ∷ []) 4 TypeAfterRow
  pub early_bad_row : HasFault (codes ".i 1" ∷ codes "z" ∷ []) 2 RowBeforeShape

-- ---- limits, of which these are small

abbrev narrow : Limits
narrow = record { inputs = 2; outputs = 2; lines = 2; line_bytes = 6 }

-- the fault under them
abbrev narrow_fault : Ending → List ℕ → Option ReadFault
narrow_fault ending bytes = fault_of narrow ending bytes

pub record AtTheLimits : Type 0 where
  pub limits : format_limits
      ≡ record { inputs = 1024; outputs = 1024; lines = 16777216; line_bytes = 131072 }
  -- a line of the most bytes, and one of one more, whatever else is wrong with it
  pub long : narrow_fault End (text (codes ".mv   " ∷ [])) ≡ Some (at_line 1 RefusedKeyword)
  pub too_long : narrow_fault End (text (codes ".mv    " ∷ [])) ≡ Some (at_line 1 LineTooLong)
  pub too_long_row : narrow_fault End (text (codes "zzzzzzz" ∷ [])) ≡ Some (at_line 1 LineTooLong)
  pub too_long_unended : narrow_fault End (codes ".mv    ") ≡ Some (at_line 1 LineTooLong)
  -- the last line, and one more, whatever its length
  pub last : narrow_fault End (text ([] ∷ codes ".mv" ∷ [])) ≡ Some (at_line 2 RefusedKeyword)
  pub one_more : narrow_fault End (text ([] ∷ [] ∷ codes ".mv" ∷ []))
      ≡ Some (at_line 3 TooManyLines)
  pub one_more_and_long : narrow_fault End (text ([] ∷ [] ∷ codes "       " ∷ []))
      ≡ Some (at_line 3 TooManyLines)
  pub as_many_and_no_more : narrow_fault End (text ([] ∷ [] ∷ [])) ≡ Some (at_line 2 ShapeMissing)
  -- a read that failed in a line: of it only its number and its length are asked
  pub broken_off : narrow_fault Failed (codes ".mv   ") ≡ Some (at_line 1 ReadFailed)
  pub broken_off_long : narrow_fault Failed (codes ".mv    ") ≡ Some (at_line 1 LineTooLong)
  pub broken_off_late : narrow_fault Failed (text ([] ∷ [] ∷ []) ++ codes ".")
      ≡ Some (at_line 3 TooManyLines)
  pub broken_off_late_and_long : narrow_fault Failed (text ([] ∷ [] ∷ []) ++ codes ".      ")
      ≡ Some (at_line 3 TooManyLines)
  pub broken_off_between : narrow_fault Failed (text ([] ∷ [] ∷ [])) ≡ Some (at_line 3 ReadFailed)
  -- numbers
  pub most_inputs : HasFault (codes ".i 1024" ∷ []) 1 ShapeMissing
  pub more_inputs : HasFault (codes ".i 1025" ∷ []) 1 BadNumber
  pub most_outputs : HasFault (codes ".o 1024" ∷ []) 1 ShapeMissing
  pub more_outputs : HasFault (codes ".o 1025" ∷ []) 1 BadNumber
  pub no_inputs : HasFault (codes ".i 0" ∷ []) 1 ShapeMissing
  pub no_outputs : HasFault (codes ".o 0" ∷ []) 1 BadNumber
  pub no_number : HasFault (codes ".i" ∷ []) 1 BadNumber
  pub below_zero : HasFault (codes ".i -1" ∷ []) 1 BadNumber
  pub below_a_digit : HasFault (codes ".i /" ∷ []) 1 BadNumber
  pub above_a_digit : HasFault (codes ".i :" ∷ []) 1 BadNumber

-- ---- bytes

pub record Bytes : Type 0 where
  -- a tab, a vertical tab, a form feed and a carriage return are blanks, a bar is one in rows
  pub blanks : Describes
      ((9 ∷ codes ".i 1") ∷ (11 ∷ codes ".o" ++ 12 ∷ codes "1" ++ 13 ∷ [])
      ∷ (codes "1" ++ 9 ∷ 11 ∷ 12 ∷ 13 ∷ codes "1") ∷ []) (small Fd (at_one ∷ []) [] [])
  pub bars : Describes (one_by_one ++ codes "| 1|1 |" ∷ []) (small Fd (at_one ∷ []) [] [])
  pub bar_in_a_name : Describes (one_by_one ++ codes ".ob a|b" ∷ [])
      (record (small Fd [] [] []) { output_names = Some (codes "a|b" ∷ []) })
  pub other_control : HasFault ((8 ∷ codes ".i 1") ∷ []) 1 RowBeforeShape
  pub escape : HasFault ((14 ∷ codes ".i 1") ∷ []) 1 RowBeforeShape
  pub separator : HasFault ((31 ∷ codes ".i 1") ∷ []) 1 RowBeforeShape
  -- a # after a blank begins a comment in a keyword line, and any # in a row
  pub comment_in_keyword : PassesOn Keep
      (codes ".i 1 #a" ∷ codes ".p 3 # b" ∷ codes ".type fd # c" ∷ codes ".o 1#d" ∷ [])
      (codes "#a" ∷ codes "# b" ∷ codes "# c" ∷ [])
  pub comment_in_row : PassesOn Keep (one_by_one ++ codes "1 1#a" ∷ codes "#b" ∷ codes " # c" ∷ [])
      (codes "#a" ∷ codes "#b" ∷ codes "# c" ∷ [])
  pub eaten : PassesOn Eat (one_by_one ++ codes "1 1#a" ∷ codes ".p 1 #b" ∷ codes ".foo  x #c" ∷ [])
      (codes ".foo  x #c" ∷ [])
  -- symbols of inputs
  pub inputs : Describes (one_by_one ++ codes "01 11 21 -1" ∷ [])
      (small Fd (at_zero ∷ at_one ∷ at_both ∷ at_both ∷ []) [] [])
  pub three_as_input : HasFault (one_by_one ++ codes "3 1" ∷ []) 3 BadSymbol
  pub four_as_input : HasFault (one_by_one ++ codes "4 1" ∷ []) 3 BadSymbol
  pub tilde_as_input : HasFault (one_by_one ++ codes "~ 1" ∷ []) 3 BadSymbol
  -- symbols of outputs
  pub outputs_f : Describes (codes ".type f" ∷ one_by_one ++ codes "00 01 02 03 04 0- 0~" ∷ [])
      (small F (at_zero ∷ at_zero ∷ []) [] [])
  pub outputs_fd : Describes (codes ".type fd" ∷ one_by_one ++ codes "00 11 02 03 -4 1- 0~" ∷ [])
      (small Fd (at_one ∷ at_both ∷ []) (at_zero ∷ at_one ∷ []) [])
  pub outputs_fr : Describes (codes ".type fr" ∷ one_by_one ++ codes "00 11 02 03 -4 1- 0~" ∷ [])
      (small Fr (at_one ∷ at_both ∷ []) [] (at_zero ∷ []))
  pub outputs_fdr : Describes (codes ".type fdr" ∷ one_by_one ++ codes "00 11 02 03 -4 1- 0~" ∷ [])
      (small Fdr (at_one ∷ at_both ∷ []) (at_zero ∷ at_one ∷ []) (at_zero ∷ []))
  pub five_as_output : HasFault (one_by_one ++ codes "1 5" ∷ []) 3 BadSymbol

-- of all bytes
pub record AllBytes : Type 0 where
  pub blanks : filter is_blank (range_with_len 0 256) ≡ 9 ∷ 11 ∷ 12 ∷ 13 ∷ 32 ∷ []
  pub row_blanks : filter is_row_blank (range_with_len 0 256) ≡ 9 ∷ 11 ∷ 12 ∷ 13 ∷ 32 ∷ 124 ∷ []
  pub inputs : filter (is_symbol_at 1 0) (range_with_len 0 256) ≡ codes "-012"
  pub outputs : filter (is_symbol_at 1 1) (range_with_len 0 256) ≡ codes "-01234~"

all_bytes : AllBytes
all_bytes = record { blanks = refl; row_blanks = refl; inputs = refl; outputs = refl }

-- ---- keywords

pub record Keywords : Type 0 where
  pub mv : HasFault (codes ".mv" ∷ []) 1 RefusedKeyword
  pub label : HasFault (codes ".label" ∷ []) 1 RefusedKeyword
  pub phase : HasFault (codes ".phase" ∷ []) 1 RefusedKeyword
  pub pair : HasFault (codes ".pair" ∷ []) 1 RefusedKeyword
  pub symbolic : HasFault (codes ".symbolic" ∷ []) 1 RefusedKeyword
  pub symbolic_output : HasFault (codes ".symbolic-output" ∷ []) 1 RefusedKeyword
  pub kiss : HasFault (codes ".kiss" ∷ []) 1 RefusedKeyword
  pub upper_type : HasFault (codes ".type F" ∷ []) 1 BadType
  pub two_types : HasFault (codes ".type f fd" ∷ []) 1 BadType
  pub no_type : HasFault (codes ".type" ∷ []) 1 BadType
  pub type_by_default : Describes (one_by_one ++ codes "1 -" ∷ []) (small Fd [] (at_one ∷ []) [])
  pub end_in_a_row : HasFault (one_by_one ++ codes "1" ∷ codes ".end" ∷ []) 4 UnfinishedRow
  pub e_in_a_row : HasFault (one_by_one ++ codes "1" ∷ codes ".e" ∷ []) 4 UnfinishedRow
  pub unknown_in_a_row : HasFault (one_by_one ++ codes "1" ∷ codes ".p 1" ∷ []) 4 KeywordInsideRow
  pub behind_e : Describes (one_by_one ++ codes ".e" ∷ codes "z" ∷ []) (small Fd [] [] [])
  pub behind_end : Describes (one_by_one ++ codes ".end" ∷ codes "z" ∷ []) (small Fd [] [] [])
  pub names : Describes (one_by_one ++ codes ".ilb  a" ∷ codes ".ob b " ∷ [])
      (record (small Fd [] [] []) {
        input_names =
            Some (codes "a" ∷ []);
        output_names = Some (codes "b" ∷ []);
      })
  pub names_of_inputs : HasFault
      (codes ".i 2" ∷ codes ".o 1" ∷ codes ".ilb a" ∷ []) 3 WrongNumberOfNames
  pub names_of_outputs : HasFault
      (codes ".i 1" ∷ codes ".o 2" ∷ codes ".ob a" ∷ []) 3 WrongNumberOfNames
  -- passed on if it is no keyword of espresso, and not otherwise
  pub upper_keyword : PassesOn Eat (codes ".I 1" ∷ codes ".P" ∷ codes ".ends" ∷ codes ".E" ∷ [])
      (codes ".I 1" ∷ codes ".P" ∷ codes ".ends" ∷ codes ".E" ∷ [])
  pub known : PassesOn Eat
      (one_by_one ++ codes ".ilb a" ∷ codes ".ob b" ∷ codes ".type f" ∷ codes ".p 0"
      ∷ codes ".e" ∷ []) []
  pub known_end : PassesOn Eat (codes ".end" ∷ codes ".foo" ∷ []) []
  -- the number of rows that is said means nothing
  pub rows_said : Describes (one_by_one ++ codes ".p x y" ∷ codes "1 1" ∷ [])
      (small Fd (at_one ∷ []) [] [])
  -- no inputs are a number of inputs
  pub constant : Describes (codes ".i 0" ∷ codes ".o 1" ∷ codes "1" ∷ [])
      (record (small Fd (record { symbols = []; outputs = true ∷ [] } ∷ []) [] [])
      { size = record { inputs = 0; outputs = 1 } })

first_of_two : FirstOfTwo
unfolding fault_in is_past_limit is_too_long is_refused is_inside_row is_repeated
    is_bad_number is_name_too_early is_wrong_count is_type_too_late is_bad_type
    is_row_too_early is_bad_symbol
first_of_two = record {
  refused_inside_row = refl;
  type_inside_row = refl;
  bad_type_inside_row = refl;
  names_inside_row = refl;
  repeated_number = refl;
  repeated_outputs = refl;
  repeated_names = refl;
  repeated_output_names = refl;
  repeated_type = refl;
  repeated_late_type = refl;
  early_names = refl;
  early_output_names = refl;
  late_bad_type = refl;
  early_bad_row = refl;
}

at_the_limits : AtTheLimits
unfolding fault_in is_past_limit is_too_long is_refused is_inside_row is_repeated
    is_bad_number is_name_too_early is_wrong_count is_type_too_late is_bad_type
    is_row_too_early is_bad_symbol
at_the_limits = record {
  limits = refl;
  long = refl;
  too_long = refl;
  too_long_row = refl;
  too_long_unended = refl;
  last = refl;
  one_more = refl;
  one_more_and_long = refl;
  as_many_and_no_more = refl;
  broken_off = refl;
  broken_off_long = refl;
  broken_off_late = refl;
  broken_off_late_and_long = refl;
  broken_off_between = refl;
  most_inputs = refl;
  more_inputs = refl;
  most_outputs = refl;
  more_outputs = refl;
  no_inputs = refl;
  no_outputs = refl;
  no_number = refl;
  below_zero = refl;
  below_a_digit = refl;
  above_a_digit = refl;
}

bytes : Bytes
unfolding fault_in is_past_limit is_too_long is_refused is_inside_row is_repeated
    is_bad_number is_name_too_early is_wrong_count is_type_too_late is_bad_type
    is_row_too_early is_bad_symbol
bytes = record {
  blanks = (refl, refl);
  bars = (refl, refl);
  bar_in_a_name = (refl, refl);
  other_control = refl;
  escape = refl;
  separator = refl;
  comment_in_keyword = refl;
  comment_in_row = refl;
  eaten = refl;
  inputs = (refl, refl);
  three_as_input = refl;
  four_as_input = refl;
  tilde_as_input = refl;
  outputs_f = (refl, refl);
  outputs_fd = (refl, refl);
  outputs_fr = (refl, refl);
  outputs_fdr = (refl, refl);
  five_as_output = refl;
}

keywords : Keywords
unfolding fault_in is_past_limit is_too_long is_refused is_inside_row is_repeated
    is_bad_number is_name_too_early is_wrong_count is_type_too_late is_bad_type
    is_row_too_early is_bad_symbol
keywords = record {
  mv = refl;
  label = refl;
  phase = refl;
  pair = refl;
  symbolic = refl;
  symbolic_output = refl;
  kiss = refl;
  upper_type = refl;
  two_types = refl;
  no_type = refl;
  type_by_default = (refl, refl);
  end_in_a_row = refl;
  e_in_a_row = refl;
  unknown_in_a_row = refl;
  behind_e = (refl, refl);
  behind_end = (refl, refl);
  names = (refl, refl);
  names_of_inputs = refl;
  names_of_outputs = refl;
  upper_keyword = refl;
  known = refl;
  known_end = refl;
  rows_said = (refl, refl);
  constant = (refl, refl);
}
