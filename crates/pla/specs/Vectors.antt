-- Worked examples of the definitions.
use Rattle.std.specs.Prelude.{◌≡◌, ℕ, true, List, [], ◌∷◌, ◌++◌, flat_map, Some, None, codes, refl}
use Rattle.cube.specs.Limits.{format_limits}
use Rattle.cube.specs.declared.symbol.Symbol.TheVariants.{Dash, One}
use Rattle.pla.specs.declared.ending.Ending.TheVariants.{End, Failed}
use Rattle.pla.specs.declared.fault.ReadKind.{ReadKind}
use Rattle.pla.specs.declared.fault.ReadKind.TheVariants.{RefusedKeyword, KeywordInsideRow, KeywordRepeated, BadNumber, NamesBeforeShape, WrongNumberOfNames, TypeAfterRow, BadType, RowBeforeShape, BadSymbol, ShapeMissing, UnfinishedRow, ReadFailed}
use Rattle.pla.specs.declared.echo.Echo.{Echo}
use Rattle.pla.specs.declared.echo.Echo.TheVariants.{Keep, Eat}
use Rattle.pla.specs.declared.file_type.FileType.TheVariants.{Fd}
use Rattle.pla.specs.Fault.{fault_of, at_line, fault_in, is_past_limit, is_too_long, is_refused, is_inside_row, is_repeated, is_bad_number, is_name_too_early, is_wrong_count, is_type_too_late, is_bad_type, is_row_too_early, is_bad_symbol}
use Rattle.pla.specs.Echoes.{due}
use Rattle.pla.specs.Description.{Description, described}

-- lines, each with its line feed
abbrev pub text : List (List ℕ) → List ℕ
text lines = flat_map (λ line. line ++ 10 ∷ []) lines

-- the file has this fault
abbrev pub HasFault : List (List ℕ) → ℕ → ReadKind → Type 0
HasFault lines number which = fault_of format_limits End (text lines) ≡ Some (at_line number which)

-- the file has no fault, and describes this
abbrev pub Describes : List (List ℕ) → Description → Type 0
Describes lines d = (fault_of format_limits End (text lines) ≡ None)
    × (described format_limits End (text lines) ≡ d)

-- these lines are passed on
abbrev pub PassesOn : Echo → List (List ℕ) → List (List ℕ) → Type 0
PassesOn echo lines passed = due format_limits echo (Some End) (text lines) ≡ text passed

-- faults of keyword lines
pub record KeywordFaults : Type 0 where
  pub repeated : HasFault (codes ".i 2" ∷ codes ".i 3" ∷ []) 2 KeywordRepeated
  pub two_in_one_line : HasFault (codes ".i 2 .o 1" ∷ []) 1 BadNumber
  pub no_output : HasFault (codes ".o 0" ∷ []) 1 BadNumber
  pub refused : HasFault (codes ".mv 3 2 2" ∷ []) 1 RefusedKeyword
  pub early_names : HasFault (codes ".i 1" ∷ codes ".ilb a" ∷ []) 2 NamesBeforeShape
  pub few_names : HasFault (codes ".i 2" ∷ codes ".o 1" ∷ codes ".ilb a" ∷ []) 3 WrongNumberOfNames
  pub unknown_type : HasFault (codes ".type dr" ∷ []) 1 BadType
  pub late_type : HasFault
      (codes ".i 1" ∷ codes ".o 1" ∷ codes "1 1" ∷ codes ".type fr" ∷ []) 4 TypeAfterRow
  pub inside_row : HasFault
      (codes ".i 1" ∷ codes ".o 1" ∷ codes "1" ∷ codes ".foo" ∷ []) 4 KeywordInsideRow
  pub inside_row_before_repeated : HasFault
      (codes ".i 1" ∷ codes ".o 1" ∷ codes "1" ∷ codes ".i 1" ∷ []) 4 KeywordInsideRow

-- faults of row lines, and of the whole
pub record RowFaults : Type 0 where
  pub early_row : HasFault (codes ".i 1" ∷ codes "1 1" ∷ []) 2 RowBeforeShape
  pub no_symbol : HasFault (codes ".i 1" ∷ codes ".o 1" ∷ codes "? 1" ∷ []) 3 BadSymbol
  pub dot_in_row : HasFault (codes ".i 1" ∷ codes ".o 1" ∷ codes "1 1 .e" ∷ []) 3 BadSymbol
  -- the line of the byte, and not that in which the row began
  pub line_of_byte : HasFault
      (codes ".i 2" ∷ codes ".o 1" ∷ codes "1" ∷ codes "1" ∷ codes "x" ∷ []) 5 BadSymbol
  pub no_shape : HasFault (codes ".i 2" ∷ []) 1 ShapeMissing
  pub unfinished : HasFault (codes ".i 2" ∷ codes ".o 1" ∷ codes "11 1 0" ∷ []) 3 UnfinishedRow
  pub nothing : HasFault [] 0 ShapeMissing
  -- a line came, and a part of the next, before reading failed
  pub failed : fault_of format_limits Failed (text (codes ".i 1" ∷ []) ++ codes ".o ")
      ≡ Some (at_line 2 ReadFailed)
  -- a read that fails after the end of the description is no fault
  pub failed_behind_end : fault_of format_limits Failed
      (text (codes ".i 1" ∷ codes ".o 1" ∷ codes ".e" ∷ []) ++ codes "x") ≡ None

-- what is passed on
pub record Echoes : Type 0 where
  pub comments : PassesOn Keep (codes "# a" ∷ codes ".e # b" ∷ []) (codes "# a" ∷ codes "# b" ∷ [])
  pub comments_still_fault : HasFault (codes "# a" ∷ codes ".e # b" ∷ []) 2 ShapeMissing
  pub before_fault : PassesOn Keep
      (codes "# a" ∷ codes ".i 1" ∷ codes ".o 1" ∷ codes ".foo x" ∷ codes "# b" ∷ codes "z 1" ∷ [])
      (codes "# a" ∷ codes ".foo x" ∷ codes "# b" ∷ [])
  pub eaten : PassesOn Eat
      (codes "# a" ∷ codes ".i 1" ∷ codes ".o 1" ∷ codes ".foo x" ∷ codes "# b" ∷ codes "z 1" ∷ [])
      (codes ".foo x" ∷ [])
  pub hash_in_name : PassesOn Keep
      (codes ".i 1 # one" ∷ codes ".o 1" ∷ codes ".ob f#1" ∷ codes ".e" ∷ []) (codes "# one" ∷ [])

-- what is described
pub record Descriptions : Type 0 where
  pub names : Describes (codes ".i 1 # one" ∷ codes ".o 1" ∷ codes ".ob f#1" ∷ codes ".e" ∷ [])
      (record {
        size = record { inputs = 1; outputs = 1 };
        input_names = None;
        output_names = Some (codes "f#1" ∷ []);
        file_type = Fd;
        on = [];
        dc = [];
        off = [];
      })
  pub symbols : Describes
      (codes ".i 02" ∷ codes ".o 1" ∷ codes "2-4 11 1" ∷ codes ".e" ∷ codes "junk" ∷ [])
      (record {
        size = record { inputs = 2; outputs = 1 };
        input_names = None;
        output_names = None;
        file_type = Fd;
        on = record { symbols = Dash ∷ Dash ∷ []; outputs = true ∷ [] }
            ∷ record { symbols = One ∷ One ∷ []; outputs = true ∷ [] } ∷ [];
        dc = [];
        off = [];
      })

keyword_faults : KeywordFaults
unfolding fault_in is_past_limit is_too_long is_refused is_inside_row is_repeated
    is_bad_number is_name_too_early is_wrong_count is_type_too_late is_bad_type
    is_row_too_early is_bad_symbol
keyword_faults =
    record {
      repeated = refl;
      two_in_one_line = refl;
      no_output = refl;
      refused = refl;
      early_names = refl;
      few_names = refl;
      unknown_type = refl;
      late_type = refl;
      inside_row = refl;
      inside_row_before_repeated = refl;
    }

row_faults : RowFaults
unfolding fault_in is_past_limit is_too_long is_refused is_inside_row is_repeated
    is_bad_number is_name_too_early is_wrong_count is_type_too_late is_bad_type
    is_row_too_early is_bad_symbol
row_faults =
    record {
      early_row = refl;
      no_symbol = refl;
      dot_in_row = refl;
      line_of_byte = refl;
      no_shape = refl;
      unfinished = refl;
      nothing = refl;
      failed = refl;
      failed_behind_end = refl;
    }

echoes : Echoes
unfolding fault_in is_past_limit is_too_long is_refused is_inside_row is_repeated
    is_bad_number is_name_too_early is_wrong_count is_type_too_late is_bad_type
    is_row_too_early is_bad_symbol
echoes = record {
  comments = refl;
  comments_still_fault = refl;
  before_fault = refl;
  eaten = refl;
  hash_in_name = refl;
}

descriptions : Descriptions
unfolding fault_in is_past_limit is_too_long is_refused is_inside_row is_repeated
    is_bad_number is_name_too_early is_wrong_count is_type_too_late is_bad_type
    is_row_too_early is_bad_symbol
descriptions = record { names = (refl, refl); symbols = (refl, refl) }
