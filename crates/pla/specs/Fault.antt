-- What is wrong with a file: the first line with a fault, and the first kind that stands on it.
use Rattle.std.specs.Prelude.{ℕ, ◌+◌, Bool, false, not, ◌&&◌, ◌||◌, List, [], ◌∷◌, ◌++◌, length, nat_lt, nat_le, ◌==◌, if◌then◌else◌, slice_get, Option, Some, None, is_some, is_none, codes, find, option_map, option_and_then}
use Rattle.std.specs.List.{list_any}
use Rattle.std.specs.Option.{option_or}
use Rattle.cube.specs.Limits.{Limits}
use Rattle.pla.specs.declared.ending.Ending.{Ending}
use Rattle.pla.specs.declared.ending.Ending.TheVariants.{End, Failed}
use Rattle.pla.specs.declared.fault.ReadKind.{ReadKind}
use Rattle.pla.specs.declared.fault.ReadKind.TheVariants.{TooManyLines, LineTooLong, RefusedKeyword, KeywordInsideRow, KeywordRepeated, BadNumber, NamesBeforeShape, WrongNumberOfNames, TypeAfterRow, BadType, RowBeforeShape, BadSymbol, ShapeMissing, UnfinishedRow, ReadFailed}
use Rattle.pla.specs.declared.fault.ReadFault.{ReadFault}
use Rattle.pla.specs.Lines.{is_empty, keyword, arguments, symbols, lines_of, ended_lines, open_rest}
use Rattle.pla.specs.Keywords.{is_one_of, refused_keywords, is_ending, has, number_within, type_by, looked_at}
use Rattle.pla.specs.Symbols.{any_bad}
use Rattle.pla.specs.Header.{Header, header_of, size_in}

-- ---- one test for each kind, on what the lines before gave and the line
-- Only lines without a fault came before, so what is given already is given a second time.

-- the line's number is past the limit
unfoldable pub is_past_limit : Limits → Header → List ℕ → Bool
is_past_limit limits h line = nat_le limits.lines h.lines

-- the line has more bytes than the limit
unfoldable pub is_too_long : Limits → Header → List ℕ → Bool
is_too_long limits h line = nat_lt limits.line_bytes (length line)

-- a keyword that this format leaves out
unfoldable pub is_refused : Header → List ℕ → Bool
is_refused h line = is_one_of refused_keywords (keyword line)

-- a keyword that doesn't end the description, while a row is unfinished
unfoldable pub is_inside_row : Header → List ℕ → Bool
is_inside_row h line =
    not (is_empty (keyword line)) && not (is_ending line) && nat_lt 0 h.unfinished

-- a setting that is given already
unfoldable pub is_repeated : Header → List ℕ → Bool
is_repeated h line =
    (has (codes ".i") line && is_some h.inputs) || (has (codes ".o") line && is_some h.outputs)
    || (has (codes ".ilb") line && is_some h.input_names)
    || (has (codes ".ob") line && is_some h.output_names)
    || (has (codes ".type") line && is_some h.file_type)

-- .i or .o without exactly one number in its range
unfoldable pub is_bad_number : Limits → Header → List ℕ → Bool
is_bad_number limits h line =
    (has (codes ".i") line && is_none (number_within 0 limits.inputs (arguments line)))
    || (has (codes ".o") line && is_none (number_within 1 limits.outputs (arguments line)))

-- names while the size isn't given
unfoldable pub is_name_too_early : Header → List ℕ → Bool
is_name_too_early h line =
    (has (codes ".ilb") line || has (codes ".ob") line) && is_none (size_in h)

-- whether there aren't as many as wanted
abbrev pub differs_count : ℕ → Option ℕ → Bool
differs_count count None = false
differs_count count (Some wanted) = not (count == wanted)

-- another number of names than of inputs or outputs
unfoldable pub is_wrong_count : Header → List ℕ → Bool
is_wrong_count h line =
    (has (codes ".ilb") line && differs_count (length (arguments line)) h.inputs)
    || (has (codes ".ob") line && differs_count (length (arguments line)) h.outputs)

-- a type after a symbol
unfoldable pub is_type_too_late : Header → List ℕ → Bool
is_type_too_late h line = has (codes ".type") line && h.has_symbols

-- .type without exactly one name of a type
unfoldable pub is_bad_type : Header → List ℕ → Bool
is_bad_type h line = has (codes ".type") line && is_none (type_by (arguments line))

-- a symbol while the size isn't given
unfoldable pub is_row_too_early : Header → List ℕ → Bool
is_row_too_early h line = not (is_empty (symbols line)) && is_none (size_in h)

-- a byte that isn't a symbol of its place in the row
unfoldable pub is_bad_symbol : Header → List ℕ → Bool
is_bad_symbol h line = any_bad (size_in h) h.unfinished (symbols line)

-- the kinds, in the order in which they are tested
abbrev pub tests : Limits → Header → List ℕ → List (Bool × ReadKind)
tests limits h line =
    (is_past_limit limits h line, TooManyLines)
    ∷ (is_too_long limits h line, LineTooLong)
    ∷ (is_refused h line, RefusedKeyword)
    ∷ (is_inside_row h line, KeywordInsideRow)
    ∷ (is_repeated h line, KeywordRepeated)
    ∷ (is_bad_number limits h line, BadNumber)
    ∷ (is_name_too_early h line, NamesBeforeShape)
    ∷ (is_wrong_count h line, WrongNumberOfNames)
    ∷ (is_type_too_late h line, TypeAfterRow)
    ∷ (is_bad_type h line, BadType)
    ∷ (is_row_too_early h line, RowBeforeShape)
    ∷ (is_bad_symbol h line, BadSymbol)
    ∷ []

-- the first kind that stands on a line
unfoldable pub fault_in : Limits → Header → List ℕ → Option ReadKind
fault_in limits h line = option_map (λ t. t.1) (find (λ t. t.0) (tests limits h line))

-- the first kind that stands on a line after these
abbrev pub fault_on : Limits → List (List ℕ) → List ℕ → Option ReadKind
fault_on limits before line = fault_in limits (header_of limits before) line

-- ---- the lines before the first with a fault

-- of the lines that follow these, the ones before the first that has a fault
abbrev pub sound_after : {K : Type 0} → (List (List ℕ) → List ℕ → Option K)
    → List (List ℕ) → List (List ℕ) → List (List ℕ)
sound_after fault before [] = []
sound_after fault before (line ∷ lines) = if is_some (fault before line) then []
    else line ∷ sound_after fault (before ++ line ∷ []) lines

-- the lines before the first with a fault
abbrev pub sound : Limits → List (List ℕ) → List (List ℕ)
sound limits lines = sound_after (fault_on limits) [] lines

-- a fault with its line
abbrev pub at_line : ℕ → ReadKind → ReadFault
at_line number which = record { line = number; kind = which }

-- the fault of the first line that has one
abbrev pub line_fault : Limits → List (List ℕ) → Option ReadFault
line_fault limits lines = let before = sound limits lines in
    option_and_then (λ line. option_map (at_line (length before + 1)) (fault_on limits before line))
    (slice_get lines (length before))

-- ---- once all lines are known

-- what is asked of the header at the end of the description
abbrev pub end_kind : Header → Option ReadKind
end_kind h = if is_none (size_in h) then Some ShapeMissing
    else if nat_lt 0 h.unfinished then Some UnfinishedRow else None

-- the fault of the whole, on its last line
abbrev pub end_fault : Limits → List (List ℕ) → Option ReadFault
end_fault limits lines = option_map (at_line (length lines)) (end_kind (header_of limits lines))

-- what is asked of a rest after so many lines, which no line feed ended
abbrev pub rest_kind : Limits → ℕ → List ℕ → Option ReadKind
rest_kind limits count rest = if not (is_empty rest) && nat_le limits.lines count
    then Some TooManyLines
    else if nat_lt limits.line_bytes (length rest) then Some LineTooLong else None

-- the fault of a rest, on the line after these
abbrev pub rest_fault : Limits → List (List ℕ) → List ℕ → Option ReadFault
rest_fault limits lines rest =
    option_map (at_line (length lines + 1)) (rest_kind limits (length lines) rest)

-- whether one of the lines ends the description
abbrev pub has_ending : List (List ℕ) → Bool
has_ending lines = list_any is_ending lines

-- the fault if no line has one
abbrev pub last_fault : Limits → Ending → List ℕ → List (List ℕ) → Option ReadFault
last_fault limits End rest lines = end_fault limits lines
last_fault limits Failed rest lines = if has_ending lines then end_fault limits lines
    else option_or (rest_fault limits lines rest) (Some (at_line (length lines + 1) ReadFailed))

-- the fault of what was delivered
abbrev pub fault_of : Limits → Ending → List ℕ → Option ReadFault
fault_of limits ending bytes = let lines = looked_at (lines_of ending bytes) in
    option_or (line_fault limits lines) (last_fault limits ending (open_rest bytes) lines)

-- the fault of a text whose ending is open
abbrev pub open_fault : Limits → List ℕ → Option ReadFault
open_fault limits text = let lines = looked_at (ended_lines text) in
    option_or (line_fault limits lines) (if has_ending lines then None
    else rest_fault limits lines (open_rest text))

-- ---- the tests of a line, by its kind

-- the kind of the first test that holds
abbrev pub first_kind : List (Bool × ReadKind) → Option ReadKind
first_kind listed = option_map (λ t. t.1) (find (λ t. t.0) listed)

-- what is asked of every line
abbrev pub length_tests : Limits → Header → List ℕ → List (Bool × ReadKind)
length_tests limits h line =
    (is_past_limit limits h line, TooManyLines)
    ∷ (is_too_long limits h line, LineTooLong)
    ∷ []

-- what only a keyword line can have
abbrev pub keyword_tests : Limits → Header → List ℕ → List (Bool × ReadKind)
keyword_tests limits h line =
    (is_refused h line, RefusedKeyword)
    ∷ (is_inside_row h line, KeywordInsideRow)
    ∷ (is_repeated h line, KeywordRepeated)
    ∷ (is_bad_number limits h line, BadNumber)
    ∷ (is_name_too_early h line, NamesBeforeShape)
    ∷ (is_wrong_count h line, WrongNumberOfNames)
    ∷ (is_type_too_late h line, TypeAfterRow)
    ∷ (is_bad_type h line, BadType)
    ∷ []

-- what only a row line can have
abbrev pub row_tests : Header → List ℕ → List (Bool × ReadKind)
row_tests h line =
    (is_row_too_early h line, RowBeforeShape)
    ∷ (is_bad_symbol h line, BadSymbol)
    ∷ []
