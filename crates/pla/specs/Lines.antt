-- A file as read: its lines, and what each holds.
use Rattle.std.specs.Prelude.{ℕ, ◌-◌, Bool, false, not, ◌&&◌, ◌||◌, List, [], ◌∷◌, ◌++◌, length, take, drop, filter, find, flat_map, ◌==◌, if◌then◌else◌, slice_index_or}
use Rattle.std.specs.List.{slice_split, list_any, before_first}
use Rattle.std.specs.Option.{option_map_or}
use Rattle.pla.specs.declared.ending.Ending.{Ending}
use Rattle.pla.specs.declared.ending.Ending.TheVariants.{End, Failed}

-- ---- lines

-- the bytes, cut at each line feed: no line feed ended the last piece
abbrev pub pieces : List ℕ → List (List ℕ)
pieces bytes = slice_split (λ b. b == 10) bytes

-- the lines that a line feed ended
abbrev pub ended_lines : List ℕ → List (List ℕ)
ended_lines bytes = take (length (pieces bytes) - 1) (pieces bytes)

-- what stands after the last line feed
abbrev pub open_rest : List ℕ → List ℕ
open_rest bytes = slice_index_or (pieces bytes) (length (pieces bytes) - 1) []

abbrev pub is_empty : List ℕ → Bool
is_empty bytes = length bytes == 0

-- the lines of a file: at the end of the input a last line needs no line feed
abbrev pub lines_of : Ending → List ℕ → List (List ℕ)
lines_of End bytes =
    ended_lines bytes ++ (if is_empty (open_rest bytes) then [] else open_rest bytes ∷ [])
lines_of Failed bytes = ended_lines bytes

-- ---- blanks and words

-- a space, a tab, a vertical tab, a form feed or a carriage return
abbrev pub is_blank : ℕ → Bool
is_blank b = list_any (λ blank. b == blank) (32 ∷ 9 ∷ 11 ∷ 12 ∷ 13 ∷ [])

-- in a row line a bar is a blank too
abbrev pub is_row_blank : ℕ → Bool
is_row_blank b = is_blank b || b == 124

-- the runs of bytes that aren't blanks
abbrev pub words : List ℕ → List (List ℕ)
words bytes = filter (λ word. not (is_empty word)) (slice_split is_blank bytes)

-- ---- code and comment

-- a keyword line's first byte that is no blank is a dot; any other line is a row line
abbrev pub is_keyword_line : List ℕ → Bool
is_keyword_line line = option_map_or (λ b. b == 46) (find (λ b. not (is_blank b)) line) false

-- a row line's code ends before the first #
abbrev pub row_code : List ℕ → List ℕ
row_code line = before_first (λ b. b == 35) line

-- a keyword line's code ends before the first # that follows a blank
abbrev pub keyword_code : List ℕ → List ℕ
keyword_code [] = []
keyword_code (b ∷ []) = b ∷ []
keyword_code (b ∷ c ∷ bytes) = if is_blank b && c == 35 then b ∷ []
    else b ∷ keyword_code (c ∷ bytes)

-- what stands before the comment
abbrev pub code : List ℕ → List ℕ
code line = if is_keyword_line line then keyword_code line else row_code line

-- from the # to the line's end, or nothing
abbrev pub comment : List ℕ → List ℕ
comment line = drop (length (code line)) line

-- ---- what a line holds

-- the bytes of a row line's code that aren't blanks, and none of a keyword line
abbrev pub symbols : List ℕ → List ℕ
symbols line = if is_keyword_line line then []
    else filter (λ b. not (is_row_blank b)) (row_code line)

-- the symbols of all lines, joined
abbrev pub all_symbols : List (List ℕ) → List ℕ
all_symbols lines = flat_map symbols lines

-- the keyword and the words after it, and nothing of a row line
abbrev pub keyword_words : List ℕ → List (List ℕ)
keyword_words line = if is_keyword_line line then words (keyword_code line) else []

-- the keyword with its dot: empty if the line is no keyword line
abbrev pub keyword : List ℕ → List ℕ
keyword line = slice_index_or (keyword_words line) 0 []

-- the words after the keyword
abbrev pub arguments : List ℕ → List (List ℕ)
arguments line = drop 1 (keyword_words line)
