-- The lines of a printed text, one after another.
use Rattle.std.proofs.Common.{◌≡◌, ℕ, suc, ◌+◌, ◌<◌, ◌≤◌, Bool, true, false, cond, List, [], ◌∷◌, ◌++◌, length, map, Option, Some, None, refl, ap, sym, ◌∙◌, subst, append_assoc, append-nil, arith, codes, decimal, is_some, nat_lt, zero-add, add-zero, ◌%◌, eq-eqb}
use Rattle.std.specs.Prelude.{◌||◌, ◌&&◌, not}
use Rattle.std.proofs.lemmas.Bool.{lt-leb}
use Rattle.std.proofs.Math.Nat.{zero-mod, mod_self}
use Rattle.cube.specs.Limits.{format_limits}
use Rattle.cube.specs.Size.{Size}
use Rattle.cube.specs.Cube.{Cube, IsCube}
use Rattle.pla.specs.declared.file_type.FileType.{FileType}
use Rattle.pla.specs.declared.file_type.FileType.TheVariants.{Fdr}
use Rattle.pla.specs.declared.row_lines.Part.{Part}
use Rattle.pla.specs.Lines.{is_empty, keyword_words, symbols}
use Rattle.pla.specs.Symbols.{width, left_over}
use Rattle.pla.specs.Header.{Header, header_of, size_in}
use Rattle.pla.specs.Fault.{fault_in, fault_on, sound, first_kind, row_tests, is_past_limit, is_too_long, is_refused, is_inside_row, is_repeated, is_bad_number, is_name_too_early, is_wrong_count, is_type_too_late, is_bad_type, is_row_too_early, is_bad_symbol}
use Rattle.pla.specs.HeadView.{keyword_fault, with_keyword}
use Rattle.pla.specs.ReadBack.{IsName}
use Rattle.pla.proofs.After.{after_line, header_more}
use Rattle.pla.proofs.ByKind.{keyword_line, row_line as row_line_fault, words_of_row}
use Rattle.pla.proofs.FirstFaults.{sound_more}
use Rattle.pla.proofs.Standing.{no_symbols_early}
use Rattle.pla.proofs.KeywordLines.{after_keyword}
use Rattle.pla.proofs.RowTaken.{wordless, after_wordless}
use Rattle.pla.proofs.KeywordTexts.{Says, Names, keyword_text, text_says, number_decimal}
use Rattle.pla.proofs.PrintedRows.{row_marks, row_line, line_is_row, none_bad, length-row_marks, length-row_line}
use Rattle.pla.proofs.PrintedLists.{Printed, line_in, AreCubes}

-- what lines have given, with no row unfinished
abbrev pub head : ℕ → Option ℕ → Option ℕ → Option (List (List ℕ)) → Option (List (List ℕ)) → Option FileType → Bool → Bool → Header
head count inputs outputs input_names output_names type some ended = record {
  lines = count;
  inputs = inputs;
  outputs = outputs;
  input_names = input_names;
  output_names = output_names;
  file_type = type;
  unfinished = 0;
  has_symbols = some;
  ended = ended;
}

-- lines have no fault, and give this
pub record Gives (lines : List (List ℕ)) (h : Header) : Type 0 where
  pub sane : sound format_limits lines ≡ lines
  pub header : header_of format_limits lines ≡ h

one_more : (lines : List (List ℕ)) (line : List ℕ) (h : Header) → Gives lines h → fault_in format_limits h line ≡ None → Gives (lines ++ line ∷ []) (after_line format_limits h line)
one_more lines line h g none = record {
  sane = sound_more (fault_on format_limits) [] lines (line ∷ []) g.sane ∙ ap (λ o. lines ++ cond (is_some o) [] (line ∷ [])) (ap (λ x. fault_in format_limits x line) g.header ∙ none);
  header = header_more format_limits lines line (no_symbols_early format_limits lines g.sane) ∙ ap (λ x. after_line format_limits x line) g.header;
}

not_past : (h : Header) (line : List ℕ) → h.lines < format_limits.lines → is_past_limit format_limits h line ≡ false
unfolding is_past_limit
not_past h line l = lt-leb format_limits.lines h.lines l

not_long : (h : Header) (line : List ℕ) → length line ≤ format_limits.line_bytes → is_too_long format_limits h line ≡ false
unfolding is_too_long
not_long h line l = lt-leb (suc format_limits.line_bytes) (length line) (omega arith)

nothing_left : (o : Option Size) → 0 ≡ left_over o 0
nothing_left None = refl
nothing_left (Some size) = sym (zero-mod (width size))

-- a keyword line without a fault
keyword_more : (lines : List (List ℕ)) (line word : List ℕ) (args : List (List ℕ)) (h : Header) → Gives lines h → Says line word args → h.ended ≡ false → h.unfinished ≡ 0
    → h.lines < format_limits.lines → length line ≤ format_limits.line_bytes → keyword_fault format_limits h line ≡ None → Gives (lines ++ line ∷ []) (record (with_keyword format_limits h line) { lines = h.lines + 1 })
keyword_more lines line word args h g says going whole many long fine =
    subst (Gives (lines ++ line ∷ [])) (after_keyword format_limits h line 0 says.is_keyword fine going (whole ∙ nothing_left (size_in h)))
    (one_more lines line h g (keyword_line format_limits h line (not_past h line many) (not_long h line long) says.is_keyword ∙ fine))

-- ---- each keyword

-- a keyword and what the header is before it and after it
pub record Sets (word : List ℕ) (args : List (List ℕ)) (old new : Header) : Type 0 where
  pub fine : (line : List ℕ) → keyword_words line ≡ word ∷ args → keyword_fault format_limits old line ≡ None
  pub set : (line : List ℕ) → keyword_words line ≡ word ∷ args → record (with_keyword format_limits old line) { lines = old.lines + 1 } ≡ new
  pub going : old.ended ≡ false
  pub whole : old.unfinished ≡ 0

pub inputs_set : (k n : ℕ) → n ≤ 1024 → Sets (codes ".i") (decimal n ∷ []) (head k None None None None None false false) (head (k + 1) (Some n) None None None None false false)
unfolding keyword_fault is_refused is_inside_row is_repeated is_bad_number is_name_too_early is_wrong_count is_type_too_late is_bad_type
inputs_set k n l = record {
  fine = λ line e. rw (e, number_decimal 0 1024 n (omega arith) l (omega arith)) refl;
  set = λ line e. rw (e, number_decimal 0 1024 n (omega arith) l (omega arith)) refl;
  going = refl;
  whole = refl;
}

pub outputs_set : (k n m : ℕ) → 1 ≤ m → m ≤ 1024 → Sets (codes ".o") (decimal m ∷ []) (head k (Some n) None None None None false false) (head (k + 1) (Some n) (Some m) None None None false false)
unfolding keyword_fault is_refused is_inside_row is_repeated is_bad_number is_name_too_early is_wrong_count is_type_too_late is_bad_type
outputs_set k n m some l = record {
  fine = λ line e. rw (e, number_decimal 1 1024 m some l (omega arith)) refl;
  set = λ line e. rw (e, number_decimal 1 1024 m some l (omega arith)) refl;
  going = refl;
  whole = refl;
}

pub input_names_set : (k : ℕ) (size : Size) (names : List (List ℕ)) → length names ≡ size.inputs
    → Sets (codes ".ilb") names (head k (Some size.inputs) (Some size.outputs) None None None false false) (head (k + 1) (Some size.inputs) (Some size.outputs) (Some names) None None false false)
unfolding keyword_fault is_refused is_inside_row is_repeated is_bad_number is_name_too_early is_wrong_count is_type_too_late is_bad_type
input_names_set k size names number = record {
  fine = λ line e. rw (e, eq-eqb (length names) size.inputs number) refl;
  set = λ line e. rw e refl;
  going = refl;
  whole = refl;
}

pub output_names_set : (k : ℕ) (size : Size) (inputs : Option (List (List ℕ))) (names : List (List ℕ)) → length names ≡ size.outputs
    → Sets (codes ".ob") names (head k (Some size.inputs) (Some size.outputs) inputs None None false false) (head (k + 1) (Some size.inputs) (Some size.outputs) inputs (Some names) None false false)
unfolding keyword_fault is_refused is_inside_row is_repeated is_bad_number is_name_too_early is_wrong_count is_type_too_late is_bad_type
output_names_set k size inputs names number = record {
  fine = λ line e. rw (e, eq-eqb (length names) size.outputs number) refl;
  set = λ line e. rw e refl;
  going = refl;
  whole = refl;
}

-- what all keywords have given
abbrev pub known : ℕ → Size → Option (List (List ℕ)) → Option (List (List ℕ)) → Bool → Bool → Header
known k size inputs outputs some ended = head k (Some size.inputs) (Some size.outputs) inputs outputs (Some Fdr) some ended

pub type_set : (k : ℕ) (size : Size) (inputs outputs : Option (List (List ℕ)))
    → Sets (codes ".type") (codes "fdr" ∷ []) (head k (Some size.inputs) (Some size.outputs) inputs outputs None false false) (known (k + 1) size inputs outputs false false)
unfolding keyword_fault is_refused is_inside_row is_repeated is_bad_number is_name_too_early is_wrong_count is_type_too_late is_bad_type
type_set k size inputs outputs = record { fine = λ line e. rw e refl; set = λ line e. rw e refl; going = refl; whole = refl }

pub count_set : (k : ℕ) (size : Size) (inputs outputs : Option (List (List ℕ))) (count : List ℕ) → Sets (codes ".p") (count ∷ []) (known k size inputs outputs false false) (known (k + 1) size inputs outputs false false)
unfolding keyword_fault is_refused is_inside_row is_repeated is_bad_number is_name_too_early is_wrong_count is_type_too_late is_bad_type
count_set k size inputs outputs count = record { fine = λ line e. rw e refl; set = λ line e. rw e refl; going = refl; whole = refl }

pub end_set : (k : ℕ) (size : Size) (inputs outputs : Option (List (List ℕ))) (some : Bool) → Sets (codes ".e") [] (known k size inputs outputs some false) (known (k + 1) size inputs outputs some true)
unfolding keyword_fault is_refused is_inside_row is_repeated is_bad_number is_name_too_early is_wrong_count is_type_too_late is_bad_type
end_set k size inputs outputs some = record { fine = λ line e. rw e refl; set = λ line e. rw e refl; going = refl; whole = refl }

-- the line of a keyword
pub by_keyword : (lines : List (List ℕ)) (word : List ℕ) (args : List (List ℕ)) (old new : Header) → Sets (46 ∷ word) args old new → IsName (46 ∷ word) → Names args → Gives lines old
    → old.lines < format_limits.lines → length (keyword_text (46 ∷ word) args) ≤ format_limits.line_bytes → Gives (lines ++ keyword_text (46 ∷ word) args ∷ []) new
by_keyword lines word args old new sets plain each g many long =
    let line = keyword_text (46 ∷ word) args in
    let says = text_says word args plain each in
    subst (Gives (lines ++ line ∷ [])) (sets.set line says.has_words) (keyword_more lines line (46 ∷ word) args old g says sets.going sets.whole many long (sets.fine line says.has_words))

-- ---- rows

and_false : (b : Bool) → (b && false) ≡ false
and_false true = refl
and_false false = refl

row_fine : (size : Size) (h : Header) (part : Part) (c : Cube) → size_in h ≡ Some size → h.unfinished ≡ 0 → IsCube size c → first_kind (row_tests h (row_line part c)) ≡ None
unfolding is_row_too_early is_bad_symbol
row_fine size h part c sized whole is =
    let row = line_is_row part c is.some_output in
    rw (sized, whole, row.has_marks, none_bad size part c is.has_size, and_false (not (is_empty (row_marks part c)))) refl

row_more : (lines : List (List ℕ)) (k : ℕ) (size : Size) (inputs outputs : Option (List (List ℕ))) (some : Bool) (part : Part) (c : Cube) → Gives lines (known k size inputs outputs some false)
    → k < format_limits.lines → width size + 1 ≤ format_limits.line_bytes → IsCube size c → Gives (lines ++ row_line part c ∷ []) (known (k + 1) size inputs outputs (some || nat_lt 0 (length (symbols (row_line part c)))) false)
row_more lines k size inputs outputs some part c g many narrow is =
    let line = row_line part c in
    let h = known k size inputs outputs some false in
    let row = line_is_row part c is.some_output in
    let short : length line ≤ format_limits.line_bytes = omega (arith, length-row_line size part c is.has_size) in
    let wide : length (symbols line) ≡ width size = ap length row.has_marks ∙ length-row_marks size part c is.has_size in
    let rest : left_over (Some size) (0 + length (symbols line)) ≡ 0 = ap (λ z. z % width size) (zero-add (length (symbols line)) ∙ wide) ∙ mod_self (width size) in
    subst (Gives (lines ++ line ∷ [])) (after_wordless format_limits h line (words_of_row line row.is_row) ∙ ap (λ (n : ℕ). record (wordless format_limits h (symbols line)) { unfinished = n }) rest)
    (one_more lines line h g (row_line_fault format_limits h line (not_past h line many) (not_long h line short) row.is_row ∙ row_fine size h part c refl refl is))

-- lines of rows
pub record GivesRows (lines : List (List ℕ)) (k : ℕ) (size : Size) (inputs outputs : Option (List (List ℕ))) : Type 0 where
  pub some : Bool
  pub gives : Gives lines (known k size inputs outputs some false)

pub rows_more : (rs : List Printed) (lines : List (List ℕ)) (k : ℕ) (size : Size) (inputs outputs : Option (List (List ℕ))) (some : Bool) → Gives lines (known k size inputs outputs some false)
    → k + length rs ≤ format_limits.lines → width size + 1 ≤ format_limits.line_bytes → AreCubes size rs → GivesRows (lines ++ map line_in rs) (k + length rs) size inputs outputs
rows_more [] lines k size inputs outputs some g many narrow each = record {
  some = some;
  gives = subst (λ ls. Gives ls (known (k + 0) size inputs outputs some false)) (sym (append-nil lines)) (subst (λ n. Gives lines (known n size inputs outputs some false)) (sym (add-zero k)) g);
}
rows_more (r ∷ rs) lines k size inputs outputs some g many narrow each =
    let next = row_more lines k size inputs outputs some r.0 r.1 g (omega arith) narrow each.0 in
    let rest = rows_more rs (lines ++ line_in r ∷ []) (k + 1) size inputs outputs (some || nat_lt 0 (length (symbols (line_in r)))) next (omega arith) narrow each.1 in
    let count : (k + 1) + length rs ≡ k + suc (length rs) = omega arith in record {
      some = rest.some;
      gives = subst (λ ls. Gives ls (known (k + suc (length rs)) size inputs outputs rest.some false)) (append_assoc lines (line_in r ∷ []) (map line_in rs))
          (subst (λ n. Gives ((lines ++ line_in r ∷ []) ++ map line_in rs) (known n size inputs outputs rest.some false)) count rest.gives);
    }
