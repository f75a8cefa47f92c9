-- What a reader stands for after a row line.
use Rattle.std.proofs.Common.{◌≡◌, ℕ, ◌+◌, ◌%◌, ◌<◌, ◌≤◌, Bool, true, false, cond, not, List, [], ◌∷◌, ◌++◌, length, Option, Some, None, refl, ap, sym, ◌∙◌, option_map, inl, arith}
use Rattle.std.specs.Prelude.{◌&&◌, ◌||◌, ◌==◌, nat_lt, is_none}
use Rattle.std.specs.Option.{option_or}
use Rattle.cube.specs.Limits.{Limits}
use Rattle.cube.specs.Size.{Size}
use Rattle.pla.specs.declared.file_type.FileType.{FileType}
use Rattle.pla.specs.declared.fault.ReadKind.{ReadKind}
use Rattle.pla.specs.declared.fault.ReadKind.TheVariants.{RowBeforeShape, BadSymbol}
use Rattle.pla.specs.declared.header.Head.{Head}
use Rattle.pla.specs.Lines.{is_keyword_line, all_symbols, symbols, row_code, is_row_blank, keyword_words}
use Rattle.pla.specs.Keywords.{size_by}
use Rattle.pla.specs.Symbols.{width, left_over, any_bad}
use Rattle.pla.specs.Header.{Header, header_of, size_in, type_in}
use Rattle.pla.specs.Fault.{fault_in, is_past_limit, is_too_long, is_row_too_early, is_bad_symbol, row_tests, first_kind}
use Rattle.pla.specs.Scan.{StandsForLines}
use Rattle.pla.specs.Reading.{RowsRead, rows_of}
use Rattle.pla.specs.HeadView.{seen}
use Rattle.pla.specs.Parsing.{unfinished_of, parsed_by, rows_for, read_row, row_kind, has_symbol, with_row_code}
use Rattle.pla.proofs.After.{after_line, header_more, symbols_more, or_none, same_header}
use Rattle.pla.proofs.ByKind.{row_line, words_of_row}
use Rattle.pla.proofs.RowLines.{marks, code_of}
use Rattle.pla.proofs.Standing.{no_symbols_early, given_by, stands_more}
use Rattle.pla.proofs.KeywordTaken.{Before, header_known, rows_before, rows_kept}

-- ---- symbols of a code

marks_step : (b : ℕ) (marks : List ℕ) (blank any : Bool) → nat_lt 0 (length marks) ≡ any → nat_lt 0 (length (cond (not blank) (b ∷ marks) marks)) ≡ (not blank || any)
marks_step b marks true any h = h
marks_step b marks false any h = grind arith

some_marks : (code : List ℕ) → nat_lt 0 (length (marks code)) ≡ has_symbol code
some_marks [] = refl
some_marks (b ∷ code) = marks_step b (marks code) (is_row_blank b) (has_symbol code) (some_marks code)

not_none : (s : List ℕ) → not (length s == 0) ≡ nat_lt 0 (length s)
not_none s = grind arith

symbols_of_row : (line : List ℕ) → is_keyword_line line ≡ false → symbols line ≡ marks (row_code line)
symbols_of_row line k = ap (λ t. cond t [] (marks (row_code line))) k

-- ---- a line without a keyword

or_false : (b : Bool) → (b || false) ≡ b
or_false true = refl
or_false false = refl

-- what a line without a keyword adds
abbrev pub wordless : Limits → Header → List ℕ → Header
wordless limits h marked = record h {
  lines = h.lines + 1;
  unfinished = left_over (size_in h) (h.unfinished + length marked);
  has_symbols = h.has_symbols || nat_lt 0 (length marked);
}

-- the header after a line without a keyword
pub after_wordless : (limits : Limits) (h : Header) (line : List ℕ) → keyword_words line ≡ [] → after_line limits h line ≡ wordless limits h (symbols line)
after_wordless limits h line none =
    let marked = symbols line in
    let plain : Header = record h {
      lines = h.lines + 1;
      inputs = option_or h.inputs None;
      outputs = option_or h.outputs None;
      input_names = option_or h.input_names None;
      output_names = option_or h.output_names None;
      file_type = option_or h.file_type None;
      unfinished = left_over (size_by (option_or h.inputs None) (option_or h.outputs None)) (h.unfinished + length marked);
      has_symbols = h.has_symbols || nat_lt 0 (length marked);
      ended = h.ended || false;
    } in
    rw none (same_header plain (wordless limits h marked)
    refl (or_none h.inputs) (or_none h.outputs) (or_none h.input_names) (or_none h.output_names) (or_none h.file_type)
    (ap (λ o. left_over (size_by o (option_or h.outputs None)) (h.unfinished + length marked)) (or_none h.inputs) ∙ ap (λ o. left_over (size_by h.inputs o) (h.unfinished + length marked)) (or_none h.outputs))
    refl (or_false h.ended))

-- ---- the faults of a row line

-- what stands, where a row is too early, or has a bad symbol
abbrev kinds : Bool → Bool → Option ReadKind
kinds early bad = first_kind ((early, RowBeforeShape) ∷ (bad, BadSymbol) ∷ [])

row_kinds : (h : Header) (line code : List ℕ) → symbols line ≡ marks code → first_kind (row_tests h line) ≡ kinds (has_symbol code && is_none (size_in h)) (any_bad (size_in h) h.unfinished (marks code))
unfolding is_row_too_early is_bad_symbol
row_kinds h line code e =
    ap (λ s. kinds (not (length s == 0) && is_none (size_in h)) (any_bad (size_in h) h.unfinished s)) e
    ∙ ap (λ b. kinds (b && is_none (size_in h)) (any_bad (size_in h) h.unfinished (marks code))) (not_none (marks code) ∙ some_marks code)

none_ok : (b : Bool) (rows' : Option RowsRead) → (let o : Option (Option RowsRead) = cond b None (Some None) in o) ≡ Some rows' → (kinds (b && true) false ≡ None) × (rows' ≡ None)
none_ok true rows' e = cc
none_ok false rows' e = (refl, cc)

some_ok : (c b : Bool) (x : RowsRead) (rows' : Option RowsRead) → option_map (λ (r : RowsRead). Some r) (cond b None (Some x)) ≡ Some rows' → (kinds (c && false) b ≡ None) × (rows' ≡ Some x)
some_ok c true x rows' e = cc
some_ok true false x rows' e = (refl, cc)
some_ok false false x rows' e = (refl, cc)

-- rows that were read
row_ok : (t : FileType) (s code : List ℕ) (o : Option Size) (rows' : Option RowsRead) → ((size : Size) → o ≡ Some size → 0 < width size) → read_row t (option_map (λ size. rows_of t size s) o) code ≡ Some rows'
    → (kinds (has_symbol code && is_none o) (any_bad o (left_over o (length s)) (marks code)) ≡ None) × (rows' ≡ option_map (λ size. rows_of t size (s ++ marks code)) o)
row_ok t s code None rows' wide e = none_ok (has_symbol code) rows' e
row_ok t s code (Some size) rows' wide e =
    some_ok (has_symbol code) (any_bad (Some size) (length s % width size) (marks code)) (rows_of t size (s ++ marks code)) rows'
    (ap (option_map (λ (r : RowsRead). Some r)) (sym (code_of t size s code (wide size refl))) ∙ e)

none_bad : (b : Bool) → (let o : Option (Option RowsRead) = cond b None (Some None) in o) ≡ None → kinds (b && true) false ≡ Some RowBeforeShape
none_bad true e = refl
none_bad false e = cc

some_bad : (c b : Bool) (x : RowsRead) → option_map (λ (r : RowsRead). Some r) (cond b None (Some x)) ≡ None → kinds (c && false) b ≡ Some BadSymbol
some_bad true true x e = refl
some_bad false true x e = refl
some_bad c false x e = cc

-- rows that were refused
row_bad : (t : FileType) (s code : List ℕ) (o : Option Size) → ((size : Size) → o ≡ Some size → 0 < width size) → read_row t (option_map (λ size. rows_of t size s) o) code ≡ None
    → kinds (has_symbol code && is_none o) (any_bad o (left_over o (length s)) (marks code)) ≡ Some (row_kind (option_map (λ size. rows_of t size s) o))
row_bad t s code None wide e = none_bad (has_symbol code) e
row_bad t s code (Some size) wide e =
    some_bad (has_symbol code) (any_bad (Some size) (length s % width size) (marks code)) (rows_of t size (s ++ marks code))
    (ap (option_map (λ (r : RowsRead). Some r)) (sym (code_of t size s code (wide size refl))) ∙ e)

outputs_given : (i o : Option ℕ) (size : Size) → size_by i o ≡ Some size → o ≡ Some size.outputs
outputs_given None o size e = cc
outputs_given (Some n) None size e = cc
outputs_given (Some n) (Some m) size e = ap (option_map (λ (z : Size). z.outputs)) e

-- a size that is given has an output
wide_by : (head : Head) (unfinished : ℕ) (size : Size) → size_in (seen head unfinished) ≡ Some size → 0 < width size
wide_by head unfinished size e =
    let one : 1 ≤ size.outputs = (head.outputs_fit size.outputs (outputs_given head.inputs head.outputs size e)).0 in
    omega (arith, one)

-- ---- after the line

-- the fault of a row line that was refused
pub row_refused : (limits : Limits) (before : List (List ℕ)) (line : List ℕ) (head : Head) (rows : Option RowsRead) → Before limits before head rows → is_keyword_line line ≡ false
    → is_past_limit limits (seen head (unfinished_of rows)) line ≡ false → is_too_long limits (seen head (unfinished_of rows)) line ≡ false
    → read_row (type_in (seen head 0)) rows (row_code line) ≡ None → fault_in limits (header_of limits before) line ≡ Some (row_kind rows)
row_refused limits before line head rows b k past long e =
    let u = unfinished_of rows in
    let h = header_of limits before in
    let s = all_symbols before in
    let code = row_code line in
    let hd : seen head u ≡ h = header_known limits before head rows b in
    let known = rows_before limits before head rows b in
    let wide : (size : Size) → size_in h ≡ Some size → 0 < width size = λ size z. wide_by head u size (ap size_in hd ∙ z) in
    let read : read_row (type_in h) (rows_for h s) code ≡ None = sym (ap (λ x. read_row (type_in x) rows code) hd ∙ ap (λ r. read_row (type_in h) r code) known) ∙ e in
    sym (ap (λ x. fault_in limits x line) hd) ∙ row_line limits (seen head u) line past long k ∙ ap (λ x. first_kind (row_tests x line)) hd
    ∙ row_kinds h line code (symbols_of_row line k) ∙ row_bad (type_in h) s code (size_in h) wide read ∙ ap (λ r. Some (row_kind r)) (sym known)

-- what stands after a row line without a fault
pub row_taken : (limits : Limits) (before : List (List ℕ)) (line : List ℕ) (head : Head) (heads : ℕ → Header) (rows rows' : Option RowsRead) → Before limits before head rows → is_keyword_line line ≡ false
    → is_past_limit limits (seen head (unfinished_of rows)) line ≡ false → is_too_long limits (seen head (unfinished_of rows)) line ≡ false
    → read_row (type_in (seen head 0)) rows (row_code line) ≡ Some rows'
    → ((unfinished : ℕ) → heads unfinished ≡ record (with_row_code (seen head (unfinished_of rows)) (row_code line)) { lines = head.lines + 1; unfinished = unfinished })
    → StandsForLines limits (parsed_by (heads (unfinished_of rows')) rows') (before ++ line ∷ [])
row_taken limits before line head heads rows rows' b k past long e after =
    let u = unfinished_of rows in
    let h = header_of limits before in
    let s = all_symbols before in
    let code = row_code line in
    let lines = before ++ line ∷ [] in
    let hd : seen head u ≡ h = header_known limits before head rows b in
    let known = rows_before limits before head rows b in
    let early = no_symbols_early limits before b.stands.faultless in
    let sy = symbols_of_row line k in
    let wide : (size : Size) → size_in h ≡ Some size → 0 < width size = λ size z. wide_by head u size (ap size_in hd ∙ z) in
    let read : read_row (type_in h) (rows_for h s) code ≡ Some rows' = sym (ap (λ x. read_row (type_in x) rows code) hd ∙ ap (λ r. read_row (type_in h) r code) known) ∙ e in
    let done = row_ok (type_in h) s code (size_in h) rows' wide read in
    let there : header_of limits lines ≡ wordless limits h (symbols line) = header_more limits before line early ∙ after_wordless limits h line (words_of_row line k) in
    let some : has_symbol code ≡ nat_lt 0 (length (symbols line)) = sym (ap (λ z. nat_lt 0 (length z)) sy ∙ some_marks code) in
    let are : (unfinished : ℕ) → heads unfinished ≡ record (header_of limits lines) { unfinished = unfinished } = λ v.
    after v ∙ ap (λ (x : Header). record (with_row_code x code) { lines = x.lines + 1; unfinished = v }) hd ∙ ap (λ (z : Bool). record h { lines = h.lines + 1; has_symbols = h.has_symbols || z; unfinished = v }) some
    ∙ sym (ap (λ (x : Header). record x { unfinished = v }) there) in
    let now : rows' ≡ rows_for (header_of limits lines) (all_symbols lines) =
    done.1 ∙ rows_kept h (header_of limits lines) (s ++ marks code) (ap size_in there) (inl (ap type_in there))
    ∙ ap (rows_for (header_of limits lines)) (sym (symbols_more before line ∙ ap (λ z. s ++ z) sy)) in
    stands_more limits before line (parsed_by (seen head u) rows) _ b.stands b.going
    (sym (ap (λ x. fault_in limits x line) hd) ∙ row_line limits (seen head u) line past long k ∙ ap (λ x. first_kind (row_tests x line)) hd ∙ row_kinds h line code sy ∙ done.0)
    (given_by limits lines heads rows' are now)
