-- Rows that take several symbols at once.
use Rattle.std.proofs.Common.{◌≡◌, ◌≢◌, ℕ, ◌+◌, ◌<◌, ◌≤◌, Bool, true, false, cond, List, [], ◌∷◌, ◌++◌, length, take, drop, map, get_or, None, eq-eqb, refl, ap, sym, ◌∙◌, append_assoc, length-append, take-append-drop, arith, eqb, ltb, ne_eqb, inl, inr, rules, tests, codes}
use Rattle.std.specs.Prelude.{◌&&◌, option_to_list}
use Rattle.std.specs.List.{list_all}
use Rattle.std.proofs.lemmas.Bool.{cond-true, cond-false, cases_lt, lt-ltb, le-ltb}
use Rattle.std.proofs.lemmas.List.{drop-drop, drop_more, length-drop, length-take-le}
use Rattle.std.proofs.Math.Seq.{take-append_seam, drop-append-add}
use Rattle.pla.specs.declared.file_type.FileType.{FileType}
use Rattle.pla.specs.Lines.{is_row_blank}
use Rattle.pla.specs.Symbols.{is_byte_of, is_symbol_at, width}
use Rattle.pla.specs.declared.row_lines.Part.TheVariants.{On, DontCare, Off}
use Rattle.pla.specs.Lists.{cube_by, given_cube, input_symbol, part_symbols}
use Rattle.pla.specs.Reading.{RowsRead, with_row, with_symbol, with_run, read_code, BeginsRow, IsRun}
use Rattle.pla.proofs.RowsOf.{same_rows}

and_left : (a b : Bool) → (a && b) ≡ true → a ≡ true
and_left true b h = refl
and_left false b h = cc

and_right : (a b : Bool) → (a && b) ≡ true → b ≡ true
and_right true b h = h
and_right false b h = cc

-- a symbol is no blank
pub symbol_no_blank : (n place b : ℕ) → is_symbol_at n place b ≡ true → is_row_blank b ≡ false
symbol_no_blank n place b h = search (rules, tests)

-- one symbol
pub read_one : (type : FileType) (r : RowsRead) (b : ℕ) (rest : List ℕ) → is_symbol_at r.size.inputs (length r.pending) b ≡ true → read_code type r (b ∷ rest) ≡ read_code type (with_symbol type r b) rest
read_one type r b rest is =
    cond-false (is_row_blank b) (read_code type r rest) _ (symbol_no_blank r.size.inputs (length r.pending) b is)
    ∙ cond-true (is_symbol_at r.size.inputs (length r.pending) b) (read_code type (with_symbol type r b) rest) None is

-- whether a byte is a symbol of the inputs, or of what is behind them
abbrev symbol_by : Bool → ℕ → Bool
symbol_by t b = cond t (is_byte_of (codes "012-") b) (is_byte_of (codes "01234-~") b)

-- a place and the next are of one part
same_part : (n place count : ℕ) → 1 < count → (place < n → place + count ≤ n) → ltb (place + 1) n ≡ ltb place n
same_part n place count more part = elim (cases_lt place n) [
  | inl lt ↦ let room : place + count ≤ n = part lt in lt-ltb (place + 1) n (omega arith) ∙ sym (lt-ltb place n lt)
  | inr le ↦ le-ltb (place + 1) n (omega arith) ∙ sym (le-ltb place n le)
]

-- a run of symbols
pub read_run : (type : FileType) (r : RowsRead) (run rest : List ℕ) → 0 < length run → IsRun r run → read_code type r (run ++ rest) ≡ read_code type (with_run type r run) rest
read_run type r [] rest some is = absurd (omega arith)
read_run type r (x ∷ []) rest some is = read_one type r x rest (and_left (is_symbol_at r.size.inputs (length r.pending) x) true is.each)
read_run type r (x ∷ y ∷ ys) rest some is =
    let n = r.size.inputs in
    let place = length r.pending in
    let next : RowsRead = record r { pending = r.pending ++ x ∷ [] } in
    let count : length next.pending ≡ place + 1 = length-append r.pending (x ∷ []) in
    let room : place + length (x ∷ y ∷ ys) ≤ width r.size = is.row (omega arith) in
    let other : length next.pending ≢ width r.size = λ e. absurd (omega arith) in
    let kept : with_symbol type r x ≡ next = cond-false (eqb (length next.pending) (width r.size)) (with_row type r next.pending) next (ne_eqb _ _ other) in
    let here : ltb (length next.pending) n ≡ ltb place n = ap (λ k. ltb k n) count ∙ same_part n place (length (x ∷ y ∷ ys)) (omega arith) is.part in
    let later : IsRun next (y ∷ ys) = record {
      each = ap (λ t. list_all (λ b. symbol_by t b) (y ∷ ys)) here ∙ and_right (is_symbol_at n place x) (list_all (λ b. is_symbol_at n place b) (y ∷ ys)) is.each;
      part = λ lt. let all : place + length (x ∷ y ∷ ys) ≤ n = is.part (omega arith) in omega arith;
      row = λ more. omega arith;
    } in
    read_one type r x (y ∷ ys ++ rest) (and_left (is_symbol_at n place x) (list_all (λ b. is_symbol_at n place b) (y ∷ ys)) is.each)
    ∙ ap (λ s. read_code type s (y ∷ ys ++ rest)) kept
    ∙ read_run type next (y ∷ ys) rest (omega arith) later
    ∙ ap (λ p. read_code type (cond (eqb (length p) (width r.size)) (with_row type r p) (record r { pending = p })) rest) (append_assoc r.pending (x ∷ []) (y ∷ ys))

-- the run is the front of the code
pub read_front : (type : FileType) (r new : RowsRead) (code : List ℕ) (count : ℕ) → 0 < length (take count code) → IsRun r (take count code) → new ≡ with_run type r (take count code) → read_code type r code ≡ read_code type new (drop count code)
read_front type r new code count some is e =
    ap (read_code type r) (sym (take-append-drop count code)) ∙ read_run type r (take count code) (drop count code) some is ∙ ap (λ s. read_code type s (drop count code)) (sym e)

-- the cube of a row that is cut at its outputs
cut_cube : (n : ℕ) (letters ins outs row : List ℕ) → length ins ≡ n → row ≡ ins ++ outs → given_cube n letters row ≡ cube_by (map input_symbol ins) (map (is_byte_of letters) outs)
cut_cube n letters ins outs row len is =
    let front : take n row ≡ ins = ap (take n) is ∙ ap (λ k. take k (ins ++ outs)) (sym len) ∙ take-append_seam ins outs in
    let back : drop n row ≡ outs = ap (drop n) is ∙ ap (λ k. drop k (ins ++ outs)) (omega (arith, len)) ∙ drop-append-add ins outs 0 in
    ap (λ f. cube_by (map input_symbol f) (map (is_byte_of letters) (drop n row))) front ∙ ap (λ b. cube_by (map input_symbol ins) (map (is_byte_of letters) b)) back

-- a whole row in front of the code
pub read_row_front : (type : FileType) (r new : RowsRead) (code ins outs rest : List ℕ) → BeginsRow r code → ins ≡ take r.size.inputs code → outs ≡ take r.size.outputs (drop (r.size.inputs + 1) code)
    → rest ≡ drop (r.size.inputs + 1 + r.size.outputs) code → new.size ≡ r.size → new.pending ≡ r.pending
    → new.on ≡ r.on ++ option_to_list (cube_by (map input_symbol ins) (map (is_byte_of (part_symbols type On)) outs))
    → new.dc ≡ r.dc ++ option_to_list (cube_by (map input_symbol ins) (map (is_byte_of (part_symbols type DontCare)) outs))
    → new.off ≡ r.off ++ option_to_list (cube_by (map input_symbol ins) (map (is_byte_of (part_symbols type Off)) outs))
    → read_code type r code ≡ read_code type new rest
read_row_front type r new code ins outs rest begins in_is out_is rest_is size pending on dc off =
    let n = r.size.inputs in
    let m = r.size.outputs in
    let fits : n + m < length code = begins.fits in
    let behind = drop (n + 1) code in
    let ins0 = take n code in
    let outs0 = take m behind in
    let in_len : length ins0 ≡ n = length-take-le n code (omega arith) in
    let out_len : length outs0 ≡ m = length-take-le m behind (omega (arith, length-drop (n + 1) code)) in
    let fresh : length r.pending ≡ 0 = ap (λ p. length p) begins.none in
    let next : RowsRead = record r { pending = r.pending ++ ins0 } in
    let count : length next.pending ≡ n = length-append r.pending ins0 ∙ omega (arith, fresh, in_len) in
    let run : IsRun r ins0 = record {
      each = ap (λ k. list_all (λ b. is_symbol_at n k b) ins0) fresh ∙ begins.inputs;
      part = λ lt. omega (arith, fresh, in_len);
      row = λ more. omega (arith, fresh, in_len);
    } in
    let other : length next.pending ≢ width r.size = λ e. absurd (omega (arith, count, begins.wide)) in
    let kept : next ≡ with_run type r ins0 = sym (cond-false (eqb (length next.pending) (width r.size)) (with_row type r next.pending) next (ne_eqb _ _ other)) in
    let run2 : IsRun next outs0 = record {
      each = ap (λ k. list_all (λ b. is_symbol_at n k b) outs0) count ∙ begins.outputs;
      part = λ lt. absurd (omega (arith, count));
      row = λ more. omega (arith, count, out_len);
    } in
    let row = next.pending ++ outs0 in
    let whole : length row ≡ width r.size = length-append next.pending outs0 ∙ omega (arith, count, out_len) in
    let ended : with_run type next outs0 ≡ with_row type next row =
    cond-true (eqb (length row) (width r.size)) (with_row type next row) (record next { pending = row }) (eq-eqb (length row) (width r.size) whole) in
    let is_row : row ≡ ins ++ outs = ap (λ p. (p ++ ins0) ++ outs0) begins.none ∙ ap (λ f. f ++ outs0) (sym in_is) ∙ ap (λ b. ins ++ b) (sym out_is) in
    let ins_len : length ins ≡ n = ap (λ l. length l) in_is ∙ in_len in
    let cube : (letters : List ℕ) → cube_by (map input_symbol ins) (map (is_byte_of letters) outs) ≡ given_cube n letters row =
    λ letters. sym (cut_cube n letters ins outs row ins_len is_row) in
    let same : new ≡ with_row type next row =
    same_rows new (with_row type next row) size (pending ∙ begins.none) (on ∙ ap (λ c. r.on ++ option_to_list c) (cube (part_symbols type On)))
    (dc ∙ ap (λ c. r.dc ++ option_to_list c) (cube (part_symbols type DontCare))) (off ∙ ap (λ c. r.off ++ option_to_list c) (cube (part_symbols type Off))) in
    read_front type r next code n (omega (arith, in_len, begins.some)) run kept
    ∙ ap (read_code type next) (drop_more code n 0 (omega arith))
    ∙ cond-true (is_row_blank (get_or code n 0)) (read_code type next behind) _ begins.blank
    ∙ read_front type next new behind m (omega (arith, out_len, begins.wide)) run2 (same ∙ sym ended)
    ∙ ap (read_code type new) (drop-drop m (n + 1) code ∙ sym rest_is)
