-- What a header and rows stand for.
use Rattle.std.proofs.Common.{◌≡◌, ℕ, Bool, true, false, cond, not, List, [], ◌∷◌, ◌++◌, length, Option, Some, None, refl, ap, sym, ◌∙◌, append_assoc, append-nil, arith, option_map, eqb, ne_eqb}
use Rattle.std.specs.Prelude.{◌&&◌, ◌==◌, is_some, is_none}
use Rattle.cube.specs.Limits.{Limits}
use Rattle.cube.specs.Size.{Size}
use Rattle.pla.specs.declared.file_type.FileType.{FileType}
use Rattle.pla.specs.declared.fault.ReadKind.{ReadKind}
use Rattle.pla.specs.declared.row_lines.Part.TheVariants.{On, DontCare, Off}
use Rattle.pla.specs.Lines.{symbols, all_symbols}
use Rattle.pla.specs.Keywords.{size_given, is_ending}
use Rattle.pla.specs.Symbols.{left_over, rows, unfinished_row}
use Rattle.pla.specs.Lists.{given_list}
use Rattle.pla.specs.Header.{Header, header_of, size_in, type_in}
use Rattle.pla.specs.Fault.{fault_in, fault_on, sound, sound_after, tests, is_row_too_early}
use Rattle.pla.specs.Scan.{Parsed, parsed_of, StandsForLines}
use Rattle.pla.specs.Reading.{RowsRead, rows_of}
use Rattle.pla.specs.Parsing.{size_of_rows, unfinished_of, parsed_by, rows_for}
use Rattle.pla.proofs.After.{symbols_more, size_before}
use Rattle.pla.proofs.KeywordLines.{none_holds}
use Rattle.pla.proofs.RowsOf.{same_rows, length-unfinished_row}
use Rattle.pla.proofs.FirstFaults.{sound_more}
use Rattle.pla.proofs.LookedAt.{looked_more}

-- ---- no symbols before the size

row_in_time : (limits : Limits) (h : Header) (line : List ℕ) → fault_in limits h line ≡ None → is_row_too_early h line ≡ false
unfolding fault_in
row_in_time limits h line e = (none_holds (tests limits h line) e).1.1.1.1.1.1.1.1.1.1.0

no_symbols : (symbols : List ℕ) (b : Bool) → (not (length symbols == 0) && b) ≡ false → b ≡ true → symbols ≡ []
no_symbols [] b h k = refl
no_symbols (x ∷ xs) b h k = let some : eqb (length (x ∷ xs)) 0 ≡ false = ne_eqb (length (x ∷ xs)) 0 (λ e. omega arith) in cc

early_more : (limits : Limits) (before : List (List ℕ)) (line : List ℕ) → fault_on limits before line ≡ None → (size_given limits before ≡ None → all_symbols before ≡ [])
    → size_given limits (before ++ line ∷ []) ≡ None → all_symbols (before ++ line ∷ []) ≡ []
unfolding is_row_too_early
early_more limits before line e early none =
    let earlier = size_before limits before line none in
    let here : symbols line ≡ [] = no_symbols (symbols line) (is_none (size_given limits before)) (row_in_time limits (header_of limits before) line e) (ap is_none earlier) in
    symbols_more before line ∙ ap (λ s. s ++ symbols line) (early earlier) ∙ here

early_step : (limits : Limits) (before : List (List ℕ)) (line : List ℕ) (lines : List (List ℕ)) (o : Option ReadKind) → fault_on limits before line ≡ o
    → cond (is_some o) [] (line ∷ sound_after (fault_on limits) (before ++ line ∷ []) lines) ≡ line ∷ lines → size_given limits (before ++ line ∷ lines) ≡ None
    → (fault_on limits before line ≡ None → sound_after (fault_on limits) (before ++ line ∷ []) lines ≡ lines → size_given limits ((before ++ line ∷ []) ++ lines) ≡ None → all_symbols ((before ++ line ∷ []) ++ lines) ≡ [])
    → all_symbols (before ++ line ∷ lines) ≡ []
early_step limits before line lines (Some kind) e k none ih = cc
early_step limits before line lines None e k none ih =
    let rest : sound_after (fault_on limits) (before ++ line ∷ []) lines ≡ lines = cc in
    ap all_symbols (sym (append_assoc before (line ∷ []) lines)) ∙ ih e rest (ap (size_given limits) (append_assoc before (line ∷ []) lines) ∙ none)

early_after : (limits : Limits) (before lines : List (List ℕ)) → (size_given limits before ≡ None → all_symbols before ≡ []) → sound_after (fault_on limits) before lines ≡ lines
    → size_given limits (before ++ lines) ≡ None → all_symbols (before ++ lines) ≡ []
early_after limits before [] early s none = ap all_symbols (append-nil before) ∙ early (ap (size_given limits) (sym (append-nil before)) ∙ none)
early_after limits before (line ∷ lines) early s none =
    early_step limits before line lines (fault_on limits before line) refl s none
    (λ e rest none'. early_after limits (before ++ line ∷ []) lines (early_more limits before line e early) rest none')

-- while the size isn't given, lines without a fault have no symbols
pub no_symbols_early : (limits : Limits) (lines : List (List ℕ)) → sound limits lines ≡ lines → size_given limits lines ≡ None → all_symbols lines ≡ []
no_symbols_early limits lines s none = early_after limits [] lines (λ _. refl) s none

-- ---- the parts of what is given

parts : (h : Header) (s : List ℕ) (o : Option Size) →
    (let parsed : Parsed = record { header = h; pending = unfinished_row o s; on = given_list (type_in h) On o s; dc = given_list (type_in h) DontCare o s; off = given_list (type_in h) Off o s } in parsed)
    ≡ parsed_by h (option_map (λ size. rows_of (type_in h) size s) o)
parts h s None = refl
parts h s (Some size) = refl

-- what lines give is their header with the rows of their symbols
pub parsed_of_parts : (limits : Limits) (lines : List (List ℕ)) → parsed_of limits lines ≡ parsed_by (header_of limits lines) (rows_for (header_of limits lines) (all_symbols lines))
parsed_of_parts limits lines = parts (header_of limits lines) (all_symbols lines) (size_in (header_of limits lines))

-- rows that give the same lists under a header are those of the symbols
pub rows_known : (h : Header) (s : List ℕ) (rows : Option RowsRead) → size_of_rows rows ≡ size_in h
    → parsed_by h rows ≡ record { header = h; pending = unfinished_row (size_in h) s; on = given_list (type_in h) On (size_in h) s; dc = given_list (type_in h) DontCare (size_in h) s; off = given_list (type_in h) Off (size_in h) s }
    → rows ≡ rows_for h s
rows_known h s None tied e = ap (option_map (λ size. rows_of (type_in h) size s)) tied
rows_known h s (Some r) tied e =
    let t = type_in h in
    let same : r ≡ rows_of t r.size s = same_rows r (rows_of t r.size s) refl
    (ap (λ p. p.pending) e ∙ ap (λ o. unfinished_row o s) (sym tied))
    (ap (λ p. p.on) e ∙ ap (λ o. given_list t On o s) (sym tied))
    (ap (λ p. p.dc) e ∙ ap (λ o. given_list t DontCare o s) (sym tied))
    (ap (λ p. p.off) e ∙ ap (λ o. given_list t Off o s) (sym tied)) in
    ap (λ (x : RowsRead). Some x) same ∙ ap (option_map (λ size. rows_of t size s)) tied

count_of : (t : FileType) (s : List ℕ) (o : Option Size) → unfinished_of (option_map (λ size. rows_of t size s) o) ≡ left_over o (length s)
count_of t s None = refl
count_of t s (Some size) = length-unfinished_row size s

-- the symbols of an unfinished row are as many as the header says
pub unfinished_count : (limits : Limits) (lines : List (List ℕ)) → unfinished_of (rows_for (header_of limits lines) (all_symbols lines)) ≡ (header_of limits lines).unfinished
unfinished_count limits lines = count_of (type_in (header_of limits lines)) (all_symbols lines) (size_in (header_of limits lines))

-- a header, for each number of pending symbols, and rows that are what lines give
pub given_by : (limits : Limits) (lines : List (List ℕ)) (heads : ℕ → Header) (rows : Option RowsRead)
    → ((unfinished : ℕ) → heads unfinished ≡ record (header_of limits lines) { unfinished = unfinished }) → rows ≡ rows_for (header_of limits lines) (all_symbols lines)
    → parsed_by (heads (unfinished_of rows)) rows ≡ parsed_of limits lines
given_by limits lines heads rows are e =
    let h = header_of limits lines in
    let count : unfinished_of rows ≡ h.unfinished = ap unfinished_of e ∙ unfinished_count limits lines in
    ap (λ x. parsed_by x rows) (are (unfinished_of rows) ∙ ap (λ (n : ℕ). record h { unfinished = n }) count)
    ∙ ap (parsed_by h) e ∙ sym (parsed_of_parts limits lines)

-- ---- one more line

ends_here : (line : List ℕ) (b : Bool) → line ∷ cond b [] [] ≡ line ∷ []
ends_here line true = refl
ends_here line false = refl

-- one more line without a fault
pub stands_more : (limits : Limits) (before : List (List ℕ)) (line : List ℕ) (parsed parsed' : Parsed) → StandsForLines limits parsed before → parsed.header.ended ≡ false → fault_on limits before line ≡ None
    → parsed' ≡ parsed_of limits (before ++ line ∷ []) → StandsForLines limits parsed' (before ++ line ∷ [])
stands_more limits before line parsed parsed' st going none new = record {
  faultless = sound_more (fault_on limits) [] before (line ∷ []) st.faultless ∙ ap (λ o. before ++ cond (is_some o) [] (line ∷ [])) none;
  within = looked_more before (line ∷ []) (sym (ap (λ p. p.header.ended) st.given) ∙ going) ∙ ap (λ ls. before ++ ls) (ends_here line (is_ending line));
  given = new;
}
