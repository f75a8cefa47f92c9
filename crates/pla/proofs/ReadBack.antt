-- Printed texts are read again as what they were printed of.
use Rattle.std.proofs.Common.{◌≡◌, ℕ, ◌+◌, ◌<◌, ◌≤◌, Bool, true, false, cond, List, [], ◌∷◌, ◌++◌, length, map, flat_map, sum_by, Option, Some, None, refl, ap, sym, ◌∙◌, subst, append_assoc, append-nil, length-append, arith, codes, decimal, count_by, length-take-le, ◌-◌, nat_lt, lt-ltb, add-zero, option_map}
use Rattle.std.specs.Prelude.{◌==◌}
use Rattle.std.specs.List.{concat}
use Rattle.std.specs.Option.{ForSome, option_or}
use Rattle.std.proofs.lemmas.List.{length-map}
use Rattle.std.proofs.lemmas.List.Sums.{sum_by-append}
use Rattle.std.proofs.lemmas.List.Splits.{length-slice_split}
use Rattle.std.proofs.lemmas.List.Concat.{flat_map-append}
use Rattle.cube.specs.Limits.{format_limits, IsWithinLimits}
use Rattle.cube.specs.Size.{Size}
use Rattle.cube.specs.Cube.{Cube}
use Rattle.pla.specs.declared.file_type.FileType.TheVariants.{Fdr}
use Rattle.pla.specs.declared.out_type.OutType.TheVariants.{Fdr as out_fdr}
use Rattle.pla.specs.declared.row_lines.Part.TheVariants.{On, DontCare, Off}
use Rattle.pla.specs.Lines.{symbols, all_symbols, pieces, ended_lines}
use Rattle.pla.specs.Keywords.{looked_at}
use Rattle.pla.specs.Symbols.{width}
use Rattle.pla.specs.Fault.{line_fault, end_fault, end_kind, has_ending, at_line}
use Rattle.pla.specs.Description.{Description, description_of}
use Rattle.pla.specs.Sets.{SetLists}
use Rattle.pla.specs.Text.{names_text, rows_text, sections, text_of}
use Rattle.pla.specs.ReadBack.{IsName, AreNames, IsReadable, TextsAreReadBack}
use Rattle.pla.proofs.After.{symbols_more}
use Rattle.pla.proofs.Cuts.{Cut, fed, NoFeeds, ended_cut}
use Rattle.pla.proofs.LookedAt.{looked_more}
use Rattle.pla.proofs.FirstFaults.{no_fault_yet}
use Rattle.pla.proofs.Settled.{Ended, ended_fixed}
use Rattle.pla.proofs.WiderLimits.{description_by}
use Rattle.pla.proofs.KeywordTexts.{Names, names_of, keyword_text, text_says, known_name, decimal_name, short_decimal}
use Rattle.pla.proofs.PrintedLists.{line_in, marks_in, all_printed, AreCubes, all_are_cubes, length-all_printed, lists_fed, fed-append, rows_unfed, rows_symbols, list_back}
use Rattle.pla.proofs.PrintedSteps.{head, known, Gives, GivesRows, by_keyword, inputs_set, outputs_set, input_names_set, output_names_set, type_set, count_set, end_set, rows_more}

-- ---- the lines

-- the line of names, where they are given
abbrev names_lines : List ℕ → Option (List (List ℕ)) → List (List ℕ)
names_lines keyword None = []
names_lines keyword (Some names) = keyword_text keyword names ∷ []

-- the lines of the shape
abbrev shape_lines : ℕ → ℕ → List (List ℕ)
shape_lines n m = keyword_text (codes ".i") (decimal n ∷ []) ∷ keyword_text (codes ".o") (decimal m ∷ []) ∷ []

-- a keyword with one word
single : (keyword a : List ℕ) → keyword ++ 32 ∷ a ≡ keyword_text keyword (a ∷ [])
single keyword a = ap (λ t. keyword ++ t) (sym (append-nil (32 ∷ a)))

head_text : (a b : List ℕ) → codes ".i " ++ a ++ codes "\n.o " ++ b ++ codes "\n" ≡ fed (keyword_text (codes ".i") (a ∷ []) ∷ keyword_text (codes ".o") (b ∷ []) ∷ [])
head_text a b =
    let front = codes ".i " ++ a in
    let back = codes ".o " ++ b in
    append_assoc (front ++ codes "\n.o ") b (10 ∷ []) ∙ append_assoc front (codes "\n.o ") (b ++ 10 ∷ [])
    ∙ sym (append_assoc front (10 ∷ []) (back ++ 10 ∷ [])) ∙ ap (λ t. (front ++ 10 ∷ []) ++ t) (sym (append-nil (back ++ 10 ∷ [])))
    ∙ ap (λ l. fed (l ∷ back ∷ [])) (single (codes ".i") a) ∙ ap (λ l. fed (keyword_text (codes ".i") (a ∷ []) ∷ l ∷ [])) (single (codes ".o") b)

names_fed : (keyword : List ℕ) (names : Option (List (List ℕ))) → names_text keyword names ≡ fed (names_lines keyword names)
names_fed keyword None = refl
names_fed keyword (Some names) = sym (append-nil (keyword_text keyword names ++ 10 ∷ []))

count_text : (front a : List ℕ) → front ++ codes ".p " ++ a ++ codes "\n" ≡ front ++ fed (keyword_text (codes ".p") (a ∷ []) ∷ [])
count_text front a =
    append_assoc (front ++ codes ".p ") a (10 ∷ []) ∙ append_assoc front (codes ".p ") (a ++ 10 ∷ [])
    ∙ ap (λ t. front ++ t) (sym (append-nil (codes ".p " ++ a ++ 10 ∷ [])) ∙ ap (λ l. fed (l ∷ [])) (single (codes ".p") a))

-- ---- names

names_short : (keyword : List ℕ) (count : ℕ) (names : List (List ℕ)) → AreNames keyword count names → length (keyword_text keyword names) ≤ format_limits.line_bytes
names_short keyword count names are = omega (arith, are.fits, length-append (keyword_text keyword names) (10 ∷ []))

input_names_given : (lines : List (List ℕ)) (k : ℕ) (size : Size) (names : Option (List (List ℕ))) → ForSome names (AreNames (codes ".ilb") size.inputs)
    → Gives lines (head k (Some size.inputs) (Some size.outputs) None None None false false) → k + length (names_lines (codes ".ilb") names) ≤ format_limits.lines
    → Gives (lines ++ names_lines (codes ".ilb") names) (head (k + length (names_lines (codes ".ilb") names)) (Some size.inputs) (Some size.outputs) names None None false false)
input_names_given lines k size None are g many =
    subst (λ ls. Gives ls (head (k + 0) (Some size.inputs) (Some size.outputs) None None None false false)) (sym (append-nil lines))
    (subst (λ n. Gives lines (head n (Some size.inputs) (Some size.outputs) None None None false false)) (sym (add-zero k)) g)
input_names_given lines k size (Some names) are g many =
    let known_names = are names refl in
    by_keyword lines (codes "ilb") names (head k (Some size.inputs) (Some size.outputs) None None None false false) (head (k + 1) (Some size.inputs) (Some size.outputs) (Some names) None None false false)
    (input_names_set k size names known_names.number) (known_name (codes ".ilb") (omega arith) refl refl refl) (names_of names known_names.each) g (omega arith) (names_short (codes ".ilb") size.inputs names known_names)

output_names_given : (lines : List (List ℕ)) (k : ℕ) (size : Size) (inputs names : Option (List (List ℕ))) → ForSome names (AreNames (codes ".ob") size.outputs)
    → Gives lines (head k (Some size.inputs) (Some size.outputs) inputs None None false false) → k + length (names_lines (codes ".ob") names) ≤ format_limits.lines
    → Gives (lines ++ names_lines (codes ".ob") names) (head (k + length (names_lines (codes ".ob") names)) (Some size.inputs) (Some size.outputs) inputs names None false false)
output_names_given lines k size inputs None are g many =
    subst (λ ls. Gives ls (head (k + 0) (Some size.inputs) (Some size.outputs) inputs None None false false)) (sym (append-nil lines))
    (subst (λ n. Gives lines (head n (Some size.inputs) (Some size.outputs) inputs None None false false)) (sym (add-zero k)) g)
output_names_given lines k size inputs (Some names) are g many =
    let known_names = are names refl in
    by_keyword lines (codes "ob") names (head k (Some size.inputs) (Some size.outputs) inputs None None false false) (head (k + 1) (Some size.inputs) (Some size.outputs) inputs (Some names) None false false)
    (output_names_set k size inputs names known_names.number) (known_name (codes ".ob") (omega arith) refl refl refl) (names_of names known_names.each) g (omega arith) (names_short (codes ".ob") size.outputs names known_names)

names_unfed : (word : List ℕ) (count : ℕ) (names : Option (List (List ℕ))) → IsName (46 ∷ word) → ForSome names (AreNames (46 ∷ word) count) → NoFeeds (names_lines (46 ∷ word) names)
names_unfed word count None plain are = tt
names_unfed word count (Some names) plain are = ((text_says word names plain (names_of names (are names refl).each)).no_feed, tt)

unfed_more : (a b : List (List ℕ)) → NoFeeds a → NoFeeds b → NoFeeds (a ++ b)
unfed_more [] b h k = k
unfed_more (line ∷ a) b h k = (h.0, unfed_more a b h.1 k)

-- ---- the whole

-- the lines before the rows, the rows, and the end
abbrev front_lines : Description → ℕ → List (List ℕ)
front_lines d count = (((shape_lines d.size.inputs d.size.outputs ++ names_lines (codes ".ilb") d.input_names) ++ names_lines (codes ".ob") d.output_names)
    ++ keyword_text (codes ".type") (codes "fdr" ∷ []) ∷ []) ++ keyword_text (codes ".p") (decimal count ∷ []) ∷ []

abbrev row_lines : SetLists → List (List ℕ)
row_lines lists = map line_in (all_printed lists)

abbrev end_line : List ℕ
end_line = keyword_text (codes ".e") []

-- how many rows there are
abbrev row_number : SetLists → ℕ
row_number lists = sum_by (λ section. length section.1) (sections out_fdr lists)

abbrev all_lines : Description → SetLists → List (List ℕ)
all_lines d lists = (front_lines d (row_number lists) ++ row_lines lists) ++ end_line ∷ []

joined : (a b c : List (List ℕ)) (text : List ℕ) → text ≡ fed a → fed b ≡ fed c → text ++ fed b ≡ fed (a ++ c)
joined a b c text e f = ap (λ t. t ++ fed b) e ∙ ap (λ t. fed a ++ t) f ∙ sym (fed-append a c)

text_is_fed : (d : Description) (lists : SetLists) → text_of d out_fdr lists ≡ fed (all_lines d lists)
text_is_fed d lists =
    let count = decimal (row_number lists) in
    let shape = shape_lines d.size.inputs d.size.outputs in
    let inputs = names_lines (codes ".ilb") d.input_names in
    let outputs = names_lines (codes ".ob") d.output_names in
    let type = keyword_text (codes ".type") (codes "fdr" ∷ []) ∷ [] in
    let rows = flat_map (rows_text 126) (sections out_fdr lists) in
    let t1 : codes ".i " ++ decimal d.size.inputs ++ codes "\n.o " ++ decimal d.size.outputs ++ codes "\n" ++ names_text (codes ".ilb") d.input_names ≡ fed (shape ++ inputs) =
    ap (λ t. t ++ names_text (codes ".ilb") d.input_names) (head_text (decimal d.size.inputs) (decimal d.size.outputs)) ∙ ap (λ t. fed shape ++ t) (names_fed (codes ".ilb") d.input_names) ∙ sym (fed-append shape inputs) in
    let t2 = ap (λ t. t ++ names_text (codes ".ob") d.output_names ++ codes ".type fdr\n" ++ codes ".p " ++ count ++ codes "\n" ++ rows ++ codes ".e\n") t1 in
    let t3 = ap (λ t. fed (shape ++ inputs) ++ t ++ codes ".type fdr\n" ++ codes ".p " ++ count ++ codes "\n" ++ rows ++ codes ".e\n") (names_fed (codes ".ob") d.output_names) in
    let t4 = ap (λ t. t ++ codes ".type fdr\n" ++ codes ".p " ++ count ++ codes "\n" ++ rows ++ codes ".e\n") (sym (fed-append (shape ++ inputs) outputs)) in
    let t5 = ap (λ t. t ++ codes ".p " ++ count ++ codes "\n" ++ rows ++ codes ".e\n") (sym (fed-append ((shape ++ inputs) ++ outputs) type)) in
    let t6 = ap (λ t. t ++ rows ++ codes ".e\n") (count_text (fed (((shape ++ inputs) ++ outputs) ++ type)) count ∙ sym (fed-append (((shape ++ inputs) ++ outputs) ++ type) (keyword_text (codes ".p") (count ∷ []) ∷ []))) in
    let t7 = ap (λ t. fed (front_lines d (row_number lists)) ++ t ++ codes ".e\n") (lists_fed lists) in
    let t8 = ap (λ t. t ++ codes ".e\n") (sym (fed-append (front_lines d (row_number lists)) (row_lines lists))) in
    t2 ∙ t3 ∙ t4 ∙ t5 ∙ t6 ∙ t7 ∙ t8 ∙ sym (fed-append (front_lines d (row_number lists) ++ row_lines lists) (end_line ∷ []))

-- ---- how many lines there are

feeds_in : (lines : List (List ℕ)) → length lines ≤ count_by (λ b. b == 10) (fed lines)
feeds_in [] = omega arith
feeds_in (line ∷ lines) =
    omega (arith, feeds_in lines, sum_by-append (λ b. cond (b == 10) 1 0) (line ++ 10 ∷ []) (fed lines), sum_by-append (λ b. cond (b == 10) 1 0) line (10 ∷ []))

length-ended : (text : List ℕ) → length (ended_lines text) ≡ count_by (λ b. b == 10) text
length-ended text =
    let pieces_count = length-slice_split (λ b. b == 10) text in
    omega (arith, pieces_count, length-take-le (length (pieces text) - 1) (pieces text) (omega arith))

-- the text has as many lines as it seems
few_lines : (d : Description) (lists : SetLists) → IsReadable d lists → length (all_lines d lists) ≤ format_limits.lines
few_lines d lists readable =
    omega (arith, readable.lines, length-ended (text_of d out_fdr lists), ap (count_by (λ b. b == 10)) (text_is_fed d lists), feeds_in (all_lines d lists))

few_rows : (d : Description) (lists : SetLists) → IsReadable d lists → row_number lists ≤ format_limits.lines
few_rows d lists readable =
    omega (
      arith,
      few_lines d lists readable,
      length-append (front_lines d (row_number lists) ++ row_lines lists) (end_line ∷ []),
      length-append (front_lines d (row_number lists)) (row_lines lists),
      length-map (all_printed lists) line_in,
      length-all_printed lists,
    )

-- ---- what the lines give

all_unfed : (d : Description) (lists : SetLists) → IsReadable d lists → NoFeeds (all_lines d lists)
all_unfed d lists readable =
    let size = readable.size in
    let inputs : Names (decimal d.size.inputs ∷ []) = (decimal_name d.size.inputs (omega (arith, size.0)), tt) in
    let outputs : Names (decimal d.size.outputs ∷ []) = (decimal_name d.size.outputs (omega (arith, size.2)), tt) in
    let count : Names (decimal (row_number lists) ∷ []) = (decimal_name (row_number lists) (omega (arith, few_rows d lists readable)), tt) in
    let dot_i = known_name (codes ".i") (omega arith) refl refl refl in
    let dot_o = known_name (codes ".o") (omega arith) refl refl refl in
    let dot_ilb = known_name (codes ".ilb") (omega arith) refl refl refl in
    let dot_ob = known_name (codes ".ob") (omega arith) refl refl refl in
    let dot_type = known_name (codes ".type") (omega arith) refl refl refl in
    let dot_p = known_name (codes ".p") (omega arith) refl refl refl in
    let dot_e = known_name (codes ".e") (omega arith) refl refl refl in
    let fdr : Names (codes "fdr" ∷ []) = (known_name (codes "fdr") (omega arith) refl refl refl, tt) in
    let shape = shape_lines d.size.inputs d.size.outputs in
    let l1 = names_lines (codes ".ilb") d.input_names in
    let l2 = names_lines (codes ".ob") d.output_names in
    let type = keyword_text (codes ".type") (codes "fdr" ∷ []) ∷ [] in
    let p = keyword_text (codes ".p") (decimal (row_number lists) ∷ []) ∷ [] in
    unfed_more (front_lines d (row_number lists) ++ row_lines lists) (end_line ∷ [])
    (unfed_more (front_lines d (row_number lists)) (row_lines lists)
    (unfed_more (((shape ++ l1) ++ l2) ++ type) p
    (unfed_more ((shape ++ l1) ++ l2) type
    (unfed_more (shape ++ l1) l2
    (unfed_more shape l1 ((text_says (codes "i") (decimal d.size.inputs ∷ []) dot_i inputs).no_feed, ((text_says (codes "o") (decimal d.size.outputs ∷ []) dot_o outputs).no_feed, tt))
    (names_unfed (codes "ilb") d.size.inputs d.input_names dot_ilb readable.input_names))
    (names_unfed (codes "ob") d.size.outputs d.output_names dot_ob readable.output_names))
    ((text_says (codes "type") (codes "fdr" ∷ []) dot_type fdr).no_feed, tt))
    ((text_says (codes "p") (decimal (row_number lists) ∷ []) dot_p count).no_feed, tt))
    (rows_unfed d.size (all_printed lists) (all_are_cubes d.size lists readable.on readable.dc readable.off)))
    ((text_says (codes "e") [] dot_e tt).no_feed, tt)

nothing_given : Gives [] (head 0 None None None None None false false)
nothing_given = record { sane = refl; header = refl }

-- the lines of a keyword with a short word
short_line : (word a : List ℕ) → length word ≤ 5 → length a ≤ 8 → length (keyword_text word (a ∷ [])) ≤ format_limits.line_bytes
short_line word a l m = omega (arith, length-append word (flat_map (λ arg. 32 ∷ arg) (a ∷ [])), length-append a [])

shape_given : (size : Size) → IsWithinLimits format_limits size → Gives (shape_lines size.inputs size.outputs) (head 2 (Some size.inputs) (Some size.outputs) None None None false false)
shape_given size within =
    let inputs : Names (decimal size.inputs ∷ []) = (decimal_name size.inputs (omega (arith, within.0)), tt) in
    let outputs : Names (decimal size.outputs ∷ []) = (decimal_name size.outputs (omega (arith, within.2)), tt) in
    let g1 = by_keyword [] (codes "i") (decimal size.inputs ∷ []) (head 0 None None None None None false false) (head 1 (Some size.inputs) None None None None false false)
    (inputs_set 0 size.inputs within.0) (known_name (codes ".i") (omega arith) refl refl refl) inputs nothing_given (omega arith) (short_line (codes ".i") (decimal size.inputs) (omega arith) (short_decimal size.inputs (omega (arith, within.0)))) in
    by_keyword (keyword_text (codes ".i") (decimal size.inputs ∷ []) ∷ []) (codes "o") (decimal size.outputs ∷ []) (head 1 (Some size.inputs) None None None None false false) (head 2 (Some size.inputs) (Some size.outputs) None None None false false)
    (outputs_set 1 size.inputs size.outputs within.1 within.2) (known_name (codes ".o") (omega arith) refl refl refl) outputs g1 (omega arith) (short_line (codes ".o") (decimal size.outputs) (omega arith) (short_decimal size.outputs (omega (arith, within.2))))

-- how many lines come before the rows
front_number : Description → ℕ
front_number d = 2 + length (names_lines (codes ".ilb") d.input_names) + length (names_lines (codes ".ob") d.output_names) + 1 + 1

length-all : (d : Description) (lists : SetLists) → length (all_lines d lists) ≡ front_number d + length (all_printed lists) + 1
unfolding front_number
length-all d lists =
    let shape = shape_lines d.size.inputs d.size.outputs in
    let l1 = names_lines (codes ".ilb") d.input_names in
    let l2 = names_lines (codes ".ob") d.output_names in
    let type = keyword_text (codes ".type") (codes "fdr" ∷ []) ∷ [] in
    let p = keyword_text (codes ".p") (decimal (row_number lists) ∷ []) ∷ [] in
    omega (
      arith,
      length-append (front_lines d (row_number lists) ++ row_lines lists) (end_line ∷ []),
      length-append (front_lines d (row_number lists)) (row_lines lists),
      length-map (all_printed lists) line_in,
      length-append (((shape ++ l1) ++ l2) ++ type) p,
      length-append ((shape ++ l1) ++ l2) type,
      length-append (shape ++ l1) l2,
      length-append shape l1,
    )

front_given : (d : Description) (lists : SetLists) → IsReadable d lists → Gives (front_lines d (row_number lists)) (known (front_number d) d.size d.input_names d.output_names false false)
unfolding front_number
front_given d lists readable =
    let size = d.size in
    let many = few_lines d lists readable in
    let total = length-all d lists in
    let shape = shape_lines size.inputs size.outputs in
    let l1 = names_lines (codes ".ilb") d.input_names in
    let l2 = names_lines (codes ".ob") d.output_names in
    let type = keyword_text (codes ".type") (codes "fdr" ∷ []) ∷ [] in
    let count : Names (decimal (row_number lists) ∷ []) = (decimal_name (row_number lists) (omega (arith, few_rows d lists readable)), tt) in
    let fdr : Names (codes "fdr" ∷ []) = (known_name (codes "fdr") (omega arith) refl refl refl, tt) in
    let g2 = input_names_given shape 2 size d.input_names readable.input_names (shape_given size readable.size) (omega arith) in
    let g3 = output_names_given (shape ++ l1) (2 + length l1) size d.input_names d.output_names readable.output_names g2 (omega arith) in
    let k = 2 + length l1 + length l2 in
    let g4 = by_keyword ((shape ++ l1) ++ l2) (codes "type") (codes "fdr" ∷ []) (head k (Some size.inputs) (Some size.outputs) d.input_names d.output_names None false false) (known (k + 1) size d.input_names d.output_names false false)
    (type_set k size d.input_names d.output_names) (known_name (codes ".type") (omega arith) refl refl refl) fdr g3 (omega arith) (short_line (codes ".type") (codes "fdr") (omega arith) (omega arith)) in
    by_keyword (((shape ++ l1) ++ l2) ++ type) (codes "p") (decimal (row_number lists) ∷ []) (known (k + 1) size d.input_names d.output_names false false) (known (k + 1 + 1) size d.input_names d.output_names false false)
    (count_set (k + 1) size d.input_names d.output_names (decimal (row_number lists))) (known_name (codes ".p") (omega arith) refl refl refl) count g4 (omega arith) (short_line (codes ".p") (decimal (row_number lists)) (omega arith) (short_decimal (row_number lists) (omega (arith, few_rows d lists readable))))

narrow : (size : Size) → IsWithinLimits format_limits size → width size + 1 ≤ format_limits.line_bytes
narrow size within = omega (arith, within.0, within.2)

rows_given : (d : Description) (lists : SetLists) → IsReadable d lists → GivesRows (front_lines d (row_number lists) ++ row_lines lists) (front_number d + length (all_printed lists)) d.size d.input_names d.output_names
rows_given d lists readable =
    rows_more (all_printed lists) (front_lines d (row_number lists)) (front_number d) d.size d.input_names d.output_names false (front_given d lists readable)
    (omega (arith, few_lines d lists readable, length-all d lists)) (narrow d.size readable.size) (all_are_cubes d.size lists readable.on readable.dc readable.off)

-- the end, after rows
end_given : (lines : List (List ℕ)) (k : ℕ) (size : Size) (inputs outputs : Option (List (List ℕ))) (some : Bool) → Gives lines (known k size inputs outputs some false) → k < format_limits.lines
    → Gives (lines ++ end_line ∷ []) (known (k + 1) size inputs outputs some true)
end_given lines k size inputs outputs some g many =
    by_keyword lines (codes "e") [] (known k size inputs outputs some false) (known (k + 1) size inputs outputs some true) (end_set k size inputs outputs some) (known_name (codes ".e") (omega arith) refl refl refl) tt g many (omega arith)

no_length : {X : Type 0} (xs : List X) → nat_lt 0 (length xs) ≡ false → xs ≡ []
no_length [] e = refl
no_length (x ∷ xs) e = absurd (let none : 0 < length (x ∷ xs) → ⊥ = λ l. let yes : nat_lt 0 (length (x ∷ xs)) ≡ true = lt-ltb 0 (length (x ∷ xs)) l in cc in none (omega arith))

symbols_given : (d : Description) (lists : SetLists) → IsReadable d lists → all_symbols (all_lines d lists) ≡ concat (map marks_in (all_printed lists))
symbols_given d lists readable =
    let front = front_lines d (row_number lists) in
    symbols_more (front ++ row_lines lists) end_line ∙ append-nil (all_symbols (front ++ row_lines lists))
    ∙ flat_map-append symbols front (row_lines lists)
    ∙ ap (λ s. s ++ all_symbols (row_lines lists)) (no_length (all_symbols front) (ap (λ h. h.has_symbols) (front_given d lists readable).header))
    ∙ rows_symbols d.size (all_printed lists) (all_are_cubes d.size lists readable.on readable.dc readable.off)

pub texts_are_read_back : TextsAreReadBack
texts_are_read_back d lists readable ending more = record {
  faultless = fixed.closed ending more ∙ ap (λ ls. option_or (line_fault format_limits ls) (end_fault format_limits ls)) looked
      ∙ ap (λ o. option_or o (end_fault format_limits lines)) (no_fault_yet format_limits lines given.sane)
      ∙ ap (λ h. option_map (at_line (length lines)) (end_kind h)) given.header;
  same = ap (description_of format_limits) (fixed.looked (Some ending) more ∙ looked)
      ∙ ap (λ h. description_by h (all_symbols lines)) given.header ∙ ap (description_by (known (k + 1) d.size d.input_names d.output_names rows.some true)) (symbols_given d lists readable)
      ∙ three_lists (list_back d.size On lists wide cubes) (list_back d.size DontCare lists wide cubes) (list_back d.size Off lists wide cubes);
}
  where
    text : List ℕ
    text = text_of d out_fdr lists

    lines : List (List ℕ)
    lines = all_lines d lists

    k : ℕ
    k = front_number d + length (all_printed lists)

    rows : GivesRows (front_lines d (row_number lists) ++ row_lines lists) k d.size d.input_names d.output_names
    rows = rows_given d lists readable

    given : Gives lines (known (k + 1) d.size d.input_names d.output_names rows.some true)
    given = end_given (front_lines d (row_number lists) ++ row_lines lists) k d.size d.input_names d.output_names rows.some rows.gives (omega (arith, few_lines d lists readable, length-all d lists))

    cut : Cut text
    cut = record { lines = lines; rest = []; whole = text_is_fed d lists ∙ sym (append-nil (fed lines)); each = all_unfed d lists readable; last = λ k d l. absurd (omega arith) }

    looked : looked_at (ended_lines text) ≡ lines
    looked = ap looked_at (ended_cut text cut) ∙ looked_more (front_lines d (row_number lists) ++ row_lines lists) (end_line ∷ []) (ap (λ h. h.ended) rows.gives.header)

    fixed : Ended format_limits text
    fixed = ended_fixed format_limits text (ap has_ending looked ∙ ap (λ h. h.ended) given.header)

    wide : 0 < width d.size
    wide = omega (arith, readable.size.1)

    cubes : AreCubes d.size (all_printed lists)
    cubes = all_are_cubes d.size lists readable.on readable.dc readable.off

    three_lists : {on dc off : List Cube} → on ≡ lists.on → dc ≡ lists.dc → off ≡ lists.off
        → (let made : Description = record { size = d.size; input_names = d.input_names; output_names = d.output_names; file_type = Fdr; on = on; dc = dc; off = off } in made)
        ≡ record { size = d.size; input_names = d.input_names; output_names = d.output_names; file_type = Fdr; on = lists.on; dc = lists.dc; off = lists.off }
    three_lists {on} {dc} {off} e f g =
        ap (λ (x : List Cube). record { size = d.size; input_names = d.input_names; output_names = d.output_names; file_type = Fdr; on = x; dc = dc; off = off }) e
        ∙ ap (λ (x : List Cube). record { size = d.size; input_names = d.input_names; output_names = d.output_names; file_type = Fdr; on = lists.on; dc = x; off = off }) f
        ∙ ap (λ (x : List Cube). record { size = d.size; input_names = d.input_names; output_names = d.output_names; file_type = Fdr; on = lists.on; dc = lists.dc; off = x }) g
