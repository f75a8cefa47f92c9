-- Printed lists: rows of the three lists, one after another.
use Rattle.std.proofs.Common.{◌≡◌, ℕ, suc, ◌+◌, ◌*◌, ◌/◌, ◌<◌, Bool, true, false, cond, List, [], ◌∷◌, ◌++◌, take, drop, length, map, filter_map, flat_map, Some, None, refl, ap, sym, ◌∙◌, append-nil, length-append, arith, All, mul-div_cancel}
use Rattle.std.specs.List.{cons_option, concat}
use Rattle.std.specs.Simd.{first_chunks}
use Rattle.std.proofs.lemmas.List.{map-append}
use Rattle.std.proofs.lemmas.List.Concat.{flat_map-append}
use Rattle.std.proofs.lemmas.List.Elements.{All-head, All-tail}
use Rattle.std.proofs.Math.Seq.{take-append_seam, drop-append_seam}
use Rattle.cube.specs.Size.{Size}
use Rattle.cube.specs.Cube.{Cube, IsCube}
use Rattle.pla.specs.declared.file_type.FileType.TheVariants.{Fdr}
use Rattle.pla.specs.declared.row_lines.Part.{Part}
use Rattle.pla.specs.declared.row_lines.Part.TheVariants.{On, DontCare, Off}
use Rattle.pla.specs.declared.out_type.OutType.TheVariants.{Fdr as out_fdr}
use Rattle.pla.specs.Lines.{all_symbols}
use Rattle.pla.specs.Symbols.{width, rows}
use Rattle.pla.specs.Lists.{part_symbols, given_cube, given_list}
use Rattle.pla.specs.Sets.{SetLists}
use Rattle.pla.specs.Text.{row_text, rows_text, sections}
use Rattle.pla.proofs.Cuts.{fed, NoFeeds}
use Rattle.pla.proofs.PrintedRows.{mark_of, row_marks, row_line, line_is_row, length-row_marks, is_same, row_back}

-- a cube that is printed, with its list
abbrev pub Printed : Type 0
Printed = Part × Cube

abbrev pub line_in : Printed → List ℕ
line_in r = row_line r.0 r.1

abbrev pub marks_in : Printed → List ℕ
marks_in r = row_marks r.0 r.1

abbrev pub printed : Part → List Cube → List Printed
printed part [] = []
printed part (c ∷ cubes) = (part, c) ∷ printed part cubes

-- the cubes of three lists
abbrev pub all_printed : SetLists → List Printed
all_printed lists = printed On lists.on ++ (printed DontCare lists.dc ++ printed Off lists.off)

-- each has the size
abbrev pub AreCubes : Size → List Printed → Type 0
AreCubes size [] = Unit {0}
AreCubes size (r ∷ rs) = IsCube size r.1 × AreCubes size rs

are_more : (size : Size) (a b : List Printed) → AreCubes size a → AreCubes size b → AreCubes size (a ++ b)
are_more size [] b h k = k
are_more size (r ∷ a) b h k = (h.0, are_more size a b h.1 k)

are_printed : (size : Size) (part : Part) (cubes : List Cube) → All (IsCube size) cubes → AreCubes size (printed part cubes)
are_printed size part [] each = tt
are_printed size part (c ∷ cubes) each = (All-head (IsCube size) c cubes each, are_printed size part cubes (All-tail (IsCube size) c cubes each))

pub all_are_cubes : (size : Size) (lists : SetLists) → All (IsCube size) lists.on → All (IsCube size) lists.dc → All (IsCube size) lists.off → AreCubes size (all_printed lists)
all_are_cubes size lists on dc off =
    are_more size (printed On lists.on) (printed DontCare lists.dc ++ printed Off lists.off) (are_printed size On lists.on on)
    (are_more size (printed DontCare lists.dc) (printed Off lists.off) (are_printed size DontCare lists.dc dc) (are_printed size Off lists.off off))

length-printed : (part : Part) (cubes : List Cube) → length (printed part cubes) ≡ length cubes
length-printed part [] = refl
length-printed part (c ∷ cubes) = ap suc (length-printed part cubes)

pub length-all_printed : (lists : SetLists) → length (all_printed lists) ≡ length lists.on + length lists.dc + length lists.off
length-all_printed lists =
    omega (
      arith,
      length-append (printed On lists.on) (printed DontCare lists.dc ++ printed Off lists.off),
      length-append (printed DontCare lists.dc) (printed Off lists.off),
      length-printed On lists.on,
      length-printed DontCare lists.dc,
      length-printed Off lists.off,
    )

-- ---- the text

row_fed : (part : Part) (c : Cube) → row_text (mark_of part) 126 c ≡ row_line part c ++ 10 ∷ []
row_fed part c = refl

list_fed : (part : Part) (cubes : List Cube) → flat_map (row_text (mark_of part) 126) cubes ≡ fed (map line_in (printed part cubes))
list_fed part [] = refl
list_fed part (c ∷ cubes) = ap (λ t. t ++ flat_map (row_text (mark_of part) 126) cubes) (row_fed part c) ∙ ap (λ t. (row_line part c ++ 10 ∷ []) ++ t) (list_fed part cubes)

pub fed-append : (a b : List (List ℕ)) → fed (a ++ b) ≡ fed a ++ fed b
fed-append a b = flat_map-append (λ line. line ++ 10 ∷ []) a b

pub lists_fed : (lists : SetLists) → flat_map (rows_text 126) (sections out_fdr lists) ≡ fed (map line_in (all_printed lists))
lists_fed lists =
    let on = printed On lists.on in
    let dc = printed DontCare lists.dc in
    let off = printed Off lists.off in
    ap (λ t. t ++ (flat_map (row_text 45 126) lists.dc ++ (flat_map (row_text 48 126) lists.off ++ []))) (list_fed On lists.on)
    ∙ ap (λ t. fed (map line_in on) ++ (t ++ (flat_map (row_text 48 126) lists.off ++ []))) (list_fed DontCare lists.dc)
    ∙ ap (λ t. fed (map line_in on) ++ (fed (map line_in dc) ++ t)) (append-nil (flat_map (row_text 48 126) lists.off) ∙ list_fed Off lists.off)
    ∙ ap (λ t. fed (map line_in on) ++ t) (sym (fed-append (map line_in dc) (map line_in off)) ∙ ap fed (sym (map-append line_in dc off)))
    ∙ sym (fed-append (map line_in on) (map line_in (dc ++ off))) ∙ ap fed (sym (map-append line_in on (dc ++ off)))

pub rows_unfed : (size : Size) (rs : List Printed) → AreCubes size rs → NoFeeds (map line_in rs)
rows_unfed size [] each = tt
rows_unfed size (r ∷ rs) each = ((line_is_row r.0 r.1 each.0.some_output).no_feed, rows_unfed size rs each.1)

-- ---- the symbols

pub rows_symbols : (size : Size) (rs : List Printed) → AreCubes size rs → all_symbols (map line_in rs) ≡ concat (map marks_in rs)
rows_symbols size [] each = refl
rows_symbols size (r ∷ rs) each =
    ap (λ s. s ++ all_symbols (map line_in rs)) (line_is_row r.0 r.1 each.0.some_output).has_marks ∙ ap (λ s. marks_in r ++ s) (rows_symbols size rs each.1)

length-marks : (size : Size) (rs : List Printed) → AreCubes size rs → length (concat (map marks_in rs)) ≡ length rs * width size
length-marks size [] each = omega arith
length-marks size (r ∷ rs) each =
    let more : suc (length rs) * width size ≡ width size + length rs * width size = omega arith in
    length-append (marks_in r) (concat (map marks_in rs)) ∙ ap (λ n. n + length (concat (map marks_in rs))) (length-row_marks size r.0 r.1 each.0.has_size)
    ∙ ap (λ n. width size + n) (length-marks size rs each.1) ∙ sym more

front_chunk : (w : ℕ) (row more : List ℕ) (k : ℕ) → length row ≡ w → first_chunks w (suc k) (row ++ more) ≡ row ∷ first_chunks w k more
front_chunk w row more k e = ap (λ n. take n (row ++ more) ∷ first_chunks w k (drop n (row ++ more))) (sym e) ∙ ap (λ r. r ∷ first_chunks w k (drop (length row) (row ++ more))) (take-append_seam row more)
    ∙ ap (λ d. row ∷ first_chunks w k d) (drop-append_seam row more)

chunks : (size : Size) (rs : List Printed) → AreCubes size rs → first_chunks (width size) (length rs) (concat (map marks_in rs)) ≡ map marks_in rs
chunks size [] each = refl
chunks size (r ∷ rs) each =
    front_chunk (width size) (marks_in r) (concat (map marks_in rs)) (length rs) (length-row_marks size r.0 r.1 each.0.has_size) ∙ ap (λ ms. marks_in r ∷ ms) (chunks size rs each.1)

whole_rows : (size : Size) (rs : List Printed) → 0 < width size → AreCubes size rs → rows size (concat (map marks_in rs)) ≡ map marks_in rs
whole_rows size rs wide each =
    ap (λ n. first_chunks (width size) (n / width size) (concat (map marks_in rs))) (length-marks size rs each)
    ∙ ap (λ n. first_chunks (width size) n (concat (map marks_in rs))) (mul-div_cancel (length rs) wide) ∙ chunks size rs each

-- ---- the lists

-- the cubes of one list
own : Part → List Printed → List Cube
own part [] = []
own part (r ∷ rs) = cons_option (cond (is_same part r.0) (Some r.1) None) (own part rs)

own-append : (part : Part) (a b : List Printed) → own part (a ++ b) ≡ own part a ++ own part b
unfolding own
own-append part [] b = refl
own-append part (r ∷ a) b = ap (cons_option (cond (is_same part r.0) (Some r.1) None)) (own-append part a b) ∙ step (is_same part r.0) r.1 (own part a) (own part b)
  where
    step : (same : Bool) (c : Cube) (xs ys : List Cube) → cons_option (cond same (Some c) None) (xs ++ ys) ≡ cons_option (cond same (Some c) None) xs ++ ys
    step true c xs ys = refl
    step false c xs ys = refl

own_printed : (part whose : Part) (same : Bool) (cubes : List Cube) → is_same part whose ≡ same → own part (printed whose cubes) ≡ cond same cubes []
unfolding own
own_printed part whose true [] e = refl
own_printed part whose false [] e = refl
own_printed part whose true (c ∷ cubes) e = ap (λ t. cons_option (cond t (Some c) None) (own part (printed whose cubes))) e ∙ ap (λ cs. c ∷ cs) (own_printed part whose true cubes e)
own_printed part whose false (c ∷ cubes) e = ap (λ t. cons_option (cond t (Some c) None) (own part (printed whose cubes))) e ∙ own_printed part whose false cubes e

given_own : (size : Size) (part : Part) (rs : List Printed) → AreCubes size rs → filter_map (given_cube size.inputs (part_symbols Fdr part)) (map marks_in rs) ≡ own part rs
unfolding own
given_own size part [] each = refl
given_own size part (r ∷ rs) each =
    ap (λ o. cons_option o (filter_map (given_cube size.inputs (part_symbols Fdr part)) (map marks_in rs))) (row_back size part r.0 r.1 each.0)
    ∙ ap (cons_option (cond (is_same part r.0) (Some r.1) None)) (given_own size part rs each.1)

-- the list of a part
abbrev pub list_of : Part → SetLists → List Cube
list_of On lists = lists.on
list_of DontCare lists = lists.dc
list_of Off lists = lists.off

own_parts : (part : Part) (lists : SetLists) → own part (all_printed lists) ≡ cond (is_same part On) lists.on [] ++ (cond (is_same part DontCare) lists.dc [] ++ cond (is_same part Off) lists.off [])
own_parts part lists =
    own-append part (printed On lists.on) (printed DontCare lists.dc ++ printed Off lists.off)
    ∙ ap (λ cs. cs ++ own part (printed DontCare lists.dc ++ printed Off lists.off)) (own_printed part On (is_same part On) lists.on refl)
    ∙ ap (λ cs. cond (is_same part On) lists.on [] ++ cs) (own-append part (printed DontCare lists.dc) (printed Off lists.off)
    ∙ ap (λ cs. cs ++ own part (printed Off lists.off)) (own_printed part DontCare (is_same part DontCare) lists.dc refl)
    ∙ ap (λ cs. cond (is_same part DontCare) lists.dc [] ++ cs) (own_printed part Off (is_same part Off) lists.off refl))

own_list : (part : Part) (lists : SetLists) → own part (all_printed lists) ≡ list_of part lists
own_list On lists = own_parts On lists ∙ append-nil lists.on
own_list DontCare lists = own_parts DontCare lists ∙ append-nil lists.dc
own_list Off lists = own_parts Off lists

-- the rows of three lists give each list back
pub list_back : (size : Size) (part : Part) (lists : SetLists) → 0 < width size → AreCubes size (all_printed lists) → given_list Fdr part (Some size) (concat (map marks_in (all_printed lists))) ≡ list_of part lists
list_back size part lists wide each =
    ap (filter_map (given_cube size.inputs (part_symbols Fdr part))) (whole_rows size (all_printed lists) wide each) ∙ given_own size part (all_printed lists) each ∙ own_list part lists
