-- The rows that symbols make, one symbol after another.
use Rattle.std.proofs.Common.{◌≡◌, ℕ, zero, suc, ◌+◌, ◌*◌, ◌/◌, ◌%◌, ◌<◌, ◌≤◌, Bool, true, false, cond, List, [], ◌∷◌, ◌++◌, take, drop, length, Option, Some, None, refl, ap, sym, ◌∙◌, append_assoc, length-append, length-drop, arith, eqb, eq-eqb}
use Rattle.std.specs.Prelude.{filter_map, option_to_list}
use Rattle.std.specs.List.{cons_option}
use Rattle.std.specs.Simd.{first_chunks}
use Rattle.std.proofs.lemmas.List.{take-append-le, drop-append-le, take-append-drop, drop_all, length-take-le}
use Rattle.std.proofs.lemmas.List.Elements.{filter_map-append}
use Rattle.std.proofs.lemmas.Bool.{eqb-true}
use Rattle.std.proofs.lemmas.Nat.{div-mul-add}
use Rattle.std.proofs.Math.Seq.{take-length}
use Rattle.std.proofs.Math.Nat.{div-add-mod, mul_comm, mod-lt, mod-eq-sub-div-mul}
use Rattle.cube.specs.Cube.{Cube}
use Rattle.cube.specs.Size.{Size}
use Rattle.pla.specs.declared.file_type.FileType.{FileType}
use Rattle.pla.specs.declared.row_lines.Part.{Part}
use Rattle.pla.specs.declared.row_lines.Part.TheVariants.{On, DontCare, Off}
use Rattle.pla.specs.Symbols.{width, row_count, rows, unfinished_row}
use Rattle.pla.specs.Lists.{part_symbols, given_cube, given_list}
use Rattle.pla.specs.Reading.{RowsRead, rows_of, with_row, with_symbol}

empty_of : (xs : List ℕ) → length xs ≡ 0 → xs ≡ []
empty_of [] h = refl
empty_of (x ∷ xs) h = absurd (omega arith)

-- one more whole row behind whole rows
pub chunks_more : (w k : ℕ) (done row : List ℕ) → length done ≡ k * w → length row ≡ w → first_chunks w (suc k) (done ++ row) ≡ first_chunks w k done ++ row ∷ []
chunks_more w zero done row h e =
    let none : done ≡ [] = empty_of done (omega (arith, h)) in
    ap (λ d. take w (d ++ row) ∷ []) none ∙ ap (λ n. take n row ∷ []) (sym e) ∙ ap (λ r. r ∷ []) (take-length row)
chunks_more w (suc k) done row h e =
    let long : w ≤ length done = omega (arith, h) in
    ap (λ t. t ∷ first_chunks w (suc k) (drop w (done ++ row))) (take-append-le w done row long)
    ∙ ap (λ d. take w done ∷ first_chunks w (suc k) d) (drop-append-le w done row long)
    ∙ ap (λ cs. take w done ∷ cs) (chunks_more w k (drop w done) row (omega (arith, h, length-drop w done)) e)

-- an unfinished row changes nothing
pub chunks_same : (w k : ℕ) (done more : List ℕ) → k * w ≤ length done → first_chunks w k (done ++ more) ≡ first_chunks w k done
chunks_same w zero done more h = refl
chunks_same w (suc k) done more h =
    let long : w ≤ length done = omega (arith, h) in
    ap (λ t. t ∷ first_chunks w k (drop w (done ++ more))) (take-append-le w done more long)
    ∙ ap (λ d. take w done ∷ first_chunks w k d) (drop-append-le w done more long)
    ∙ ap (λ cs. take w done ∷ cs) (chunks_same w k (drop w done) more (omega (arith, h, length-drop w done)))

-- so many symbols stand in the unfinished row
pub length-unfinished_row : (size : Size) (s : List ℕ) → length (unfinished_row (Some size) s) ≡ length s % width size
length-unfinished_row size s = length-drop (row_count size s * width size) s ∙ sym (mod-eq-sub-div-mul (length s) (width size))

-- whole rows, and the symbols after them
whole : (n w : ℕ) → n ≡ n / w * w + n % w
whole n w = sym (div-add-mod n w) ∙ ap (λ z. z + n % w) (mul_comm w (n / w))

-- ---- one more symbol

-- it ends a row
row_count_more : (size : Size) (s : List ℕ) (b : ℕ) → length s % width size + 1 ≡ width size → row_count size (s ++ b ∷ []) ≡ suc (row_count size s)
row_count_more size s b e =
    let w = width size in
    let k = length s / w in
    let n_is : length s ≡ k * w + length s % w = whole (length s) w in
    let more : length (s ++ b ∷ []) ≡ suc k * w + 0 = length-append s (b ∷ []) ∙ omega arith in
    let wide : 0 < w = omega arith in
    ap (λ z. z / w) more ∙ div-mul-add (suc k) w 0 wide

pub rows_end : (size : Size) (s : List ℕ) (b : ℕ) → length s % width size + 1 ≡ width size → rows size (s ++ b ∷ []) ≡ rows size s ++ (unfinished_row (Some size) s ++ b ∷ []) ∷ []
rows_end size s b e =
    let w = width size in
    let k = length s / w in
    let p = unfinished_row (Some size) s in
    let n_is : length s ≡ k * w + length s % w = whole (length s) w in
    let fits : k * w ≤ length s = omega arith in
    let cut : s ++ b ∷ [] ≡ take (k * w) s ++ (p ++ b ∷ []) = ap (λ z. z ++ b ∷ []) (sym (take-append-drop (k * w) s)) ∙ append_assoc (take (k * w) s) p (b ∷ []) in
    let done : length (take (k * w) s) ≡ k * w = length-take-le (k * w) s fits in
    let row : length (p ++ b ∷ []) ≡ w = length-append p (b ∷ []) ∙ ap (λ z. z + 1) (length-unfinished_row size s) ∙ e in
    let within : k * w ≤ length (take (k * w) s) = omega (arith, done) in
    ap (λ c. first_chunks w c (s ++ b ∷ [])) (row_count_more size s b e) ∙ ap (first_chunks w (suc k)) cut
    ∙ chunks_more w k (take (k * w) s) (p ++ b ∷ []) done row
    ∙ ap (λ cs. cs ++ (p ++ b ∷ []) ∷ []) (sym (chunks_same w k (take (k * w) s) (drop (k * w) s) within) ∙ ap (first_chunks w k) (take-append-drop (k * w) s))

pub unfinished_end : (size : Size) (s : List ℕ) (b : ℕ) → length s % width size + 1 ≡ width size → unfinished_row (Some size) (s ++ b ∷ []) ≡ []
unfinished_end size s b e =
    let w = width size in
    let n_is : length s ≡ length s / w * w + length s % w = whole (length s) w in
    let all : length (s ++ b ∷ []) ≤ suc (row_count size s) * w = omega (arith, length-append s (b ∷ [])) in
    ap (λ c. drop (c * w) (s ++ b ∷ [])) (row_count_more size s b e) ∙ drop_all (suc (row_count size s) * w) (s ++ b ∷ []) all

-- it ends no row
row_count_same : (size : Size) (s : List ℕ) (b : ℕ) → length s % width size + 1 < width size → row_count size (s ++ b ∷ []) ≡ row_count size s
row_count_same size s b l =
    let w = width size in
    let n = length s in
    let n_is : n ≡ n / w * w + n % w = whole n w in
    let more : n + 1 ≡ n / w * w + (n % w + 1) = omega arith in
    ap (λ z. z / w) (length-append s (b ∷ []) ∙ more) ∙ div-mul-add (n / w) w (n % w + 1) l

pub rows_same : (size : Size) (s : List ℕ) (b : ℕ) → length s % width size + 1 < width size → rows size (s ++ b ∷ []) ≡ rows size s
rows_same size s b l =
    let n_is = whole (length s) (width size) in
    ap (λ c. first_chunks (width size) c (s ++ b ∷ [])) (row_count_same size s b l)
    ∙ chunks_same (width size) (row_count size s) s (b ∷ []) (omega arith)

pub unfinished_more : (size : Size) (s : List ℕ) (b : ℕ) → length s % width size + 1 < width size → unfinished_row (Some size) (s ++ b ∷ []) ≡ unfinished_row (Some size) s ++ b ∷ []
unfinished_more size s b l =
    let n_is = whole (length s) (width size) in
    ap (λ c. drop (c * width size) (s ++ b ∷ [])) (row_count_same size s b l)
    ∙ drop-append-le (row_count size s * width size) s (b ∷ []) (omega arith)

-- ---- the lists and the pending symbols

list_last : (o : Option Cube) → cons_option o [] ≡ option_to_list o
list_last None = refl
list_last (Some c) = refl

list_more : (type : FileType) (part : Part) (size : Size) (s : List ℕ) (b : ℕ) → length s % width size + 1 ≡ width size
    → given_list type part (Some size) (s ++ b ∷ []) ≡ given_list type part (Some size) s ++ option_to_list (given_cube size.inputs (part_symbols type part) (unfinished_row (Some size) s ++ b ∷ []))
list_more type part size s b e =
    let f = given_cube size.inputs (part_symbols type part) in
    let row = unfinished_row (Some size) s ++ b ∷ [] in
    ap (filter_map f) (rows_end size s b e) ∙ filter_map-append f (rows size s) (row ∷ []) ∙ ap (λ z. filter_map f (rows size s) ++ z) (list_last (f row))

list_same : (type : FileType) (part : Part) (size : Size) (s : List ℕ) (b : ℕ) → length s % width size + 1 < width size → given_list type part (Some size) (s ++ b ∷ []) ≡ given_list type part (Some size) s
list_same type part size s b l = ap (filter_map (given_cube size.inputs (part_symbols type part))) (rows_same size s b l)

-- rows of equal parts
pub same_rows : (a b : RowsRead) → a.size ≡ b.size → a.pending ≡ b.pending → a.on ≡ b.on → a.dc ≡ b.dc → a.off ≡ b.off → a ≡ b
same_rows a b e1 e2 e3 e4 e5 =
    ap (λ (x : Size). record a { size = x }) e1
    ∙ ap (λ (x : List ℕ). record b { pending = x; on = a.on; dc = a.dc; off = a.off }) e2
    ∙ ap (λ (x : List Cube). record b { on = x; dc = a.dc; off = a.off }) e3
    ∙ ap (λ (x : List Cube). record b { dc = x; off = a.off }) e4
    ∙ ap (λ (x : List Cube). record b { off = x }) e5

step : (type : FileType) (size : Size) (s : List ℕ) (b : ℕ) (ends : Bool) → eqb (length (unfinished_row (Some size) s ++ b ∷ [])) (width size) ≡ ends → 0 < width size
    → cond ends (with_row type (rows_of type size s) (unfinished_row (Some size) s ++ b ∷ [])) (record (rows_of type size s) { pending = unfinished_row (Some size) s ++ b ∷ [] }) ≡ rows_of type size (s ++ b ∷ [])
step type size s b true e wide =
    let long : length (unfinished_row (Some size) s ++ b ∷ []) ≡ width size = eqb-true _ _ e in
    let full : length s % width size + 1 ≡ width size = sym (length-append (unfinished_row (Some size) s) (b ∷ []) ∙ ap (λ z. z + 1) (length-unfinished_row size s)) ∙ long in
    same_rows (with_row type (rows_of type size s) (unfinished_row (Some size) s ++ b ∷ [])) (rows_of type size (s ++ b ∷ [])) refl
    (sym (unfinished_end size s b full)) (sym (list_more type On size s b full)) (sym (list_more type DontCare size s b full)) (sym (list_more type Off size s b full))
step type size s b false e wide =
    let long : length (unfinished_row (Some size) s ++ b ∷ []) ≡ length s % width size + 1 = length-append (unfinished_row (Some size) s) (b ∷ []) ∙ ap (λ z. z + 1) (length-unfinished_row size s) in
    let other : length s % width size + 1 ≡ width size → ⊥ = λ h. let is = eq-eqb (length (unfinished_row (Some size) s ++ b ∷ [])) (width size) (long ∙ h) in cc in
    let below : length s % width size < width size = mod-lt (length s) wide in
    let part : length s % width size + 1 < width size = omega (arith, other) in
    same_rows (record (rows_of type size s) { pending = unfinished_row (Some size) s ++ b ∷ [] }) (rows_of type size (s ++ b ∷ [])) refl
    (sym (unfinished_more size s b part)) (sym (list_same type On size s b part)) (sym (list_same type DontCare size s b part)) (sym (list_same type Off size s b part))

-- one more symbol behind symbols
pub with_symbol_of : (type : FileType) (size : Size) (s : List ℕ) (b : ℕ) → 0 < width size → with_symbol type (rows_of type size s) b ≡ rows_of type size (s ++ b ∷ [])
with_symbol_of type size s b wide = step type size s b (eqb (length (unfinished_row (Some size) s ++ b ∷ [])) (width size)) refl wide
