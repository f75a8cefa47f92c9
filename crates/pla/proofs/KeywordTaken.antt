-- What a reader stands for after a keyword line.
use Rattle.std.proofs.Common.{◌≡◌, ℕ, ◌+◌, Bool, true, false, cond, List, [], ◌∷◌, ◌++◌, length, Option, Some, None, refl, ap, sym, ◌∙◌, append-nil, option_map, ◌⊎◌, inl, inr, arith, unwrap_or}
use Rattle.std.specs.Prelude.{◌&&◌, filter_map, nat_lt, codes}
use Rattle.std.specs.Option.{option_or}
use Rattle.std.specs.Simd.{first_chunks}
use Rattle.std.proofs.Math.Nat.{zero-div}
use Rattle.cube.specs.Limits.{Limits}
use Rattle.cube.specs.Size.{Size}
use Rattle.pla.specs.declared.file_type.FileType.{FileType}
use Rattle.pla.specs.declared.file_type.FileType.TheVariants.{Fd}
use Rattle.pla.specs.declared.row_lines.Part.{Part}
use Rattle.pla.specs.declared.row_lines.Part.TheVariants.{On, DontCare, Off}
use Rattle.pla.specs.declared.header.Head.{Head}
use Rattle.pla.specs.Lines.{is_keyword_line, all_symbols, arguments}
use Rattle.pla.specs.Keywords.{has, type_on, type_by}
use Rattle.pla.specs.Symbols.{width}
use Rattle.pla.specs.Lists.{given_list, given_cube, part_symbols}
use Rattle.pla.specs.Header.{Header, header_of, size_in, type_in}
use Rattle.pla.specs.Fault.{fault_in, is_past_limit, is_too_long, is_type_too_late, keyword_tests}
use Rattle.pla.specs.Scan.{StandsForLines}
use Rattle.pla.specs.Reading.{RowsRead, rows_of}
use Rattle.pla.specs.HeadView.{seen, with_keyword, keyword_fault}
use Rattle.pla.specs.Parsing.{IsTied, unfinished_of, opened, parsed_by, rows_for}
use Rattle.pla.proofs.After.{header_more, symbols_more, or_none}
use Rattle.pla.proofs.ByKind.{keyword_line, symbols_of_keyword}
use Rattle.pla.proofs.KeywordLines.{after_keyword, not_repeated, none_holds}
use Rattle.pla.proofs.RowsOf.{same_rows}
use Rattle.pla.proofs.Standing.{no_symbols_early, rows_known, given_by, stands_more}
use Rattle.pla.proofs.Ties.{size_kept}

list_nothing : (t : FileType) (part : Part) (size : Size) → given_list t part (Some size) [] ≡ []
list_nothing t part size = ap (λ k. filter_map (given_cube size.inputs (part_symbols t part)) (first_chunks (width size) k [])) (zero-div (width size))

-- no symbols give the same under each type
pub rows_nothing : (t t' : FileType) (size : Size) → rows_of t size [] ≡ rows_of t' size []
rows_nothing t t' size = same_rows (rows_of t size []) (rows_of t' size []) refl refl
    (list_nothing t On size ∙ sym (list_nothing t' On size)) (list_nothing t DontCare size ∙ sym (list_nothing t' DontCare size)) (list_nothing t Off size ∙ sym (list_nothing t' Off size))

pub nothing_kept : (t t' : FileType) (o : Option Size) → option_map (λ size. rows_of t size []) o ≡ option_map (λ size. rows_of t' size []) o
nothing_kept t t' None = refl
nothing_kept t t' (Some size) = ap (λ (r : RowsRead). Some r) (rows_nothing t t' size)

-- rows stay where the size stays, and the type or no symbols
pub rows_kept : (h h' : Header) (s : List ℕ) → size_in h' ≡ size_in h → (type_in h' ≡ type_in h) ⊎ (s ≡ []) → rows_for h s ≡ rows_for h' s
rows_kept h h' s e (inl t) = sym (ap (λ ty. option_map (λ size. rows_of ty size s) (size_in h')) t ∙ ap (option_map (λ size. rows_of (type_in h) size s)) e)
rows_kept h h' s e (inr none) =
    ap (λ z. option_map (λ size. rows_of (type_in h) size z) (size_in h)) none ∙ ap (option_map (λ size. rows_of (type_in h) size [])) (sym e)
    ∙ nothing_kept (type_in h) (type_in h') (size_in h') ∙ ap (λ z. option_map (λ size. rows_of (type_in h') size z) (size_in h')) (sym none)

empty_of : (s : List ℕ) → nat_lt 0 (length s) ≡ false → s ≡ []
empty_of [] e = refl
empty_of (x ∷ s) e = absurd (grind arith)

type_in_time : (limits : Limits) (h : Header) (line : List ℕ) → keyword_fault limits h line ≡ None → (has (codes ".type") line && h.has_symbols) ≡ false
unfolding keyword_fault is_type_too_late
type_in_time limits h line e = (none_holds (keyword_tests limits h line) e).1.1.1.1.1.1.0

-- the type stays, or there are no symbols
type_or_nothing : (limits : Limits) (h : Header) (line s : List ℕ) (b : Bool) → has (codes ".type") line ≡ b → (b && h.has_symbols) ≡ false → h.has_symbols ≡ nat_lt 0 (length s)
    → (unwrap_or (option_or h.file_type (cond b (type_by (arguments line)) None)) Fd ≡ type_in h) ⊎ (s ≡ [])
type_or_nothing limits h line s true e k some = inr (empty_of s (sym some ∙ k))
type_or_nothing limits h line s false e k some = inl (ap (λ o. unwrap_or o Fd) (or_none h.file_type))

rows_then : (h h' k : Header) (s : List ℕ) (rows : Option RowsRead) (o : Option Size) → size_in h ≡ o → (o ≡ None → s ≡ []) → ((size : Size) → size_in h ≡ Some size → rows_for h s ≡ rows_for h' s)
    → size_in h' ≡ size_in k → rows ≡ rows_for h s → opened rows k ≡ rows_for h' s
rows_then h h' k s rows None e none same size known =
    ap (λ r. opened r k) (known ∙ ap (option_map (λ z. rows_of (type_in h) z s)) e)
    ∙ ap (option_map (λ z. rows_of Fd z [])) (sym size) ∙ nothing_kept Fd (type_in h') (size_in h') ∙ ap (λ z. option_map (λ x. rows_of (type_in h') x z) (size_in h')) (sym (none refl))
rows_then h h' k s rows (Some given) e none same size known =
    let here : rows ≡ Some (rows_of (type_in h) given s) = known ∙ ap (option_map (λ z. rows_of (type_in h) z s)) e in
    ap (λ r. opened r k) here ∙ sym here ∙ known ∙ same given e

-- what is known of a header and rows, before a line that doesn't follow the end
pub record Before (limits : Limits) (before : List (List ℕ)) (head : Head) (rows : Option RowsRead) : Type 0 where
  pub stands : StandsForLines limits (parsed_by (seen head (unfinished_of rows)) rows) before
  pub tied : IsTied (seen head 0) rows
  pub going : head.ended ≡ false

pub header_known : (limits : Limits) (before : List (List ℕ)) (head : Head) (rows : Option RowsRead) → Before limits before head rows → seen head (unfinished_of rows) ≡ header_of limits before
header_known limits before head rows b = ap (λ p. p.header) b.stands.given

pub rows_before : (limits : Limits) (before : List (List ℕ)) (head : Head) (rows : Option RowsRead) → Before limits before head rows → rows ≡ rows_for (header_of limits before) (all_symbols before)
rows_before limits before head rows b =
    let hd = header_known limits before head rows b in
    rows_known (header_of limits before) (all_symbols before) rows (b.tied ∙ ap size_in hd) (sym (ap (λ h. parsed_by h rows) hd) ∙ b.stands.given)

-- what stands after a keyword line without a fault
pub keyword_taken : (limits : Limits) (before : List (List ℕ)) (line : List ℕ) (head : Head) (heads : ℕ → Header) (rows rows' : Option RowsRead) → Before limits before head rows → is_keyword_line line ≡ true
    → is_past_limit limits (seen head (unfinished_of rows)) line ≡ false → is_too_long limits (seen head (unfinished_of rows)) line ≡ false
    → keyword_fault limits (seen head (unfinished_of rows)) line ≡ None
    → ((unfinished : ℕ) → heads unfinished ≡ record (with_keyword limits (seen head (unfinished_of rows)) line) { lines = head.lines + 1; unfinished = unfinished })
    → rows' ≡ opened rows (heads 0)
    → StandsForLines limits (parsed_by (heads (unfinished_of rows')) rows') (before ++ line ∷ [])
keyword_taken limits before line head heads rows rows' b k past long none after opens =
    let u = unfinished_of rows in
    let h = header_of limits before in
    let lines = before ++ line ∷ [] in
    let hd : seen head u ≡ h = header_known limits before head rows b in
    let none' : keyword_fault limits h line ≡ None = sym (ap (λ x. keyword_fault limits x line) hd) ∙ none in
    let going : h.ended ≡ false = sym (ap (λ x. x.ended) hd) ∙ b.going in
    let early = no_symbols_early limits before b.stands.faultless in
    let known = rows_before limits before head rows b in
    let there : header_of limits lines ≡ record (with_keyword limits h line) { lines = h.lines + 1 } =
    header_more limits before line early ∙ after_keyword limits h line (length (all_symbols before)) k none' going refl in
    let are : (unfinished : ℕ) → heads unfinished ≡ record (header_of limits lines) { unfinished = unfinished } = λ v.
    after v ∙ ap (λ (x : Header). record (with_keyword limits x line) { lines = x.lines + 1; unfinished = v }) hd ∙ sym (ap (λ (x : Header). record x { unfinished = v }) there) in
    let same : all_symbols lines ≡ all_symbols before = symbols_more before line ∙ ap (λ s. all_symbols before ++ s) (symbols_of_keyword line k) ∙ append-nil (all_symbols before) in
    let by_type : (unwrap_or (option_or h.file_type (type_on line)) Fd ≡ type_in h) ⊎ (all_symbols before ≡ []) → (type_in (header_of limits lines) ≡ type_in h) ⊎ (all_symbols before ≡ []) = λ choice.
    elim choice [ inl e ↦ inl (ap type_in (header_more limits before line early) ∙ e) | inr e ↦ inr e ] in
    let kept : (size : Size) → size_in h ≡ Some size → rows_for h (all_symbols before) ≡ rows_for (header_of limits lines) (all_symbols before) = λ z e.
    rows_kept h (header_of limits lines) (all_symbols before)
    (ap size_in there ∙ size_kept limits h line z (not_repeated limits h line none') e)
    (by_type (type_or_nothing limits h line (all_symbols before) (has (codes ".type") line) refl (type_in_time limits h line none') refl)) in
    let now : rows' ≡ rows_for (header_of limits lines) (all_symbols lines) =
    opens ∙ rows_then h (header_of limits lines) (heads 0) (all_symbols before) rows (size_in h) refl early kept (sym (ap size_in (are 0))) known
    ∙ ap (rows_for (header_of limits lines)) (sym same) in
    stands_more limits before line (parsed_by (seen head u) rows) _ b.stands b.going
    (sym (ap (λ x. fault_in limits x line) hd) ∙ keyword_line limits (seen head u) line past long k ∙ none)
    (given_by limits lines heads rows' are now)
