-- What a text without a fault describes is readable.
use Rattle.std.proofs.Common.{◌≡◌, ℕ, zero, suc, ◌+◌, ◌*◌, ◌≤◌, Bool, true, false, cond, not, List, [], ◌∷◌, ◌++◌, take, drop, length, map, filter_map, Option, Some, None, refl, ap, sym, ◌∙◌, subst, append_assoc, length-drop, length-take-le, arith, All, eqb-true, unwrap_or, append-nil, option_map}
use Rattle.std.specs.Prelude.{◌||◌, ◌&&◌, ◌==◌, is_some, is_none, nat_le, nat_lt, codes}
use Rattle.std.specs.List.{list_any, list_all, cons_option}
use Rattle.std.specs.Option.{ForSome, option_or}
use Rattle.std.specs.Char.{is_ascii_digit}
use Rattle.std.specs.Simd.{first_chunks}
use Rattle.std.proofs.lemmas.List.{length-map}
use Rattle.std.proofs.Math.Nat.{div-add-mod, mul_comm}
use Rattle.std.proofs.lemmas.List.Elements.{All-nil, All-cons, All-head, All-tail}
use Rattle.cube.specs.Limits.{format_limits, IsWithinLimits}
use Rattle.cube.specs.Size.{Size}
use Rattle.cube.specs.Cube.{Cube, IsCube}
use Rattle.cube.specs.declared.symbol.Symbol.{Symbol}
use Rattle.cube.proofs.SumLemmas.{Contains-complete_sum}
use Rattle.cover.specs.Places.{places}
use Rattle.cover.proofs.Lists.{members_all}
use Rattle.pla.specs.declared.ending.Ending.{Ending}
use Rattle.pla.specs.declared.ending.Ending.TheVariants.{End, Failed}
use Rattle.pla.specs.declared.file_type.FileType.{FileType}
use Rattle.pla.specs.declared.file_type.FileType.TheVariants.{F, Fd, Fr, Fdr}
use Rattle.pla.specs.declared.row_lines.Part.{Part}
use Rattle.pla.specs.declared.row_lines.Part.TheVariants.{On, DontCare, Off}
use Rattle.pla.specs.declared.fault.ReadFault.{ReadFault}
use Rattle.pla.specs.declared.fault.ReadKind.TheVariants.{ShapeMissing, UnfinishedRow, ReadFailed}
use Rattle.pla.specs.Lines.{is_empty, arguments, all_symbols, lines_of, ended_lines, open_rest}
use Rattle.pla.specs.Keywords.{has, number, number_within, inputs_on, outputs_on, names_on, first_given, size_by, is_ending, looked_at}
use Rattle.pla.specs.Symbols.{is_byte_of, width, row_count, rows}
use Rattle.pla.specs.Lists.{part_symbols, input_symbol, cube_by, given_cube, given_list}
use Rattle.pla.specs.Header.{Header, header_of, size_in, type_in}
use Rattle.pla.specs.Fault.{fault_in, fault_on, sound, sound_after, line_fault, last_fault, end_fault, rest_fault, has_ending, at_line, tests, differs_count, is_too_long, is_name_too_early, is_wrong_count}
use Rattle.pla.specs.Description.{Description, described}
use Rattle.pla.specs.Completed.{outside, dc_list, off_list, sets_of}
use Rattle.pla.specs.Steps.{NoFeed}
use Rattle.pla.specs.ReadBack.{AreNames, FaultlessAreReadable, EchoesAreReadBack}
use Rattle.pla.proofs.Cuts.{NoFeeds, cut_of, ended_cut, rest_cut}
use Rattle.pla.proofs.FirstFaults.{sound_all}
use Rattle.pla.proofs.KeywordLines.{none_holds}
use Rattle.pla.proofs.GivenNames.{names_given}
use Rattle.pla.proofs.ReadBack.{texts_are_read_back}

-- ---- the line that gives something

record Giver {X : Type 0} (f : List ℕ → Option X) (lines : List (List ℕ)) (x : X) : Type 0 where
  before : List (List ℕ)
  line : List ℕ
  after : List (List ℕ)
  whole : lines ≡ before ++ line ∷ after
  gives : f line ≡ Some x

giver_step : {X : Type 0} (f : List ℕ → Option X) (line : List ℕ) (lines : List (List ℕ)) (x : X) (o : Option X) → f line ≡ o → option_or o (first_given f lines) ≡ Some x
    → (first_given f lines ≡ Some x → Giver f lines x) → Giver f (line ∷ lines) x
giver_step f line lines x (Some y) e h ih = record { before = []; line = line; after = lines; whole = refl; gives = e ∙ h }
giver_step f line lines x None e h ih =
    let g = ih h in record { before = line ∷ g.before; line = g.line; after = g.after; whole = ap (λ ls. line ∷ ls) g.whole; gives = g.gives }

giver : {X : Type 0} (f : List ℕ → Option X) (lines : List (List ℕ)) (x : X) → first_given f lines ≡ Some x → Giver f lines x
giver f [] x h = cc
giver f (line ∷ lines) x h = giver_step f line lines x (f line) refl h (giver f lines x)

stays_step : {X : Type 0} (o p q : Option X) (x : X) → option_or o p ≡ Some x → (p ≡ Some x → q ≡ Some x) → option_or o q ≡ Some x
stays_step (Some y) p q x h ih = h
stays_step None p q x h ih = ih h

-- what was given stays
given_stays : {X : Type 0} (f : List ℕ → Option X) (before more : List (List ℕ)) (x : X) → first_given f before ≡ Some x → first_given f (before ++ more) ≡ Some x
given_stays f [] more x h = cc
given_stays f (line ∷ before) more x h = stays_step (f line) (first_given f before) (first_given f (before ++ more)) x h (given_stays f before more x)

-- ---- a line among lines without a fault

sound_line : {K : Type 0} (fault : List (List ℕ) → List ℕ → Option K) (front before : List (List ℕ)) (line : List ℕ) (after : List (List ℕ))
    → sound_after fault front (before ++ line ∷ after) ≡ before ++ line ∷ after → fault (front ++ before) line ≡ None
sound_line {K = K} fault front [] line after h = here (fault front line) refl h
  where
    here : (o : Option K) → fault front line ≡ o → cond (is_some o) [] (line ∷ sound_after fault (front ++ line ∷ []) after) ≡ line ∷ after → fault (front ++ []) line ≡ None
    here None e h = ap (λ b. fault b line) (append-nil front) ∙ e
    here (Some k) e h = cc
sound_line {K = K} fault front (l ∷ before) line after h = there (fault front l) h (sound_line fault (front ++ l ∷ []) before line after)
  where
    there : (o : Option K) → cond (is_some o) [] (l ∷ sound_after fault (front ++ l ∷ []) (before ++ line ∷ after)) ≡ l ∷ (before ++ line ∷ after)
        → (sound_after fault (front ++ l ∷ []) (before ++ line ∷ after) ≡ before ++ line ∷ after → fault ((front ++ l ∷ []) ++ before) line ≡ None) → fault (front ++ l ∷ before) line ≡ None
    there None h ih = ap (λ b. fault b line) (sym (append_assoc front (l ∷ []) before)) ∙ ih cc
    there (Some k) h ih = cc

feeds_at : (before : List (List ℕ)) (line : List ℕ) (after : List (List ℕ)) → NoFeeds (before ++ line ∷ after) → NoFeed line
feeds_at [] line after h = h.0
feeds_at (l ∷ before) line after h = feeds_at before line after h.1

-- ---- no line has a line feed

unfed_more : (a b : List (List ℕ)) → NoFeeds a → NoFeeds b → NoFeeds (a ++ b)
unfed_more [] b h k = k
unfed_more (line ∷ a) b h k = (h.0, unfed_more a b h.1 k)

rest_unfed : (t : Bool) (rest : List ℕ) → NoFeed rest → NoFeeds (cond t [] (rest ∷ []))
rest_unfed true rest none = tt
rest_unfed false rest none = (none, tt)

lines_unfed : (ending : Ending) (bytes : List ℕ) → NoFeeds (lines_of ending bytes)
lines_unfed End bytes =
    let c = cut_of bytes in
    unfed_more (ended_lines bytes) (cond (is_empty (open_rest bytes)) [] (open_rest bytes ∷ [])) (subst NoFeeds (sym (ended_cut bytes c)) c.each)
    (rest_unfed (is_empty (open_rest bytes)) (open_rest bytes) (subst NoFeed (sym (rest_cut bytes c)) c.last))
lines_unfed Failed bytes = let c = cut_of bytes in subst NoFeeds (sym (ended_cut bytes c)) c.each

looked_step : (t : Bool) (line : List ℕ) (lines : List (List ℕ)) → NoFeed line → NoFeeds lines → NoFeeds (line ∷ cond t [] lines)
looked_step true line lines h k = (h, tt)
looked_step false line lines h k = (h, k)

looked_unfed : (lines : List (List ℕ)) → NoFeeds lines → NoFeeds (looked_at lines)
looked_unfed [] h = tt
looked_unfed (line ∷ lines) h = looked_step (is_ending line) line (looked_at lines) h.0 (looked_unfed lines h.1)

-- ---- the size

size_parts : (i o : Option ℕ) (size : Size) → size_by i o ≡ Some size → (i ≡ Some size.inputs) × (o ≡ Some size.outputs)
size_parts None o size h = cc
size_parts (Some n) None size h = cc
size_parts (Some n) (Some m) size h = (cc, cc)

in_bounds : (d : Bool) (low n high : ℕ) (a b : Bool) (m : ℕ) → nat_le low n ≡ a → nat_le n high ≡ b → cond (d && a && b) (Some n) None ≡ Some m → (low ≤ m) × (m ≤ high)
in_bounds true low n high true true m e f h =
    let same : n ≡ m = cc in (subst (λ k. low ≤ k) same (grind arith), subst (λ k. k ≤ high) same (grind arith))
in_bounds true low n high true false m e f h = cc
in_bounds true low n high false b m e f h = cc
in_bounds false low n high a b m e f h = cc

number_bounds : (low high : ℕ) (words : List (List ℕ)) (n : ℕ) → number_within low high words ≡ Some n → (low ≤ n) × (n ≤ high)
number_bounds low high [] n h = cc
number_bounds low high (word ∷ []) n h = in_bounds (list_all is_ascii_digit word) low (number word) high (nat_le low (number word)) (nat_le (number word) high) n refl refl h
number_bounds low high (word ∷ next ∷ words) n h = cc

if_given : {X : Type 0} (t : Bool) (o : Option X) (x : X) → cond t o None ≡ Some x → (t ≡ true) × (o ≡ Some x)
if_given true o x h = (refl, h)
if_given false o x h = cc

within : (lines : List (List ℕ)) (size : Size) → size_in (header_of format_limits lines) ≡ Some size → IsWithinLimits format_limits size
within lines size h =
    let parts = size_parts (first_given (inputs_on format_limits) lines) (first_given (outputs_on format_limits) lines) size h in
    let i = giver (inputs_on format_limits) lines size.inputs parts.0 in
    let o = giver (outputs_on format_limits) lines size.outputs parts.1 in
    let inputs = number_bounds 0 format_limits.inputs (arguments i.line) size.inputs (if_given (has (codes ".i") i.line) (number_within 0 format_limits.inputs (arguments i.line)) size.inputs i.gives).1 in
    let outputs = number_bounds 1 format_limits.outputs (arguments o.line) size.outputs (if_given (has (codes ".o") o.line) (number_within 1 format_limits.outputs (arguments o.line)) size.outputs o.gives).1 in
    (inputs.1, outputs.0, outputs.1)

-- ---- names

some_size : (o : Option Size) → is_none o ≡ false → (size : Size) × (o ≡ Some size)
some_size (Some size) e = (size, refl)
some_size None e = cc

not_early : (t u : Bool) (size : Option Size) → ((t || u) && is_none size) ≡ false → (t || u) ≡ true → is_none size ≡ false
not_early t u size e h = sym (ap (λ b. b && is_none size) h) ∙ e

either_right : (t : Bool) → (t || true) ≡ true
either_right true = refl
either_right false = refl

none_early : (t u c d : Bool) → ((t && c) || (u && d)) ≡ false → t ≡ true → c ≡ false
none_early true u false d e h = refl
none_early true u true d e h = cc
none_early false u c d e h = cc

none_late : (t u c d : Bool) → ((t && c) || (u && d)) ≡ false → u ≡ true → d ≡ false
none_late true true true d e h = cc
none_late true true false d e h = e
none_late false true c d e h = e
none_late t false c d e h = cc

as_many : (count n : ℕ) (o : Option ℕ) → o ≡ Some n → differs_count count o ≡ false → count ≡ n
as_many count n o e h = same (count == n) refl (sym (ap (differs_count count) e) ∙ h)
  where
    same : (t : Bool) → (count == n) ≡ t → not t ≡ false → count ≡ n
    same true e h = eqb-true count n e
    same false e h = cc

given_once : {X : Type 0} (a b : X) (o : Option X) → o ≡ Some a → o ≡ Some b → a ≡ b
given_once a b o e f = cc

-- what the faults that a line with names has not say of it
record Sound (before : List (List ℕ)) (line : List ℕ) : Type 0 where
  short : is_too_long format_limits (header_of format_limits before) line ≡ false
  early : is_name_too_early (header_of format_limits before) line ≡ false
  count : is_wrong_count (header_of format_limits before) line ≡ false

faultless : (before : List (List ℕ)) (line : List ℕ) → fault_on format_limits before line ≡ None → Sound before line
unfolding fault_in
faultless before line e =
    let n = none_holds (tests format_limits (header_of format_limits before) line) e in
    record { short = n.1.0; early = n.1.1.1.1.1.1.0; count = n.1.1.1.1.1.1.1.0 }

short_line : (before : List (List ℕ)) (line : List ℕ) → Sound before line → length line ≤ format_limits.line_bytes
unfolding is_too_long
short_line before line s = let e = s.short in grind arith

input_names : (lines : List (List ℕ)) → sound format_limits lines ≡ lines → NoFeeds lines → (size : Size) → size_in (header_of format_limits lines) ≡ Some size
    → ForSome (first_given (names_on (codes ".ilb")) lines) (AreNames (codes ".ilb") size.inputs)
unfolding is_name_too_early is_wrong_count
input_names lines sane unfed size sized names e =
    let g = giver (names_on (codes ".ilb")) lines names e in
    let h = header_of format_limits g.before in
    let here = if_given (has (codes ".ilb") g.line) (Some (arguments g.line)) names g.gives in
    let clean : Sound g.before g.line = faultless g.before g.line (sound_line (fault_on format_limits) [] g.before g.line g.after (subst (λ ls. sound format_limits ls ≡ ls) g.whole sane)) in
    let known = some_size (size_in h) (not_early (has (codes ".ilb") g.line) (has (codes ".ob") g.line) (size_in h) clean.early (ap (λ b. b || has (codes ".ob") g.line) here.0)) in
    let first = (size_parts h.inputs h.outputs known.0 known.1).0 in
    let last = (size_parts (first_given (inputs_on format_limits) lines) (first_given (outputs_on format_limits) lines) size sized).0 in
    let stays = ap (first_given (inputs_on format_limits)) g.whole ∙ given_stays (inputs_on format_limits) g.before (g.line ∷ g.after) known.0.inputs first in
    let wrong = none_early (has (codes ".ilb") g.line) (has (codes ".ob") g.line) (differs_count (length (arguments g.line)) h.inputs) (differs_count (length (arguments g.line)) h.outputs) clean.count here.0 in
    let many = as_many (length (arguments g.line)) known.0.inputs h.inputs first wrong ∙ given_once known.0.inputs size.inputs (first_given (inputs_on format_limits) lines) stays last in
    let same : arguments g.line ≡ names = cc in
    subst (AreNames (codes ".ilb") size.inputs) same
    (names_given (codes ".ilb") size.inputs g.line (omega arith) here.0 (feeds_at g.before g.line g.after (subst NoFeeds g.whole unfed)) (short_line g.before g.line clean) many)

output_names : (lines : List (List ℕ)) → sound format_limits lines ≡ lines → NoFeeds lines → (size : Size) → size_in (header_of format_limits lines) ≡ Some size
    → ForSome (first_given (names_on (codes ".ob")) lines) (AreNames (codes ".ob") size.outputs)
unfolding is_name_too_early is_wrong_count
output_names lines sane unfed size sized names e =
    let g = giver (names_on (codes ".ob")) lines names e in
    let h = header_of format_limits g.before in
    let here = if_given (has (codes ".ob") g.line) (Some (arguments g.line)) names g.gives in
    let clean : Sound g.before g.line = faultless g.before g.line (sound_line (fault_on format_limits) [] g.before g.line g.after (subst (λ ls. sound format_limits ls ≡ ls) g.whole sane)) in
    let known = some_size (size_in h) (not_early (has (codes ".ilb") g.line) (has (codes ".ob") g.line) (size_in h) clean.early (ap (λ b. has (codes ".ilb") g.line || b) here.0 ∙ either_right (has (codes ".ilb") g.line))) in
    let first = (size_parts h.inputs h.outputs known.0 known.1).1 in
    let last = (size_parts (first_given (inputs_on format_limits) lines) (first_given (outputs_on format_limits) lines) size sized).1 in
    let stays = ap (first_given (outputs_on format_limits)) g.whole ∙ given_stays (outputs_on format_limits) g.before (g.line ∷ g.after) known.0.outputs first in
    let wrong = none_late (has (codes ".ilb") g.line) (has (codes ".ob") g.line) (differs_count (length (arguments g.line)) h.inputs) (differs_count (length (arguments g.line)) h.outputs) clean.count here.0 in
    let many = as_many (length (arguments g.line)) known.0.outputs h.outputs first wrong ∙ given_once known.0.outputs size.outputs (first_given (outputs_on format_limits) lines) stays last in
    let same : arguments g.line ≡ names = cc in
    subst (AreNames (codes ".ob") size.outputs) same
    (names_given (codes ".ob") size.outputs g.line (omega arith) here.0 (feeds_at g.before g.line g.after (subst NoFeeds g.whole unfed)) (short_line g.before g.line clean) many)

-- ---- cubes

abbrev IsRow : Size → List ℕ → Type 0
IsRow size row = length row ≡ width size

chunk_rows : (size : Size) (k : ℕ) (s : List ℕ) → k * width size ≤ length s → All (IsRow size) (first_chunks (width size) k s)
chunk_rows size zero s l = All-nil (IsRow size)
chunk_rows size (suc k) s l =
    All-cons (IsRow size) (take (width size) s) (first_chunks (width size) k (drop (width size) s)) (length-take-le (width size) s (omega (arith, l)))
    (chunk_rows size k (drop (width size) s) (omega (arith, l, length-drop (width size) s)))

cube_found : (size : Size) (symbols : List Symbol) (outputs : List Bool) (c : Cube) → length symbols ≡ size.inputs → length outputs ≡ size.outputs → cube_by symbols outputs ≡ Some c → IsCube size c
cube_found size symbols outputs c i o h = by (list_any (λ b. b) outputs) refl h
  where
    by : (t : Bool) → list_any (λ b. b) outputs ≡ t → cond t (Some (let made : Cube = record { symbols = symbols; outputs = outputs } in made)) None ≡ Some c → IsCube size c
    by true e h = let same : (let made : Cube = record { symbols = symbols; outputs = outputs } in made) ≡ c = cc in
        subst (IsCube size) same (record { has_size = (i, o); some_output = e })
    by false e h = cc

row_cube : (size : Size) (letters row : List ℕ) (c : Cube) → IsRow size row → given_cube size.inputs letters row ≡ Some c → IsCube size c
row_cube size letters row c long h =
    cube_found size (map input_symbol (take size.inputs row)) (map (is_byte_of letters) (drop size.inputs row)) c
    (length-map (take size.inputs row) input_symbol ∙ length-take-le size.inputs row (omega (arith, long)))
    (length-map (drop size.inputs row) (is_byte_of letters) ∙ omega (arith, long, length-drop size.inputs row)) h

one_found : (size : Size) (o : Option Cube) (cubes : List Cube) → ForSome o (IsCube size) → All (IsCube size) cubes → All (IsCube size) (cons_option o cubes)
one_found size None cubes h all = all
one_found size (Some c) cubes h all = All-cons (IsCube size) c cubes (h c refl) all

row_cubes : (size : Size) (letters : List ℕ) (whole : List (List ℕ)) → All (IsRow size) whole → All (IsCube size) (filter_map (given_cube size.inputs letters) whole)
row_cubes size letters [] all = All-nil (IsCube size)
row_cubes size letters (row ∷ whole) all =
    one_found size (given_cube size.inputs letters row) (filter_map (given_cube size.inputs letters) whole)
    (λ c e. row_cube size letters row c (All-head (IsRow size) row whole all) e) (row_cubes size letters whole (All-tail (IsRow size) row whole all))

given_cubes : (type : FileType) (part : Part) (o : Option Size) (size : Size) (symbols : List ℕ) → o ≡ Some size → All (IsCube size) (given_list type part o symbols)
given_cubes type part o size symbols e =
    let n = length symbols in
    let whole : row_count size symbols * width size ≤ n = omega (arith, div-add-mod n (width size), mul_comm (width size) (row_count size symbols)) in
    subst (λ o. All (IsCube size) (given_list type part o symbols)) (sym e)
    (row_cubes size (part_symbols type part) (rows size symbols) (chunk_rows size (row_count size symbols) symbols whole))

outside_cubes : (size : Size) (cubes : List Cube) → All (IsCube size) (outside size cubes)
outside_cubes size cubes = members_all (IsCube size) (outside size cubes) (λ c member. ((Contains-complete_sum size (λ p. not (places cubes p)) c).0 member).is_cube)

dc_cubes : (type : FileType) (asked : Bool) (d : Description) → All (IsCube d.size) d.dc → All (IsCube d.size) (dc_list type asked d)
dc_cubes F true d given = All-nil (IsCube d.size)
dc_cubes F false d given = All-nil (IsCube d.size)
dc_cubes Fd true d given = given
dc_cubes Fd false d given = given
dc_cubes Fr true d given = outside_cubes d.size (d.on ++ d.off)
dc_cubes Fr false d given = All-nil (IsCube d.size)
dc_cubes Fdr true d given = given
dc_cubes Fdr false d given = given

off_cubes : (type : FileType) (asked : Bool) (d : Description) → All (IsCube d.size) d.off → All (IsCube d.size) (off_list type asked d)
off_cubes F true d given = outside_cubes d.size d.on
off_cubes F false d given = All-nil (IsCube d.size)
off_cubes Fd true d given = outside_cubes d.size (d.on ++ d.dc)
off_cubes Fd false d given = All-nil (IsCube d.size)
off_cubes Fr true d given = given
off_cubes Fr false d given = given
off_cubes Fdr true d given = given
off_cubes Fdr false d given = given

-- ---- the whole

or_parts : {X : Type 0} (o p : Option X) → option_or o p ≡ None → (o ≡ None) × (p ≡ None)
or_parts None p h = (refl, h)
or_parts (Some x) p h = cc

-- the end of a description without a fault knows the size
end_size : (lines : List (List ℕ)) → end_fault format_limits lines ≡ None → is_none (size_in (header_of format_limits lines)) ≡ false
end_size lines h = by (size_in (header_of format_limits lines)) refl h
  where
    by : (o : Option Size) → size_in (header_of format_limits lines) ≡ o
        → option_map (at_line (length lines)) (cond (is_none o) (Some ShapeMissing) (cond (nat_lt 0 (header_of format_limits lines).unfinished) (Some UnfinishedRow) None)) ≡ None
        → is_none (size_in (header_of format_limits lines)) ≡ false
    by (Some size) e h = ap is_none e
    by None e h = cc

last_size : (ending : Ending) (rest : List ℕ) (lines : List (List ℕ)) → last_fault format_limits ending rest lines ≡ None → is_none (size_in (header_of format_limits lines)) ≡ false
last_size End rest lines h = end_size lines h
last_size Failed rest lines h = by (has_ending lines) h
  where
    never : (o : Option ReadFault) (x : ReadFault) → option_or o (Some x) ≡ None → ⊥
    never None x h = cc
    never (Some y) x h = cc

    by : (t : Bool) → cond t (end_fault format_limits lines) (option_or (rest_fault format_limits lines rest) (Some (at_line (length lines + 1) ReadFailed))) ≡ None
        → is_none (size_in (header_of format_limits lines)) ≡ false
    by true h = end_size lines h
    by false h = absurd (never (rest_fault format_limits lines rest) (at_line (length lines + 1) ReadFailed) h)

pub faultless_are_readable : FaultlessAreReadable
faultless_are_readable ending bytes none dc off few = record {
  size = subst (IsWithinLimits format_limits) (sym same) (within lines sized.0 sized.1);
  input_names = subst (λ size. ForSome d.input_names (AreNames (codes ".ilb") size.inputs)) (sym same) (input_names lines sane unfed sized.0 sized.1);
  output_names = subst (λ size. ForSome d.output_names (AreNames (codes ".ob") size.outputs)) (sym same) (output_names lines sane unfed sized.0 sized.1);
  on = given On;
  dc = dc_cubes (type_in h) dc d (given DontCare);
  off = off_cubes (type_in h) off d (given Off);
  lines = few;
}
  where
    lines : List (List ℕ)
    lines = looked_at (lines_of ending bytes)

    h : Header
    h = header_of format_limits lines

    d : Description
    d = described format_limits ending bytes

    no_fault : (line_fault format_limits lines ≡ None) × (last_fault format_limits ending (open_rest bytes) lines ≡ None)
    no_fault = or_parts (line_fault format_limits lines) (last_fault format_limits ending (open_rest bytes) lines) none

    sane : sound format_limits lines ≡ lines
    sane = sound_all format_limits lines no_fault.0

    sized : (size : Size) × (size_in h ≡ Some size)
    sized = some_size (size_in h) (last_size ending (open_rest bytes) lines no_fault.1)

    unfed : NoFeeds lines
    unfed = looked_unfed (lines_of ending bytes) (lines_unfed ending bytes)

    same : d.size ≡ sized.0
    same = ap (λ o. unwrap_or o (record { inputs = 0; outputs = 0 })) sized.1

    given : (part : Part) → All (IsCube d.size) (given_list (type_in h) part (size_in h) (all_symbols lines))
    given part = subst (λ size. All (IsCube size) (given_list (type_in h) part (size_in h) (all_symbols lines))) (sym same) (given_cubes (type_in h) part (size_in h) sized.0 (all_symbols lines) sized.1)

pub echoes_are_read_back : EchoesAreReadBack
echoes_are_read_back ending bytes none few next more =
    let d = described format_limits ending bytes in
    texts_are_read_back d (sets_of d true true) (faultless_are_readable ending bytes none true true few) next more
