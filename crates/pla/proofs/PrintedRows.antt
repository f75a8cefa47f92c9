-- Printed rows, and what reading takes them for.
use Rattle.std.proofs.Common.{◌≡◌, ℕ, suc, ◌+◌, ◌%◌, ◌<◌, ◌≤◌, Bool, true, false, cond, not, List, [], ◌∷◌, ◌++◌, take, drop, length, map, filter, find, Option, Some, None, refl, ap, sym, ◌∙◌, length-append, arith, eqb, All, mod-eq_of_lt, zero-add, codes, lt-ltb}
use Rattle.std.specs.Prelude.{◌||◌}
use Rattle.std.specs.List.{list_any, enumerate_from}
use Rattle.std.proofs.lemmas.List.{length-map}
use Rattle.std.proofs.lemmas.List.Elements.{filter-append, All-append, All-cons}
use Rattle.std.proofs.lemmas.List.Sums.{position_or_len_is}
use Rattle.std.proofs.lemmas.Bool.{lt-leb}
use Rattle.std.proofs.Math.Seq.{take-length, take-append_seam, drop-append_seam}
use Rattle.cube.specs.declared.symbol.Symbol.{Symbol}
use Rattle.cube.specs.declared.symbol.Symbol.TheVariants.{Dash, Zero, One}
use Rattle.cube.specs.Size.{Size}
use Rattle.cube.specs.Cube.{Cube, HasSize, IsCube}
use Rattle.pla.specs.declared.file_type.FileType.TheVariants.{Fdr}
use Rattle.pla.specs.declared.row_lines.Part.{Part}
use Rattle.pla.specs.declared.row_lines.Part.TheVariants.{On, DontCare, Off}
use Rattle.std.specs.Option.{option_map_or}
use Rattle.pla.specs.Lines.{is_blank, is_row_blank, is_keyword_line, row_code, symbols}
use Rattle.pla.specs.Symbols.{width, is_byte_of, is_symbol_at, any_bad}
use Rattle.pla.specs.Lists.{part_symbols, input_symbol, cube_by, given_cube}
use Rattle.pla.specs.Steps.{NoFeed}
use Rattle.pla.specs.Text.{symbol_byte}

-- ---- the bytes of a row

-- the byte of an output that is in the cube
abbrev pub mark_of : Part → ℕ
mark_of On = 49
mark_of DontCare = 45
mark_of Off = 48

-- the byte of an output
abbrev pub output_byte : Part → Bool → ℕ
output_byte part b = cond b (mark_of part) 126

-- the symbols of a row
abbrev pub row_marks : Part → Cube → List ℕ
row_marks part c = map symbol_byte c.symbols ++ map (output_byte part) c.outputs

-- the row's line
abbrev pub row_line : Part → Cube → List ℕ
row_line part c = map symbol_byte c.symbols ++ 32 ∷ map (output_byte part) c.outputs

-- what is known of a byte that is a symbol
pub record IsMark (b : ℕ) : Type 0 where
  pub no_blank : is_blank b ≡ false
  pub no_row_blank : is_row_blank b ≡ false
  pub no_hash : eqb b 35 ≡ false
  pub no_feed : eqb b 10 ≡ false
  pub no_dot : eqb b 46 ≡ false

-- each is one
abbrev pub Marks : List ℕ → Type 0
Marks [] = Unit {0}
Marks (b ∷ bytes) = IsMark b × Marks bytes

symbol_mark : (s : Symbol) → IsMark (symbol_byte s)
symbol_mark Dash = record { no_blank = refl; no_row_blank = refl; no_hash = refl; no_feed = refl; no_dot = refl }
symbol_mark Zero = record { no_blank = refl; no_row_blank = refl; no_hash = refl; no_feed = refl; no_dot = refl }
symbol_mark One = record { no_blank = refl; no_row_blank = refl; no_hash = refl; no_feed = refl; no_dot = refl }

output_mark : (part : Part) (b : Bool) → IsMark (output_byte part b)
output_mark part false = record { no_blank = refl; no_row_blank = refl; no_hash = refl; no_feed = refl; no_dot = refl }
output_mark On true = record { no_blank = refl; no_row_blank = refl; no_hash = refl; no_feed = refl; no_dot = refl }
output_mark DontCare true = record { no_blank = refl; no_row_blank = refl; no_hash = refl; no_feed = refl; no_dot = refl }
output_mark Off true = record { no_blank = refl; no_row_blank = refl; no_hash = refl; no_feed = refl; no_dot = refl }

marks_map : {X : Type 0} (f : X → ℕ) → ((x : X) → IsMark (f x)) → (xs : List X) → Marks (map f xs)
marks_map f each [] = tt
marks_map f each (x ∷ xs) = (each x, marks_map f each xs)

each_mark : (P : ℕ → Type 0) → ((b : ℕ) → IsMark b → P b) → (bytes : List ℕ) → Marks bytes → All P bytes
each_mark P known [] m = λ k d l. absurd (omega arith)
each_mark P known (b ∷ bytes) m = All-cons P b bytes (known b m.0) (each_mark P known bytes m.1)

-- with a space between them
each_byte : (P : ℕ → Type 0) → ((b : ℕ) → IsMark b → P b) → P 32 → (front back : List ℕ) → Marks front → Marks back → All P (front ++ 32 ∷ back)
each_byte P known space front back m n = All-append P front (32 ∷ back) (each_mark P known front m) (All-cons P 32 back space (each_mark P known back n))

-- ---- the line

abbrev by_first : Option ℕ → Bool
by_first first = option_map_or (λ b. eqb b 46) first false

marks_no_keyword : (front back : List ℕ) → Marks front → Marks back → 0 < length back → is_keyword_line (front ++ 32 ∷ back) ≡ false
marks_no_keyword [] [] m n l = absurd (omega arith)
marks_no_keyword [] (b ∷ back) m n l =
    ap (λ t. by_first (cond (not t) (Some b) (find (λ b. not (is_blank b)) back))) n.0.no_blank ∙ n.0.no_dot
marks_no_keyword (b ∷ front) back m n l =
    ap (λ t. by_first (cond (not t) (Some b) (find (λ b. not (is_blank b)) (front ++ 32 ∷ back)))) m.0.no_blank ∙ m.0.no_dot

code_of_marks : (line : List ℕ) → All (λ b. eqb b 35 ≡ false) line → row_code line ≡ line
code_of_marks line none =
    ap (λ n. take n line) (position_or_len_is (λ b. eqb b 35) line (length line) 0 (omega arith) (λ k l. none k 0 l) (λ l. absurd (omega arith))) ∙ take-length line

kept : (bytes : List ℕ) → Marks bytes → filter (λ b. not (is_row_blank b)) bytes ≡ bytes
kept [] m = refl
kept (b ∷ bytes) m =
    ap (λ t. cond (not t) (b ∷ filter (λ b. not (is_row_blank b)) bytes) (filter (λ b. not (is_row_blank b)) bytes)) m.0.no_row_blank ∙ ap (λ bs. b ∷ bs) (kept bytes m.1)

-- a line of symbols with a space between them
pub record IsRow (line marks : List ℕ) : Type 0 where
  pub is_row : is_keyword_line line ≡ false
  pub has_marks : symbols line ≡ marks
  pub no_feed : NoFeed line

row_of_marks : (front back : List ℕ) → Marks front → Marks back → 0 < length back → IsRow (front ++ 32 ∷ back) (front ++ back)
row_of_marks front back m n l =
    let line = front ++ 32 ∷ back in
    let is : is_keyword_line line ≡ false = marks_no_keyword front back m n l in
    let code : row_code line ≡ line = code_of_marks line (each_byte (λ b. eqb b 35 ≡ false) (λ b k. k.no_hash) refl front back m n) in record {
      is_row = is;
      has_marks = ap (λ t. cond t [] (filter (λ b. not (is_row_blank b)) (row_code line))) is ∙ ap (filter (λ b. not (is_row_blank b))) code
          ∙ filter-append (λ b. not (is_row_blank b)) front (32 ∷ back) ∙ ap (λ bs. bs ++ filter (λ b. not (is_row_blank b)) back) (kept front m) ∙ ap (λ bs. front ++ bs) (kept back n);
      no_feed = each_byte (λ b. eqb b 10 ≡ false) (λ b k. k.no_feed) refl front back m n;
    }

some_outputs : (outputs : List Bool) → list_any (λ b. b) outputs ≡ true → 0 < length outputs
some_outputs [] some = cc
some_outputs (b ∷ outputs) some = omega arith

-- the line of a row
pub line_is_row : (part : Part) (c : Cube) → list_any (λ b. b) c.outputs ≡ true → IsRow (row_line part c) (row_marks part c)
line_is_row part c some =
    let long : 0 < length c.outputs = some_outputs c.outputs some in
    row_of_marks (map symbol_byte c.symbols) (map (output_byte part) c.outputs) (marks_map symbol_byte symbol_mark c.symbols) (marks_map (output_byte part) (output_mark part) c.outputs)
    (omega (arith, length-map c.outputs (output_byte part)))

-- ---- its symbols stand at their places

bad : ℕ → ℕ → ℕ × ℕ → Bool
bad n w e = not (is_symbol_at n ((0 + e.0) % w) e.1)

place : (k w : ℕ) → k < w → (0 + k) % w ≡ k
place k w l = ap (λ z. z % w) (zero-add k) ∙ mod-eq_of_lt l

input_fits : (s : Symbol) → is_byte_of (codes "012-") (symbol_byte s) ≡ true
input_fits Dash = refl
input_fits Zero = refl
input_fits One = refl

output_fits : (part : Part) (b : Bool) → is_byte_of (codes "01234-~") (output_byte part b) ≡ true
output_fits part false = refl
output_fits On true = refl
output_fits DontCare true = refl
output_fits Off true = refl

good_output : (n w k : ℕ) (part : Part) (b : Bool) → n ≤ k → k < w → bad n w (k, output_byte part b) ≡ false
unfolding bad
good_output n w k part b l m =
    ap (λ p. not (is_symbol_at n p (output_byte part b))) (place k w m)
    ∙ ap (λ t. not (cond t (is_byte_of (codes "012-") (output_byte part b)) (is_byte_of (codes "01234-~") (output_byte part b)))) (lt-leb (suc k) n (omega arith))
    ∙ ap not (output_fits part b)

good_input : (n w k : ℕ) (s : Symbol) → k < n → n ≤ w → bad n w (k, symbol_byte s) ≡ false
unfolding bad
good_input n w k s l m =
    ap (λ p. not (is_symbol_at n p (symbol_byte s))) (place k w (omega arith))
    ∙ ap (λ t. not (cond t (is_byte_of (codes "012-") (symbol_byte s)) (is_byte_of (codes "01234-~") (symbol_byte s)))) (lt-ltb k n l)
    ∙ ap not (input_fits s)

good_outputs : (n w k : ℕ) (part : Part) (outputs : List Bool) → n ≤ k → k + length outputs ≤ w → list_any (bad n w) (enumerate_from k (map (output_byte part) outputs)) ≡ false
good_outputs n w k part [] l m = refl
good_outputs n w k part (b ∷ outputs) l m =
    ap (λ t. t || list_any (bad n w) (enumerate_from (k + 1) (map (output_byte part) outputs))) (good_output n w k part b l (omega arith))
    ∙ good_outputs n w (k + 1) part outputs (omega arith) (omega arith)

good_row : (n w k : ℕ) (part : Part) (symbols : List Symbol) (outputs : List Bool) → k + length symbols ≡ n → n + length outputs ≤ w
    → list_any (bad n w) (enumerate_from k (map symbol_byte symbols ++ map (output_byte part) outputs)) ≡ false
good_row n w k part [] outputs e l = good_outputs n w k part outputs (omega arith) (omega arith)
good_row n w k part (s ∷ symbols) outputs e l =
    ap (λ t. t || list_any (bad n w) (enumerate_from (k + 1) (map symbol_byte symbols ++ map (output_byte part) outputs))) (good_input n w k s (omega arith) (omega arith))
    ∙ good_row n w (k + 1) part symbols outputs (omega arith) l

pub none_bad : (size : Size) (part : Part) (c : Cube) → HasSize c size → any_bad (Some size) 0 (row_marks part c) ≡ false
unfolding bad
none_bad size part c has = good_row size.inputs (width size) 0 part c.symbols c.outputs (omega (arith, has.0)) (omega (arith, has.1))

pub length-row_marks : (size : Size) (part : Part) (c : Cube) → HasSize c size → length (row_marks part c) ≡ width size
length-row_marks size part c has =
    omega (arith, length-append (map symbol_byte c.symbols) (map (output_byte part) c.outputs), length-map c.symbols symbol_byte, length-map c.outputs (output_byte part), has.0, has.1)

pub length-row_line : (size : Size) (part : Part) (c : Cube) → HasSize c size → length (row_line part c) ≡ width size + 1
length-row_line size part c has =
    omega (arith, length-append (map symbol_byte c.symbols) (32 ∷ map (output_byte part) c.outputs), length-map c.symbols symbol_byte, length-map c.outputs (output_byte part), has.0, has.1)

-- ---- a row's cube

-- whether two parts are one
abbrev pub is_same : Part → Part → Bool
is_same On On = true
is_same DontCare DontCare = true
is_same Off Off = true
is_same _ _ = false

output_back : (part own : Part) (b : Bool) → is_byte_of (part_symbols Fdr part) (output_byte own b) ≡ cond (is_same part own) b false
output_back On On true = refl
output_back On DontCare true = refl
output_back On Off true = refl
output_back DontCare On true = refl
output_back DontCare DontCare true = refl
output_back DontCare Off true = refl
output_back Off On true = refl
output_back Off DontCare true = refl
output_back Off Off true = refl
output_back On On false = refl
output_back On DontCare false = refl
output_back On Off false = refl
output_back DontCare On false = refl
output_back DontCare DontCare false = refl
output_back DontCare Off false = refl
output_back Off On false = refl
output_back Off DontCare false = refl
output_back Off Off false = refl

outputs_back : (part own : Part) (same : Bool) (outputs : List Bool) → is_same part own ≡ same → map (is_byte_of (part_symbols Fdr part)) (map (output_byte own) outputs) ≡ map (λ b. cond same b false) outputs
outputs_back part own same [] e = refl
outputs_back part own same (b ∷ outputs) e =
    ap (λ t. t ∷ map (is_byte_of (part_symbols Fdr part)) (map (output_byte own) outputs)) (output_back part own b ∙ ap (λ t. cond t b false) e)
    ∙ ap (λ bs. cond same b false ∷ bs) (outputs_back part own same outputs e)

all_back : (outputs : List Bool) → map (λ b. cond true b false) outputs ≡ outputs
all_back [] = refl
all_back (b ∷ outputs) = ap (λ bs. b ∷ bs) (all_back outputs)

none_back : (outputs : List Bool) → list_any (λ b. b) (map (λ b. cond false b false) outputs) ≡ false
none_back [] = refl
none_back (b ∷ outputs) = none_back outputs

input_back : (s : Symbol) → input_symbol (symbol_byte s) ≡ s
input_back Dash = refl
input_back Zero = refl
input_back One = refl

inputs_back : (symbols : List Symbol) → map input_symbol (map symbol_byte symbols) ≡ symbols
inputs_back [] = refl
inputs_back (s ∷ symbols) = ap (λ t. t ∷ map input_symbol (map symbol_byte symbols)) (input_back s) ∙ ap (λ ss. s ∷ ss) (inputs_back symbols)

cube_back : (same : Bool) (c : Cube) → list_any (λ b. b) c.outputs ≡ true → cube_by c.symbols (map (λ b. cond same b false) c.outputs) ≡ cond same (Some c) None
cube_back true c some = ap (cube_by c.symbols) (all_back c.outputs) ∙ ap (λ t. cond t (Some c) None) some
cube_back false c some = ap (λ t. cond t (Some (record { symbols = c.symbols; outputs = map (λ b. cond false b false) c.outputs })) None) (none_back c.outputs)

-- the row of a cube gives it to its own list, and nothing to another
pub row_back : (size : Size) (part own : Part) (c : Cube) → IsCube size c → given_cube size.inputs (part_symbols Fdr part) (row_marks own c) ≡ cond (is_same part own) (Some c) None
row_back size part own c is =
    let front = map symbol_byte c.symbols in
    let back = map (output_byte own) c.outputs in
    let letters = part_symbols Fdr part in
    let long : length front ≡ size.inputs = length-map c.symbols symbol_byte ∙ is.has_size.0 in
    ap (λ n. given_cube n letters (front ++ back)) (sym long)
    ∙ ap (λ s. cube_by (map input_symbol s) (map (is_byte_of letters) (drop (length front) (front ++ back)))) (take-append_seam front back)
    ∙ ap (λ s. cube_by (map input_symbol front) (map (is_byte_of letters) s)) (drop-append_seam front back)
    ∙ ap (λ s. cube_by s (map (is_byte_of letters) back)) (inputs_back c.symbols)
    ∙ ap (cube_by c.symbols) (outputs_back part own (is_same part own) c.outputs refl)
    ∙ cube_back (is_same part own) c is.some_output
