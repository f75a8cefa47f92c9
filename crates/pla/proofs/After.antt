-- The header of one more line.
use Rattle.std.proofs.Common.{◌≡◌, ℕ, ◌+◌, ◌%◌, Bool, true, false, List, [], ◌∷◌, ◌++◌, length, Option, Some, None, refl, ap, sym, ◌∙◌, append-nil, length-append, arith}
use Rattle.std.specs.Prelude.{◌||◌, nat_lt, codes}
use Rattle.std.specs.List.{list_any}
use Rattle.std.specs.Option.{option_or}
use Rattle.std.proofs.lemmas.List.Folds.{list_any-append}
use Rattle.std.proofs.lemmas.List.Concat.{flat_map-append}
use Rattle.std.proofs.Math.Nat.{add-mod-mod, add_comm}
use Rattle.cube.specs.Limits.{Limits}
use Rattle.pla.specs.declared.file_type.FileType.{FileType}
use Rattle.pla.specs.Lines.{symbols, all_symbols}
use Rattle.pla.specs.Keywords.{first_given, inputs_on, outputs_on, names_on, type_on, size_by, size_given, is_ending}
use Rattle.pla.specs.Symbols.{left_over}
use Rattle.pla.specs.Header.{Header, header_of}

-- what a line adds
abbrev pub after_line : Limits → Header → List ℕ → Header
after_line limits h line = record {
  lines = h.lines + 1;
  inputs = option_or h.inputs (inputs_on limits line);
  outputs = option_or h.outputs (outputs_on limits line);
  input_names = option_or h.input_names (names_on (codes ".ilb") line);
  output_names = option_or h.output_names (names_on (codes ".ob") line);
  file_type = option_or h.file_type (type_on line);
  unfinished = left_over (size_by (option_or h.inputs (inputs_on limits line)) (option_or h.outputs (outputs_on limits line))) (h.unfinished + length (symbols line));
  has_symbols = h.has_symbols || nat_lt 0 (length (symbols line));
  ended = h.ended || is_ending line;
}

or_later : {X : Type 0} (o p q : Option X) → option_or (option_or o p) q ≡ option_or o (option_or p q)
or_later None p q = refl
or_later (Some x) p q = refl

pub or_none : {X : Type 0} (o : Option X) → option_or o None ≡ o
or_none None = refl
or_none (Some x) = refl

-- what the first of one more line gives
pub first_more : {X : Type 0} (f : List ℕ → Option X) (before : List (List ℕ)) (line : List ℕ) → first_given f (before ++ line ∷ []) ≡ option_or (first_given f before) (f line)
first_more f [] line = or_none (f line)
first_more f (l ∷ before) line = ap (λ o. option_or (f l) o) (first_more f before line) ∙ sym (or_later (f l) (first_given f before) (f line))

or_false : (b : Bool) → (b || false) ≡ b
or_false true = refl
or_false false = refl

any_more : {X : Type 0} (p : X → Bool) (xs : List X) (x : X) → list_any p (xs ++ x ∷ []) ≡ (list_any p xs || p x)
any_more p xs x = list_any-append p xs (x ∷ []) ∙ ap (λ b. list_any p xs || b) (or_false (p x))

pub symbols_more : (before : List (List ℕ)) (line : List ℕ) → all_symbols (before ++ line ∷ []) ≡ all_symbols before ++ symbols line
symbols_more before line = flat_map-append symbols before (line ∷ []) ∙ ap (λ s. all_symbols before ++ s) (append-nil (symbols line))

-- symbols that go on rows
left_more : (i i' o o' : Option ℕ) (q k : ℕ) → (size_by i o ≡ None → q ≡ 0) → left_over (size_by (option_or i i') (option_or o o')) (q + k) ≡ left_over (size_by (option_or i i') (option_or o o')) (left_over (size_by i o) q + k)
left_more None i' o o' q k h = ap (λ z. left_over (size_by (option_or None i') (option_or o o')) (z + k)) (h refl)
left_more (Some n) i' None o' q k h = ap (λ z. left_over (size_by (option_or (Some n) i') (option_or None o')) (z + k)) (h refl)
left_more (Some n) i' (Some m) o' q k h =
    let w = n + m in ap (λ z. z % w) (add_comm q k) ∙ sym (add-mod-mod k q w) ∙ ap (λ z. z % w) (add_comm k (q % w))

size_none : (i i' o o' : Option ℕ) → size_by (option_or i i') (option_or o o') ≡ None → size_by i o ≡ None
size_none None i' o o' h = refl
size_none (Some n) i' None o' h = refl
size_none (Some n) i' (Some m) o' h = cc

some_more : (q k : ℕ) → nat_lt 0 (q + k) ≡ (nat_lt 0 q || nat_lt 0 k)
some_more q k = grind arith

-- headers of equal parts
pub same_header : (a b : Header) → a.lines ≡ b.lines → a.inputs ≡ b.inputs → a.outputs ≡ b.outputs → a.input_names ≡ b.input_names → a.output_names ≡ b.output_names → a.file_type ≡ b.file_type → a.unfinished ≡ b.unfinished → a.has_symbols ≡ b.has_symbols → a.ended ≡ b.ended → a ≡ b
same_header a b e1 e2 e3 e4 e5 e6 e7 e8 e9 =
    ap (λ (x : ℕ). record a { lines = x }) e1
    ∙ ap (λ (x : Option ℕ). record a { lines = b.lines; inputs = x }) e2
    ∙ ap (λ (x : Option ℕ). record a { lines = b.lines; inputs = b.inputs; outputs = x }) e3
    ∙ ap (λ (x : Option (List (List ℕ))). record b { input_names = x; output_names = a.output_names; file_type = a.file_type; unfinished = a.unfinished; has_symbols = a.has_symbols; ended = a.ended }) e4
    ∙ ap (λ (x : Option (List (List ℕ))). record b { output_names = x; file_type = a.file_type; unfinished = a.unfinished; has_symbols = a.has_symbols; ended = a.ended }) e5
    ∙ ap (λ (x : Option FileType). record b { file_type = x; unfinished = a.unfinished; has_symbols = a.has_symbols; ended = a.ended }) e6
    ∙ ap (λ (x : ℕ). record b { unfinished = x; has_symbols = a.has_symbols; ended = a.ended }) e7
    ∙ ap (λ (x : Bool). record b { has_symbols = x; ended = a.ended }) e8
    ∙ ap (λ (x : Bool). record b { ended = x }) e9

-- the size of one more line is given where it was
pub size_more : (limits : Limits) (before : List (List ℕ)) (line : List ℕ) → size_given limits (before ++ line ∷ []) ≡ size_by (option_or (first_given (inputs_on limits) before) (inputs_on limits line)) (option_or (first_given (outputs_on limits) before) (outputs_on limits line))
size_more limits before line =
    ap (λ o. size_by o (first_given (outputs_on limits) (before ++ line ∷ []))) (first_more (inputs_on limits) before line)
    ∙ ap (λ o. size_by (option_or (first_given (inputs_on limits) before) (inputs_on limits line)) o) (first_more (outputs_on limits) before line)

pub size_before : (limits : Limits) (before : List (List ℕ)) (line : List ℕ) → size_given limits (before ++ line ∷ []) ≡ None → size_given limits before ≡ None
size_before limits before line none =
    size_none (first_given (inputs_on limits) before) (inputs_on limits line) (first_given (outputs_on limits) before) (outputs_on limits line) (sym (size_more limits before line) ∙ none)

-- the header of one more line
pub header_more : (limits : Limits) (before : List (List ℕ)) (line : List ℕ) → (size_given limits before ≡ None → all_symbols before ≡ []) → header_of limits (before ++ line ∷ []) ≡ after_line limits (header_of limits before) line
header_more limits before line early =
    let count : length (all_symbols (before ++ line ∷ [])) ≡ length (all_symbols before) + length (symbols line) = ap length (symbols_more before line) ∙ length-append (all_symbols before) (symbols line) in
    same_header (header_of limits (before ++ line ∷ [])) (after_line limits (header_of limits before) line)
    (length-append before (line ∷ []))
    (first_more (inputs_on limits) before line)
    (first_more (outputs_on limits) before line)
    (first_more (names_on (codes ".ilb")) before line)
    (first_more (names_on (codes ".ob")) before line)
    (first_more type_on before line)
    (ap (λ o. left_over o (length (all_symbols (before ++ line ∷ [])))) (size_more limits before line)
    ∙ ap (λ c. left_over (size_by (option_or (first_given (inputs_on limits) before) (inputs_on limits line)) (option_or (first_given (outputs_on limits) before) (outputs_on limits line))) c) count
    ∙ left_more (first_given (inputs_on limits) before) (inputs_on limits line) (first_given (outputs_on limits) before) (outputs_on limits line) (length (all_symbols before)) (length (symbols line)) (λ none. ap length (early none)))
    (ap (nat_lt 0) count ∙ some_more (length (all_symbols before)) (length (symbols line)))
    (any_more is_ending before line)
