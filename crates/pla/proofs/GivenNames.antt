-- The names that a line gives are such as a file can give.
use Rattle.std.proofs.Common.{◌≡◌, ℕ, ◌+◌, ◌<◌, ◌≤◌, Bool, true, false, cond, not, List, [], ◌∷◌, ◌++◌, length, drop, filter, flat_map, Some, refl, ap, sym, ◌∙◌, subst, length-append, arith, All}
use Rattle.std.specs.Prelude.{◌==◌, ◌&&◌, slice_index_or}
use Rattle.std.specs.List.{slice_split, onto_first}
use Rattle.std.proofs.lemmas.Slice.Eq.{bytes_eq-Decides}
use Rattle.std.proofs.lemmas.List.Splits.{slice_split-cons_yes, slice_split-cons_no}
use Rattle.std.proofs.lemmas.List.Elements.{All-nil, All-cons, All-head, All-tail, All-drop, All-filter, filter_passes}
use Rattle.cube.specs.Limits.{format_limits}
use Rattle.pla.specs.Lines.{is_blank, is_empty, words, is_keyword_line, keyword_code, keyword_words, arguments}
use Rattle.pla.specs.Keywords.{has}
use Rattle.pla.specs.Steps.{NoFeed}
use Rattle.pla.specs.Text.{names_text}
use Rattle.pla.specs.ReadBack.{begins_comment, IsName, AreNames}

-- ---- what stands before the comment

code_step : (P : ℕ → Type 0) (t : Bool) (b : ℕ) (code : List ℕ) → P b → All P code → All P (cond t (b ∷ []) (b ∷ code))
code_step P true b code h all = All-cons P b [] h (All-nil P)
code_step P false b code h all = All-cons P b code h all

code_keeps : (P : ℕ → Type 0) (line : List ℕ) → All P line → All P (keyword_code line)
code_keeps P [] all = All-nil P
code_keeps P (b ∷ []) all = all
code_keeps P (b ∷ c ∷ bytes) all =
    code_step P (is_blank b && (c == 35)) b (keyword_code (c ∷ bytes)) (All-head P b (c ∷ bytes) all) (code_keeps P (c ∷ bytes) (All-tail P b (c ∷ bytes) all))

short_step : (t : Bool) (b : ℕ) (code : List ℕ) (n : ℕ) → length code ≤ n → length (cond t (b ∷ []) (b ∷ code)) ≤ 1 + n
short_step true b code n l = omega arith
short_step false b code n l = omega arith

code_short : (line : List ℕ) → length (keyword_code line) ≤ length line
code_short [] = omega arith
code_short (b ∷ []) = omega arith
code_short (b ∷ c ∷ bytes) =
    let l = short_step (is_blank b && (c == 35)) b (keyword_code (c ∷ bytes)) (length (c ∷ bytes)) (code_short (c ∷ bytes)) in omega arith

-- ---- the parts between blanks

abbrev NoBlank : List ℕ → Type 0
NoBlank bytes = All (λ b. is_blank b ≡ false) bytes

keep_step : (P : ℕ → Type 0) (t : Bool) (b : ℕ) (parts : List (List ℕ)) → P b → All (All P) parts → All (All P) (cond t ([] ∷ parts) (onto_first b parts))
keep_step P true b parts h all = All-cons (All P) [] parts (All-nil P) all
keep_step P false b [] h all = All-cons (All P) (b ∷ []) [] (All-cons P b [] h (All-nil P)) (All-nil (All P))
keep_step P false b (part ∷ parts) h all = All-cons (All P) (b ∷ part) parts (All-cons P b part h (All-head (All P) part parts all)) (All-tail (All P) part parts all)

parts_keep : (P : ℕ → Type 0) (bytes : List ℕ) → All P bytes → All (All P) (slice_split is_blank bytes)
parts_keep P [] all = All-cons (All P) [] [] (All-nil P) (All-nil (All P))
parts_keep P (b ∷ bytes) all = keep_step P (is_blank b) b (slice_split is_blank bytes) (All-head P b bytes all) (parts_keep P bytes (All-tail P b bytes all))

plain_step : (t : Bool) (b : ℕ) (parts : List (List ℕ)) → is_blank b ≡ t → All NoBlank parts → All NoBlank (cond t ([] ∷ parts) (onto_first b parts))
plain_step true b parts e all = All-cons NoBlank [] parts (All-nil (λ b. is_blank b ≡ false)) all
plain_step false b [] e all = All-cons NoBlank (b ∷ []) [] (All-cons (λ b. is_blank b ≡ false) b [] e (All-nil (λ b. is_blank b ≡ false))) (All-nil NoBlank)
plain_step false b (part ∷ parts) e all =
    All-cons NoBlank (b ∷ part) parts (All-cons (λ b. is_blank b ≡ false) b part e (All-head NoBlank part parts all)) (All-tail NoBlank part parts all)

parts_plain : (bytes : List ℕ) → All NoBlank (slice_split is_blank bytes)
parts_plain [] = All-cons NoBlank [] [] (All-nil (λ b. is_blank b ≡ false)) (All-nil NoBlank)
parts_plain (b ∷ bytes) = plain_step (is_blank b) b (slice_split is_blank bytes) refl (parts_plain bytes)

-- ---- no part but the first begins a comment

abbrev Clean : List ℕ → Type 0
Clean part = begins_comment part ≡ false

abbrev first_part : List ℕ → List ℕ
first_part code = slice_index_or (slice_split is_blank code) 0 []

head_step : (t : Bool) (c : ℕ) (parts : List (List ℕ)) → (c == 35) ≡ false → Clean (slice_index_or (cond t ([] ∷ parts) (onto_first c parts)) 0 [])
head_step true c parts h = refl
head_step false c [] h = h
head_step false c (part ∷ parts) h = h

head_clean : (c : ℕ) (rest : List ℕ) → (c == 35) ≡ false → Clean (first_part (c ∷ rest))
head_clean c rest h = head_step (is_blank c) c (slice_split is_blank rest) h

first_step : (t : Bool) (c : ℕ) (code : List ℕ) → (c == 35) ≡ false → Clean (first_part (cond t (c ∷ []) (c ∷ code)))
first_step true c code h = head_clean c [] h
first_step false c code h = head_clean c code h

first_clean : (c : ℕ) (bytes : List ℕ) → (c == 35) ≡ false → Clean (first_part (keyword_code (c ∷ bytes)))
first_clean c [] h = head_clean c [] h
first_clean c (d ∷ bytes) h = first_step (is_blank c && (d == 35)) c (keyword_code (d ∷ bytes)) h

all_clean : (parts : List (List ℕ)) → Clean (slice_index_or parts 0 []) → All Clean (drop 1 parts) → All Clean parts
all_clean [] h all = All-nil Clean
all_clean (part ∷ parts) h all = All-cons Clean part parts h all

behind_onto : (b : ℕ) (parts : List (List ℕ)) → drop 1 (onto_first b parts) ≡ drop 1 parts
behind_onto b [] = refl
behind_onto b (part ∷ parts) = refl

behind_step : (t u : Bool) (b c : ℕ) (code : List ℕ) → is_blank b ≡ t → (u ≡ false → Clean (first_part code)) → All Clean (drop 1 (slice_split is_blank code))
    → All Clean (drop 1 (slice_split is_blank (cond (t && u) (b ∷ []) (b ∷ code))))
behind_step true true b c code e first all = subst (λ ps. All Clean (drop 1 ps)) (sym (slice_split-cons_yes is_blank b [] e)) (All-cons Clean [] [] refl (All-nil Clean))
behind_step true false b c code e first all = subst (λ ps. All Clean (drop 1 ps)) (sym (slice_split-cons_yes is_blank b code e)) (all_clean (slice_split is_blank code) (first refl) all)
behind_step false u b c code e first all =
    subst (λ ps. All Clean (drop 1 ps)) (sym (slice_split-cons_no is_blank b code e)) (subst (All Clean) (sym (behind_onto b (slice_split is_blank code))) all)

one_part : (t : Bool) (b : ℕ) → All Clean (drop 1 (cond t ([] ∷ [] ∷ []) ((b ∷ []) ∷ [])))
one_part true b = All-cons Clean [] [] refl (All-nil Clean)
one_part false b = All-nil Clean

behind_clean : (bytes : List ℕ) → All Clean (drop 1 (slice_split is_blank (keyword_code bytes)))
behind_clean [] = All-nil Clean
behind_clean (b ∷ []) = one_part (is_blank b) b
behind_clean (b ∷ c ∷ bytes) = behind_step (is_blank b) (c == 35) b c (keyword_code (c ∷ bytes)) refl (first_clean c bytes) (behind_clean (c ∷ bytes))

abbrev some_byte : List ℕ → Bool
some_byte word = not (is_empty word)

filter_step : (t : Bool) (part : List ℕ) (parts : List (List ℕ)) → All Clean (filter some_byte parts) → All Clean (drop 1 (cond t (part ∷ filter some_byte parts) (filter some_byte parts)))
filter_step true part parts all = all
filter_step false part parts all = All-drop Clean 1 (filter some_byte parts) all

words_clean : (parts : List (List ℕ)) → All Clean (drop 1 parts) → All Clean (drop 1 (filter some_byte parts))
words_clean [] all = All-nil Clean
words_clean (part ∷ parts) all = filter_step (some_byte part) part parts (All-filter some_byte Clean parts all)

-- ---- names

has_byte : (word : List ℕ) → not (is_empty word) ≡ true → 0 < length word
has_byte [] e = cc
has_byte (b ∷ word) e = omega arith

abbrev Unfed : List ℕ → Type 0
Unfed bytes = All (λ b. (b == 10) ≡ false) bytes

names_in : (line : List ℕ) → NoFeed line → All IsName (drop 1 (words (keyword_code line)))
names_in line none =
    let parts = slice_split is_blank (keyword_code line) in
    let found = filter some_byte parts in
    let some = All-drop (λ w. some_byte w ≡ true) 1 found (filter_passes some_byte parts) in
    let plain = All-drop NoBlank 1 found (All-filter some_byte NoBlank parts (parts_plain (keyword_code line))) in
    let unfed = All-drop Unfed 1 found (All-filter some_byte Unfed parts (parts_keep (λ b. (b == 10) ≡ false) (keyword_code line) (code_keeps (λ b. (b == 10) ≡ false) line none))) in
    let clean = words_clean parts (behind_clean line) in
    λ k d l. record { some = has_byte (slice_index_or (drop 1 found) k d) (some k d l); no_blank = plain k d l; no_feed = unfed k d l; no_comment = clean k d l }

names_at : (t : Bool) (line : List ℕ) → NoFeed line → All IsName (drop 1 (cond t (words (keyword_code line)) []))
names_at true line none = names_in line none
names_at false line none = All-nil IsName

-- ---- how long their line is

-- the words' bytes, and one more for each
abbrev spread : List (List ℕ) → ℕ
spread [] = 0
spread (word ∷ words) = length word + 1 + spread words

spread_step : (t : Bool) (b : ℕ) (parts : List (List ℕ)) (n : ℕ) → spread parts ≡ n + 1 → spread (cond t ([] ∷ parts) (onto_first b parts)) ≡ 1 + n + 1
spread_step true b parts n e = omega (arith, e)
spread_step false b [] n e = absurd (omega (arith, e))
spread_step false b (part ∷ parts) n e = omega (arith, e)

spread_parts : (bytes : List ℕ) → spread (slice_split is_blank bytes) ≡ length bytes + 1
spread_parts [] = refl
spread_parts (b ∷ bytes) = spread_step (is_blank b) b (slice_split is_blank bytes) (length bytes) (spread_parts bytes) ∙ omega arith

fewer_step : (t : Bool) (part : List ℕ) (kept : List (List ℕ)) (n : ℕ) → spread kept ≤ n → spread (cond t (part ∷ kept) kept) ≤ length part + 1 + n
fewer_step true part kept n l = omega arith
fewer_step false part kept n l = omega arith

spread_fewer : (parts : List (List ℕ)) → spread (filter some_byte parts) ≤ spread parts
spread_fewer [] = omega arith
spread_fewer (part ∷ parts) = fewer_step (some_byte part) part (filter some_byte parts) (spread parts) (spread_fewer parts)

spread_at : (t : Bool) (line : List ℕ) → spread (cond t (words (keyword_code line)) []) ≤ length line + 1
spread_at true line =
    let parts = slice_split is_blank (keyword_code line) in
    omega (arith, spread_fewer parts, spread_parts (keyword_code line), code_short line)
spread_at false line = omega arith

length-spaced : (names : List (List ℕ)) → length (flat_map (λ name. 32 ∷ name) names) ≡ spread names
length-spaced [] = refl
length-spaced (name ∷ names) = omega (arith, length-append (32 ∷ name) (flat_map (λ (name : List ℕ). 32 ∷ name) names), length-spaced names)

front_word : (word : List ℕ) (ws : List (List ℕ)) → 0 < length word → slice_index_or ws 0 [] ≡ word → length word + spread (drop 1 ws) + 1 ≡ spread ws
front_word word [] l e = absurd (let none : length {A = ℕ} [] ≡ length word = ap length e in omega (arith, none))
front_word word (w ∷ ws) l e = let same : length w ≡ length word = ap length e in omega (arith, same)

fits : (keyword line : List ℕ) → 0 < length keyword → has keyword line ≡ true → length line ≤ format_limits.line_bytes
    → length (names_text keyword (Some (arguments line))) ≤ format_limits.line_bytes + 1
fits word line some here short =
    let first : slice_index_or (keyword_words line) 0 [] ≡ word = (bytes_eq-Decides (slice_index_or (keyword_words line) 0 []) word).0 here in
    let spaced = flat_map (λ (name : List ℕ). 32 ∷ name) (arguments line) in
    omega (
      arith,
      length-append (word ++ spaced) (10 ∷ []),
      length-append word spaced,
      length-spaced (arguments line),
      front_word word (keyword_words line) some first,
      spread_at (is_keyword_line line) line,
    )

-- the arguments of a line that is not too long, and of which there are as many as wanted
pub names_given : (keyword : List ℕ) (count : ℕ) (line : List ℕ) → 0 < length keyword → has keyword line ≡ true → NoFeed line → length line ≤ format_limits.line_bytes
    → length (arguments line) ≡ count → AreNames keyword count (arguments line)
names_given keyword count line some here none short number = record {
  number = number;
  each = names_at (is_keyword_line line) line none;
  fits = fits keyword line some here short;
}
