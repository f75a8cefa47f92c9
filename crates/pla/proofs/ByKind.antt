-- The faults of a line, by its kind.
use Rattle.std.proofs.Common.{◌≡◌, ℕ, Bool, true, false, cond, not, List, [], ◌∷◌, ◌++◌, Option, Some, None, refl, ap, ◌∙◌, find, filter, option_map}
use Rattle.std.specs.Option.{option_or}
use Rattle.cube.specs.Limits.{Limits}
use Rattle.pla.specs.declared.fault.ReadKind.{ReadKind}
use Rattle.pla.specs.declared.fault.ReadKind.TheVariants.{TooManyLines, LineTooLong}
use Rattle.pla.specs.Lines.{is_keyword_line, is_row_blank, row_code, keyword_code, words, symbols, keyword_words}
use Rattle.cube.specs.Size.{Size}
use Rattle.pla.specs.Symbols.{any_bad}
use Rattle.pla.specs.Header.{Header, size_in}
use Rattle.pla.specs.Fault.{length_tests, keyword_tests, row_tests, first_kind, fault_in, is_past_limit, is_too_long, is_refused, is_inside_row, is_repeated, is_bad_number, is_name_too_early, is_wrong_count, is_type_too_late, is_bad_type, is_row_too_early, is_bad_symbol}
use Rattle.pla.specs.HeadView.{keyword_fault}

kind_step : (b : Bool) (t : Bool × ReadKind) (o p : Option (Bool × ReadKind)) (q : Option ReadKind) → option_map (λ (t : Bool × ReadKind). t.1) p ≡ option_or (option_map (λ (t : Bool × ReadKind). t.1) o) q
    → option_map (λ (t : Bool × ReadKind). t.1) (cond b (Some t) p) ≡ option_or (option_map (λ (t : Bool × ReadKind). t.1) (cond b (Some t) o)) q
kind_step true t o p q h = refl
kind_step false t o p q h = h

-- tests behind tests
first_kind-append : (a b : List (Bool × ReadKind)) → first_kind (a ++ b) ≡ option_or (first_kind a) (first_kind b)
first_kind-append [] b = refl
first_kind-append (t ∷ a) b = kind_step t.0 t (find (λ t. t.0) a) (find (λ t. t.0) (a ++ b)) (first_kind b) (first_kind-append a b)

-- the fault of a line is that of its length, or of a keyword line, or of a row line
pub by_kind : (limits : Limits) (h : Header) (line : List ℕ) → fault_in limits h line ≡ option_or (option_or (first_kind (length_tests limits h line)) (keyword_fault limits h line)) (first_kind (row_tests h line))
unfolding fault_in keyword_fault
by_kind limits h line =
    first_kind-append (length_tests limits h line ++ keyword_tests limits h line) (row_tests h line)
    ∙ ap (λ o. option_or o (first_kind (row_tests h line))) (first_kind-append (length_tests limits h line) (keyword_tests limits h line))

-- ---- the length

pub too_many : (limits : Limits) (h : Header) (line : List ℕ) → is_past_limit limits h line ≡ true → fault_in limits h line ≡ Some TooManyLines
unfolding fault_in
too_many limits h line e = rw e refl

pub too_long : (limits : Limits) (h : Header) (line : List ℕ) → is_past_limit limits h line ≡ false → is_too_long limits h line ≡ true → fault_in limits h line ≡ Some LineTooLong
unfolding fault_in
too_long limits h line e f = rw (e, f) refl

short : (limits : Limits) (h : Header) (line : List ℕ) → is_past_limit limits h line ≡ false → is_too_long limits h line ≡ false → first_kind (length_tests limits h line) ≡ None
short limits h line e f = rw (e, f) refl

-- ---- the line

pub symbols_of_keyword : (line : List ℕ) → is_keyword_line line ≡ true → symbols line ≡ []
symbols_of_keyword line e = ap (λ t. cond t [] (filter (λ b. not (is_row_blank b)) (row_code line))) e

pub words_of_row : (line : List ℕ) → is_keyword_line line ≡ false → keyword_words line ≡ []
words_of_row line e = ap (λ t. cond t (words (keyword_code line)) []) e

none_bad : (size : Option Size) (unfinished : ℕ) → any_bad size unfinished [] ≡ false
none_bad None unfinished = refl
none_bad (Some size) unfinished = refl

no_symbols : (h : Header) (line : List ℕ) → symbols line ≡ [] → first_kind (row_tests h line) ≡ None
unfolding is_row_too_early is_bad_symbol
no_symbols h line e = rw (e, none_bad (size_in h) h.unfinished) refl

no_words : (limits : Limits) (h : Header) (line : List ℕ) → keyword_words line ≡ [] → keyword_fault limits h line ≡ None
unfolding keyword_fault is_refused is_inside_row is_repeated is_bad_number is_name_too_early is_wrong_count is_type_too_late is_bad_type
no_words limits h line e = rw e refl

-- a keyword line
pub keyword_line : (limits : Limits) (h : Header) (line : List ℕ) → is_past_limit limits h line ≡ false → is_too_long limits h line ≡ false → is_keyword_line line ≡ true → fault_in limits h line ≡ keyword_fault limits h line
keyword_line limits h line e f k =
    by_kind limits h line ∙ ap (λ o. option_or (option_or o (keyword_fault limits h line)) (first_kind (row_tests h line))) (short limits h line e f)
    ∙ ap (option_or (keyword_fault limits h line)) (no_symbols h line (symbols_of_keyword line k)) ∙ or_none (keyword_fault limits h line)
  where
    or_none : (o : Option ReadKind) → option_or o None ≡ o
    or_none None = refl
    or_none (Some x) = refl

-- a row line
pub row_line : (limits : Limits) (h : Header) (line : List ℕ) → is_past_limit limits h line ≡ false → is_too_long limits h line ≡ false → is_keyword_line line ≡ false → fault_in limits h line ≡ first_kind (row_tests h line)
row_line limits h line e f k =
    by_kind limits h line ∙ ap (λ o. option_or (option_or o (keyword_fault limits h line)) (first_kind (row_tests h line))) (short limits h line e f)
    ∙ ap (λ o. option_or o (first_kind (row_tests h line))) (no_words limits h line (words_of_row line k))
