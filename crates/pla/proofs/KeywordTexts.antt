-- Printed keyword lines: a keyword, and words behind spaces.
use Rattle.std.proofs.Common.{◌≡◌, ℕ, zero, suc, ◌+◌, ◌*◌, ◌-◌, ◌<◌, ◌≤◌, ◌^◌, Bool, true, false, cond, not, List, [], ◌∷◌, ◌++◌, length, filter, Some, None, refl, ap, ◌∙◌, append-nil, arith, eqb, ne_eqb, All, flat_map, fold, decimal, le-leb, mul_comm}
use Rattle.std.specs.Prelude.{◌&&◌, ◌||◌, ◌==◌, nat_le}
use Rattle.std.specs.List.{list_all, list_any, slice_split}
use Rattle.std.specs.Str.{all_ascii_digits}
use Rattle.std.specs.Char.{is_ascii_digit}
use Rattle.std.proofs.lemmas.List.Splits.{slice_split_at, slice_split_none}
use Rattle.std.proofs.lemmas.List.Elements.{All-append, All-cons, All-head, All-tail, All-weaker}
use Rattle.std.proofs.lemmas.List.Sums.{AllPass-from_list_all}
use Rattle.std.proofs.lemmas.Str.Parse.{IsNumeralModel, FoldsDigits, numerals_by_fold, tells_all_ascii_digits}
use Rattle.std.proofs.lemmas.Fmt.{digits_decimal, digits_value-decimal, decimal_nonempty, length-decimal-le}
use Rattle.pla.specs.Lines.{is_blank, is_empty, words, is_keyword_line, keyword_code, keyword_words}
use Rattle.pla.specs.Keywords.{number, number_within}
use Rattle.pla.specs.Steps.{NoFeed}
use Rattle.pla.specs.ReadBack.{IsName, begins_comment}

-- a keyword and each word behind a space
abbrev pub keyword_text : List ℕ → List (List ℕ) → List ℕ
keyword_text word args = word ++ flat_map (λ arg. 32 ∷ arg) args

-- ---- the words of the line

NoBlank : List ℕ → Type 0
NoBlank bytes = All (λ b. is_blank b ≡ false) bytes

-- each is a name
abbrev pub Names : List (List ℕ) → Type 0
Names [] = Unit {0}
Names (name ∷ names) = IsName name × Names names

pub names_of : (names : List (List ℕ)) → All IsName names → Names names
names_of [] each = tt
names_of (name ∷ names) each = (All-head IsName name names each, names_of names (All-tail IsName name names each))

split_words : (word : List ℕ) (args : List (List ℕ)) → IsName word → Names args → slice_split is_blank (keyword_text word args) ≡ word ∷ args
split_words word [] plain each = ap (slice_split is_blank) (append-nil word) ∙ slice_split_none is_blank word plain.no_blank
split_words word (arg ∷ args) plain each =
    slice_split_at is_blank word 32 (arg ++ flat_map (λ arg. 32 ∷ arg) args) plain.no_blank refl ∙ ap (λ ws. word ∷ ws) (split_words arg args each.0 each.1)

all_kept : (names : List (List ℕ)) → Names names → filter (λ word. not (is_empty word)) names ≡ names
all_kept [] each = refl
all_kept (name ∷ names) each =
    let some : 0 < length name = each.0.some in
    ap (λ t. cond (not t) (name ∷ filter (λ word. not (is_empty word)) names) (filter (λ word. not (is_empty word)) names)) (ne_eqb (length name) 0 (λ e. omega arith)) ∙ ap (λ ns. name ∷ ns) (all_kept names each.1)

code_byte : (b c : ℕ) (rest : List ℕ) → is_blank b ≡ false → keyword_code (c ∷ rest) ≡ c ∷ rest → keyword_code (b ∷ c ∷ rest) ≡ b ∷ c ∷ rest
code_byte b c rest plain h = ap (λ t. cond (t && (c == 35)) (b ∷ []) (b ∷ keyword_code (c ∷ rest))) plain ∙ ap (λ bs. b ∷ bs) h

code_word : (word rest : List ℕ) → All (λ b. is_blank b ≡ false) word → keyword_code rest ≡ rest → keyword_code (word ++ rest) ≡ word ++ rest
code_word [] rest plain h = h
code_word (b ∷ []) [] plain h = refl
code_word (b ∷ []) (c ∷ rest) plain h = code_byte b c rest (All-head (λ b. is_blank b ≡ false) b [] plain) h
code_word (b ∷ c ∷ word) rest plain h =
    code_byte b c (word ++ rest) (All-head (λ b. is_blank b ≡ false) b (c ∷ word) plain) (code_word (c ∷ word) rest (All-tail (λ b. is_blank b ≡ false) b (c ∷ word) plain) h)

code_args : (args : List (List ℕ)) → Names args → keyword_code (flat_map (λ arg. 32 ∷ arg) args) ≡ flat_map (λ arg. 32 ∷ arg) args
code_args [] each = refl
code_args ([] ∷ args) each = let some : 0 < length {A = ℕ} [] = each.0.some in absurd (omega arith)
code_args ((b ∷ arg) ∷ args) each =
    let more = flat_map (λ (arg : List ℕ). 32 ∷ arg) args in
    ap (λ t. cond t (32 ∷ []) (32 ∷ keyword_code (b ∷ (arg ++ more)))) each.0.no_comment
    ∙ ap (λ bs. 32 ∷ bs) (code_word (b ∷ arg) more each.0.no_blank (code_args args each.1))

args_unfed : (args : List (List ℕ)) → Names args → NoFeed (flat_map (λ arg. 32 ∷ arg) args)
args_unfed [] each = λ k d l. absurd (omega arith)
args_unfed (arg ∷ args) each =
    All-append (λ b. eqb b 10 ≡ false) (32 ∷ arg) (flat_map (λ arg. 32 ∷ arg) args) (space arg each.0.no_feed) (args_unfed args each.1)
  where
    space : (arg : List ℕ) → NoFeed arg → NoFeed (32 ∷ arg)
    space arg none zero d l = refl
    space arg none (suc k) d l = none k d (omega arith)

-- a line is a keyword line of these words
pub record Says (line word : List ℕ) (args : List (List ℕ)) : Type 0 where
  pub is_keyword : is_keyword_line line ≡ true
  pub has_words : keyword_words line ≡ word ∷ args
  pub no_feed : NoFeed line

pub text_says : (word : List ℕ) (args : List (List ℕ)) → IsName (46 ∷ word) → Names args → Says (keyword_text (46 ∷ word) args) (46 ∷ word) args
text_says word args plain each =
    let line = keyword_text (46 ∷ word) args in
    let code : keyword_code line ≡ line = code_word (46 ∷ word) (flat_map (λ arg. 32 ∷ arg) args) plain.no_blank (code_args args each) in record {
      is_keyword = refl;
      has_words = ap words code ∙ ap (filter (λ word. not (is_empty word))) (split_words (46 ∷ word) args plain each) ∙ all_kept ((46 ∷ word) ∷ args) (plain, each);
      no_feed = All-append (λ b. eqb b 10 ≡ false) (46 ∷ word) (flat_map (λ arg. 32 ∷ arg) args) plain.no_feed (args_unfed args each);
    }

-- ---- numbers

folds : FoldsDigits (λ n digits. fold (λ n digit. 10 * n + (digit - 48)) n digits)
folds = record {
  empty = λ n. refl;
  more = λ n c cs k. ap (λ m. fold (λ n digit. 10 * n + (digit - 48)) (m + (c - 48)) cs) (mul_comm 10 n);
}

numerals : IsNumeralModel (λ ds. all_ascii_digits ds ≡ true) number
numerals = numerals_by_fold (λ ds. all_ascii_digits ds ≡ true) tells_all_ascii_digits (λ n digits. fold (λ n digit. 10 * n + (digit - 48)) n digits) folds

same_test : (ds : List ℕ) → list_all is_ascii_digit ds ≡ all_ascii_digits ds
same_test [] = refl
same_test (d ∷ ds) = ap (λ b. is_ascii_digit d && b) (same_test ds)

digits : (n : ℕ) → n < 2 ^ 64 → list_all is_ascii_digit (decimal n) ≡ true
digits n h = same_test (decimal n) ∙ digits_decimal numerals n h

-- the number that decimal digits say
pub number_decimal : (low high n : ℕ) → low ≤ n → n ≤ high → n < 2 ^ 64 → number_within low high (decimal n ∷ []) ≡ Some n
number_decimal low high n l m h =
    ap (λ t. cond (t && nat_le low (number (decimal n)) && nat_le (number (decimal n)) high) (Some (number (decimal n))) None) (digits n h)
    ∙ ap (λ v. cond (true && nat_le low v && nat_le v high) (Some v) None) (digits_value-decimal numerals n h)
    ∙ ap (λ t. cond (true && t && nat_le n high) (Some n) None) (le-leb low n l)
    ∙ ap (λ t. cond (true && true && t) (Some n) None) (le-leb n high m)

-- a digit is no blank, no line feed and no #
digit_from : (b : ℕ) → is_ascii_digit b ≡ true → 48 ≤ b
digit_from b e = grind arith

plain_from : (b : ℕ) → 48 ≤ b → is_blank b ≡ false
plain_from b l = rw (ne_eqb b 32 (λ e. omega arith), ne_eqb b 9 (λ e. omega arith), ne_eqb b 11 (λ e. omega arith), ne_eqb b 12 (λ e. omega arith), ne_eqb b 13 (λ e. omega arith)) refl

no_comment_from : (ds : List ℕ) → All (λ b. is_ascii_digit b ≡ true) ds → begins_comment ds ≡ false
no_comment_from [] each = refl
no_comment_from (d ∷ ds) each = let l : 48 ≤ d = digit_from d (All-head (λ b. is_ascii_digit b ≡ true) d ds each) in ne_eqb d 35 (λ e. omega arith)

pub decimal_name : (n : ℕ) → n < 2 ^ 64 → IsName (decimal n)
decimal_name n h =
    let each : All (λ b. is_ascii_digit b ≡ true) (decimal n) = AllPass-from_list_all is_ascii_digit (decimal n) (digits n h) in record {
      some = decimal_nonempty n h;
      no_blank = All-weaker (λ b. is_ascii_digit b ≡ true) (λ b. is_blank b ≡ false) (λ b e. plain_from b (digit_from b e)) (decimal n) each;
      no_feed = All-weaker (λ b. is_ascii_digit b ≡ true) (λ b. eqb b 10 ≡ false) (λ b e. let l = digit_from b e in ne_eqb b 10 (λ e. omega arith)) (decimal n) each;
      no_comment = no_comment_from (decimal n) each;
    }

-- the numbers of a header have at most eight digits
pub short_decimal : (n : ℕ) → n < 10 ^ 8 → length (decimal n) ≤ 8
short_decimal n h = length-decimal-le 8 n (omega arith) h (omega arith)

-- ---- names that are known

none_step : (p : ℕ → Bool) (b : ℕ) (bytes : List ℕ) (t : Bool) → p b ≡ t → (t || list_any p bytes) ≡ false → (list_any p bytes ≡ false → All (λ b. p b ≡ false) bytes) → All (λ b. p b ≡ false) (b ∷ bytes)
none_step p b bytes true e h ih = cc
none_step p b bytes false e h ih = All-cons (λ b. p b ≡ false) b bytes e (ih h)

none_of : (p : ℕ → Bool) (bytes : List ℕ) → list_any p bytes ≡ false → All (λ b. p b ≡ false) bytes
none_of p [] none = λ k d l. absurd (omega arith)
none_of p (b ∷ bytes) none = none_step p b bytes (p b) refl none (none_of p bytes)

pub known_name : (name : List ℕ) → 0 < length name → list_any is_blank name ≡ false → list_any (λ b. b == 10) name ≡ false → begins_comment name ≡ false → IsName name
known_name name some blank feed comment = record { some = some; no_blank = none_of is_blank name blank; no_feed = none_of (λ b. eqb b 10) name feed; no_comment = comment }
