-- The words that the walk refuses.
use Rattle.std.proofs.Common.{cond, take, ◌≡◌, ◌∙◌, ◌<◌, ◌==◌, ℕ, Bool, true, false, refl, sym, ap, subst, arith, List, [], ◌∷◌, ◌++◌, Option, Some, None, true≢false, length, drop}
use Rattle.std.specs.Option.{is_some}
use Rattle.std.specs.Prelude.{codes, slice_get}
use Rattle.std.specs.Char.{encode_utf8}
use Rattle.std.specs.Str.{encode_utf8_all, chars, bytes_eq, IsUtf8}
use Rattle.std.proofs.lemmas.Bool.{eqb-true, ne_eqb}
use Rattle.std.proofs.lemmas.Str.{IsUtf8-drop, IsCharBoundary-after_ascii, chars_from_encodes, byte_from_char}
use Rattle.clap.specs.Walk.{Held, Row, Rule, Text, Waiting, arg_by_long, arg_by_short, attached_value, idle, option, positional}
use Rattle.clap.specs.Kinds.{Kinds, or_else}
use Rattle.clap.specs.Faults.{bundle_step_fault, flags_fault, long_fault, react_fault, option_fault, settle_fault, short_fault, word_fault}
use Rattle.clap.proofs.OnLiterals.{clap_on_literals}
use Rattle.espresso.specs.Words.{Letter, command_letter, type_letter, eat_letter, letter_of}
use Rattle.std.proofs.Math.Seq.{take-length}
use Rattle.std.specs.List.{after_first, before_first, position_or_len}
use Rattle.clap.specs.Lexer.{has_byte}
use Rattle.espresso.proofs.Rows.{bytes_eq-true}
use Rattle.espresso.proofs.Built.{choice_id, choice_rule, code_of, id_of, our_rules, our_shape, rule_for}
use Rattle.espresso.proofs.Steps.{hold, at, is_clean, turn, trailing_fault}

pub clean-or_else : (a b : Kinds) → is_clean a ≡ false → is_clean (or_else a b) ≡ false
clean-or_else [] b e = absurd (true≢false e)
clean-or_else (x ∷ xs) b e = refl

-- what a word itself asks
abbrev pub asked : Waiting → Held → Text → Kinds
asked q h w = word_fault our_shape [] false q w h

pub turn-asked : (q : Waiting) (h : Held) (w : Text) → is_clean (asked q h w) ≡ false → is_clean (turn (at h q false) w) ≡ false
turn-asked q h w e = clean-or_else (asked q h w) _ e

-- ---- an option where another still waits for its value

module _ (rows : List Row) (p : Option (Text × List Text)) where
  flag_bare : (q : Waiting) (l : Letter) → asked q (hold rows p) (45 ∷ code_of l ∷ []) ≡ option_fault our_rules false (rule_for l) None (hold rows p)
  unfolding clap_on_literals
  flag_bare idle command_letter = refl
  flag_bare idle type_letter = refl
  flag_bare idle eat_letter = refl
  flag_bare positional command_letter = refl
  flag_bare positional type_letter = refl
  flag_bare positional eat_letter = refl
  flag_bare (option id) command_letter = refl
  flag_bare (option id) type_letter = refl
  flag_bare (option id) eat_letter = refl

  flag_more : (q : Waiting) (l : Letter) (z : ℕ) (rest : Text)
      → asked q (hold rows p) (45 ∷ code_of l ∷ z ∷ rest) ≡ option_fault our_rules false (rule_for l) (attached_value (z ∷ rest)) (hold rows p)
  unfolding clap_on_literals
  flag_more idle command_letter z rest = refl
  flag_more idle type_letter z rest = refl
  flag_more idle eat_letter z rest = refl
  flag_more positional command_letter z rest = refl
  flag_more positional type_letter z rest = refl
  flag_more positional eat_letter z rest = refl
  flag_more (option id) command_letter z rest = refl
  flag_more (option id) type_letter z rest = refl
  flag_more (option id) eat_letter z rest = refl

unsettled_option : (a : Rule) (v : Option Text) (h : Held) → is_clean (settle_fault our_rules false h) ≡ false → is_clean (option_fault our_rules false a v h) ≡ false
unsettled_option a None h e = e
unsettled_option a (Some v) h e = clean-or_else (settle_fault our_rules false h) _ e

-- an option without a value is no use of it
pub unsettled : (rows : List Row) (l : Letter) → is_clean (settle_fault our_rules false (hold rows (Some (id_of l, [])))) ≡ false
unsettled rows command_letter = refl
unsettled rows type_letter = refl
unsettled rows eat_letter = refl

pub flag_refused : (q : Waiting) (rows : List Row) (p : Option (Text × List Text)) (l : Letter) (rest : Text) → is_clean (settle_fault our_rules false (hold rows p)) ≡ false
    → is_clean (turn (at (hold rows p) q false) (45 ∷ code_of l ∷ rest)) ≡ false
flag_refused q rows p l [] e = turn-asked q (hold rows p) _ (ap is_clean (flag_bare rows p q l) ∙ unsettled_option (rule_for l) None (hold rows p) e)
flag_refused q rows p l (z ∷ rest) e =
    turn-asked q (hold rows p) _ (ap is_clean (flag_more rows p q l z rest) ∙ unsettled_option (rule_for l) (attached_value (z ∷ rest)) (hold rows p) e)

-- ---- an option that waits at `--`

pub doomed : (rows : List Row) (l : Letter) (q : Waiting) (w : Text) → is_clean (turn (at (hold rows (Some (id_of l, []))) q true) w) ≡ false
doomed rows l q w = ap is_clean (trailing_fault (hold rows (Some (id_of l, []))) q w) ∙ unsettled rows l

-- ---- an option that is not known

place_none : (t : Text) → has_byte 61 t ≡ false → position_or_len (λ x. x == 61) t ≡ length t
place_none [] e = refl
place_none (x ∷ xs) e = go (x == 61) refl (place_none xs)
  where
    go : (b : Bool) → (x == 61) ≡ b → (has_byte 61 xs ≡ false → position_or_len (λ y. y == 61) xs ≡ length xs) → position_or_len (λ y. y == 61) (x ∷ xs) ≡ length (x ∷ xs)
    go true t ih = let bad : has_byte 61 (x ∷ xs) ≡ true = rw t refl in absurd (true≢false (sym bad ∙ e))
    go false t ih = let rest : position_or_len (λ y. y == 61) xs ≡ length xs = ih (rw t at e) in rw t (omega (arith, rest))

before_none : (t : Text) → has_byte 61 t ≡ false → before_first (λ x. x == 61) t ≡ t
before_none t e = ap (λ n. take n t) (place_none t e) ∙ take-length t

no_letter : (c : ℕ) → (c ≡ 68 → ⊥) → (c ≡ 111 → ⊥) → (c ≡ 101 → ⊥) → arg_by_short our_rules c ≡ None
no_letter c d o e =
    let nd : (68 == c) ≡ false = ne_eqb 68 c (λ h. d (sym h)) in
    let no : (111 == c) ≡ false = ne_eqb 111 c (λ h. o (sym h)) in
    let ne : (101 == c) ≡ false = ne_eqb 101 c (λ h. e (sym h)) in
    simp (nd, no, ne) refl

-- the first character after the hyphen
pub record Starts (y : ℕ) (rest : Text) : Type 0 where
  pub char : ℕ
  pub more : Text
  pub first : slice_get (chars (y ∷ rest)) 0 ≡ Some char
  pub parts : y ∷ rest ≡ encode_utf8 char ++ more

pub starts : (y : ℕ) (rest : Text) → IsUtf8 (45 ∷ y ∷ rest) → Starts y rest
starts y rest u = go (IsUtf8-drop (45 ∷ y ∷ rest) 1 u (IsCharBoundary-after_ascii (45 ∷ y ∷ rest) 0 u (omega arith) (omega arith)))
  where
    go : IsUtf8 (y ∷ rest) → Starts y rest
    go ([], s) = let none : 0 ≡ length (y ∷ rest) = ap length s.1 in absurd (omega arith)
    go (c ∷ cs, s) =
        let chars_are : c ∷ cs ≡ chars (y ∷ rest) = chars_from_encodes (c ∷ cs) (y ∷ rest) (c ∷ cs, s) s.1 in
        record { char = c; more = encode_utf8_all cs; first = ap (λ t. slice_get t 0) (sym chars_are); parts = sym s.1 }

-- an ASCII character is the first byte
char_is : (y : ℕ) (rest : Text) (s : Starts y rest) (n : ℕ) → n < 128 → s.char ≡ n → y ≡ n
char_is y rest s n lt e = byte_from_char (y ∷ rest) s.more s.char s.parts (omega arith) ∙ e

letterless : (y : ℕ) (l : Letter) → letter_of y ≡ None → y ≡ code_of l → ⊥
letterless y l none e = go l (ap letter_of (sym e) ∙ none)
  where
    go : (k : Letter) → letter_of (code_of k) ≡ None → ⊥
    go command_letter h = true≢false (ap is_some h)
    go type_letter h = true≢false (ap is_some h)
    go eat_letter h = true≢false (ap is_some h)

module _ (rows : List Row) (p : Option (Text × List Text)) where
  long_asked : (q : Waiting) (z : ℕ) (rest : Text) → bytes_eq (45 ∷ 45 ∷ z ∷ rest) (codes "--literals") ≡ false → is_clean (asked q (hold rows p) (45 ∷ 45 ∷ z ∷ rest)) ≡ false
  long_asked q z rest ne = ap is_clean (long_is q) ∙ go (bytes_eq choice_id name) (has_byte 61 (z ∷ rest)) refl refl
    where
      name : Text
      name = before_first (λ x. x == 61) (z ∷ rest)

      value : Option Text
      value = cond (has_byte 61 (z ∷ rest)) (Some (after_first (λ x. x == 61) (z ∷ rest))) None

      long_is : (v : Waiting) → asked v (hold rows p) (45 ∷ 45 ∷ z ∷ rest) ≡ long_fault our_rules false (arg_by_long our_rules (before_first (λ x. x == 61) (z ∷ rest)))
          (cond (has_byte 61 (z ∷ rest)) (Some (after_first (λ x. x == 61) (z ∷ rest))) None) (hold rows p)
      long_is idle = refl
      long_is positional = refl
      long_is (option id) = refl

      go : (b c : Bool) → bytes_eq choice_id (before_first (λ x. x == 61) (z ∷ rest)) ≡ b → has_byte 61 (z ∷ rest) ≡ c
          → is_clean (long_fault our_rules false (arg_by_long our_rules (before_first (λ x. x == 61) (z ∷ rest))) (cond (has_byte 61 (z ∷ rest)) (Some (after_first (λ x. x == 61) (z ∷ rest))) None) (hold rows p)) ≡ false
      go false c e f = rw e refl
      go true true e f = rw (e, f) refl
      go true false e f =
          let named : choice_id ≡ z ∷ rest = bytes_eq-true choice_id (before_first (λ x. x == 61) (z ∷ rest)) e ∙ before_none (z ∷ rest) f in
          absurd (true≢false (ap (λ t. bytes_eq (45 ∷ 45 ∷ t) (codes "--literals")) named ∙ ne))

  short_asked : (q : Waiting) (y : ℕ) (rest : Text) → (y == 45) ≡ false
      → asked q (hold rows p) (45 ∷ y ∷ rest) ≡ flags_fault our_rules false (length (y ∷ rest)) (y ∷ rest) 0 (hold rows p)
  short_asked idle y rest e = simp e refl
  short_asked positional y rest e = simp e refl
  short_asked (option id) y rest e = simp e refl

  flags_refused : (y : ℕ) (rest : Text) (c : ℕ) → slice_get (chars (y ∷ rest)) 0 ≡ Some c → arg_by_short our_rules c ≡ None
      → is_clean (flags_fault our_rules false (length (y ∷ rest)) (y ∷ rest) 0 (hold rows p)) ≡ false
  unfolding flags_fault
  flags_refused y rest c first none =
      ap (λ o. is_clean (bundle_step_fault our_rules false o (y ∷ rest) 0 (hold rows p) (flags_fault our_rules false (length rest)))) first
      ∙ ap (λ r. is_clean (short_fault our_rules false r (drop (length (encode_utf8 c)) (y ∷ rest)) (hold rows p) (flags_fault our_rules false (length rest) (drop (length (encode_utf8 c)) (y ∷ rest)) 0))) none

  pub unknown_refused : (q : Waiting) (y : ℕ) (rest : Text) → IsUtf8 (45 ∷ y ∷ rest) → letter_of y ≡ None → bytes_eq (45 ∷ y ∷ rest) (codes "--") ≡ false → bytes_eq (45 ∷ y ∷ rest) (codes "--literals") ≡ false
      → is_clean (turn (at (hold rows p) q false) (45 ∷ y ∷ rest)) ≡ false
  unknown_refused q y rest u none ne nl = turn-asked q (hold rows p) (45 ∷ y ∷ rest) (go (y == 45) refl)
    where
      long : (z : Text) → bytes_eq (45 ∷ 45 ∷ z) (codes "--") ≡ false → bytes_eq (45 ∷ 45 ∷ z) (codes "--literals") ≡ false → is_clean (asked q (hold rows p) (45 ∷ 45 ∷ z)) ≡ false
      long [] e nl = absurd (true≢false e)
      long (z ∷ more) e nl = long_asked q z more nl

      short : Starts y rest → (y == 45) ≡ false → is_clean (asked q (hold rows p) (45 ∷ y ∷ rest)) ≡ false
      short s e = ap is_clean (short_asked q y rest e) ∙ flags_refused y rest s.char s.first (no_letter s.char
          (λ h. letterless y command_letter none (char_is y rest s 68 (omega arith) h))
          (λ h. letterless y type_letter none (char_is y rest s 111 (omega arith) h))
          (λ h. letterless y eat_letter none (char_is y rest s 101 (omega arith) h)))

      go : (b : Bool) → (y == 45) ≡ b → is_clean (asked q (hold rows p) (45 ∷ y ∷ rest)) ≡ false
      go true e = let same : y ≡ 45 = eqb-true y 45 e in
          let P : ℕ → Type 0 = λ n. bytes_eq (45 ∷ n ∷ rest) (codes "--") ≡ false → bytes_eq (45 ∷ n ∷ rest) (codes "--literals") ≡ false → is_clean (asked q (hold rows p) (45 ∷ n ∷ rest)) ≡ false in
          subst P (sym same) (long rest) ne nl
      go false e = short (starts y rest u) e

-- `--literals` where an option still waits for its value
pub choice_refused : (q : Waiting) (rows : List Row) (p : Option (Text × List Text)) → is_clean (settle_fault our_rules false (hold rows p)) ≡ false
    → is_clean (turn (at (hold rows p) q false) (codes "--literals")) ≡ false
choice_refused q rows p e = turn-asked q (hold rows p) (codes "--literals") (ap is_clean (go q) ∙ clean-or_else (settle_fault our_rules false (hold rows p)) _ e)
  where
    go : (v : Waiting) → asked v (hold rows p) (codes "--literals") ≡ react_fault our_rules false choice_rule [] (hold rows p)
    go idle = refl
    go positional = refl
    go (option id) = refl
