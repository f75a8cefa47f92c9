-- A rest that can be no line, however it goes on.
use Rattle.std.proofs.Common.{◌≡◌, ℕ, ◌+◌, ◌<◌, ◌≤◌, Bool, true, false, cond, not, List, [], ◌∷◌, ◌++◌, drop, length, Option, Some, None, refl, ◌∙◌, length-append, arith, eqb, leb, ltb, ne_eqb, lt-ltb, find}
use Rattle.std.specs.Prelude.{◌&&◌, is_some, option_map}
use Rattle.std.proofs.lemmas.Bool.{le-leb, lt-leb, eqb-true, eqb-false, leb-true, leb-false, ltb-true, ltb-false}
use Rattle.cube.specs.Limits.{Limits}
use Rattle.pla.specs.declared.fault.ReadKind.{ReadKind}
use Rattle.pla.specs.declared.fault.ReadKind.TheVariants.{TooManyLines, LineTooLong}
use Rattle.pla.specs.declared.fault.ReadFault.{ReadFault}
use Rattle.pla.specs.Lines.{is_empty}
use Rattle.pla.specs.Header.{Header, header_of}
use Rattle.pla.specs.Fault.{tests, fault_in, fault_on, sound_after, is_past_limit, is_too_long, rest_fault, at_line}

pub pick_first : {K F : Type 0} (g : K → F) (k : K) (o : Option K) (x y : Bool) → x ≡ false → y ≡ true → option_map g (cond (not x && y) (Some k) o) ≡ Some (g k)
pick_first g k o true y h j = cc
pick_first g k o false true h j = refl
pick_first g k o false false h j = cc

pub pick_second : {K F : Type 0} (g : K → F) (j k : K) (x y z : Bool) → y ≡ false → z ≡ true → option_map g (cond (not x && y) (Some j) (cond z (Some k) None)) ≡ Some (g k)
pick_second g j k true y true h e = refl
pick_second g j k true y false h e = cc
pick_second g j k false true z h e = cc
pick_second g j k false false true h e = refl
pick_second g j k false false false h e = cc

first_stands : {K : Type 0} (b : Bool) (k : K) (ts : List (Bool × K)) → b ≡ true → option_map (λ (t : Bool × K). t.1) (find (λ (t : Bool × K). t.0) ((b, k) ∷ ts)) ≡ Some k
first_stands true k ts h = refl
first_stands false k ts h = cc

second_stands : {K : Type 0} (a b : Bool) (j k : K) (ts : List (Bool × K)) → a ≡ false → b ≡ true → option_map (λ (t : Bool × K). t.1) (find (λ (t : Bool × K). t.0) ((a, j) ∷ (b, k) ∷ ts)) ≡ Some k
second_stands true b j k ts g h = cc
second_stands false b j k ts g h = first_stands b k ts h

pub many_on : (limits : Limits) → (h : Header) (line : List ℕ) → limits.lines ≤ h.lines → fault_in limits h line ≡ Some TooManyLines
unfolding fault_in is_past_limit
many_on limits h line far = first_stands (leb limits.lines h.lines) TooManyLines (drop 1 (tests limits h line)) (le-leb limits.lines h.lines far)

pub long_on : (limits : Limits) → (h : Header) (line : List ℕ) → h.lines < limits.lines → limits.line_bytes < length line → fault_in limits h line ≡ Some LineTooLong
unfolding fault_in is_past_limit is_too_long
long_on limits h line near far = second_stands (leb limits.lines h.lines) (ltb limits.line_bytes (length line)) TooManyLines LineTooLong (drop 2 (tests limits h line)) (lt-leb limits.lines h.lines near) (lt-ltb limits.line_bytes (length line) far)

-- however the rest goes on, it has this fault, and so has the line that it becomes
pub record Overlong (limits : Limits) (lines : List (List ℕ)) (rest : List ℕ) (f : ReadFault) : Type 0 where
  pub kind : ReadKind
  pub is : f ≡ at_line (length lines + 1) kind
  pub unended : (x : List ℕ) → rest_fault limits lines (rest ++ x) ≡ Some f
  pub line : (x : List ℕ) → fault_on limits lines (rest ++ x) ≡ Some kind
  pub some : (x : List ℕ) → is_empty (rest ++ x) ≡ false

longer_some : (rest x : List ℕ) → eqb (length rest) 0 ≡ false → eqb (length (rest ++ x)) 0 ≡ false
longer_some rest x h = ne_eqb _ _ (λ e. eqb-false _ _ h (omega (arith, e, length-append rest x)))

pub overlong : (limits : Limits) → (lines : List (List ℕ)) (rest : List ℕ) (f : ReadFault) → rest_fault limits lines rest ≡ Some f → Overlong limits lines rest f
overlong limits lines rest f h = by_tests (eqb (length rest) 0) (leb limits.lines (length lines)) (ltb limits.line_bytes (length rest)) refl refl refl h
  where
    by_tests : (a b c : Bool) → eqb (length rest) 0 ≡ a → leb limits.lines (length lines) ≡ b → ltb limits.line_bytes (length rest) ≡ c
        → option_map (at_line (length lines + 1)) (cond (not a && b) (Some TooManyLines) (cond c (Some LineTooLong) None)) ≡ Some f → Overlong limits lines rest f
    by_tests false true c ea eb ec e = record {
      kind = TooManyLines;
      is = cc;
      unended = λ x. pick_first (at_line (length lines + 1)) TooManyLines _ (eqb (length (rest ++ x)) 0) (leb limits.lines (length lines)) (longer_some rest x ea) eb ∙ e;
      line = λ x. many_on limits (header_of limits lines) (rest ++ x) (leb-true _ _ eb);
      some = λ x. longer_some rest x ea;
    }
    by_tests a false true ea eb ec e =
        let far : limits.line_bytes < length rest = ltb-true _ _ ec in
        record {
          kind = LineTooLong;
          is = long_is a e;
          unended = λ x. pick_second (at_line (length lines + 1)) TooManyLines LineTooLong (eqb (length (rest ++ x)) 0) (leb limits.lines (length lines)) (ltb limits.line_bytes (length (rest ++ x))) eb (lt-ltb _ _ (omega (arith, length-append rest x))) ∙ long_is' a e;
          line = λ x. long_on limits (header_of limits lines) (rest ++ x) (leb-false _ _ eb) (omega (arith, length-append rest x));
          some = λ x. ne_eqb _ _ (λ z. omega (arith, z, far, length-append rest x));
        }
      where
        long_is' : (a : Bool) → option_map (at_line (length lines + 1)) (cond (not a && false) (Some TooManyLines) (Some LineTooLong)) ≡ Some f → Some (at_line (length lines + 1) LineTooLong) ≡ Some f
        long_is' true e = e
        long_is' false e = e

        long_is : (a : Bool) → option_map (at_line (length lines + 1)) (cond (not a && false) (Some TooManyLines) (Some LineTooLong)) ≡ Some f → f ≡ at_line (length lines + 1) LineTooLong
        long_is a e = let h = long_is' a e in cc
    by_tests true true true ea eb ec e = absurd (let far : limits.line_bytes < length rest = ltb-true _ _ ec in let none : length rest ≡ 0 = eqb-true _ _ ea in omega arith)
    by_tests true b false ea eb ec e = cc
    by_tests false false false ea eb ec e = cc

none_past : {K : Type 0} (a b : Bool) (j k : K) (ts : List (Bool × K)) → option_map (λ (t : Bool × K). t.1) (find (λ (t : Bool × K). t.0) ((a, j) ∷ (b, k) ∷ ts)) ≡ None → (a ≡ false) × (b ≡ false)
none_past true b j k ts h = cc
none_past false true j k ts h = cc
none_past false false j k ts h = (refl, refl)

-- a line without a fault is within the limits
pub fine_length : (limits : Limits) → (h : Header) (line : List ℕ) → fault_in limits h line ≡ None → length line ≤ limits.line_bytes
unfolding fault_in is_past_limit is_too_long
fine_length limits h line e = ltb-false limits.line_bytes (length line) (none_past (leb limits.lines h.lines) (ltb limits.line_bytes (length line)) TooManyLines LineTooLong (drop 2 (tests limits h line)) e).1

pub fine_count : (limits : Limits) → (h : Header) (line : List ℕ) → fault_in limits h line ≡ None → h.lines < limits.lines
unfolding fault_in is_past_limit is_too_long
fine_count limits h line e = leb-false limits.lines h.lines (none_past (leb limits.lines h.lines) (ltb limits.line_bytes (length line)) TooManyLines LineTooLong (drop 2 (tests limits h line)) e).0

none_long : {K F : Type 0} (g : K → F) (a b : Bool) (j k : K) → option_map g (cond a (Some j) (cond b (Some k) None)) ≡ None → b ≡ false
none_long g true b j k h = cc
none_long g false true j k h = cc
none_long g false false j k h = refl

-- a rest without a fault is within the limit
pub rest_length : (limits : Limits) → (lines : List (List ℕ)) (rest : List ℕ) → rest_fault limits lines rest ≡ None → length rest ≤ limits.line_bytes
rest_length limits lines rest h = ltb-false limits.line_bytes (length rest) (none_long (at_line (length lines + 1)) (not (eqb (length rest) 0) && leb limits.lines (length lines)) (ltb limits.line_bytes (length rest)) TooManyLines LineTooLong h)

count_step : (limits : Limits) → (before : List (List ℕ)) (line : List ℕ) (lines : List (List ℕ)) (o : Option ReadKind) → fault_on limits before line ≡ o → cond (is_some o) [] (line ∷ sound_after (fault_on limits) (before ++ line ∷ []) lines) ≡ line ∷ lines
    → (length (before ++ line ∷ []) ≤ limits.lines → sound_after (fault_on limits) (before ++ line ∷ []) lines ≡ lines → length (before ++ line ∷ []) + length lines ≤ limits.lines) → length before + length (line ∷ lines) ≤ limits.lines
count_step limits before line lines (Some k) e h ih = cc
count_step limits before line lines None e h ih =
    let near : length before < limits.lines = fine_count limits (header_of limits before) line e in
    let size : length (before ++ line ∷ []) ≡ length before + 1 = length-append before (line ∷ []) in
    let sane : sound_after (fault_on limits) (before ++ line ∷ []) lines ≡ lines = cc in
    let all : length (before ++ line ∷ []) + length lines ≤ limits.lines = ih (omega arith) sane in
    omega arith

-- and lines without a fault are
pub sound_count : (limits : Limits) → (before lines : List (List ℕ)) → length before ≤ limits.lines → sound_after (fault_on limits) before lines ≡ lines → length before + length lines ≤ limits.lines
sound_count limits before [] l h = omega arith
sound_count limits before (line ∷ lines) l h = count_step limits before line lines (fault_on limits before line) refl h (sound_count limits (before ++ line ∷ []) lines)
