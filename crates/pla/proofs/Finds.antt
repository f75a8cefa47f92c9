-- A search for a byte, as a position.
use Rattle.std.proofs.Common.{◌≡◌, ℕ, ◌-◌, ◌≤◌, ◌<◌, Bool, true, false, cond, List, ◌∷◌, ◌++◌, ◌+◌, length, take, drop, get_or, take-append-drop, Option, Some, None, inl, inr, refl, ap, sym, ◌∙◌, arith, eqb, ltb}
use Rattle.std.specs.List.{position, position_or_len}
use Rattle.std.proofs.lemmas.Bool.{cond-true, cond-false, cases_lt, lt-ltb, le-ltb, eqb-true}
use Rattle.std.specs.Prelude.{◌||◌, MatchOption}
use Rattle.std.proofs.lemmas.List.{length-take-le, get_or-take, get_or-drop, length-drop, take-take, drop_more}
use Rattle.std.proofs.lemmas.List.Elements.{All-from_get_or}
use Rattle.pla.specs.Steps.{NoFeed}
use Rattle.std.proofs.lemmas.List.Sums.{position_or_len_is}
use Rattle.memchr.specs.Find.{IsFirstByte, is_byte, is_byte2}
use Rattle.pla.specs.Lines.{row_code}

not_true : (b : Bool) → ¬ (b ≡ true) → b ≡ false
not_true true h = absurd (h refl)
not_true false h = refl

-- what a search answers is the first position
pub first_position : (byte : ℕ) (bytes : List ℕ) (found : Option ℕ) → IsFirstByte (is_byte byte) bytes found → found ≡ position (λ b. eqb b byte) bytes
first_position byte bytes (Some k) h =
    let at : position_or_len (λ b. eqb b byte) bytes ≡ k = position_or_len_is (λ b. eqb b byte) bytes k 0 (omega (arith, h.0.high)) (λ j lt. not_true _ (h.0.before j (omega arith) lt)) (λ lt. h.1) in
    sym (ap (λ n. cond (ltb n (length bytes)) (Some n) None) at ∙ cond-true (ltb k (length bytes)) (Some k) None (lt-ltb k (length bytes) h.0.high))
first_position byte bytes None h =
    let at : position_or_len (λ b. eqb b byte) bytes ≡ length bytes = position_or_len_is (λ b. eqb b byte) bytes (length bytes) 0 (omega arith) (λ j lt. not_true _ (h j (omega arith) lt)) (λ lt. absurd (omega arith)) in
    sym (ap (λ n. cond (ltb n (length bytes)) (Some n) None) at ∙ cond-false (ltb (length bytes) (length bytes)) (Some (length bytes)) None (le-ltb (length bytes) (length bytes) (omega arith)))

-- the first line feed cuts the bytes
pub first_line : (bytes : List ℕ) (found : Option ℕ) → IsFirstByte (is_byte 10) bytes found
    → MatchOption found (NoFeed bytes) (λ end. (end < length bytes) × NoFeed (take end bytes) × (bytes ≡ take end bytes ++ 10 ∷ drop (end + 1) bytes))
first_line bytes (Some k) h =
    let short : length (take k bytes) ≡ k = length-take-le k bytes (omega (arith, h.0.high)) in
    let feed : get_or bytes k 0 ≡ 10 = eqb-true (get_or bytes k 0) 10 h.1 in (
      h.0.high,
      All-from_get_or (λ b. eqb b 10 ≡ false) (take k bytes) 0 (λ i lt. ap (λ b. eqb b 10) (get_or-take k bytes i 0 (omega arith)) ∙ not_true _ (h.0.before i (omega arith) (omega arith))),
      sym (take-append-drop k bytes) ∙ ap (λ r. take k bytes ++ r) (drop_more bytes k 0 h.0.high ∙ ap (λ b. b ∷ drop (k + 1) bytes) feed),
    )
first_line bytes None h = All-from_get_or (λ b. eqb b 10 ≡ false) bytes 0 (λ i lt. not_true _ (h i (omega arith) lt))

or_first : (a b : Bool) → ¬ ((a || b) ≡ true) → a ≡ false
or_first true b h = absurd (h refl)
or_first false b h = refl

or_second : (a b : Bool) → ¬ ((a || b) ≡ true) → b ≡ false
or_second true b h = absurd (h refl)
or_second false b h = not_true b h

or_other : (a b : Bool) → (a || b) ≡ true → a ≡ false → b ≡ true
or_other true b h e = cc
or_other false b h e = h

-- no line feed and no # in front
abbrev front_free : List ℕ → ℕ → Type 0
front_free bytes at = (j : ℕ) → j < at → ¬ (is_byte2 10 35 (get_or bytes j 0) ≡ true)

-- the code of a line ends at its first #, if it has one
code_front : (bytes : List ℕ) (at end : ℕ) → at ≤ end → end < length bytes → front_free bytes at → (at < end → get_or bytes at 0 ≡ 35) → take at bytes ≡ row_code (take end bytes)
code_front bytes at end le within free here =
    let line = take end bytes in
    let len : length line ≡ end = length-take-le end bytes (omega arith) in
    let is : position_or_len (λ b. eqb b 35) line ≡ at = position_or_len_is (λ b. eqb b 35) line at 0 (omega (arith, len))
    (λ j lt. ap (λ b. eqb b 35) (get_or-take end bytes j 0 (omega arith)) ∙ or_second (eqb (get_or bytes j 0) 10) (eqb (get_or bytes j 0) 35) (free j lt))
    (λ lt. ap (λ b. eqb b 35) (get_or-take end bytes at 0 (omega (arith, len)) ∙ here (omega (arith, len)))) in
    sym (ap (λ k. take k line) is ∙ take-take at end bytes le)

-- what two searches find, of which the second begins where the first ended
pub first_ends : (bytes : List ℕ) (at further : ℕ) → IsFirstByte (is_byte2 10 35) bytes (Some at) → eqb (get_or bytes at 0) 10 ≡ false → IsFirstByte (is_byte 10) (drop at bytes) (Some further)
    → IsFirstByte (is_byte 10) bytes (Some (at + further)) × (take at bytes ≡ row_code (take (at + further) bytes))
first_ends bytes at further h other g =
    let within : at + further < length bytes = omega (arith, g.0.high, length-drop at bytes) in
    let free : front_free bytes at = λ j lt. h.0.before j (omega arith) lt in (
      (
        record {
          low = omega arith;
          high = within;
          before = λ j low lt is. elim (cases_lt j at) [
            | inl front ↦ absurd (free j front (ap (λ a. a || eqb (get_or bytes j 0) 35) is))
            | inr back ↦ absurd (g.0.before (j - at) (omega arith) (omega arith) (ap (λ b. eqb b 10) (get_or-drop at bytes (j - at) 0 ∙ ap (λ k. get_or bytes k 0) (omega arith)) ∙ is))
          ];
        },
        ap (λ b. eqb b 10) (sym (get_or-drop at bytes further 0)) ∙ g.1,
      ),
      code_front bytes at (at + further) (omega arith) within free (λ lt. eqb-true (get_or bytes at 0) 35 (or_other (eqb (get_or bytes at 0) 10) (eqb (get_or bytes at 0) 35) h.1 other)),
    )

-- what one search finds at a line feed
pub first_end : (bytes : List ℕ) (at : ℕ) → IsFirstByte (is_byte2 10 35) bytes (Some at) → get_or bytes at 0 ≡ 10
    → IsFirstByte (is_byte 10) bytes (Some at) × (take at bytes ≡ row_code (take at bytes))
first_end bytes at h feed =
    let free : front_free bytes at = λ j lt. h.0.before j (omega arith) lt in (
      (record { low = omega arith; high = h.0.high; before = λ j low lt is. absurd (free j lt (ap (λ a. a || eqb (get_or bytes j 0) 35) is)) }, ap (λ b. eqb b 10) feed),
      code_front bytes at at (omega arith) h.0.high free (λ lt. absurd (omega arith)),
    )

-- no line feed behind a # in front of which there is none
pub no_end : (bytes : List ℕ) (at : ℕ) → IsFirstByte (is_byte2 10 35) bytes (Some at) → IsFirstByte (is_byte 10) (drop at bytes) None → NoFeed bytes
no_end bytes at h g = first_line bytes None (λ j low lt is. elim (cases_lt j at) [
  | inl front ↦ absurd (h.0.before j (omega arith) front (ap (λ a. a || eqb (get_or bytes j 0) 35) is))
  | inr back ↦ absurd (g (j - at) (omega arith) (omega (arith, length-drop at bytes)) (ap (λ b. eqb b 10) (get_or-drop at bytes (j - at) 0 ∙ ap (λ k. get_or bytes k 0) (omega arith)) ∙ is))
])
