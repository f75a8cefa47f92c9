-- Marks of inputs in words: of literals, of opposite literals and of those beyond another cube.
use Rattle.std.proofs.Common.{◌≡◌, ◌≢◌, ℕ, zero, suc, ◌+◌, ◌-◌, ◌*◌, ◌/◌, ◌%◌, ◌^◌, ◌<◌, ◌≤◌, min, max, Bool, true, false, not, ◌||◌, ◌&&◌, refl, ap, sym, ◌∙◌, arith, bit_and, bit_or, inl, inr, eqb, List, get_or, length, count_ones}
use Rattle.std.specs.Prelude.{nat_lt, if◌then◌else◌}
use Rattle.std.specs.Int.{bit_at, bit_not, w64, trailing_zeros}
use Rattle.std.specs.Int.Count.{ones-ones}
use Rattle.std.proofs.lemmas.Bool.{cases_lt, cases_eq, cases_Bool, false≢true, and_parts, or_cases, eqb-true, ltb-true, agree_below, agree_below_at, cond-true, cond-false, not-true, ltb-false, ne_eqb}
use Rattle.std.proofs.lemmas.List.{get_or_past}
use Rattle.std.proofs.lemmas.Nat.{ones_cat, ones_le_self, div-add-mod', pow_pos, div_below, or_lt}
use Rattle.std.proofs.lemmas.Nat.Bits.{bit_at_and, bit_at_or, bit_at_not, bit_at-zero, bit_at-lt, bit_at-suc, bit_at_lowest, bit_at-trailing_zeros, bit_at_cat_low, bit_at_cat_high, ones_shl, bit_at_mask_inside, bit_at_mask_below, same_from_bits_below}
use Rattle.std.proofs.Math.Nat.{mod-lt, pow-suc}
use Rattle.cube.specs.declared.symbol.Symbol.{Symbol}
use Rattle.cube.specs.declared.symbol.Symbol.TheVariants.{Dash, Zero, One}
use Rattle.cube.specs.Pattern.{agrees, is_literal}
use Rattle.cube.specs.Cube.{Cube}
use Rattle.cube.specs.Order.{rank}
use Rattle.cube.specs.Sharp.{opposite}
use Rattle.cube.specs.Packing.{bit_of, IsInputWord, PacksInputs}
use Rattle.cube.specs.Words.{Marks, exchanged, is_exchange, IsExchangeMask}
use Rattle.cube.specs.Literals.{has_literal, is_one, has_one, are_opposite, is_opposite, is_beyond_symbol, is_beyond, count_inputs, IsNextInput, IsInputSet, IsOrderKey}
use Rattle.cube.proofs.WordLemmas.{lower_bit_even, lower_bit_odd, folded_bit}

-- ---- words

pub even_bits-even : (w k : ℕ) → k < 32 → bit_at (bit_and w 6148914691236517205) (2 * k) ≡ bit_at w (2 * k)
even_bits-even w k lt = omega (arith, bit_at_and w 6148914691236517205 (2 * k), lower_bit_even k lt, bit_at-lt w (2 * k))

pub even_bits-odd : (w k : ℕ) → k < 32 → bit_at (bit_and w 6148914691236517205) (2 * k + 1) ≡ 0
even_bits-odd w k lt = omega (arith, bit_at_and w 6148914691236517205 (2 * k + 1), lower_bit_odd k lt)

-- a bit of a word that was shifted down
shifted_down : (w n k : ℕ) → bit_at (w / 2 ^ n) k ≡ bit_at w (k + n)
shifted_down w n k =
    let back : k + n - n ≡ k = omega arith in
    ap (λ i. bit_at (w / 2 ^ n) i) (sym back)
    ∙ sym (bit_at_cat_high (w / 2 ^ n) n (w % 2 ^ n) (k + n) (mod-lt w (pow_pos n)) (omega arith))
    ∙ ap (λ x. bit_at x (k + n)) (div-add-mod' w (2 ^ n))

-- bits of a word that was shifted up
kept_below : (x k : ℕ) → k < 64 → bit_at (x % 2 ^ 64) k ≡ bit_at x k
kept_below x k lt = sym (bit_at_cat_low (x / 2 ^ 64) 64 (x % 2 ^ 64) k lt) ∙ ap (λ y. bit_at y k) (div-add-mod' x (2 ^ 64))

shifted_up_low : (w n k : ℕ) → k < 64 → k < n → bit_at (w * 2 ^ n % 2 ^ 64) k ≡ 0
shifted_up_low w n k small lt =
    kept_below (w * 2 ^ n) k small ∙ ap (λ x. bit_at x k) (omega arith) ∙ bit_at_cat_low w n 0 k lt ∙ bit_at-zero k

shifted_up_high : (w n k : ℕ) → k < 64 → n ≤ k → 0 < 2 ^ n → bit_at (w * 2 ^ n % 2 ^ 64) k ≡ bit_at w (k - n)
shifted_up_high w n k small le some =
    kept_below (w * 2 ^ n) k small ∙ ap (λ x. bit_at x k) (omega arith) ∙ bit_at_cat_high w n 0 k some le

module _ (word width mask : ℕ) (is : IsExchangeMask width mask) (some : 0 < 2 ^ width) (k : ℕ) (lt : k < 64) where
  abbrev up : ℕ
  up = bit_at (bit_and word mask * 2 ^ width % 2 ^ 64) k

  whole : bit_at (bit_or (bit_and (word / 2 ^ width) mask) (bit_and word mask * 2 ^ width % 2 ^ 64)) k
      ≡ max (min (bit_at word (k + width)) (bit_at mask k)) up
  whole = bit_at_or (bit_and (word / 2 ^ width) mask) (bit_and word mask * 2 ^ width % 2 ^ 64) k
      ∙ ap (λ x. max x up) (bit_at_and (word / 2 ^ width) mask k ∙ ap (λ x. min x (bit_at mask k)) (shifted_down word width k))

  up_high : width ≤ k → up ≡ min (bit_at word (k - width)) (bit_at mask (k - width))
  up_high le = shifted_up_high (bit_and word mask) width k lt le some ∙ bit_at_and word mask (k - width)

  pub exchange-bits : bit_at (bit_or (bit_and (word / 2 ^ width) mask) (bit_and word mask * 2 ^ width % 2 ^ 64)) k
      ≡ bit_at word (exchanged width mask k)
  exchange-bits = elim (cases_eq (bit_at mask k) 1) [
    | inl set ↦
        let here : eqb (bit_at mask k) 1 ≡ true = ap (λ x. eqb x 1) set in
        let test : (nat_lt k width || eqb (bit_at mask (k - width)) 0) ≡ true = sym (cond-true _ _ _ here) ∙ is k lt in
        let nothing : up ≡ 0 = elim (cases_lt k width) [
          | inl low ↦ shifted_up_low (bit_and word mask) width k lt low
          | inr high ↦ elim (or_cases (nat_lt k width) (eqb (bit_at mask (k - width)) 0) test) [
            | inl less ↦ absurd (omega (arith, high, ltb-true k width less))
            | inr clear ↦ omega (arith, up_high high, eqb-true (bit_at mask (k - width)) 0 clear)
          ]
        ] in
        omega (arith, whole, set, nothing, bit_at-lt word (k + width), ap (λ i. bit_at word i) (cond-true (eqb (bit_at mask k) 1) (k + width) (k - width) here))
    | inr clear ↦
        let here : eqb (bit_at mask k) 1 ≡ false = ne_eqb (bit_at mask k) 1 clear in
        let test : (not (nat_lt k width) && eqb (bit_at mask (k - width)) 1) ≡ true = sym (cond-false _ _ _ here) ∙ is k lt in
        let parts = and_parts (not (nat_lt k width)) (eqb (bit_at mask (k - width)) 1) test in
        let high : width ≤ k = ltb-false k width (not-true (nat_lt k width) parts.0) in
        omega (arith, whole, clear, bit_at-lt mask k, up_high high, eqb-true (bit_at mask (k - width)) 1 parts.1, bit_at-lt word (k - width), ap (λ i. bit_at word i) (cond-false (eqb (bit_at mask k) 1) (k + width) (k - width) here))
  ]

-- groups of a width, each exchanged with the next
module _ (width mask : ℕ) (is : agree_below (is_exchange width mask) (λ _. true) 64 ≡ true)
    (inside : agree_below (λ k. nat_lt (exchanged width mask k) 64) (λ _. true) 64 ≡ true) where
  pub mask_test : IsExchangeMask width mask
  mask_test k lt = agree_below_at (is_exchange width mask) (λ _. true) 64 k is lt

  pub exchanged_inside : (k : ℕ) → k < 64 → exchanged width mask k < 64
  exchanged_inside k lt = ltb-true (exchanged width mask k) 64 (agree_below_at (λ k. nat_lt (exchanged width mask k) 64) (λ _. true) 64 k inside lt)

abbrev turned : ℕ → ℕ
turned k = exchanged 1 6148914691236517205 (exchanged 2 3689348814741910323 (exchanged 4 1085102592571150095 (exchanged 8 71777214294589695
    (exchanged 16 281470681808895 (exchanged 32 4294967295 k)))))

turned-is : (k : ℕ) → k < 64 → turned k ≡ 63 - k
turned-is k lt = eqb-true (turned k) (63 - k) (agree_below_at (λ k. eqb (turned k) (63 - k)) (λ _. true) 64 k refl lt)

module _ (w w1 w2 w3 w4 w5 r : ℕ)
    (e1 : (k : ℕ) → k < 64 → bit_at w1 k ≡ bit_at w (exchanged 1 6148914691236517205 k))
    (e2 : (k : ℕ) → k < 64 → bit_at w2 k ≡ bit_at w1 (exchanged 2 3689348814741910323 k))
    (e3 : (k : ℕ) → k < 64 → bit_at w3 k ≡ bit_at w2 (exchanged 4 1085102592571150095 k))
    (e4 : (k : ℕ) → k < 64 → bit_at w4 k ≡ bit_at w3 (exchanged 8 71777214294589695 k))
    (e5 : (k : ℕ) → k < 64 → bit_at w5 k ≡ bit_at w4 (exchanged 16 281470681808895 k))
    (e6 : (k : ℕ) → k < 64 → bit_at r k ≡ bit_at w5 (exchanged 32 4294967295 k)) where
  pub reversal-bits : (k : ℕ) → k < 64 → bit_at r k ≡ bit_at w (63 - k)
  reversal-bits k lt =
      let k6 = exchanged 32 4294967295 k in
      let l6 = exchanged_inside 32 4294967295 refl refl k lt in
      let k5 = exchanged 16 281470681808895 k6 in
      let l5 = exchanged_inside 16 281470681808895 refl refl k6 l6 in
      let k4 = exchanged 8 71777214294589695 k5 in
      let l4 = exchanged_inside 8 71777214294589695 refl refl k5 l5 in
      let k3 = exchanged 4 1085102592571150095 k4 in
      let l3 = exchanged_inside 4 1085102592571150095 refl refl k4 l4 in
      let k2 = exchanged 2 3689348814741910323 k3 in
      let l2 = exchanged_inside 2 3689348814741910323 refl refl k3 l3 in
      e6 k lt ∙ e5 k6 l6 ∙ e4 k5 l5 ∙ e3 k4 l4 ∙ e2 k3 l3 ∙ e1 k2 l2 ∙ ap (λ i. bit_at w i) (turned-is k lt)

-- `word & (MAX << at)`
pub from_on_bits : (word at : ℕ) → at < 64 → (k : ℕ) → at ≤ k → k < 64
    → bit_at (bit_and word ((2 ^ 64 - 1) * 2 ^ at % 2 ^ 64)) k ≡ bit_at word k
from_on_bits word at small k le lt =
    let mask = ap (λ x. bit_at x k) (ones_shl 64 at (omega arith)) ∙ bit_at_mask_inside at 64 k le lt in
    omega (arith, bit_at_and word ((2 ^ 64 - 1) * 2 ^ at % 2 ^ 64) k, mask, bit_at-lt word k)

pub before_bits : (word at : ℕ) → at < 64 → (k : ℕ) → k < at → bit_at (bit_and word ((2 ^ 64 - 1) * 2 ^ at % 2 ^ 64)) k ≡ 0
before_bits word at small k lt =
    let mask = ap (λ x. bit_at x k) (ones_shl 64 at (omega arith)) ∙ bit_at_mask_below at 64 k lt in
    omega (arith, bit_at_and word ((2 ^ 64 - 1) * 2 ^ at % 2 ^ 64) k, mask)

-- `!(word | (word >> 1))`
pub empty_pairs-even : (word k : ℕ) → word < 2 ^ 64 → k < 32
    → bit_at (bit_not w64 (bit_or word (word / 2))) (2 * k) ≡ 1 - max (bit_at word (2 * k)) (bit_at word (2 * k + 1))
empty_pairs-even word k fits lt =
    bit_at_not w64 (bit_or word (word / 2)) (2 * k) (or_lt 64 word (word / 2) fits (omega arith)) (omega arith) ∙ ap (λ x. 1 - x) (folded_bit word (2 * k))

-- ---- the bits of literals

-- what `literal_bits` answers
pub record AreLiterals (c : Cube) (w word : ℕ) : Type 0 where
  pub zeros : (k : ℕ) → k < 32 → bit_at word (2 * k + 1) ≡ (if not (agrees (get_or c.symbols (32 * w + k) Dash) true) then 1 else 0)
  pub ones : (k : ℕ) → k < 32 → bit_at word (2 * k) ≡ (if not (agrees (get_or c.symbols (32 * w + k) Dash) false) then 1 else 0)

abbrev bit : Symbol → Bool → ℕ
bit s b = if not (agrees s b) then 1 else 0

literal_case : (s : Symbol) → max (bit s false) (bit s true) ≡ (if is_literal s then 1 else 0)
literal_case Dash = refl
literal_case Zero = refl
literal_case One = refl

one_case : (s : Symbol) → bit s false ≡ (if is_one s then 1 else 0)
one_case Dash = refl
one_case Zero = refl
one_case One = refl

abbrev has : Symbol → Bool → ℕ
has s b = bit_of (agrees s b)

opposite_case : (s t : Symbol) → 1 - max (min (has s false) (has t false)) (min (has s true) (has t true)) ≡ (if are_opposite s t then 1 else 0)
opposite_case Dash Dash = refl
opposite_case Dash Zero = refl
opposite_case Dash One = refl
opposite_case Zero Dash = refl
opposite_case Zero Zero = refl
opposite_case Zero One = refl
opposite_case One Dash = refl
opposite_case One Zero = refl
opposite_case One One = refl

beyond_case : (s t : Symbol) → has t false - has s false + (has t true - has s true) ≡ (if is_beyond_symbol s t then 1 else 0)
beyond_case Dash Dash = refl
beyond_case Dash Zero = refl
beyond_case Dash One = refl
beyond_case Zero Dash = refl
beyond_case Zero Zero = refl
beyond_case Zero One = refl
beyond_case One Dash = refl
beyond_case One Zero = refl
beyond_case One One = refl

alone_opposite : (s : Symbol) → are_opposite s Dash ≡ false
alone_opposite Dash = refl
alone_opposite Zero = refl
alone_opposite One = refl

alone_beyond : (s : Symbol) → 1 - has s false + (1 - has s true) ≡ (if is_beyond_symbol s Dash then 1 else 0)
alone_beyond Dash = refl
alone_beyond Zero = refl
alone_beyond One = refl

module _ (c : Cube) (w word : ℕ) (is : AreLiterals c w word) (set : ℕ)
    (odd : (k : ℕ) → k < 32 → bit_at set (2 * k + 1) ≡ 0) where
  pub literal_inputs-set : ((k : ℕ) → k < 32 → bit_at set (2 * k) ≡ bit_at (bit_or word (word / 2)) (2 * k)) → IsInputSet (has_literal c) w set
  literal_inputs-set even = record {
    inputs = λ k lt.
        even k lt ∙ folded_bit word (2 * k)
        ∙ ap (λ x. max x (bit_at word (2 * k + 1))) (is.ones k lt)
        ∙ ap (λ x. max (bit (get_or c.symbols (32 * w + k) Dash) false) x) (is.zeros k lt)
        ∙ literal_case (get_or c.symbols (32 * w + k) Dash);
    between = odd;
  }

  pub one_inputs-set : ((k : ℕ) → k < 32 → bit_at set (2 * k) ≡ bit_at word (2 * k)) → IsInputSet (has_one c) w set
  one_inputs-set even = record {
    inputs = λ k lt. even k lt ∙ is.ones k lt ∙ one_case (get_or c.symbols (32 * w + k) Dash);
    between = odd;
  }

module _ (c d : Cube) (mine theirs : List ℕ) (p : PacksInputs c.symbols mine) (q : PacksInputs d.symbols theirs) (w : ℕ) (lt : w < length mine)
    (marks : ℕ) where
  own : IsInputWord c.symbols w (get_or mine w 0)
  own = p.each w (omega (arith, lt, p.words_len))

  module _ (inside : w < length theirs) where
    other : IsInputWord d.symbols w (get_or theirs w 0)
    other = q.each w (omega (arith, inside, q.words_len))

    pub opposite-Marks : ((k : ℕ) → k < 32 → bit_at marks (2 * k)
        ≡ 1 - max (bit_at (bit_and (get_or mine w 0) (get_or theirs w 0)) (2 * k)) (bit_at (bit_and (get_or mine w 0) (get_or theirs w 0)) (2 * k + 1)))
        → ((k : ℕ) → k < 32 → bit_at marks (2 * k + 1) ≡ 0) → Marks (is_opposite c d) w marks
    opposite-Marks even odd k small =
        omega (
          arith,
          even k small,
          odd k small,
          bit_at_and (get_or mine w 0) (get_or theirs w 0) (2 * k),
          bit_at_and (get_or mine w 0) (get_or theirs w 0) (2 * k + 1),
          own.low k small,
          own.high k small,
          other.low k small,
          other.high k small,
          opposite_case (get_or c.symbols (32 * w + k) Dash) (get_or d.symbols (32 * w + k) Dash),
        )

    pub beyond-Marks : ((k : ℕ) → k < 64 → bit_at marks k ≡ bit_at (get_or theirs w 0) k - bit_at (get_or mine w 0) k) → Marks (is_beyond c d) w marks
    beyond-Marks each k small =
        omega (
          arith,
          each (2 * k) (omega arith),
          each (2 * k + 1) (omega arith),
          own.low k small,
          own.high k small,
          other.low k small,
          other.high k small,
          beyond_case (get_or c.symbols (32 * w + k) Dash) (get_or d.symbols (32 * w + k) Dash),
        )

  -- past the words of the other cube
  module _ (past : length theirs ≤ w) where
    dash : (k : ℕ) → Dash ≡ get_or d.symbols (32 * w + k) Dash
    dash k = sym (get_or_past d.symbols (32 * w + k) Dash (omega (arith, past, q.words_len)))

    pub opposite-Marks_past : marks ≡ 0 → Marks (is_opposite c d) w marks
    opposite-Marks_past none k small =
        let s = get_or c.symbols (32 * w + k) Dash in
        let clear : bit_at marks (2 * k) + bit_at marks (2 * k + 1) ≡ 0 =
        omega (arith, ap (λ x. bit_at x (2 * k)) none ∙ bit_at-zero (2 * k), ap (λ x. bit_at x (2 * k + 1)) none ∙ bit_at-zero (2 * k + 1)) in
        clear ∙ ap (λ b. if b then 1 else 0) (sym (alone_opposite s)) ∙ ap (λ t. if are_opposite s t then 1 else 0) (dash k)

    pub beyond-Marks_past : ((k : ℕ) → k < 64 → bit_at marks k ≡ 1 - bit_at (get_or mine w 0) k) → Marks (is_beyond c d) w marks
    beyond-Marks_past each k small =
        let s = get_or c.symbols (32 * w + k) Dash in
        let alone : bit_at marks (2 * k) + bit_at marks (2 * k + 1) ≡ 1 - has s false + (1 - has s true) =
        omega (arith, each (2 * k) (omega arith), each (2 * k + 1) (omega arith), own.low k small, own.high k small) in
        alone ∙ alone_beyond s ∙ ap (λ t. if is_beyond_symbol s t then 1 else 0) (dash k)

-- ---- past the last input

pub opposite_past : (c d : Cube) (k : ℕ) → length c.symbols ≤ k → is_opposite c d k ≡ false
opposite_past c d k past = ap (λ s. are_opposite s (get_or d.symbols k Dash)) (get_or_past c.symbols k Dash past)

pub beyond_past : (c d : Cube) (k : ℕ) → length c.symbols ≤ k → is_beyond c d k ≡ false
beyond_past c d k past = ap (λ s. is_beyond_symbol s (get_or d.symbols k Dash)) (get_or_past c.symbols k Dash past)

-- ---- the first and the number of inputs that pass a test

mark_case : (b : Bool) (n : ℕ) → n ≡ (if b then 1 else 0) → n ≡ 0 → b ≡ false
mark_case true n e zero_n = absurd (omega arith)
mark_case false n e zero_n = refl

some_case : (b : Bool) → 0 < (if b then 1 else 0) → b ≡ true
some_case true e = refl
some_case false e = absurd (omega arith)

module _ (test : ℕ → Bool) (from w : ℕ) (word marks : ℕ) (is : Marks test w word)
    (before : (k : ℕ) → from ≤ k → k < 32 * w → test k ≡ false)
    (pair : ℕ) (begins : pair ≡ from - 32 * w) (small : pair < 32)
    (on : (k : ℕ) → 2 * pair ≤ k → k < 64 → bit_at marks k ≡ bit_at word k)
    (off : (k : ℕ) → k < 2 * pair → bit_at marks k ≡ 0) where
  unmarked : (k : ℕ) → from ≤ k → 32 * w ≤ k → k < 32 * w + 32 → bit_at marks (2 * (k - 32 * w)) ≡ 0 → bit_at marks (2 * (k - 32 * w) + 1) ≡ 0 → test k ≡ false
  unmarked k le late lt low high =
      let j = k - 32 * w in
      let whole : 32 * w + j ≡ k = omega arith in
      mark_case (test k) (bit_at word (2 * j) + bit_at word (2 * j + 1)) (is j (omega arith) ∙ ap (λ i. if test i then 1 else 0) whole)
      (omega (arith, low, high, on (2 * j) (omega arith) (omega arith), on (2 * j + 1) (omega arith) (omega arith)))

  -- no input of this word passes
  pub before-more : marks ≡ 0 → (k : ℕ) → from ≤ k → k < 32 * (w + 1) → test k ≡ false
  before-more none k le lt = elim (cases_lt k (32 * w)) [
    | inl early ↦ before k le early
    | inr late ↦ unmarked k le late (omega arith)
        (ap (λ x. bit_at x (2 * (k - 32 * w))) none ∙ bit_at-zero (2 * (k - 32 * w)))
        (ap (λ x. bit_at x (2 * (k - 32 * w) + 1)) none ∙ bit_at-zero (2 * (k - 32 * w) + 1))
  ]

  pub next-input : marks < 2 ^ 64 → marks ≢ 0 → IsNextInput test from (32 * w + trailing_zeros w64 marks / 2)
  next-input fits ne =
      let first = bit_at-trailing_zeros w64 marks (omega arith) fits in
      let t = trailing_zeros w64 marks in
      let below : t < 64 = first.0 in
      let reached : 2 * pair ≤ t = elim (cases_lt t (2 * pair)) [
        | inl lower ↦ absurd (omega (arith, off t lower, first.1))
        | inr le ↦ le
      ] in
      let half : t / 2 < 32 = omega arith in
      let some : 0 < bit_at word (2 * (t / 2)) + bit_at word (2 * (t / 2) + 1) = elim (cases_eq (t % 2) 1) [
        | inl odd ↦
            let at : t ≡ 2 * (t / 2) + 1 = omega arith in
            omega (arith, ap (λ i. bit_at word i) at, on t reached below, first.1)
        | inr even ↦
            let at : t ≡ 2 * (t / 2) = omega arith in
            omega (arith, ap (λ i. bit_at word i) at, on t reached below, first.1)
      ] in
      record {
        from_on = omega arith;
        passes = some_case (test (32 * w + t / 2)) (omega (arith, is (t / 2) half, some));
        before = λ k le lt. elim (cases_lt k (32 * w)) [
          | inl early ↦ before k le early
          | inr late ↦ unmarked k le late (omega arith) (first.2 (2 * (k - 32 * w)) (omega arith)) (first.2 (2 * (k - 32 * w) + 1) (omega arith))
        ];
      }

-- a test that no input from n on passes counts the same up to any number from n on
pub count-past : (test : ℕ → Bool) (n m : ℕ) → ((k : ℕ) → n ≤ k → test k ≡ false) → count_inputs test (n + m) ≡ count_inputs test n
count-past test n zero past =
    let same : n + 0 ≡ n = omega arith in
    ap (λ k. count_inputs test k) same
count-past test n (suc m) past =
    let next : n + suc m ≡ suc (n + m) = omega arith in
    ap (λ k. count_inputs test k) next
    ∙ ap (λ b. count_inputs test (n + m) + (if b then 1 else 0)) (past (n + m) (omega arith))
    ∙ omega (arith, count-past test n m past)

few_ones : (n : ℕ) → n < 3 → count_ones n ≡ n % 2 + n / 2
few_ones zero lt = omega (arith, ones_le_self 0)
few_ones (suc zero) lt = ones-ones 1
few_ones (suc (suc zero)) lt = omega (arith, ones_cat 1 1 0 (omega arith), ones-ones 1, ones_le_self 0)
few_ones (suc (suc (suc n))) lt = absurd (omega arith)

rest_bit : (word k : ℕ) → bit_at (word / 4) k ≡ bit_at word (k + 2)
rest_bit word k = shifted_down word 2 k

rest_marks : (test : ℕ → Bool) (n base word : ℕ)
    → ((k : ℕ) → k < suc n → bit_at word (2 * k) + bit_at word (2 * k + 1) ≡ (if test (base + k) then 1 else 0))
    → (k : ℕ) → k < n → bit_at (word / 4) (2 * k) + bit_at (word / 4) (2 * k + 1) ≡ (if test (suc base + k) then 1 else 0)
rest_marks test n base word is k lt =
    let low : 2 * k + 2 ≡ 2 * suc k = omega arith in
    let high : 2 * k + 1 + 2 ≡ 2 * suc k + 1 = omega arith in
    let at : base + suc k ≡ suc base + k = omega arith in
    omega (
      arith,
      rest_bit word (2 * k) ∙ ap (λ i. bit_at word i) low,
      rest_bit word (2 * k + 1) ∙ ap (λ i. bit_at word i) high,
      is (suc k) (omega arith) ∙ ap (λ i. if test i then 1 else 0) at,
    )

count-marks_from : (test : ℕ → Bool) (n base word : ℕ) → word < 4 ^ n
    → ((k : ℕ) → k < n → bit_at word (2 * k) + bit_at word (2 * k + 1) ≡ (if test (base + k) then 1 else 0))
    → count_inputs test (base + n) ≡ count_inputs test base + count_ones word
count-marks_from test zero base word fits is =
    let same : base + 0 ≡ base = omega arith in
    ap (λ k. count_inputs test k) same ∙ omega (arith, ones_le_self word)
count-marks_from test (suc n) base word fits is =
    let next : base + suc n ≡ suc base + n = omega arith in
    let same : base + 0 ≡ base = omega arith in
    let low : bit_at word 0 ≡ word % 2 = bit_at_lowest word in
    let high : bit_at word 1 ≡ word / 2 % 2 = bit_at-suc word 0 ∙ bit_at_lowest (word / 2) in
    let one : bit_at word 0 + bit_at word 1 ≡ (if test base then 1 else 0) = is 0 (omega arith) ∙ ap (λ k. if test k then 1 else 0) same in
    let few : word % 4 < 3 = omega (arith, low, high, one, at_most (test base)) in
    let whole : count_ones word ≡ count_ones (word / 4) + count_ones (word % 4) =
    ap (λ x. count_ones x) (sym (div-add-mod' word 4)) ∙ ones_cat 2 (word / 4) (word % 4) (omega arith) in
    let rest = count-marks_from test n (suc base) (word / 4) (div_below word 4 (4 ^ n) (omega arith) (omega (arith, fits, pow-suc 4 n))) (rest_marks test n base word is) in
    ap (λ k. count_inputs test k) next ∙ rest ∙ omega (arith, whole, one, low, high, few_ones (word % 4) few)
  where
    at_most : (b : Bool) → (if b then 1 else 0) ≤ 1
    at_most true = omega arith
    at_most false = omega arith

-- one word more
pub count-marks : (test : ℕ → Bool) (w word : ℕ) → word < 2 ^ 64 → Marks test w word
    → count_inputs test (32 * (w + 1)) ≡ count_inputs test (32 * w) + count_ones word
count-marks test w word fits is =
    let next : 32 * (w + 1) ≡ 32 * w + 32 = omega arith in
    ap (λ k. count_inputs test k) next ∙ count-marks_from test 32 (32 * w) word fits is

-- all words
pub count-whole : (test : ℕ → Bool) (n words : ℕ) → n ≤ 32 * words → ((k : ℕ) → n ≤ k → test k ≡ false)
    → count_inputs test (32 * words) ≡ count_inputs test n
count-whole test n words le past =
    let whole : 32 * words ≡ n + (32 * words - n) = omega arith in
    ap (λ k. count_inputs test k) whole ∙ count-past test n (32 * words - n) past

-- ---- the key

pub pow_four : (j : ℕ) → 4 ^ j ≡ 2 ^ (2 * j)
pow_four zero = refl
pow_four (suc j) =
    let next : 2 * suc j ≡ suc (suc (2 * j)) = omega arith in
    sym (ap (λ i. 2 ^ i) next ∙ omega (arith, pow-suc 2 (suc (2 * j)), pow-suc 2 (2 * j), pow_four j, pow-suc 4 j))

digit_bits : (n j : ℕ) → n / 4 ^ j % 4 ≡ bit_at n (2 * j) + 2 * bit_at n (2 * j + 1)
digit_bits n j =
    let square : 4 ^ j ≡ 2 ^ (2 * j) = pow_four j in
    let low : bit_at n (2 * j) ≡ n / 4 ^ j % 2 = ap (λ x. n / x % 2) (sym square) in
    let high : bit_at n (2 * j + 1) ≡ n / 4 ^ j / 2 % 2 =
    ap (λ i. bit_at n i) (omega arith) ∙ sym (shifted_down n (2 * j) 1) ∙ ap (λ x. bit_at (n / x) 1) (sym square)
    ∙ bit_at-suc (n / 4 ^ j) 0 ∙ bit_at_lowest (n / 4 ^ j / 2) in
    omega (arith, low, high)

rank_case : (s : Symbol) → bit s true + 2 * bit s false ≡ rank s
rank_case Dash = refl
rank_case Zero = refl
rank_case One = refl

pub order_key_of_32_inputs-digits : (c : Cube) (word key : ℕ) → AreLiterals c 0 word → ((k : ℕ) → k < 64 → bit_at key k ≡ bit_at word (63 - k)) → IsOrderKey c key
order_key_of_32_inputs-digits c word key is turned k lt =
    let low : 63 - 2 * (31 - k) ≡ 2 * k + 1 = omega arith in
    let high : 63 - (2 * (31 - k) + 1) ≡ 2 * k = omega arith in
    digit_bits key (31 - k) ∙ omega (
      arith,
      turned (2 * (31 - k)) (omega arith) ∙ ap (λ i. bit_at word i) low ∙ is.zeros k lt,
      turned (2 * (31 - k) + 1) (omega arith) ∙ ap (λ i. bit_at word i) high ∙ is.ones k lt,
      rank_case (get_or c.symbols (32 * 0 + k) Dash),
      ap (λ i. rank (get_or c.symbols i Dash)) (the_same k),
    )
  where
    the_same : (k : ℕ) → 32 * 0 + k ≡ k
    the_same k = omega arith

-- cubes with the same symbols at the first 32 inputs have the same key
pub order_key_of_32_inputs-same : (c d : Cube) (m n : ℕ) → m < 2 ^ 64 → n < 2 ^ 64 → IsOrderKey c m → IsOrderKey d n
    → ((k : ℕ) → k < 32 → get_or c.symbols k Dash ≡ get_or d.symbols k Dash) → m ≡ n
order_key_of_32_inputs-same c d m n fits_m fits_n mine theirs same = same_from_bits_below 64 m n fits_m fits_n each
  where
    digit : (j : ℕ) → j < 32 → bit_at m (2 * j) + 2 * bit_at m (2 * j + 1) ≡ bit_at n (2 * j) + 2 * bit_at n (2 * j + 1)
    digit j lt =
        let back : 31 - (31 - j) ≡ j = omega arith in
        sym (digit_bits m j) ∙ ap (λ i. m / 4 ^ i % 4) (sym back)
        ∙ mine (31 - j) (omega arith) ∙ ap (λ s. rank s) (same (31 - j) (omega arith)) ∙ sym (theirs (31 - j) (omega arith))
        ∙ ap (λ i. n / 4 ^ i % 4) back ∙ digit_bits n j

    each : (i : ℕ) → i < 64 → bit_at m i ≡ bit_at n i
    each i lt =
        let all = digit (i / 2) (omega arith) in
        elim (cases_eq (i % 2) 1) [
          | inl odd ↦
              let at : i ≡ 2 * (i / 2) + 1 = omega arith in
              omega (arith, all, ap (λ k. bit_at m k) at, ap (λ k. bit_at n k) at, bit_at-lt m (2 * (i / 2)), bit_at-lt n (2 * (i / 2)))
          | inr even ↦
              let at : i ≡ 2 * (i / 2) = omega arith in
              omega (arith, all, ap (λ k. bit_at m k) at, ap (λ k. bit_at n k) at, bit_at-lt m (2 * (i / 2)), bit_at-lt n (2 * (i / 2)))
        ]

-- ---- inputs that were counted

pub one-counted : (test : ℕ → Bool) (n : ℕ) → 1 ≤ count_inputs test n → (i : ℕ) × (i < n) × (test i ≡ true)
one-counted test zero le = absurd (omega (arith, le))
one-counted test (suc n) le = elim (cases_Bool (test n)) [
  | inl passes ↦ (n, omega arith, passes)
  | inr fails ↦
      let rest = one-counted test n (omega (arith, le, ap bit_of fails)) in
      (rest.0, omega (arith, rest.1), rest.2)
]

pub two-counted : (test : ℕ → Bool) (n : ℕ) → 2 ≤ count_inputs test n
    → (i : ℕ) × (k : ℕ) × (i < k) × (test i ≡ true) × (test k ≡ true)
two-counted test zero le = absurd (omega (arith, le))
two-counted test (suc n) le = elim (cases_Bool (test n)) [
  | inl passes ↦
      let one = one-counted test n (omega (arith, le, ap bit_of passes)) in
      (one.0, n, one.1, one.2, passes)
  | inr fails ↦ two-counted test n (omega (arith, le, ap bit_of fails))
]

-- the literals at an input where two cubes have opposite ones
pub opposite_symbols : (s t : Symbol) → are_opposite s t ≡ true → (s ≢ Dash) × (t ≡ opposite s)
opposite_symbols Dash t e = absurd (false≢true e)
opposite_symbols Zero Dash e = absurd (false≢true e)
opposite_symbols Zero Zero e = absurd (false≢true e)
opposite_symbols Zero One e = ((λ same. absurd (false≢true (ap is_literal (sym same)))), refl)
opposite_symbols One Dash e = absurd (false≢true e)
opposite_symbols One Zero e = ((λ same. absurd (false≢true (ap is_literal (sym same)))), refl)
opposite_symbols One One e = absurd (false≢true e)
