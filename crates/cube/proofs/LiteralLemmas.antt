-- The literals of a row as the clear bits of its words.
use Rattle.std.proofs.Common.{◌≡◌, ℕ, zero, suc, ◌+◌, ◌-◌, ◌*◌, ◌/◌, ◌%◌, ◌^◌, ◌<◌, ◌≤◌, Bool, true, false, not, cond, List, [], ◌∷◌, length, take, drop, get_or, refl, ap, sym, ◌∙◌, arith, inl, inr, count_by, count_ones, sum_by, eqb}
use Rattle.std.specs.Int.{bit_at, bit_not, count_zeros, w64}
use Rattle.std.specs.Simd.Lanes.{mask_l}
use Rattle.std.proofs.lemmas.Simd.{bit_mask_l, ones-mask_l_cons}
use Rattle.std.proofs.lemmas.Bool.{cases_lt, cases_eq, false≢true}
use Rattle.std.proofs.lemmas.List.{get_or-take, get_or-drop, get_or_past, length-take, length-drop}
use Rattle.std.proofs.lemmas.List.Sums.{sum_by-take-drop, sum_by-cons}
use Rattle.std.proofs.lemmas.Nat.{ones_le_self}
use Rattle.std.proofs.lemmas.Nat.Bits.{bit_at_not, bit_at_above, same_from_bits}
use Rattle.cube.specs.declared.symbol.Symbol.{Symbol}
use Rattle.cube.specs.declared.symbol.Symbol.TheVariants.{Dash, Zero, One}
use Rattle.cube.specs.Pattern.{agrees, is_literal}
use Rattle.cube.specs.Words.{bit_of_words, IsFirstClear}
use Rattle.cube.proofs.PackingLemmas.{symbol_from_bits}
use Rattle.cube.proofs.OrderLemmas.{input_bit}
use Rattle.cube.specs.Packing.{bit_of, IsInputWord, PacksInputs}

-- for each symbol, whether it refuses 0 and whether it refuses 1
refusals : List Symbol → List Bool
refusals [] = []
refusals (s ∷ ss) = not (agrees s false) ∷ not (agrees s true) ∷ refusals ss

ones-refusals : (ss : List Symbol) → count_ones (mask_l (refusals ss)) ≡ count_by is_literal ss
unfolding refusals
ones-refusals [] = omega (arith, ones_le_self 0)
ones-refusals (s ∷ ss) =
    ones-mask_l_cons (not (agrees s false)) (not (agrees s true) ∷ refusals ss)
    ∙ ap (λ n. cond (not (agrees s false)) 1 0 + n) (ones-mask_l_cons (not (agrees s true)) (refusals ss))
    ∙ ap (λ n. cond (not (agrees s false)) 1 0 + (cond (not (agrees s true)) 1 0 + n)) (ones-refusals ss)
    ∙ one s (count_by is_literal ss) ∙ sym (sum_by-cons (λ t. cond (is_literal t) 1 0) s ss)
  where
    one : (s : Symbol) (n : ℕ) → cond (not (agrees s false)) 1 0 + (cond (not (agrees s true)) 1 0 + n) ≡ cond (is_literal s) 1 0 + n
    one Dash n = omega arith
    one Zero n = omega arith
    one One n = omega arith

length-refusals : (ss : List Symbol) → length (refusals ss) ≡ 2 * length ss
unfolding refusals
length-refusals [] = refl
length-refusals (s ∷ ss) = omega (arith, length-refusals ss)

refusal_low : (ss : List Symbol) (k : ℕ) → get_or (refusals ss) (2 * k) false ≡ not (agrees (get_or ss k Dash) false)
unfolding refusals
refusal_low [] k = refl
refusal_low (s ∷ ss) zero = refl
refusal_low (s ∷ ss) (suc k) =
    let at : 2 * suc k ≡ suc (suc (2 * k)) = omega arith in
    ap (λ i. get_or (refusals (s ∷ ss)) i false) at ∙ refusal_low ss k

refusal_high : (ss : List Symbol) (k : ℕ) → get_or (refusals ss) (2 * k + 1) false ≡ not (agrees (get_or ss k Dash) true)
unfolding refusals
refusal_high [] k = refl
refusal_high (s ∷ ss) zero = refl
refusal_high (s ∷ ss) (suc k) =
    let at : 2 * suc k + 1 ≡ suc (suc (2 * k + 1)) = omega arith in
    ap (λ i. get_or (refusals (s ∷ ss)) i false) at ∙ refusal_high ss k

bit_of-not : (b : Bool) → cond (not b) 1 0 ≡ 1 - bit_of b
bit_of-not true = refl
bit_of-not false = refl

-- the clear bits of the first word
clear_bits : (ss : List Symbol) (w : ℕ) → w < 2 ^ 64 → IsInputWord ss 0 w → (k : ℕ)
    → bit_at (mask_l (refusals (take 32 ss))) k ≡ bit_at (bit_not w64 w) k
clear_bits ss w fits p k = bit_mask_l (refusals (take 32 ss)) k ∙ elim (cases_lt k 64) [
  | inl lt ↦
      let half : k / 2 < 32 = omega arith in
      let first : 32 * 0 + k / 2 ≡ k / 2 = omega arith in
      let clear = sym (bit_at_not w64 w k fits lt) in
      elim (cases_eq (k % 2) 1) [
        | inl odd ↦
            let at : k ≡ 2 * (k / 2) + 1 = omega arith in
            ap (λ i. cond (get_or (refusals (take 32 ss)) i false) 1 0) at
            ∙ ap (λ b. cond b 1 0) (refusal_high (take 32 ss) (k / 2))
            ∙ ap (λ s. cond (not (agrees s true)) 1 0) (get_or-take 32 ss (k / 2) Dash half ∙ ap (λ i. get_or ss i Dash) (sym first))
            ∙ bit_of-not (agrees (get_or ss (32 * 0 + k / 2) Dash) true)
            ∙ ap (λ x. 1 - x) (sym (p.high (k / 2) half) ∙ ap (λ i. bit_at w i) (sym at)) ∙ clear
        | inr even ↦
            let at : k ≡ 2 * (k / 2) = omega arith in
            ap (λ i. cond (get_or (refusals (take 32 ss)) i false) 1 0) at
            ∙ ap (λ b. cond b 1 0) (refusal_low (take 32 ss) (k / 2))
            ∙ ap (λ s. cond (not (agrees s false)) 1 0) (get_or-take 32 ss (k / 2) Dash half ∙ ap (λ i. get_or ss i Dash) (sym first))
            ∙ bit_of-not (agrees (get_or ss (32 * 0 + k / 2) Dash) false)
            ∙ ap (λ x. 1 - x) (sym (p.low (k / 2) half) ∙ ap (λ i. bit_at w i) (sym at)) ∙ clear
      ]
  | inr le ↦
      let past : length (refusals (take 32 ss)) ≤ k = omega (arith, length-refusals (take 32 ss), length-take 32 ss) in
      let inverse : bit_not w64 w < 2 ^ 64 = omega arith in
      ap (λ b. cond b 1 0) (get_or_past (refusals (take 32 ss)) k false past) ∙ sym (bit_at_above (bit_not w64 w) 64 k inverse le)
]

clear_word : (ss : List Symbol) (w : ℕ) → w < 2 ^ 64 → IsInputWord ss 0 w → count_zeros w64 w ≡ count_by is_literal (take 32 ss)
clear_word ss w fits p =
    ap (λ n. count_ones n) (sym (same_from_bits (mask_l (refusals (take 32 ss))) (bit_not w64 w) (clear_bits ss w fits p)))
    ∙ ones-refusals (take 32 ss)

-- the words after the first
rest_word : (ss : List Symbol) (v w : ℕ) → IsInputWord ss (suc v) w → IsInputWord (drop 32 ss) v w
rest_word ss v w p = record {
  low = λ k lt. p.low k lt ∙ at k false;
  high = λ k lt. p.high k lt ∙ at k true;
}
  where
    at : (k : ℕ) (bit : Bool) → bit_of (agrees (get_or ss (32 * suc v + k) Dash) bit) ≡ bit_of (agrees (get_or (drop 32 ss) (32 * v + k) Dash) bit)
    at k bit =
        let there : 32 * suc v + k ≡ 32 + (32 * v + k) = omega arith in
        ap (λ s. bit_of (agrees s bit)) (ap (λ i. get_or ss i Dash) there ∙ sym (get_or-drop 32 ss (32 * v + k) Dash))

clear_words : (ws : List ℕ) (ss : List Symbol) → length ss ≤ 32 * length ws → ((v : ℕ) → get_or ws v 0 < 2 ^ 64)
    → ((v : ℕ) → v < length ws → IsInputWord ss v (get_or ws v 0)) → sum_by (count_zeros w64) ws ≡ count_by is_literal ss
clear_words [] [] le fits each = refl
clear_words [] (s ∷ ss) le fits each = absurd (omega arith)
clear_words (w ∷ ws) ss le fits each =
    let first = clear_word ss w (fits 0) (each 0 (omega arith)) in
    let rest = clear_words ws (drop 32 ss) (omega (arith, length-drop 32 ss)) (λ v. fits (suc v))
    (λ v lt. rest_word ss v (get_or ws v 0) (each (suc v) (omega arith))) in
    sum_by-cons (count_zeros w64) w ws ∙ ap (λ n. n + sum_by (count_zeros w64) ws) first ∙ ap (λ n. count_by is_literal (take 32 ss) + n) rest
    ∙ sum_by-take-drop (λ s. cond (is_literal s) 1 0) ss 32

-- what `literals` owes
pub literals-from_words : (ss : List Symbol) (ws : List ℕ) → PacksInputs ss ws → ((v : ℕ) → get_or ws v 0 < 2 ^ 64)
    → sum_by (count_zeros w64) ws ≡ count_by is_literal ss
literals-from_words ss ws p fits =
    clear_words ws ss (omega (arith, p.words_len)) fits (λ v lt. p.each v (omega (arith, p.words_len)))

-- ---- the next literal

literal_from_bit : (s : Symbol) (bit : Bool) → bit_of (agrees s bit) ≡ 0 → is_literal s ≡ true
literal_from_bit Dash bit e = absurd (omega arith)
literal_from_bit Zero bit e = refl
literal_from_bit One bit e = refl

module _ (ss : List Symbol) (ws : List ℕ) (p : PacksInputs ss ws) (from : ℕ) where
  -- an input whose two bits are set
  dash_at : (k : ℕ) → k < length ss → bit_of_words ws (2 * k) ≡ 1 → bit_of_words ws (2 * k + 1) ≡ 1 → get_or ss k Dash ≡ Dash
  dash_at k lt low high =
      let half : 2 * k / 2 ≡ k = omega arith in
      let half' : (2 * k + 1) / 2 ≡ k = omega arith in
      let even : 2 * k % 2 ≡ 0 = omega arith in
      let odd : (2 * k + 1) % 2 ≡ 1 = omega arith in
      symbol_from_bits (get_or ss k Dash) Dash
      (rw (half, even) at (sym (input_bit ss ws p (2 * k) (omega (arith, p.words_len))) ∙ low))
      (rw (half', odd) at (sym (input_bit ss ws p (2 * k + 1) (omega (arith, p.words_len))) ∙ high))

  pub next_literal-found : (at : ℕ) → IsFirstClear ws (2 * from) at
      → (from ≤ at / 2) × (at / 2 < length ss) × (is_literal (get_or ss (at / 2) Dash) ≡ true)
      × ((k : ℕ) → from ≤ k → k < at / 2 → get_or ss k Dash ≡ Dash)
  next_literal-found at f =
      let literal = literal_from_bit (get_or ss (at / 2) Dash) (eqb (at % 2) 1) (sym (input_bit ss ws p at f.within) ∙ f.clear) in
      let within : at / 2 < length ss = elim (cases_lt (at / 2) (length ss)) [
        | inl lt ↦ lt
        | inr past ↦ absurd (false≢true (ap (λ s. is_literal s) (sym (get_or_past ss (at / 2) Dash past)) ∙ literal))
      ] in (
        omega (arith, f.from_on),
        within,
        literal,
        λ k le lt. dash_at k (omega arith) (f.set_before (2 * k) (omega arith) (omega arith)) (f.set_before (2 * k + 1) (omega arith) (omega arith)),
      )

  pub next_literal-none : ((k : ℕ) → 2 * from ≤ k → k < 64 * length ws → bit_of_words ws k ≡ 1)
      → (k : ℕ) → from ≤ k → get_or ss k Dash ≡ Dash
  next_literal-none set k le = elim (cases_lt k (length ss)) [
    | inl lt ↦ dash_at k lt (set (2 * k) (omega arith) (omega (arith, p.words_len))) (set (2 * k + 1) (omega arith) (omega (arith, p.words_len)))
    | inr past ↦ get_or_past ss k Dash past
  ]
