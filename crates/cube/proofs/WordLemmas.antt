-- Two words against their bits.
use Rattle.std.proofs.Common.{◌≡◌, ◌≢◌, ℕ, ◌+◌, ◌-◌, ◌*◌, ◌/◌, ◌%◌, ◌^◌, ◌<◌, ◌≤◌, min, max, refl, ap, sym, ◌∙◌, arith, bit_and, bit_or, inl, inr, eqb, true, lit<, zero, suc, add-one, List, get_or, length}
use Rattle.std.specs.Int.{bit_at, bit_not, w64, trailing_zeros}
use Rattle.cube.specs.Words.{HasNoEmptyPair, freed_bit, bit_of_words, IsFirstClear}
use Rattle.std.proofs.lemmas.Nat.Bits.{bit_at_and, bit_at_not, bit_at-zero, bit_at-lt, bit_at_above, same_from_bits, bit_at-suc, bit_at_or, bit_at-trailing_zeros, bit_at_ones, bit_at_ones_above, bit_at_lowest, ones_shl, bit_at_mask_inside, bit_at_mask_below}
use Rattle.std.proofs.lemmas.Nat.{and_le_r, or_lt}
use Rattle.std.proofs.Math.Pow.{pow-lt}
use Rattle.std.proofs.lemmas.Bool.{cases_lt, cases_eq, agree_below_at, eqb-true}

-- each bit of b is in a
pub bits_from_covers : (a b : ℕ) → a < 2 ^ 64 → bit_and b (bit_not w64 a) ≡ 0 → (k : ℕ) → k < 64 → bit_at b k ≤ bit_at a k
bits_from_covers a b fits e k lt =
    omega (arith, bit_at_and b (bit_not w64 a) k, bit_at_not w64 a k fits lt, ap (λ w. bit_at w k) e, bit_at-zero k, bit_at-lt a k, bit_at-lt b k)

pub covers_from_bits : (a b : ℕ) → a < 2 ^ 64 → b < 2 ^ 64 → ((k : ℕ) → k < 64 → bit_at b k ≤ bit_at a k) → bit_and b (bit_not w64 a) ≡ 0
covers_from_bits a b fits_a fits_b h = same_from_bits (bit_and b (bit_not w64 a)) 0 (λ k. each a b fits_a fits_b h k)
  where
    each : (a b : ℕ) → a < 2 ^ 64 → b < 2 ^ 64 → ((k : ℕ) → k < 64 → bit_at b k ≤ bit_at a k) → (k : ℕ) → bit_at (bit_and b (bit_not w64 a)) k ≡ bit_at 0 k
    each a b fits_a fits_b h k =
        elim (cases_lt k 64) [
          | inl lt ↦ omega (arith, h k lt, bit_at_and b (bit_not w64 a) k, bit_at_not w64 a k fits_a lt, bit_at-zero k, bit_at-lt a k, bit_at-lt b k)
          | inr le ↦ omega (arith, bit_at_and b (bit_not w64 a) k, bit_at_above b 64 k fits_b le, bit_at-zero k)
        ]

-- the bits of `LOWER_BITS`
pub lower_bit_even : (k : ℕ) → k < 32 → bit_at 6148914691236517205 (2 * k) ≡ 1
lower_bit_even k lt =
    eqb-true (bit_at 6148914691236517205 (2 * k)) 1
    (agree_below_at (λ k. eqb (bit_at 6148914691236517205 (2 * k)) 1) (λ _. true) 32 k refl lt)

pub lower_bit_odd : (k : ℕ) → k < 32 → bit_at 6148914691236517205 (2 * k + 1) ≡ 0
lower_bit_odd k lt =
    eqb-true (bit_at 6148914691236517205 (2 * k + 1)) 0
    (agree_below_at (λ k. eqb (bit_at 6148914691236517205 (2 * k + 1)) 0) (λ _. true) 32 k refl lt)

-- the test of the pairs of a word
pub folded_bit : (w k : ℕ) → bit_at (bit_or w (w / 2)) k ≡ max (bit_at w k) (bit_at w (k + 1))
folded_bit w k = bit_at_or w (w / 2) k ∙ ap (λ x. max (bit_at w k) x) (sym (bit_at-suc w k) ∙ ap (λ x. bit_at w x) (omega arith))

pub pairs_from_test : (w : ℕ) → bit_and (bit_or w (w / 2)) 6148914691236517205 ≡ 6148914691236517205 → HasNoEmptyPair w
pairs_from_test w e k lt =
    omega (
      arith,
      ap (λ x. bit_at x (2 * k)) e,
      bit_at_and (bit_or w (w / 2)) 6148914691236517205 (2 * k),
      folded_bit w (2 * k),
      lower_bit_even k lt,
    )

pub test_from_pairs : (w : ℕ) → HasNoEmptyPair w → bit_and (bit_or w (w / 2)) 6148914691236517205 ≡ 6148914691236517205
test_from_pairs w h = same_from_bits _ _ (λ k. each w h k)
  where
    each : (w : ℕ) → HasNoEmptyPair w → (k : ℕ) → bit_at (bit_and (bit_or w (w / 2)) 6148914691236517205) k ≡ bit_at 6148914691236517205 k
    each w h k =
        elim (cases_lt k 64) [
          | inl lt ↦
              let half : k / 2 < 32 = omega arith in
              elim (cases_eq (k % 2) 1) [
                | inl odd ↦
                    let at : k ≡ 2 * (k / 2) + 1 = omega arith in
                    omega (
                      arith,
                      bit_at_and (bit_or w (w / 2)) 6148914691236517205 k,
                      ap (λ x. bit_at 6148914691236517205 x) at,
                      lower_bit_odd (k / 2) half,
                    )
                | inr even ↦
                    let at : k ≡ 2 * (k / 2) = omega arith in
                    let next : k + 1 ≡ 2 * (k / 2) + 1 = omega arith in
                    omega (
                      arith,
                      bit_at_and (bit_or w (w / 2)) 6148914691236517205 k,
                      folded_bit w k,
                      ap (λ x. bit_at 6148914691236517205 x) at,
                      lower_bit_even (k / 2) half,
                      ap (λ x. bit_at w x) at,
                      ap (λ x. bit_at w x) next,
                      h (k / 2) half,
                      bit_at-lt w k,
                      bit_at-lt w (k + 1),
                    )
              ]
          | inr le ↦
              omega (arith, bit_at_and (bit_or w (w / 2)) 6148914691236517205 k, bit_at_above 6148914691236517205 64 k (lit< tt) le)
        ]

-- a word that is not 0 has a bit
pub bit_from_nonzero : (w : ℕ) → w < 2 ^ 64 → w ≢ 0 → (k : ℕ) × (k < 64) × (bit_at w k ≡ 1)
bit_from_nonzero w fits ne =
    let found = bit_at-trailing_zeros w64 w (omega arith) fits in
    (trailing_zeros w64 w, found.0, found.1)

-- `a & !b`
pub difference_bits : (a b : ℕ) → b < 2 ^ 64 → (k : ℕ) → k < 64 → bit_at (bit_and a (bit_not w64 b)) k ≡ bit_at a k - bit_at b k
difference_bits a b fits k lt =
    omega (arith, bit_at_and a (bit_not w64 b) k, bit_at_not w64 b k fits lt, bit_at-lt a k, bit_at-lt b k)

-- `a | (every & !b)`
pub widened_bits : (a b every : ℕ) → b < 2 ^ 64 → (k : ℕ) → k < 64
    → bit_at (bit_or a (bit_and every (bit_not w64 b))) k ≡ max (bit_at a k) (bit_at every k - bit_at b k)
widened_bits a b every fits k lt =
    bit_at_or a (bit_and every (bit_not w64 b)) k ∙ ap (λ x. max (bit_at a k) x) (difference_bits every b fits k lt)

shifted_one : (count : ℕ) → count < 64 → 1 * 2 ^ count % 2 ^ 64 ≡ 2 ^ count
shifted_one count small = let less : 2 ^ count < 2 ^ 64 = pow-lt small in omega arith

-- the lowest bits of a word
pub low_ones : (count k : ℕ) → count < 64 → k < count → bit_at (1 * 2 ^ count % 2 ^ 64 - 1) k ≡ 1
low_ones count k small lt = ap (λ x. bit_at (x - 1) k) (shifted_one count small) ∙ bit_at_ones count k lt

pub above_low_ones : (count k : ℕ) → count < 64 → count ≤ k → bit_at (1 * 2 ^ count % 2 ^ 64 - 1) k ≡ 0
above_low_ones count k small le = ap (λ x. bit_at (x - 1) k) (shifted_one count small) ∙ bit_at_ones_above count k le

-- `d << 1` of a word that has no bit at an odd place
module _ (d : ℕ) (small : d ≤ 6148914691236517205) (odd : (k : ℕ) → k < 32 → bit_at d (2 * k + 1) ≡ 0) where
  doubled : ℕ
  doubled = d * 2 % 2 ^ 64

  doubled_is : doubled ≡ d * 2
  unfolding doubled
  doubled_is = omega arith

  doubled_next : (i : ℕ) → bit_at doubled (suc i) ≡ bit_at d i
  doubled_next i =
      let half : d * 2 / 2 ≡ d = omega arith in
      ap (λ x. bit_at x (suc i)) doubled_is ∙ bit_at-suc (d * 2) i ∙ ap (λ x. bit_at x i) half

  doubled_odd : (k : ℕ) → bit_at doubled (2 * k + 1) ≡ bit_at d (2 * k)
  doubled_odd k = rw add-one (doubled_next (2 * k))

  doubled_even : (k : ℕ) → k < 32 → bit_at doubled (2 * k) ≡ 0
  doubled_even zero lt = bit_at_lowest doubled ∙ ap (λ x. x % 2) doubled_is ∙ omega arith
  doubled_even (suc k) lt =
      let before : 2 * suc k ≡ suc (2 * k + 1) = omega arith in
      ap (λ x. bit_at doubled x) before ∙ doubled_next (2 * k + 1) ∙ odd k (omega arith)

  pub spread_even : (k : ℕ) → k < 32 → bit_at (bit_or d (d * 2 % 2 ^ 64)) (2 * k) ≡ bit_at d (2 * k)
  unfolding doubled
  spread_even k lt = omega (arith, bit_at_or d (d * 2 % 2 ^ 64) (2 * k), doubled_even k lt)

  pub spread_odd : (k : ℕ) → k < 32 → bit_at (bit_or d (d * 2 % 2 ^ 64)) (2 * k + 1) ≡ bit_at d (2 * k)
  unfolding doubled
  spread_odd k lt = omega (arith, bit_at_or d (d * 2 % 2 ^ 64) (2 * k + 1), doubled_odd k, odd k lt)

-- `a | !(dashes | (dashes << 1))`, where `dashes` is `b & (b >> 1) & LOWER_BITS`
module _ (a b : ℕ) where
  -- the pairs with both bits, by their lower bits
  full_pairs : ℕ
  full_pairs = bit_and (bit_and b (b / 2)) 6148914691236517205

  full_pairs_even : (k : ℕ) → k < 32 → bit_at full_pairs (2 * k) ≡ min (bit_at b (2 * k)) (bit_at b (2 * k + 1))
  unfolding full_pairs
  full_pairs_even k lt =
      let next : bit_at (b / 2) (2 * k) ≡ bit_at b (2 * k + 1) = sym (bit_at-suc b (2 * k)) ∙ ap (λ x. bit_at b x) (sym (add-one (2 * k))) in
      omega (
        arith,
        bit_at_and (bit_and b (b / 2)) 6148914691236517205 (2 * k),
        bit_at_and b (b / 2) (2 * k),
        next,
        lower_bit_even k lt,
        bit_at-lt b (2 * k),
      )

  full_pairs_odd : (k : ℕ) → k < 32 → bit_at full_pairs (2 * k + 1) ≡ 0
  unfolding full_pairs
  full_pairs_odd k lt = omega (arith, bit_at_and (bit_and b (b / 2)) 6148914691236517205 (2 * k + 1), lower_bit_odd k lt)

  full_pairs_small : full_pairs ≤ 6148914691236517205
  unfolding full_pairs
  full_pairs_small = and_le_r (bit_and b (b / 2)) 6148914691236517205

  spread : ℕ
  spread = bit_or full_pairs (full_pairs * 2 % 2 ^ 64)

  spread_fits : spread < 2 ^ 64
  unfolding spread
  spread_fits =
      or_lt 64 full_pairs (full_pairs * 2 % 2 ^ 64) (omega (arith, full_pairs_small)) (omega arith)

  freed_at : (k : ℕ) → k < 64 → bit_at (bit_or a (bit_not w64 spread)) k ≡ max (bit_at a k) (1 - bit_at spread k)
  freed_at k lt = bit_at_or a (bit_not w64 spread) k ∙ ap (λ x. max (bit_at a k) x) (bit_at_not w64 spread k spread_fits lt)

  pub freed_low : (k : ℕ) → k < 32
      → bit_at (bit_or a (bit_not w64 (bit_or (bit_and (bit_and b (b / 2)) 6148914691236517205) (bit_and (bit_and b (b / 2)) 6148914691236517205 * 2 % 2 ^ 64)))) (2 * k)
      ≡ freed_bit (bit_at a (2 * k)) b k
  unfolding spread full_pairs
  freed_low k lt =
      freed_at (2 * k) (omega arith)
      ∙ ap (λ x. max (bit_at a (2 * k)) (1 - x)) (spread_even full_pairs full_pairs_small full_pairs_odd k lt ∙ full_pairs_even k lt)

  pub freed_high : (k : ℕ) → k < 32
      → bit_at (bit_or a (bit_not w64 (bit_or (bit_and (bit_and b (b / 2)) 6148914691236517205) (bit_and (bit_and b (b / 2)) 6148914691236517205 * 2 % 2 ^ 64)))) (2 * k + 1)
      ≡ freed_bit (bit_at a (2 * k + 1)) b k
  unfolding spread full_pairs
  freed_high k lt =
      freed_at (2 * k + 1) (omega arith)
      ∙ ap (λ x. max (bit_at a (2 * k + 1)) (1 - x)) (spread_odd full_pairs full_pairs_small full_pairs_odd k lt ∙ full_pairs_even k lt)

-- `!word & (MAX << bit)`
pub clear_from_bits : (word bit : ℕ) → word < 2 ^ 64 → bit < 64 → (k : ℕ) → bit ≤ k → k < 64
    → bit_at (bit_and (bit_not w64 word) ((2 ^ 64 - 1) * 2 ^ bit % 2 ^ 64)) k ≡ 1 - bit_at word k
clear_from_bits word bit fits small k le lt =
    let mask = ap (λ x. bit_at x k) (ones_shl 64 bit (omega arith)) ∙ bit_at_mask_inside bit 64 k le lt in
    bit_at_and (bit_not w64 word) ((2 ^ 64 - 1) * 2 ^ bit % 2 ^ 64) k
    ∙ ap (λ x. min (bit_at (bit_not w64 word) k) x) mask
    ∙ ap (λ x. min x 1) (bit_at_not w64 word k fits lt) ∙ omega arith

pub clear_before_bits : (word bit : ℕ) → bit < 64 → (k : ℕ) → k < bit
    → bit_at (bit_and (bit_not w64 word) ((2 ^ 64 - 1) * 2 ^ bit % 2 ^ 64)) k ≡ 0
clear_before_bits word bit small k lt =
    let mask = ap (λ x. bit_at x k) (ones_shl 64 bit (omega arith)) ∙ bit_at_mask_below bit 64 k lt in
    bit_at_and (bit_not w64 word) ((2 ^ 64 - 1) * 2 ^ bit % 2 ^ 64) k
    ∙ ap (λ x. min (bit_at (bit_not w64 word) k) x) mask ∙ omega arith

-- the clear bits of word w from a number on
module _ (words : List ℕ) (from w bit clear : ℕ) (begins : bit ≡ from - 64 * w)
    (from_on : (k : ℕ) → bit ≤ k → k < 64 → bit_at clear k ≡ 1 - bit_at (get_or words w 0) k)
    (before : (k : ℕ) → k < bit → bit_at clear k ≡ 0)
    (set : (k : ℕ) → from ≤ k → k < 64 * w → bit_of_words words k ≡ 1) where
  -- a bit of word w that is clear in `clear`
  set_here : (k : ℕ) → from ≤ k → k / 64 ≡ w → bit_at clear (k % 64) ≡ 0 → bit_of_words words k ≡ 1
  set_here k le here e =
      let above : bit ≤ k % 64 = omega arith in
      let small : k % 64 < 64 = omega arith in
      ap (λ v. bit_at (get_or words v 0) (k % 64)) here
      ∙ omega (arith, from_on (k % 64) above small, bit_at-lt (get_or words w 0) (k % 64))

  pub IsFirstClear-from_word : w < length words → clear < 2 ^ 64 → clear ≢ 0 → IsFirstClear words from (64 * w + trailing_zeros w64 clear)
  IsFirstClear-from_word lt fits ne =
      let first = bit_at-trailing_zeros w64 clear (omega arith) fits in
      let t = trailing_zeros w64 clear in
      let small : t < 64 = first.0 in
      let reached : bit ≤ t = elim (cases_lt t bit) [
        | inl lower ↦ absurd (omega (arith, before t lower, first.1))
        | inr le ↦ le
      ] in
      let word : (64 * w + t) / 64 ≡ w = omega arith in
      let place : (64 * w + t) % 64 ≡ t = omega arith in
      record {
        from_on = omega arith;
        within = omega arith;
        clear = ap (λ v. bit_at (get_or words v 0) ((64 * w + t) % 64)) word ∙ ap (λ k. bit_at (get_or words w 0) k) place
            ∙ omega (arith, from_on t reached small, first.1, bit_at-lt (get_or words w 0) t);
        set_before = λ k le below. elim (cases_lt k (64 * w)) [
          | inl earlier ↦ set k le earlier
          | inr late ↦
              let here : k / 64 ≡ w = omega arith in
              set_here k le here (first.2 (k % 64) (omega arith))
        ];
      }
