-- The cofactor in words.
use Rattle.std.proofs.Common.{◌≡◌, ℕ, ◌+◌, ◌-◌, ◌*◌, ◌<◌, ◌≤◌, min, max, Bool, true, false, not, ◌||◌, List, length, get_or, refl, ap, sym, subst, ◌∙◌, arith, inl, inr}
use Rattle.std.specs.Int.{bit_at}
use Rattle.std.proofs.lemmas.Bool.{cases_lt}
use Rattle.std.proofs.lemmas.List.{get_or_past, get_or_default}
use Rattle.cube.specs.declared.symbol.Symbol.{Symbol}
use Rattle.cube.specs.declared.symbol.Symbol.TheVariants.{Dash, Zero, One}
use Rattle.cube.specs.Pattern.{agrees}
use Rattle.std.specs.Simd.Lanes.{zip2}
use Rattle.cube.specs.Cube.{Cube, SameSize}
use Rattle.cube.specs.Cofactor.{cofactor_symbol, cofactor}
use Rattle.cube.specs.Words.{freed_bit}
use Rattle.cube.specs.Packing.{input_words, output_words, bit_of, IsOutputWord, Packs, IsPacked, unpacked}
use Rattle.cube.proofs.PackingLemmas.{output_word_of, length-words, within_from_true}
use Rattle.std.proofs.lemmas.Simd.{length-zip2}
use Rattle.cube.proofs.ZipLemmas.{ZipsPairs, get_or-zip2_any, IsPacked-zip_row}

-- a bit of the cofactor's symbol, from the bit of s and the pair of t
freed_symbol : (s t : Symbol) (bit : Bool)
    → max (bit_of (agrees s bit)) (1 - min (bit_of (agrees t false)) (bit_of (agrees t true))) ≡ bit_of (agrees (cofactor_symbol s t) bit)
freed_symbol Dash Dash bit = refl
freed_symbol Dash Zero bit = refl
freed_symbol Dash One bit = refl
freed_symbol Zero Dash true = refl
freed_symbol Zero Dash false = refl
freed_symbol Zero Zero true = refl
freed_symbol Zero Zero false = refl
freed_symbol Zero One true = refl
freed_symbol Zero One false = refl
freed_symbol One Dash true = refl
freed_symbol One Dash false = refl
freed_symbol One Zero true = refl
freed_symbol One Zero false = refl
freed_symbol One One true = refl
freed_symbol One One false = refl

-- the words that `freed_word` gives
ZipsPairs-freed : (x y w : ℕ) → ((k : ℕ) → k < 32 → bit_at w (2 * k) ≡ freed_bit (bit_at x (2 * k)) y k)
    → ((k : ℕ) → k < 32 → bit_at w (2 * k + 1) ≡ freed_bit (bit_at x (2 * k + 1)) y k)
    → ZipsPairs (λ _ _. true) cofactor_symbol x y w
ZipsPairs-freed x y w low high = record {
  each = λ k s t lt _ p r. record {
    low = low k lt ∙ ap (λ z. max z (1 - min (bit_at y (2 * k)) (bit_at y (2 * k + 1)))) p.low
        ∙ pair s k t false r.low r.high;
    high = high k lt ∙ ap (λ z. max z (1 - min (bit_at y (2 * k)) (bit_at y (2 * k + 1)))) p.high
        ∙ pair s k t true r.low r.high;
  };
}
  where
    pair : (s : Symbol) (k : ℕ) (t : Symbol) (bit : Bool) → bit_at y (2 * k) ≡ bit_of (agrees t false) → bit_at y (2 * k + 1) ≡ bit_of (agrees t true)
        → max (bit_of (agrees s bit)) (1 - min (bit_at y (2 * k)) (bit_at y (2 * k + 1))) ≡ bit_of (agrees (cofactor_symbol s t) bit)
    pair s k t bit low high =
        ap (λ z. max (bit_of (agrees s bit)) (1 - min z (bit_at y (2 * k + 1)))) low
        ∙ ap (λ z. max (bit_of (agrees s bit)) (1 - min (bit_of (agrees t false)) z)) high
        ∙ freed_symbol s t bit

widened_output : (x y : Bool) → max (bit_of x) (1 - bit_of y) ≡ bit_of (x || not y)
widened_output true true = refl
widened_output true false = refl
widened_output false true = refl
widened_output false false = refl

-- the words that `or_not_word` gives
IsOutputWord-widened : (bs os : List Bool) (m v x y w : ℕ) → length bs ≡ length os → length bs ≡ m
    → IsOutputWord bs v x → IsOutputWord os v y
    → ((k : ℕ) → k < 64 → 64 * v + k < m → bit_at w k ≡ max (bit_at x k) (1 - bit_at y k))
    → ((k : ℕ) → k < 64 → m ≤ 64 * v + k → bit_at w k ≡ bit_at x k)
    → IsOutputWord (zip2 (λ p q. p || not q) bs os) v w
IsOutputWord-widened bs os m v x y w e em px py within past = record { bits = λ k lt. each k lt (px.bits k lt) (py.bits k lt) }
  where
    each : (k : ℕ) → k < 64 → bit_at x k ≡ bit_of (get_or bs (64 * v + k) false) → bit_at y k ≡ bit_of (get_or os (64 * v + k) false)
        → bit_at w k ≡ bit_of (get_or (zip2 (λ p q. p || not q) bs os) (64 * v + k) false)
    each k lt of_x of_y = elim (cases_lt (64 * v + k) m) [
      | inl less ↦
          let inside : 64 * v + k < length (zip2 (λ p q. p || not q) bs os) = omega (arith, length-zip2 (λ p q. p || not q) bs os e) in
          within k lt less
          ∙ ap (λ z. max z (1 - bit_at y k)) of_x ∙ ap (λ z. max (bit_of (get_or bs (64 * v + k) false)) (1 - z)) of_y
          ∙ widened_output (get_or bs (64 * v + k) false) (get_or os (64 * v + k) false)
          ∙ ap (λ z. bit_of z) (sym (get_or-zip2_any (λ p q. p || not q) bs os (64 * v + k) false false true e refl)
          ∙ get_or_default (zip2 (λ p q. p || not q) bs os) (64 * v + k) true false inside)
      | inr above ↦
          let off : length (zip2 (λ p q. p || not q) bs os) ≤ 64 * v + k = omega (arith, length-zip2 (λ p q. p || not q) bs os e) in
          let out : length bs ≤ 64 * v + k = omega arith in
          past k lt above ∙ of_x ∙ ap (λ z. bit_of z) (get_or_past bs (64 * v + k) false out
          ∙ sym (get_or_past (zip2 (λ p q. p || not q) bs os) (64 * v + k) false off))
    ]

-- what `cofactor` owes
pub IsPacked-cofactor : (a b : Cube) (size : SameSize a b) (n m : ℕ) (ws vs xs : List ℕ) → length a.symbols ≡ n → length a.outputs ≡ m
    → Packs a ws → Packs b vs → (j : ℕ) × (get_or a.outputs j false ≡ true) → length xs ≡ length ws
    → ((v k : ℕ) → v < input_words (length a.symbols) → k < 32
    → bit_at (get_or xs v 0) (2 * k) ≡ freed_bit (bit_at (get_or ws v 0) (2 * k)) (get_or vs v 0) k)
    → ((v k : ℕ) → v < input_words (length a.symbols) → k < 32
    → bit_at (get_or xs v 0) (2 * k + 1) ≡ freed_bit (bit_at (get_or ws v 0) (2 * k + 1)) (get_or vs v 0) k)
    → ((v k : ℕ) → input_words (length a.symbols) ≤ v → v < length ws → k < 64 → 64 * (v - input_words (length a.symbols)) + k < m
    → bit_at (get_or xs v 0) k ≡ max (bit_at (get_or ws v 0) k) (1 - bit_at (get_or vs v 0) k))
    → ((v k : ℕ) → input_words (length a.symbols) ≤ v → v < length ws → k < 64 → m ≤ 64 * (v - input_words (length a.symbols)) + k
    → bit_at (get_or xs v 0) k ≡ bit_at (get_or ws v 0) k)
    → IsPacked n m xs × (unpacked n m xs ≡ cofactor a b)
IsPacked-cofactor a b size n m ws vs xs en em pa pb on len low high within past =
    let start = input_words (length a.symbols) in
    let total : length ws ≡ start + output_words (length a.outputs) = length-words a ws pa in
    let same : input_words (length b.symbols) ≡ start = omega (arith, size.0) in
    let outputs = zip2 (λ p q. p || not q) a.outputs b.outputs in
    let inside : on.0 < length outputs = omega (arith, within_from_true a.outputs on.0 on.1, length-zip2 (λ p q. p || not q) a.outputs b.outputs size.1) in
    IsPacked-zip_row (λ _ _. true) cofactor_symbol refl (λ p q. p || not q) a b size (λ _. refl) n m en em ws vs xs pa pb len (
      on.0,
      get_or_default outputs on.0 false true inside
          ∙ get_or-zip2_any (λ p q. p || not q) a.outputs b.outputs on.0 false false true size.1 refl
          ∙ ap (λ x. x || not (get_or b.outputs on.0 false)) on.1,
    )
    (λ v lt. ZipsPairs-freed (get_or ws v 0) (get_or vs v 0) (get_or xs v 0) (λ k small. low v k lt small) (λ k small. high v k lt small))
    (λ v lt.
    let in_b : v < output_words (length b.outputs) = omega (arith, size.1) in
    let at : start + v - start ≡ v = omega arith in
    let Q : ℕ → Type 0 = λ s. IsOutputWord b.outputs v (get_or vs (s + v) 0) in
    IsOutputWord-widened a.outputs b.outputs m v (get_or ws (start + v) 0) (get_or vs (start + v) 0) (get_or xs (start + v) 0) size.1 em
    (output_word_of a ws pa v lt) (subst Q same (output_word_of b vs pb v in_b))
    (λ k small less. within (start + v) k (omega arith) (omega arith) small (omega arith))
    (λ k small more. past (start + v) k (omega arith) (omega arith) small (omega arith)))
