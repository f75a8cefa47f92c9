-- Containment of words against containment of rows.
use Rattle.std.proofs.Common.{◌≡◌, ℕ, ◌+◌, ◌-◌, ◌*◌, ◌/◌, ◌%◌, ◌<◌, ◌≤◌, Bool, true, false, eqb, List, length, get_or, refl, ap, sym, ◌∙◌, arith, inl, inr, IsTrue, ◌↔◌}
use Rattle.std.specs.Int.{bit_at}
use Rattle.std.proofs.lemmas.Bool.{cases_lt, cases_eq, eq-eqb, ne_eqb, false≢true}
use Rattle.std.proofs.lemmas.List.{get_or_past}
use Rattle.cube.specs.declared.symbol.Symbol.{Symbol}
use Rattle.cube.specs.declared.symbol.Symbol.TheVariants.{Dash}
use Rattle.cube.specs.Pattern.{agrees}
use Rattle.cube.specs.Cube.{Cube, SameSize, IsSubset, holds}
use Rattle.cube.specs.Packing.{input_words, output_words, output_bit, bit_of, IsInputWord, Packs}
use Rattle.cube.specs.Words.{CoversWords}
use Rattle.cube.proofs.PackingLemmas.{low_of_packed, high_of_packed, output_of_packed, input_word_of, output_word_of, length-words}
use Rattle.cube.proofs.HoldsLemmas.{Covers, IsSubset-from_Covers, Covers-from_IsSubset}

pub bit_of-le : (x y : Bool) → (x ≡ true → y ≡ true) → bit_of x ≤ bit_of y
bit_of-le true y h = let e = h refl in rw e (omega arith)
bit_of-le false y h = omega arith

pub true_from_bit_of-le : (x y : Bool) → bit_of x ≤ bit_of y → x ≡ true → y ≡ true
true_from_bit_of-le true true le e = refl
true_from_bit_of-le true false le e = absurd (omega arith)
true_from_bit_of-le false y le e = absurd (cc e)

-- bit k of a word of inputs
pub input_bit_at : (symbols : List Symbol) (v word : ℕ) → IsInputWord symbols v word → (k : ℕ) → k < 64
    → bit_at word k ≡ bit_of (agrees (get_or symbols (32 * v + k / 2) Dash) (eqb (k % 2) 1))
input_bit_at symbols v word p k lt =
    let half : k / 2 < 32 = omega arith in
    elim (cases_eq (k % 2) 1) [
      | inl odd ↦
          let e : k ≡ 2 * (k / 2) + 1 = omega arith in
          ap (λ x. bit_at word x) e ∙ p.high (k / 2) half
          ∙ ap (λ b. bit_of (agrees (get_or symbols (32 * v + k / 2) Dash) b)) (sym (eq-eqb (k % 2) 1 odd))
      | inr even ↦
          let e : k ≡ 2 * (k / 2) = omega arith in
          ap (λ x. bit_at word x) e ∙ p.low (k / 2) half
          ∙ ap (λ b. bit_of (agrees (get_or symbols (32 * v + k / 2) Dash) b)) (sym (ne_eqb (k % 2) 1 even))
    ]

module _ (a b : Cube) (size : SameSize a b) (ws vs : List ℕ) (pa : Packs a ws) (pb : Packs b vs) where
  pub CoversWords-from_Covers : Covers a b → CoversWords ws vs
  CoversWords-from_Covers cover v lt k small =
      elim (cases_lt v (input_words (length a.symbols))) [
        | inl in_inputs ↦
            let in_b : v < input_words (length b.symbols) = omega (arith, size.0) in
            let i = 32 * v + k / 2 in
            let bit = eqb (k % 2) 1 in
            omega (
              arith,
              input_bit_at a.symbols v (get_or ws v 0) (input_word_of a ws pa v in_inputs) k small,
              input_bit_at b.symbols v (get_or vs v 0) (input_word_of b vs pb v in_b) k small,
              bit_of-le (agrees (get_or b.symbols i Dash) bit) (agrees (get_or a.symbols i Dash) bit) (cover.inputs i bit),
            )
        | inr past ↦
            let u = v - input_words (length a.symbols) in
            let in_a : u < output_words (length a.outputs) = omega (arith, length-words a ws pa) in
            let in_b : u < output_words (length b.outputs) = omega (arith, length-words a ws pa, size.1) in
            let at_a : input_words (length a.symbols) + u ≡ v = omega arith in
            let at_b : input_words (length b.symbols) + u ≡ v = omega (arith, size.0) in
            let j = 64 * u + k in
            omega (
              arith,
              ap (λ x. bit_at (get_or ws x 0) k) at_a,
              ap (λ x. bit_at (get_or vs x 0) k) at_b,
              (output_word_of a ws pa u in_a).bits k small,
              (output_word_of b vs pb u in_b).bits k small,
              bit_of-le (get_or b.outputs j false) (get_or a.outputs j false) (cover.outputs j),
            )
      ]

  covered_input : CoversWords ws vs → (i : ℕ) (bit : Bool) → i < length b.symbols
      → agrees (get_or b.symbols i Dash) bit ≡ true → agrees (get_or a.symbols i Dash) bit ≡ true
  covered_input words i true lt =
      let v : i / 32 < length ws = omega (arith, length-words a ws pa, size.0) in
      let in_a : i < length a.symbols = omega (arith, size.0) in
      let k : 2 * (i % 32) + 1 < 64 = omega arith in
      true_from_bit_of-le (agrees (get_or b.symbols i Dash) true) (agrees (get_or a.symbols i Dash) true)
      (omega (arith, words (i / 32) v (2 * (i % 32) + 1) k, high_of_packed a ws pa i in_a, high_of_packed b vs pb i lt))
  covered_input words i false lt =
      let v : i / 32 < length ws = omega (arith, length-words a ws pa, size.0) in
      let in_a : i < length a.symbols = omega (arith, size.0) in
      let k : 2 * (i % 32) < 64 = omega arith in
      true_from_bit_of-le (agrees (get_or b.symbols i Dash) false) (agrees (get_or a.symbols i Dash) false)
      (omega (arith, words (i / 32) v (2 * (i % 32)) k, low_of_packed a ws pa i in_a, low_of_packed b vs pb i lt))

  covered_output : CoversWords ws vs → (j : ℕ) → j < length b.outputs
      → get_or b.outputs j false ≡ true → get_or a.outputs j false ≡ true
  covered_output words j lt =
      let v : input_words (length a.symbols) + j / 64 < length ws = omega (arith, length-words a ws pa, size.1) in
      let in_a : j < length a.outputs = omega (arith, size.1) in
      let k : j % 64 < 64 = omega arith in
      let same : input_words (length b.symbols) ≡ input_words (length a.symbols) = omega (arith, size.0) in
      true_from_bit_of-le (get_or b.outputs j false) (get_or a.outputs j false)
      (omega (
        arith,
        words (input_words (length a.symbols) + j / 64) v (j % 64) k,
        output_of_packed a ws pa j in_a,
        ap (λ x. output_bit x vs j) same,
        output_of_packed b vs pb j lt,
      ))

  pub Covers-from_CoversWords : CoversWords ws vs → Covers a b
  Covers-from_CoversWords words = record {
    inputs = λ i bit ok. elim (cases_lt i (length b.symbols)) [
      | inl lt ↦ covered_input words i bit lt ok
      | inr past ↦
          let out : length a.symbols ≤ i = omega (arith, size.0) in
          ap (λ s. agrees s bit) (get_or_past a.symbols i Dash out)
    ];
    outputs = λ j ok. elim (cases_lt j (length b.outputs)) [
      | inl lt ↦ covered_output words j lt ok
      | inr past ↦ absurd (false≢true (sym (get_or_past b.outputs j false past) ∙ ok))
    ];
  }

-- what the answer of the kernel says of two cubes
pub contains-from_words : (a b : Cube) (ws vs : List ℕ) (r : Bool) → SameSize a b → Packs a ws → Packs b vs
    → (j : ℕ) × (get_or b.outputs j false ≡ true)
    → IsTrue r ↔ CoversWords ws vs → IsTrue r ↔ IsSubset (holds b) (holds a)
contains-from_words a b ws vs r size pa pb on says = (
  λ t. IsSubset-from_Covers a b size (Covers-from_CoversWords a b size ws vs pa pb (says.0 t)),
  λ h. says.1 (CoversWords-from_Covers a b size ws vs pa pb (Covers-from_IsSubset a b size on.0 on.1 h)),
)
