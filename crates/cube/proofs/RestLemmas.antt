-- The row without the outputs of another, in words.
use Rattle.std.proofs.Common.{◌≡◌, ℕ, zero-add, ◌/◌, ◌%◌, ◌+◌, ◌-◌, ◌*◌, ◌<◌, ◌≤◌, Bool, true, false, not, ◌&&◌, cond, List, [], ◌∷◌, ◌++◌, length, get_or, refl, ap, sym, subst, ◌∙◌, arith, inl, inr, ◌↔◌, IsTrue}
use Rattle.std.specs.Int.{bit_at}
use Rattle.std.specs.List.{list_any}
use Rattle.std.proofs.lemmas.Bool.{cases_Bool, false≢true, and_parts, and_from, not-true, not_from_false}
use Rattle.cube.specs.Cube.{Cube, SameSize, IsCube, IsDisjoint, holds, difference, size_of}
use Rattle.cube.specs.Sum.{complete_sum}
use Rattle.cube.specs.Sharp.{minus, rest_row, rest_rows, pieces_below}
use Rattle.cube.specs.Words.{IsBitDifference, CoversWords}
use Rattle.cube.specs.Packing.{input_words, output_words, bit_of, IsInputWord, IsOutputWord, PacksOutputs, Packs, IsPacked, unpacked}
use Rattle.cube.proofs.PackingLemmas.{IsPacked-from_Packs, unpacked-Packs_at, Packs-from_words, input_word_of, output_word_of, length-words, bit_of_outputs, within_from_true}
use Rattle.cube.proofs.ZipLemmas.{ZipsBits, IsOutputWord-zip}
use Rattle.cube.proofs.ContainsLemmas.{bit_of-le, true_from_bit_of-le}
use Rattle.cube.proofs.SharpLemmas.{get_or-minus, length-minus, some_true, true_some, left_rows-complete_sum}
use Rattle.cube.proofs.MeetLemmas.{meet-from_not_disjoint}

minus-bit_of : (x y : Bool) → bit_of x - bit_of y ≡ bit_of (x && not y)
minus-bit_of true true = refl
minus-bit_of true false = refl
minus-bit_of false true = refl
minus-bit_of false false = refl

ZipsBits-minus : (x y w : ℕ) → IsBitDifference w x y → ZipsBits (λ p r. p && not r) x y w
ZipsBits-minus x y w d = record {
  each = λ k p r lt ep er. d k lt ∙ ap (λ z. z - bit_at y k) ep ∙ ap (λ z. bit_of p - z) er ∙ minus-bit_of p r;
}

-- what `without_outputs` owes
pub IsPacked-rest_row : (a b : Cube) (n m : ℕ) (ws vs xs : List ℕ) → SameSize a b → length a.symbols ≡ n → length a.outputs ≡ m
    → Packs a ws → Packs b vs → IsTrue (list_any (λ x. x) (minus a.outputs b.outputs)) → length xs ≡ length ws
    → ((k : ℕ) → k < input_words (length a.symbols) → get_or xs k 0 ≡ get_or ws k 0)
    → ((k : ℕ) → input_words (length a.symbols) ≤ k → k < length ws → IsBitDifference (get_or xs k 0) (get_or ws k 0) (get_or vs k 0))
    → IsPacked n m xs × (unpacked n m xs ≡ rest_row a b)
IsPacked-rest_row a b n m ws vs xs size en em pa pb some len inputs outputs =
    let start = input_words (length a.symbols) in
    let count = output_words (length a.outputs) in
    let total : length ws ≡ start + count = length-words a ws pa in
    let same : input_words (length b.symbols) ≡ start = omega (arith, size.0) in
    let e_out = length-minus a.outputs b.outputs size.1 in
    let on = some_true (minus a.outputs b.outputs) some in
    let packs = Packs-from_words (rest_row a b) (length a.symbols) (length a.outputs) xs start count count refl e_out refl refl refl (len ∙ total)
    (λ v lt.
    let P : ℕ → Type 0 = λ x. IsInputWord a.symbols v x in
    subst P (sym (inputs v lt)) (input_word_of a ws pa v lt))
    (λ v lt.
    let in_b : v < output_words (length b.outputs) = omega (arith, size.1) in
    let Q : ℕ → Type 0 = λ s. IsOutputWord b.outputs v (get_or vs (s + v) 0) in
    IsOutputWord-zip (λ x y. x && not y) refl a.outputs b.outputs v (get_or ws (start + v) 0) (get_or vs (start + v) 0) (get_or xs (start + v) 0) size.1
    (output_word_of a ws pa v lt) (subst Q same (output_word_of b vs pb v in_b))
    (ZipsBits-minus (get_or ws (start + v) 0) (get_or vs (start + v) 0) (get_or xs (start + v) 0) (outputs (start + v) (omega arith) (omega arith)))) in (
      IsPacked-from_Packs (rest_row a b) n m xs en (e_out ∙ em) packs on.0 on.1,
      unpacked-Packs_at (rest_row a b) n m xs en (e_out ∙ em) packs,
    )

-- ---- whether an output is left

module _ (a b : Cube) (size : SameSize a b) (ws vs : List ℕ) (p : PacksOutputs a.outputs ws) (q : PacksOutputs b.outputs vs) where
  covered_at : (j : ℕ) → j < length a.outputs → CoversWords vs ws → get_or a.outputs j false ≡ true → get_or b.outputs j false ≡ true
  covered_at j lt covers on =
      let v : j / 64 < length vs = omega (arith, q.words_len, size.1) in
      let in_b : j < length b.outputs = omega (arith, size.1) in
      true_from_bit_of-le (get_or a.outputs j false) (get_or b.outputs j false)
      (rw (← bit_of_outputs a.outputs ws p j lt, ← bit_of_outputs b.outputs vs q j in_b, zero-add) (covers (j / 64) v (j % 64) (omega arith)))
      on

  covers_words : ((j : ℕ) → get_or a.outputs j false ≡ true → get_or b.outputs j false ≡ true) → CoversWords vs ws
  covers_words all v lt k small =
      let in_a : v < output_words (length a.outputs) = omega (arith, q.words_len, size.1) in
      let in_b : v < output_words (length b.outputs) = omega (arith, q.words_len) in
      omega (
        arith,
        (p.each v in_a).bits k small,
        (q.each v in_b).bits k small,
        bit_of-le (get_or a.outputs (64 * v + k) false) (get_or b.outputs (64 * v + k) false) (all (64 * v + k)),
      )

  -- what the answer of the kernel says
  pub more_outputs : (r : Bool) → IsTrue r ↔ CoversWords vs ws → IsTrue (not r) ↔ IsTrue (list_any (λ x. x) (minus a.outputs b.outputs))
  more_outputs r says = (
    λ t. elim (cases_Bool (list_any (λ x. x) (minus a.outputs b.outputs))) [
      | inl some ↦ some
      | inr none' ↦ absurd (false≢true (sym (not-true r t) ∙ says.1 (covers_words (λ j on. elim (cases_Bool (get_or b.outputs j false)) [
        | inl in_b ↦ in_b
        | inr off ↦ absurd (false≢true (sym none' ∙ true_some (minus a.outputs b.outputs) j (get_or-minus a.outputs b.outputs j size.1
            ∙ and_from (get_or a.outputs j false) (not (get_or b.outputs j false)) on (not_from_false (get_or b.outputs j false) off))))
      ]))))
    ],
    λ some.
        let r' = some_true (minus a.outputs b.outputs) some in
        let parts = and_parts (get_or a.outputs r'.0 false) (not (get_or b.outputs r'.0 false)) (sym (get_or-minus a.outputs b.outputs r'.0 size.1) ∙ r'.1) in
        elim (cases_Bool r) [
          | inl covered ↦
              let in_b = covered_at r'.0 (within_from_true a.outputs r'.0 parts.0) (says.0 covered) parts.0 in
              absurd (false≢true (sym (not-true (get_or b.outputs r'.0 false) parts.1) ∙ in_b))
          | inr open' ↦ not_from_false r open'
        ],
  )

-- ---- what `sharp` answers

pub IsCube-of : (c : Cube) → (j : ℕ) × (get_or c.outputs j false ≡ true) → IsCube (size_of c) c
IsCube-of c on = record { has_size = (refl, refl); some_output = true_some c.outputs on.0 on.1 }

pub sharp-from_rows : (a b : Cube) (size : SameSize a b) (r : Bool) (xs ys : List Cube) → (j : ℕ) × (get_or a.outputs j false ≡ true)
    → IsTrue r ↔ IsDisjoint (holds a) (holds b) → r ≡ false
    → xs ≡ [] ++ rest_rows a b → ys ≡ xs ++ pieces_below a b (length a.symbols)
    → ys ≡ complete_sum (size_of a) (difference (holds a) (holds b))
sharp-from_rows a b size r xs ys on says failed ex ey =
    let both = meet-from_not_disjoint a b size r says failed in
    ey ∙ ap (λ z. z ++ pieces_below a b (length a.symbols)) ex
    ∙ joined (list_any (λ x. x) (minus a.outputs b.outputs)) (rest_row a b) (pieces_below a b (length a.symbols))
    ∙ left_rows-complete_sum (size_of a) a b (IsCube-of a on) (sym size.0, sym size.1) size both.0 both.1
  where
    joined : (t : Bool) (m : Cube) (rows : List Cube) → ([] ++ cond t (m ∷ []) []) ++ rows ≡ cond t (m ∷ rows) rows
    joined true m rows = refl
    joined false m rows = refl
