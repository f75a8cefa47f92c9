-- A row that holds each place of its size, in symbols and in words.
use Rattle.std.proofs.Common.{◌≡◌, ℕ, ◌+◌, ◌*◌, ◌/◌, ◌%◌, ◌<◌, Bool, true, false, List, length, get_or, set, replicate, ap, sym, ◌∙◌, arith, eqb, IsTrue}
use Rattle.std.specs.Int.{bit_at}
use Rattle.std.specs.List.{All}
use Rattle.std.proofs.lemmas.Bool.{and_parts, and_from}
use Rattle.std.proofs.lemmas.List.{get_or-set_same, length-set, length-replicate}
use Rattle.std.proofs.lemmas.List.Elements.{All-get_or, All-from_get_or}
use Rattle.cube.specs.declared.symbol.Symbol.{Symbol}
use Rattle.cube.specs.declared.symbol.Symbol.TheVariants.{Dash}
use Rattle.cube.specs.Pattern.{agrees, matches}
use Rattle.cube.specs.Cube.{Cube, Place, IsPlace, IsUniversal, holds, size_of}
use Rattle.cube.specs.Words.{HasAll}
use Rattle.cube.specs.Packing.{bit_of, PacksInputs, PacksOutputs}
use Rattle.cube.proofs.PackingLemmas.{symbol_from_bits, low_of_inputs, high_of_inputs, bit_of_outputs, true_from_bit}
use Rattle.cube.proofs.ContainsLemmas.{input_bit_at}
use Rattle.cube.proofs.HoldsLemmas.{agrees_at-matches, matches-from_agrees}

module _ (ss : List Symbol) (ws : List ℕ) (p : PacksInputs ss ws) where
  pub dashes_from_HasAll : HasAll (2 * length ss) ws → All (λ s. s ≡ Dash) ss
  dashes_from_HasAll h = All-from_get_or (λ s. s ≡ Dash) ss Dash (λ i lt.
      symbol_from_bits (get_or ss i Dash) Dash
      (sym (low_of_inputs ss ws p i lt) ∙ h (i / 32) (2 * (i % 32)) (omega (arith, p.words_len)) (omega arith) (omega arith))
      (sym (high_of_inputs ss ws p i lt) ∙ h (i / 32) (2 * (i % 32) + 1) (omega (arith, p.words_len)) (omega arith) (omega arith)))

  pub HasAll-from_dashes : All (λ s. s ≡ Dash) ss → HasAll (2 * length ss) ws
  HasAll-from_dashes all v k lt small within =
      let word = p.each v (omega (arith, p.words_len)) in
      let inside : 32 * v + k / 2 < length ss = omega arith in
      input_bit_at ss v (get_or ws v 0) word k small
      ∙ ap (λ s. bit_of (agrees s (eqb (k % 2) 1))) (All-get_or (λ s. s ≡ Dash) ss (32 * v + k / 2) Dash inside all)

module _ (os : List Bool) (ws : List ℕ) (p : PacksOutputs os ws) where
  pub outputs_from_HasAll : HasAll (length os) ws → All (λ b. b ≡ true) os
  outputs_from_HasAll h = All-from_get_or (λ b. b ≡ true) os false (λ j lt.
      let at : 0 + j / 64 ≡ j / 64 = omega arith in
      true_from_bit (get_or os j false)
      (sym (bit_of_outputs os ws p j lt) ∙ ap (λ x. bit_at (get_or ws x 0) (j % 64)) at
      ∙ h (j / 64) (j % 64) (omega (arith, p.words_len)) (omega arith) (omega arith)))

  pub HasAll-from_outputs : All (λ b. b ≡ true) os → HasAll (length os) ws
  HasAll-from_outputs all v k lt small within =
      (p.each v (omega (arith, p.words_len))).bits k small
      ∙ ap (λ b. bit_of b) (All-get_or (λ b. b ≡ true) os (64 * v + k) false within all)

pub places_from_IsUniversal : (c : Cube) → IsUniversal c → (p : Place) → IsPlace (size_of c) p → IsTrue (holds c p)
places_from_IsUniversal c u p place =
    and_from (matches c.symbols p.point) (get_or c.outputs p.output false)
    (matches-from_agrees c.symbols p.point place.0 (λ i lt.
    ap (λ s. agrees s (get_or p.point i false)) (All-get_or (λ s. s ≡ Dash) c.symbols i Dash lt u.no_literal)))
    (All-get_or (λ b. b ≡ true) c.outputs p.output false place.1 u.all_outputs)

module _ (c : Cube) (some : (j : ℕ) × (j < length c.outputs)) (all : (p : Place) → IsPlace (size_of c) p → IsTrue (holds c p)) where
  -- the symbols agree with each bit
  agrees_with : (i : ℕ) (bit : Bool) → i < length c.symbols → agrees (get_or c.symbols i Dash) bit ≡ true
  agrees_with i bit lt =
      let zeros = replicate (length c.symbols) false in
      let point = set zeros i bit in
      let len : length zeros ≡ length c.symbols = length-replicate (length c.symbols) false in
      let inside : i < length zeros = omega arith in
      let held = all (record { point = point; output = some.0 }) (length-set zeros i bit ∙ len, some.1) in
      ap (λ b. agrees (get_or c.symbols i Dash) b) (sym (get_or-set_same zeros i bit false inside))
      ∙ agrees_at-matches c.symbols point i (and_parts (matches c.symbols point) (get_or c.outputs some.0 false) held).0 lt

  pub IsUniversal-from_places : IsUniversal c
  IsUniversal-from_places = record {
    no_literal = All-from_get_or (λ s. s ≡ Dash) c.symbols Dash (λ i lt.
        symbol_from_bits (get_or c.symbols i Dash) Dash (ap (λ b. bit_of b) (agrees_with i false lt)) (ap (λ b. bit_of b) (agrees_with i true lt)));
    all_outputs = All-from_get_or (λ b. b ≡ true) c.outputs false (λ j lt.
        let zeros = replicate (length c.symbols) false in
        (and_parts (matches c.symbols zeros) (get_or c.outputs j false)
        (all (record { point = zeros; output = j }) (length-replicate (length c.symbols) false, lt))).1);
  }

-- what the kernel's answers for the two parts say
pub dashes_from_part : (ss : List Symbol) (n : ℕ) (ws : List ℕ) → n ≡ length ss → PacksInputs ss ws → HasAll (2 * n) ws → All (λ s. s ≡ Dash) ss
dashes_from_part ss n ws en p h = dashes_from_HasAll ss ws p (λ v k lt small within. h v k lt small (omega arith))

pub part_from_dashes : (ss : List Symbol) (n : ℕ) (ws : List ℕ) → n ≡ length ss → PacksInputs ss ws → All (λ s. s ≡ Dash) ss → HasAll (2 * n) ws
part_from_dashes ss n ws en p all v k lt small within = HasAll-from_dashes ss ws p all v k lt small (omega arith)

pub outputs_from_part : (os : List Bool) (m : ℕ) (ws : List ℕ) → m ≡ length os → PacksOutputs os ws → HasAll m ws → All (λ b. b ≡ true) os
outputs_from_part os m ws em p h = outputs_from_HasAll os ws p (λ v k lt small within. h v k lt small (omega arith))

pub part_from_outputs : (os : List Bool) (m : ℕ) (ws : List ℕ) → m ≡ length os → PacksOutputs os ws → All (λ b. b ≡ true) os → HasAll m ws
part_from_outputs os m ws em p all v k lt small within = HasAll-from_outputs os ws p all v k lt small (omega arith)
