-- The symbols of two rows with the outputs of either, in words.
use Rattle.std.proofs.Common.{◌≡◌, ℕ, ◌+◌, ◌<◌, ◌≤◌, Bool, true, false, ◌&&◌, ◌||◌, List, length, get_or, refl, ap, subst, ◌∙◌, arith, inl, inr, bit_and, bit_or}
use Rattle.std.proofs.lemmas.Bool.{cases_lt}
use Rattle.std.proofs.lemmas.List.{get_or_past}
use Rattle.std.specs.Simd.Lanes.{zip2}
use Rattle.cube.specs.declared.symbol.Symbol.TheVariants.{Dash}
use Rattle.cube.specs.Pattern.{matches}
use Rattle.cube.specs.Cube.{Cube, Place, SameSize, holds}
use Rattle.cube.specs.Words.{PairsMeet}
use Rattle.cube.specs.Packing.{input_words, output_words, IsOutputWord, PacksInputs, Packs, IsPacked, unpacked}
use Rattle.cube.proofs.PackingLemmas.{output_word_of, length-words}
use Rattle.cube.proofs.HoldsLemmas.{agrees_at-matches}
use Rattle.cube.proofs.ZipLemmas.{zip_row, ZipsPairs-from_bits, IsOutputWord-zip, IsPacked-zip_row, get_or-zip2_any}
use Rattle.cube.proofs.MeetLemmas.{compatible, common, agrees-common, compatible-from_agrees, compatible-past, matches-common, InputsMeet, PairsMeet-from_inputs, ZipsBits-and}
use Rattle.cube.proofs.JoinLemmas.{ZipsBits-or}

abbrev pub stacked_row : Cube → Cube → Cube
stacked_row a b = zip_row common (λ x y. x || y) a b

pub holds-stacked_row : (a b : Cube) (size : SameSize a b) → InputsMeet a b size → (p : Place)
    → holds (stacked_row a b) p ≡ ((matches a.symbols p.point && matches b.symbols p.point) && (get_or a.outputs p.output false || get_or b.outputs p.output false))
holds-stacked_row a b size h p =
    ap (λ x. x && get_or (zip2 (λ x y. x || y) a.outputs b.outputs) p.output false) (matches-common a.symbols b.symbols p.point size.0 h)
    ∙ ap (λ x. (matches a.symbols p.point && matches b.symbols p.point) && x)
    (get_or-zip2_any (λ x y. x || y) a.outputs b.outputs p.output false false false size.1 refl)

-- a point that matches both
pub InputsMeet-from_point : (a b : Cube) (size : SameSize a b) (point : List Bool) → matches a.symbols point ≡ true → matches b.symbols point ≡ true
    → InputsMeet a b size
InputsMeet-from_point a b size point in_a in_b i =
    elim (cases_lt i (length a.symbols)) [
      | inl lt ↦
          let within : i < length b.symbols = omega (arith, size.0) in
          compatible-from_agrees (get_or a.symbols i Dash) (get_or b.symbols i Dash) (get_or point i false)
          (agrees_at-matches a.symbols point i in_a lt) (agrees_at-matches b.symbols point i in_b within)
      | inr past ↦ compatible-past (get_or a.symbols i Dash) (get_or b.symbols i Dash) (get_or_past a.symbols i Dash past)
    ]

-- where the words of the symbols don't meet, no point matches both
pub no_common_point : (a b : Cube) (size : SameSize a b) (ws vs : List ℕ) (pa : PacksInputs a.symbols ws) (pb : PacksInputs b.symbols vs)
    → (PairsMeet ws vs → ⊥) → (point : List Bool) → matches a.symbols point ≡ true → matches b.symbols point ≡ true → ⊥
no_common_point a b size ws vs pa pb apart point in_a in_b =
    apart (PairsMeet-from_inputs a b size ws vs pa pb (InputsMeet-from_point a b size point in_a in_b))

-- what `output_consensus` owes
pub IsPacked-stacked_row : (a b : Cube) (size : SameSize a b) (n m : ℕ) (ws vs xs : List ℕ) → length a.symbols ≡ n → length a.outputs ≡ m
    → Packs a ws → Packs b vs → InputsMeet a b size → (j : ℕ) × (get_or a.outputs j false ≡ true) → length xs ≡ length ws
    → ((k : ℕ) → k < input_words (length a.symbols) → get_or xs k 0 ≡ bit_and (get_or ws k 0) (get_or vs k 0))
    → ((k : ℕ) → input_words (length a.symbols) ≤ k → k < length ws → get_or xs k 0 ≡ bit_or (get_or ws k 0) (get_or vs k 0))
    → IsPacked n m xs × (unpacked n m xs ≡ stacked_row a b)
unfolding common
IsPacked-stacked_row a b size n m ws vs xs en em pa pb h on len inputs outputs =
    let start = input_words (length a.symbols) in
    let total : length ws ≡ start + output_words (length a.outputs) = length-words a ws pa in
    let same : input_words (length b.symbols) ≡ start = omega (arith, size.0) in
    IsPacked-zip_row compatible common refl (λ x y. x || y) a b size h n m en em ws vs xs pa pb len
    (on.0, get_or-zip2_any (λ x y. x || y) a.outputs b.outputs on.0 false false false size.1 refl ∙ ap (λ x. x || get_or b.outputs on.0 false) on.1)
    (λ v lt. ZipsPairs-from_bits compatible common (λ x y. x && y) (get_or ws v 0) (get_or vs v 0) (get_or xs v 0) agrees-common
    (ZipsBits-and (get_or ws v 0) (get_or vs v 0) (get_or xs v 0) (inputs v lt)))
    (λ v lt.
    let in_b : v < output_words (length b.outputs) = omega (arith, size.1) in
    let Q : ℕ → Type 0 = λ s. IsOutputWord b.outputs v (get_or vs (s + v) 0) in
    IsOutputWord-zip (λ x y. x || y) refl a.outputs b.outputs v (get_or ws (start + v) 0) (get_or vs (start + v) 0) (get_or xs (start + v) 0) size.1
    (output_word_of a ws pa v lt) (subst Q same (output_word_of b vs pb v in_b))
    (ZipsBits-or (get_or ws (start + v) 0) (get_or vs (start + v) 0) (get_or xs (start + v) 0) (outputs (start + v) (omega arith) (omega arith))))
