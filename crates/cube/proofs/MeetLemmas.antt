-- The common part of two rows, of symbols and of words.
use Rattle.std.proofs.Common.{◌≡◌, ◌≢◌, ◌^◌, ℕ, zero, suc, ◌+◌, ◌*◌, ◌/◌, ◌%◌, ◌<◌, ◌≤◌, min, Bool, true, false, not, ◌&&◌, List, [], ◌∷◌, length, map, get_or, refl, ap, sym, subst, ◌∙◌, arith, inl, inr, IsTrue, ◌↔◌, ◌⊎◌, bit_and}
use Rattle.std.specs.Int.{bit_at}
use Rattle.std.proofs.lemmas.Bool.{cases_lt, false≢true, and_parts, and_from, cases_Bool, not-true, not_from_false}
use Rattle.std.proofs.lemmas.List.{get_or_past}
use Rattle.std.proofs.lemmas.Nat.Bits.{bit_at_and, bit_at-zero}
use Rattle.cube.specs.declared.symbol.Symbol.{Symbol}
use Rattle.cube.specs.declared.symbol.Symbol.TheVariants.{Dash, Zero, One}
use Rattle.cube.specs.Pattern.{agrees, matches}
use Rattle.cube.specs.Cube.{Cube, Place, SameSize, IsDisjoint, holds}
use Rattle.cube.specs.Packing.{input_words, output_words, bit_of, IsInputWord, IsOutputWord, PacksInputs, PacksOutputs, Packs, IsPacked, unpacked}
use Rattle.cube.proofs.PackingLemmas.{within_from_true, true_from_bit, low_of_inputs, high_of_inputs, input_word_of, output_word_of, length-words}
use Rattle.std.specs.Simd.Lanes.{zip2}
use Rattle.cube.proofs.ZipLemmas.{zip_row, ZipsBits, get_or-zip2_any, IsPacked-zip_bits}
use Rattle.cube.proofs.HoldsLemmas.{pick, matches-map_pick, agrees_at-matches}
use Rattle.cube.specs.Words.{HasNoEmptyPair, PairsMeet, ShareBit}
use Rattle.cube.proofs.WordLemmas.{bit_from_nonzero}

-- whether two symbols agree with a common bit
unfoldable pub compatible : Symbol → Symbol → Bool
compatible Zero One = false
compatible One Zero = false
compatible s t = true

-- what both symbols ask
unfoldable pub common : Symbol → Symbol → Symbol
common Dash t = t
common s t = s

abbrev pub common_row : Cube → Cube → Cube
common_row a b = zip_row common (λ x y. x && y) a b

pub agrees-common : (s t : Symbol) (bit : Bool) → compatible s t ≡ true → agrees (common s t) bit ≡ (agrees s bit && agrees t bit)
unfolding compatible common
agrees-common Dash t bit h = refl
agrees-common Zero Dash true h = refl
agrees-common Zero Dash false h = refl
agrees-common Zero Zero true h = refl
agrees-common Zero Zero false h = refl
agrees-common Zero One bit h = absurd (false≢true h)
agrees-common One Dash true h = refl
agrees-common One Dash false h = refl
agrees-common One Zero bit h = absurd (false≢true h)
agrees-common One One true h = refl
agrees-common One One false h = refl

pub compatible-from_agrees : (s t : Symbol) (bit : Bool) → agrees s bit ≡ true → agrees t bit ≡ true → compatible s t ≡ true
unfolding compatible
compatible-from_agrees Dash t bit a b = refl
compatible-from_agrees Zero Dash bit a b = refl
compatible-from_agrees Zero Zero bit a b = refl
compatible-from_agrees Zero One true a b = absurd (false≢true a)
compatible-from_agrees Zero One false a b = absurd (false≢true b)
compatible-from_agrees One Dash bit a b = refl
compatible-from_agrees One Zero true a b = absurd (false≢true b)
compatible-from_agrees One Zero false a b = absurd (false≢true a)
compatible-from_agrees One One bit a b = refl

compatible-from_bits : (s t : Symbol)
    → 1 ≤ min (bit_of (agrees s false)) (bit_of (agrees t false)) + min (bit_of (agrees s true)) (bit_of (agrees t true))
    → compatible s t ≡ true
unfolding compatible
compatible-from_bits Dash t h = refl
compatible-from_bits Zero Dash h = refl
compatible-from_bits Zero Zero h = refl
compatible-from_bits Zero One h = absurd (omega arith)
compatible-from_bits One Dash h = refl
compatible-from_bits One Zero h = absurd (omega arith)
compatible-from_bits One One h = refl

bits-from_compatible : (s t : Symbol) → compatible s t ≡ true
    → 1 ≤ min (bit_of (agrees s false)) (bit_of (agrees t false)) + min (bit_of (agrees s true)) (bit_of (agrees t true))
unfolding compatible
bits-from_compatible Dash Dash h = omega arith
bits-from_compatible Dash Zero h = omega arith
bits-from_compatible Dash One h = omega arith
bits-from_compatible Zero Dash h = omega arith
bits-from_compatible Zero Zero h = omega arith
bits-from_compatible Zero One h = absurd (false≢true h)
bits-from_compatible One Dash h = omega arith
bits-from_compatible One Zero h = absurd (false≢true h)
bits-from_compatible One One h = omega arith

pub min-bit_of : (x y : Bool) → min (bit_of x) (bit_of y) ≡ bit_of (x && y)
min-bit_of true true = refl
min-bit_of true false = refl
min-bit_of false true = refl
min-bit_of false false = refl

-- the points that match both
pub matches-common : (ss ts : List Symbol) (bs : List Bool) → length ss ≡ length ts
    → ((i : ℕ) → compatible (get_or ss i Dash) (get_or ts i Dash) ≡ true)
    → matches (zip2 common ss ts) bs ≡ (matches ss bs && matches ts bs)
matches-common [] [] [] e h = refl
matches-common [] [] (b ∷ bs) e h = refl
matches-common [] (t ∷ ts) bs e h = absurd (omega arith)
matches-common (s ∷ ss) [] bs e h = absurd (omega arith)
matches-common (s ∷ ss) (t ∷ ts) [] e h = refl
matches-common (s ∷ ss) (t ∷ ts) (b ∷ bs) e h =
    ap (λ x. x && matches (zip2 common ss ts) bs) (agrees-common s t b (h 0))
    ∙ ap (λ x. (agrees s b && agrees t b) && x) (matches-common ss ts bs (omega arith) (λ i. h (suc i)))
    ∙ regroup (agrees s b) (agrees t b) (matches ss bs) (matches ts bs)
  where
    regroup : (p q r s : Bool) → ((p && q) && (r && s)) ≡ ((p && r) && (q && s))
    regroup true true r s = refl
    regroup true false true s = refl
    regroup true false false s = refl
    regroup false q r s = refl

regroup_and : (p q r s : Bool) → ((p && q) && (r && s)) ≡ ((p && r) && (q && s))
regroup_and true true r s = refl
regroup_and true false true s = refl
regroup_and true false false s = refl
regroup_and false q r s = refl

pub compatible-past : (s t : Symbol) → s ≡ Dash → compatible s t ≡ true
unfolding compatible
compatible-past s t e = ap (λ x. compatible x t) e

module _ (a b : Cube) (size : SameSize a b) where
  -- each input has a bit with which both agree
  abbrev pub InputsMeet : Type 0
  InputsMeet = (i : ℕ) → compatible (get_or a.symbols i Dash) (get_or b.symbols i Dash) ≡ true

  -- an output that both have
  abbrev pub SharesOutput : Type 0
  SharesOutput = (j : ℕ) × (get_or a.outputs j false ≡ true) × (get_or b.outputs j false ≡ true)

  pub holds-common_row : InputsMeet → (p : Place) → holds (common_row a b) p ≡ (holds a p && holds b p)
  holds-common_row h p =
      ap (λ x. x && get_or (zip2 (λ x y. x && y) a.outputs b.outputs) p.output false) (matches-common a.symbols b.symbols p.point size.0 h)
      ∙ ap (λ x. (matches a.symbols p.point && matches b.symbols p.point) && x) (get_or-zip2_any (λ x y. x && y) a.outputs b.outputs p.output false false false size.1 refl)
      ∙ regroup_and (matches a.symbols p.point) (matches b.symbols p.point) (get_or a.outputs p.output false) (get_or b.outputs p.output false)

  pub InputsMeet-from_place : (p : Place) → holds a p ≡ true → holds b p ≡ true → InputsMeet
  InputsMeet-from_place p in_a in_b i =
      let of_a = and_parts (matches a.symbols p.point) (get_or a.outputs p.output false) in_a in
      let of_b = and_parts (matches b.symbols p.point) (get_or b.outputs p.output false) in_b in
      elim (cases_lt i (length a.symbols)) [
        | inl lt ↦
            let within : i < length b.symbols = omega (arith, size.0) in
            compatible-from_agrees (get_or a.symbols i Dash) (get_or b.symbols i Dash) (get_or p.point i false)
            (agrees_at-matches a.symbols p.point i of_a.0 lt) (agrees_at-matches b.symbols p.point i of_b.0 within)
        | inr past ↦ compatible-past (get_or a.symbols i Dash) (get_or b.symbols i Dash) (get_or_past a.symbols i Dash past)
      ]

  pub SharesOutput-from_place : (p : Place) → holds a p ≡ true → holds b p ≡ true → SharesOutput
  SharesOutput-from_place p in_a in_b = (
    p.output,
    (and_parts (matches a.symbols p.point) (get_or a.outputs p.output false) in_a).1,
    (and_parts (matches b.symbols p.point) (get_or b.outputs p.output false) in_b).1,
  )

  -- a place of both
  pub common_place : InputsMeet → SharesOutput → (p : Place) × (holds a p ≡ true) × (holds b p ≡ true)
  common_place h shared =
      let point = map pick (zip2 common a.symbols b.symbols) in
      let p : Place = record { point = point; output = shared.0 } in
      let on : get_or (zip2 (λ x y. x && y) a.outputs b.outputs) shared.0 false ≡ true =
      get_or-zip2_any (λ x y. x && y) a.outputs b.outputs shared.0 false false false size.1 refl
      ∙ and_from (get_or a.outputs shared.0 false) (get_or b.outputs shared.0 false) shared.1 shared.2 in
      let held : holds (common_row a b) p ≡ true =
      and_from (matches (zip2 common a.symbols b.symbols) point) (get_or (zip2 (λ x y. x && y) a.outputs b.outputs) shared.0 false)
      (matches-map_pick (zip2 common a.symbols b.symbols)) on in
      let both = and_parts (holds a p) (holds b p) (sym (holds-common_row h p) ∙ held) in
      (p, both.0, both.1)

  module _ (ws vs : List ℕ) (pa : PacksInputs a.symbols ws) (pb : PacksInputs b.symbols vs) where
    pub InputsMeet-from_words : PairsMeet ws vs → InputsMeet
    InputsMeet-from_words words i =
        elim (cases_lt i (length a.symbols)) [
          | inl lt ↦
              let within : i < length b.symbols = omega (arith, size.0) in
              let v : i / 32 < length ws = omega (arith, pa.words_len) in
              let k : i % 32 < 32 = omega arith in
              compatible-from_bits (get_or a.symbols i Dash) (get_or b.symbols i Dash)
              (omega (
                arith,
                words (i / 32) v (i % 32) k,
                bit_at_and (get_or ws (i / 32) 0) (get_or vs (i / 32) 0) (2 * (i % 32)),
                bit_at_and (get_or ws (i / 32) 0) (get_or vs (i / 32) 0) (2 * (i % 32) + 1),
                low_of_inputs a.symbols ws pa i lt,
                high_of_inputs a.symbols ws pa i lt,
                low_of_inputs b.symbols vs pb i within,
                high_of_inputs b.symbols vs pb i within,
              ))
          | inr past ↦ compatible-past (get_or a.symbols i Dash) (get_or b.symbols i Dash) (get_or_past a.symbols i Dash past)
        ]

    pub PairsMeet-from_inputs : InputsMeet → PairsMeet ws vs
    PairsMeet-from_inputs h v lt k small =
        let in_a : v < input_words (length a.symbols) = omega (arith, pa.words_len) in
        let in_b : v < input_words (length b.symbols) = omega (arith, pa.words_len, size.0) in
        omega (
          arith,
          bits-from_compatible (get_or a.symbols (32 * v + k) Dash) (get_or b.symbols (32 * v + k) Dash) (h (32 * v + k)),
          bit_at_and (get_or ws v 0) (get_or vs v 0) (2 * k),
          bit_at_and (get_or ws v 0) (get_or vs v 0) (2 * k + 1),
          (pa.each v in_a).low k small,
          (pa.each v in_a).high k small,
          (pb.each v in_b).low k small,
          (pb.each v in_b).high k small,
        )

  module _ (ws vs : List ℕ) (pa : PacksOutputs a.outputs ws) (pb : PacksOutputs b.outputs vs) where
    -- a bit of the common outputs
    common_bit : (v k : ℕ) → v < output_words (length a.outputs) → k < 64
        → bit_at (bit_and (get_or ws v 0) (get_or vs v 0)) k
        ≡ bit_of (get_or a.outputs (64 * v + k) false && get_or b.outputs (64 * v + k) false)
    common_bit v k lt small =
        let in_b : v < output_words (length b.outputs) = omega (arith, size.1) in
        bit_at_and (get_or ws v 0) (get_or vs v 0) k
        ∙ ap (λ z. min z (bit_at (get_or vs v 0) k)) ((pa.each v lt).bits k small)
        ∙ ap (λ z. min (bit_of (get_or a.outputs (64 * v + k) false)) z) ((pb.each v in_b).bits k small)
        ∙ min-bit_of (get_or a.outputs (64 * v + k) false) (get_or b.outputs (64 * v + k) false)

    SharesOutput-from_words : ShareBit ws vs → SharesOutput
    SharesOutput-from_words shared =
        let v = shared.0 in
        let k = shared.2.0 in
        let within : v < output_words (length a.outputs) = omega (arith, pa.words_len, shared.1) in
        let both = and_parts (get_or a.outputs (64 * v + k) false) (get_or b.outputs (64 * v + k) false)
        (true_from_bit (get_or a.outputs (64 * v + k) false && get_or b.outputs (64 * v + k) false)
        (sym (common_bit v k within shared.2.1) ∙ shared.2.2)) in
        (64 * v + k, both.0, both.1)

    ShareBit-from_output : SharesOutput → ShareBit ws vs
    ShareBit-from_output shared =
        let j = shared.0 in
        let inside = within_from_true a.outputs j shared.1 in
        let within : j / 64 < output_words (length a.outputs) = omega arith in
        let v : j / 64 < length ws = omega (arith, pa.words_len) in
        let k : j % 64 < 64 = omega arith in
        let at : 64 * (j / 64) + j % 64 ≡ j = omega arith in (
          j / 64,
          v,
          (
            j % 64,
            k,
            common_bit (j / 64) (j % 64) within k
                ∙ ap (λ x. bit_of (get_or a.outputs x false && get_or b.outputs x false)) at
                ∙ ap (λ x. bit_of x) (and_from (get_or a.outputs j false) (get_or b.outputs j false) shared.1 shared.2),
          ),
        )

  -- what the answers of the two kernels say
  pub IsDisjoint-from_inputs : (ws vs : List ℕ) → PacksInputs a.symbols ws → PacksInputs b.symbols vs → (r : Bool)
      → IsTrue r ↔ PairsMeet ws vs → r ≡ false → IsDisjoint (holds a) (holds b)
  IsDisjoint-from_inputs ws vs pa pb r says failed p in_a in_b =
      false≢true (sym failed ∙ says.1 (PairsMeet-from_inputs ws vs pa pb (InputsMeet-from_place p in_a in_b)))

  pub IsDisjoint-iff_outputs : (ws vs xs ys : List ℕ) → PacksInputs a.symbols ws → PacksInputs b.symbols vs
      → PacksOutputs a.outputs xs → PacksOutputs b.outputs ys → (r q : Bool)
      → IsTrue r ↔ PairsMeet ws vs → r ≡ true → IsTrue q ↔ ShareBit xs ys
      → IsTrue (not q) ↔ IsDisjoint (holds a) (holds b)
  IsDisjoint-iff_outputs ws vs xs ys pa pb oa ob r q pairs met says = (
    λ t p in_a in_b. false≢true (sym (not-true q t) ∙ says.1 (ShareBit-from_output xs ys oa ob (SharesOutput-from_place p in_a in_b))),
    λ apart. elim (cases_Bool q) [
      | inl on ↦
          let place = common_place (InputsMeet-from_words ws vs pa pb (pairs.0 met)) (SharesOutput-from_words xs ys oa ob (says.0 on)) in
          absurd (apart place.0 place.1 place.2)
      | inr off ↦ not_from_false q off
    ],
  )

-- some pair is not compatible, or all are
pub decide_inputs : (ss ts : List Symbol) → length ss ≡ length ts
    → ((i : ℕ) → compatible (get_or ss i Dash) (get_or ts i Dash) ≡ true)
    ⊎ ((i : ℕ) × (compatible (get_or ss i Dash) (get_or ts i Dash) ≡ false))
unfolding compatible
decide_inputs [] [] e = inl (λ i. refl)
decide_inputs [] (t ∷ ts) e = absurd (omega arith)
decide_inputs (s ∷ ss) [] e = absurd (omega arith)
decide_inputs (s ∷ ss) (t ∷ ts) e =
    elim (cases_Bool (compatible s t)) [
      | inl yes' ↦ elim (decide_inputs ss ts (omega arith)) [
        | inl all ↦ inl (at_each s t ss ts yes' all)
        | inr some ↦ inr (suc some.0, some.1)
      ]
      | inr no' ↦ inr (0, no')
    ]
  where
    at_each : (s t : Symbol) (ss ts : List Symbol) → compatible s t ≡ true
        → ((i : ℕ) → compatible (get_or ss i Dash) (get_or ts i Dash) ≡ true)
        → (i : ℕ) → compatible (get_or (s ∷ ss) i Dash) (get_or (t ∷ ts) i Dash) ≡ true
    at_each s t ss ts h all zero = h
    at_each s t ss ts h all (suc i) = all i

pub decide_outputs : (bs os : List Bool) → length bs ≡ length os
    → ((j : ℕ) × (get_or bs j false ≡ true) × (get_or os j false ≡ true))
    ⊎ ((j : ℕ) → get_or bs j false ≡ true → get_or os j false ≡ true → ⊥)
decide_outputs [] [] e = inr (λ j h _. false≢true h)
decide_outputs [] (o ∷ os) e = absurd (omega arith)
decide_outputs (b ∷ bs) [] e = absurd (omega arith)
decide_outputs (b ∷ bs) (o ∷ os) e =
    elim (cases_Bool (b && o)) [
      | inl both ↦ let parts = and_parts b o both in inl (0, parts.0, parts.1)
      | inr none' ↦ elim (decide_outputs bs os (omega arith)) [
        | inl some ↦ inl (suc some.0, some.1, some.2)
        | inr rest ↦ inr (at_none b o bs os none' rest)
      ]
    ]
  where
    at_none : (b o : Bool) (bs os : List Bool) → (b && o) ≡ false
        → ((j : ℕ) → get_or bs j false ≡ true → get_or os j false ≡ true → ⊥)
        → (j : ℕ) → get_or (b ∷ bs) j false ≡ true → get_or (o ∷ os) j false ≡ true → ⊥
    at_none b o bs os h rest zero x y = false≢true (sym h ∙ and_from b o x y)
    at_none b o bs os h rest (suc j) x y = rest j x y

-- rows that are not disjoint meet
pub meet-from_not_disjoint : (a b : Cube) (size : SameSize a b) (r : Bool) → IsTrue r ↔ IsDisjoint (holds a) (holds b) → r ≡ false
    → InputsMeet a b size × SharesOutput a b size
meet-from_not_disjoint a b size r says failed =
    elim (decide_inputs a.symbols b.symbols size.0) [
      | inl inputs ↦ elim (decide_outputs a.outputs b.outputs size.1) [
        | inl shared ↦ (inputs, shared)
        | inr apart ↦ absurd (false≢true (sym failed ∙ says.1 (λ p in_a in_b.
            let shared = SharesOutput-from_place a b size p in_a in_b in apart shared.0 shared.1 shared.2)))
      ]
      | inr conflict ↦ absurd (false≢true (sym failed ∙ says.1 (λ p in_a in_b.
          false≢true (sym conflict.1 ∙ InputsMeet-from_place a b size p in_a in_b conflict.0))))
    ]

pub ZipsBits-and : (x y w : ℕ) → w ≡ bit_and x y → ZipsBits (λ p r. p && r) x y w
ZipsBits-and x y w is = record {
  each = λ k p r _ ep er. ap (λ z. bit_at z k) is ∙ bit_at_and x y k
      ∙ ap (λ z. min z (bit_at y k)) ep ∙ ap (λ z. min (bit_of p) z) er ∙ min-bit_of p r;
}

-- what `meet` owes: its new words, and what they stand for
pub IsPacked-common_row : (a b : Cube) (size : SameSize a b) (n m : ℕ) (ws vs xs : List ℕ) → length a.symbols ≡ n → length a.outputs ≡ m
    → Packs a ws → Packs b vs → InputsMeet a b size → SharesOutput a b size
    → length xs ≡ length ws → ((k : ℕ) → k < length ws → get_or xs k 0 ≡ bit_and (get_or ws k 0) (get_or vs k 0))
    → IsPacked n m xs × (unpacked n m xs ≡ common_row a b)
unfolding common
IsPacked-common_row a b size n m ws vs xs en em pa pb h shared len words =
    IsPacked-zip_bits compatible common refl (λ x y. x && y) a b size h n m en em ws vs xs pa pb len (
      shared.0,
      get_or-zip2_any (λ x y. x && y) a.outputs b.outputs shared.0 false false false size.1 refl
          ∙ and_from (get_or a.outputs shared.0 false) (get_or b.outputs shared.0 false) shared.1 shared.2,
    )
    refl agrees-common
    (λ k lt. ZipsBits-and (get_or ws k 0) (get_or vs k 0) (get_or xs k 0) (words k lt))

-- ---- two words, one of inputs and one of outputs

PairsMeet-iff_word : (x y : ℕ) → HasNoEmptyPair (bit_and x y) ↔ PairsMeet (x ∷ []) (y ∷ [])
PairsMeet-iff_word x y = (λ h v lt. each h v lt, λ h. h 0 (omega arith))
  where
    each : HasNoEmptyPair (bit_and x y) → (v : ℕ) → v < length (x ∷ []) → HasNoEmptyPair (bit_and (get_or (x ∷ []) v 0) (get_or (y ∷ []) v 0))
    each h zero lt = h
    each h (suc v) lt = absurd (omega arith)

ShareBit-from_word : (x y : ℕ) → bit_and x y < 2 ^ 64 → bit_and x y ≢ 0 → ShareBit (x ∷ []) (y ∷ [])
ShareBit-from_word x y fits some = (0, omega arith, bit_from_nonzero (bit_and x y) fits some)

no_ShareBit-from_word : (x y : ℕ) → bit_and x y ≡ 0 → ShareBit (x ∷ []) (y ∷ []) → ⊥
no_ShareBit-from_word x y none (zero, lt, (k, small, on)) = omega (arith, ap (λ w. bit_at w k) none, bit_at-zero k, on)
no_ShareBit-from_word x y none (suc v, lt, rest) = absurd (omega arith)

module _ (c : Cube) (ws : List ℕ) (p : Packs c ws) (inputs : input_words (length c.symbols) ≡ 1) where
  PacksInputs-first : PacksInputs c.symbols (get_or ws 0 0 ∷ [])
  PacksInputs-first = record { words_len = sym inputs; each = λ v lt. each v lt }
    where
      each : (v : ℕ) → v < input_words (length c.symbols) → IsInputWord c.symbols v (get_or (get_or ws 0 0 ∷ []) v 0)
      each zero lt = input_word_of c ws p 0 lt
      each (suc v) lt = absurd (omega (arith, inputs))

  PacksOutputs-second : output_words (length c.outputs) ≡ 1 → PacksOutputs c.outputs (get_or ws 1 0 ∷ [])
  PacksOutputs-second outputs = record { words_len = sym outputs; each = λ v lt. each v lt }
    where
      each : (v : ℕ) → v < output_words (length c.outputs) → IsOutputWord c.outputs v (get_or (get_or ws 1 0 ∷ []) v 0)
      each zero lt =
          let at : input_words (length c.symbols) + 0 ≡ 1 = omega (arith, inputs) in
          let P : ℕ → Type 0 = λ s. IsOutputWord c.outputs 0 (get_or ws s 0) in
          subst P at (output_word_of c ws p 0 lt)
      each (suc v) lt = absurd (omega (arith, outputs))

module _ (a b : Cube) (size : SameSize a b) (ws vs : List ℕ) (pa : Packs a ws) (pb : Packs b vs)
    (inputs : input_words (length a.symbols) ≡ 1) (outputs : output_words (length a.outputs) ≡ 1) where
  -- what both have of the inputs, and of the outputs
  abbrev both_inputs : ℕ
  both_inputs = bit_and (get_or ws 0 0) (get_or vs 0 0)

  abbrev both_outputs : ℕ
  both_outputs = bit_and (get_or ws 1 0) (get_or vs 1 0)

  inputs_b : input_words (length b.symbols) ≡ 1
  inputs_b = omega (arith, inputs, size.0)

  outputs_b : output_words (length b.outputs) ≡ 1
  outputs_b = omega (arith, outputs, size.1)

  pub IsDisjoint-from_first : (r : Bool) → IsTrue r ↔ HasNoEmptyPair both_inputs → r ≡ false → IsDisjoint (holds a) (holds b)
  IsDisjoint-from_first r says failed =
      let iff = PairsMeet-iff_word (get_or ws 0 0) (get_or vs 0 0) in
      IsDisjoint-from_inputs a b size _ _ (PacksInputs-first a ws pa inputs) (PacksInputs-first b vs pb inputs_b) r
      (λ t. iff.0 (says.0 t), λ h. says.1 (iff.1 h)) failed

  pub IsDisjoint-from_second : both_outputs ≡ 0 → IsDisjoint (holds a) (holds b)
  IsDisjoint-from_second none p in_a in_b =
      no_ShareBit-from_word (get_or ws 1 0) (get_or vs 1 0) none
      (ShareBit-from_output a b size _ _ (PacksOutputs-second a ws pa inputs outputs) (PacksOutputs-second b vs pb inputs_b outputs_b)
      (SharesOutput-from_place a b size p in_a in_b))

  pub meet-from_two_words : HasNoEmptyPair both_inputs → both_outputs < 2 ^ 64 → both_outputs ≢ 0 → InputsMeet a b size × SharesOutput a b size
  meet-from_two_words met fits some = (
    InputsMeet-from_words a b size _ _ (PacksInputs-first a ws pa inputs) (PacksInputs-first b vs pb inputs_b)
        ((PairsMeet-iff_word (get_or ws 0 0) (get_or vs 0 0)).0 met),
    SharesOutput-from_words a b size _ _ (PacksOutputs-second a ws pa inputs outputs) (PacksOutputs-second b vs pb inputs_b outputs_b)
        (ShareBit-from_word (get_or ws 1 0) (get_or vs 1 0) fits some),
  )

  pub IsPacked-two_words : (n m : ℕ) (xs : List ℕ) → length a.symbols ≡ n → length a.outputs ≡ m
      → InputsMeet a b size → SharesOutput a b size → xs ≡ both_inputs ∷ both_outputs ∷ []
      → IsPacked n m xs × (unpacked n m xs ≡ common_row a b)
  IsPacked-two_words n m xs en em h shared is =
      let two : length ws ≡ 2 = omega (arith, length-words a ws pa, inputs, outputs) in
      IsPacked-common_row a b size n m ws vs xs en em pa pb h shared (ap length is ∙ sym two)
      (λ k lt. ap (λ l. get_or l k 0) is ∙ each k (omega (arith, two)))
    where
      each : (k : ℕ) → k < 2 → get_or (both_inputs ∷ both_outputs ∷ []) k 0 ≡ bit_and (get_or ws k 0) (get_or vs k 0)
      each zero lt = refl
      each (suc zero) lt = refl
      each (suc (suc k)) lt = absurd (omega arith)
