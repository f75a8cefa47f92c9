-- The first difference of two rows, in words and in symbols.
use Rattle.std.proofs.Common.{Option, Some, None, IsTrue, ◌↔◌, not, ltb, take, drop, subst, ◌≡◌, ◌≢◌, ℕ, zero, suc, ◌+◌, ◌*◌, ◌/◌, ◌%◌, ◌^◌, ◌<◌, ◌≤◌, Bool, true, false, List, [], ◌∷◌, length, get_or, refl, ap, sym, ◌∙◌, arith, eqb, cond, ◌==◌, ◌-◌, inl, inr, bit_and, bit_xor}
use Rattle.std.proofs.Math.Bool.{beq}
use Rattle.std.specs.Int.{bit_at, w64, trailing_zeros}
use Rattle.std.specs.Option.{is_some, IfSome, IfNone}
use Rattle.std.specs.Ordering.{ordering_then, bool_cmp}
use Rattle.std.specs.Cmp.Lexicographic.{slice_cmp}
use Rattle.std.specs.declared.cmp.Ordering.{Ordering}
use Rattle.std.specs.declared.cmp.Ordering.TheVariants.{Less, Equal, Greater}
use Rattle.std.proofs.lemmas.Bool.{cases_lt, lt-ltb, le-ltb, false≢true}
use Rattle.std.proofs.lemmas.Cmp.{tied_itself}
use Rattle.std.proofs.lemmas.List.{get_or_past, ext_get_or, get_or-take, get_or-drop, length-drop}
use Rattle.std.proofs.lemmas.Nat.Bits.{bit_at_xor, bit_at-lt, bit_at-trailing_zeros}
use Rattle.std.proofs.lemmas.Nat.{xor_lt, and_mask}
use Rattle.cube.specs.declared.symbol.Symbol.{Symbol}
use Rattle.cube.specs.declared.symbol.Symbol.TheVariants.{Dash, Zero, One}
use Rattle.cube.specs.Pattern.{agrees}
use Rattle.cube.specs.Cube.{Cube, SameSize}
use Rattle.cube.specs.Order.{symbol_cmp, row_cmp}
use Rattle.cube.specs.Words.{bit_of_words, DiffersFirstAt}
use Rattle.cube.specs.Packing.{bit_of, input_words, unpacked, Packs, PacksInputs, PacksOutputs}
use Rattle.cube.proofs.PackingLemmas.{symbol_from_bits, unpacked-Packs, unpacked-Packs_at}
use Rattle.cube.proofs.ContainsLemmas.{input_bit_at}
use Rattle.cube.proofs.SumLemmas.{slice_same, symbol_same, bool_same, row_total}

-- where the words before are equal and these two are not, the lowest bit in which these differ is the first
pub DiffersFirstAt-from_word : (a b : List ℕ) (w : ℕ) → w < length a → get_or a w 0 < 2 ^ 64 → get_or b w 0 < 2 ^ 64
    → ((v : ℕ) → v < w → get_or a v 0 ≡ get_or b v 0) → bit_xor (get_or a w 0) (get_or b w 0) ≢ 0
    → (at : ℕ) × DiffersFirstAt a b at × (w ≡ at / 64)
    × ((bit_and (get_or a w 0 / 2 ^ trailing_zeros w64 (bit_xor (get_or a w 0) (get_or b w 0))) 1 == 1) ≡ (bit_of_words a at == 1))
DiffersFirstAt-from_word a b w lt fits_a fits_b same ne =
    let x = bit_xor (get_or a w 0) (get_or b w 0) in
    let first = bit_at-trailing_zeros w64 x (omega arith) (xor_lt 64 (get_or a w 0) (get_or b w 0) fits_a fits_b) in
    let t = trailing_zeros w64 x in
    let small : t < 64 = first.0 in
    let word : (64 * w + t) / 64 ≡ w = omega arith in
    let bit : (64 * w + t) % 64 ≡ t = omega arith in
    let of_words : (l : List ℕ) → bit_of_words l (64 * w + t) ≡ bit_at (get_or l w 0) t =
    λ l. ap (λ v. bit_at (get_or l v 0) ((64 * w + t) % 64)) word ∙ ap (λ k. bit_at (get_or l w 0) k) bit in (
      64 * w + t,
      record {
        within = omega arith;
        differs = λ e. omega (arith, bit_at_xor (get_or a w 0) (get_or b w 0) t, first.1, of_words a, of_words b, e);
        before = λ k below. elim (cases_lt (k / 64) w) [
          | inl earlier ↦ ap (λ y. bit_at y (k % 64)) (same (k / 64) earlier)
          | inr late ↦
              let here : k / 64 ≡ w = omega arith in
              let lower : k % 64 < t = omega arith in
              ap (λ v. bit_at (get_or a v 0) (k % 64)) here
              ∙ omega (
                arith,
                bit_at_xor (get_or a w 0) (get_or b w 0) (k % 64),
                first.2 (k % 64) lower,
                bit_at-lt (get_or a w 0) (k % 64),
                bit_at-lt (get_or b w 0) (k % 64),
              )
              ∙ ap (λ v. bit_at (get_or b v 0) (k % 64)) (sym here)
        ];
      },
      sym word,
      ap (λ v. v == 1) (and_mask (get_or a w 0 / 2 ^ t) 1 ∙ sym (of_words a)),
    )

-- a comparison of lists is settled by the first elements that differ
first_settles : {X : Type 0} (R : X → X → Ordering) → ((x : X) → R x x ≡ Equal) → (xs ys : List X) (i : ℕ) (d : X)
    → length xs ≡ length ys → i < length xs → ((k : ℕ) → k < i → get_or xs k d ≡ get_or ys k d)
    → (R (get_or xs i d) (get_or ys i d) ≡ Equal → ⊥) → slice_cmp R xs ys ≡ R (get_or xs i d) (get_or ys i d)
first_settles R same [] ys i d e lt before ne = absurd (omega arith)
first_settles R same (x ∷ xs) [] i d e lt before ne = absurd (omega arith)
first_settles R same (x ∷ xs) (y ∷ ys) zero d e lt before ne = settled (R x y) (slice_cmp R xs ys) ne
  where
    settled : (o p : Ordering) → (o ≡ Equal → ⊥) → ordering_then o p ≡ o
    settled Less p h = refl
    settled Equal p h = absurd (h refl)
    settled Greater p h = refl
first_settles R same (x ∷ xs) (y ∷ ys) (suc i) d e lt before ne =
    ap (λ z. ordering_then (R x z) (slice_cmp R xs ys)) (sym (before 0 (omega arith)))
    ∙ ap (λ o. ordering_then o (slice_cmp R xs ys)) (same x)
    ∙ first_settles R same xs ys i d (omega arith) (omega arith) (λ k below. before (suc k) (omega arith)) ne

-- ---- symbols

pub input_bit : (ss : List Symbol) (ws : List ℕ) → PacksInputs ss ws → (k : ℕ) → k < 64 * length ws
    → bit_of_words ws k ≡ bit_of (agrees (get_or ss (k / 2) Dash) (eqb (k % 2) 1))
input_bit ss ws p k lt =
    let at : 32 * (k / 64) + k % 64 / 2 ≡ k / 2 = omega arith in
    let parity : k % 64 % 2 ≡ k % 2 = omega arith in
    input_bit_at ss (k / 64) (get_or ws (k / 64) 0) (p.each (k / 64) (omega (arith, p.words_len))) (k % 64) (omega arith)
    ∙ ap (λ i. bit_of (agrees (get_or ss i Dash) (eqb (k % 64 % 2) 1))) at
    ∙ ap (λ r. bit_of (agrees (get_or ss (k / 2) Dash) (eqb r 1))) parity

symbol_differs : (s t : Symbol) → s ≢ t → symbol_cmp s t ≡ Equal → ⊥
symbol_differs Dash Dash ne e = ne refl
symbol_differs Dash Zero ne e = cc e
symbol_differs Dash One ne e = cc e
symbol_differs Zero Dash ne e = cc e
symbol_differs Zero Zero ne e = ne refl
symbol_differs Zero One ne e = cc e
symbol_differs One Dash ne e = cc e
symbol_differs One Zero ne e = cc e
symbol_differs One One ne e = ne refl

-- the order of two symbols by the first of their two bits that differs: the one that has it is less
by_low_bit : (s t : Symbol) → bit_of (agrees s false) ≢ bit_of (agrees t false)
    → symbol_cmp s t ≡ cond (bit_of (agrees s false) == 1) Less Greater
by_low_bit Dash Dash ne = absurd (ne refl)
by_low_bit Dash Zero ne = absurd (ne refl)
by_low_bit Dash One ne = refl
by_low_bit Zero Dash ne = absurd (ne refl)
by_low_bit Zero Zero ne = absurd (ne refl)
by_low_bit Zero One ne = refl
by_low_bit One Dash ne = refl
by_low_bit One Zero ne = refl
by_low_bit One One ne = absurd (ne refl)

by_high_bit : (s t : Symbol) → bit_of (agrees s false) ≡ bit_of (agrees t false) → bit_of (agrees s true) ≢ bit_of (agrees t true)
    → symbol_cmp s t ≡ cond (bit_of (agrees s true) == 1) Less Greater
by_high_bit Dash Dash e ne = absurd (ne refl)
by_high_bit Dash Zero e ne = refl
by_high_bit Dash One e ne = absurd (ne refl)
by_high_bit Zero Dash e ne = refl
by_high_bit Zero Zero e ne = absurd (ne refl)
by_high_bit Zero One e ne = absurd (omega (arith, e))
by_high_bit One Dash e ne = absurd (ne refl)
by_high_bit One Zero e ne = absurd (omega (arith, e))
by_high_bit One One e ne = absurd (ne refl)

module _ (ss ts : List Symbol) (e : length ss ≡ length ts) (ws vs : List ℕ) (p : PacksInputs ss ws) (q : PacksInputs ts vs) where
  same_symbol_at : (i : ℕ) → i < length ss → bit_of_words ws (2 * i) ≡ bit_of_words vs (2 * i)
      → bit_of_words ws (2 * i + 1) ≡ bit_of_words vs (2 * i + 1) → get_or ss i Dash ≡ get_or ts i Dash
  same_symbol_at i lt low high =
      let half : 2 * i / 2 ≡ i = omega arith in
      let half' : (2 * i + 1) / 2 ≡ i = omega arith in
      let even : 2 * i % 2 ≡ 0 = omega arith in
      let odd : (2 * i + 1) % 2 ≡ 1 = omega arith in
      let low_s = input_bit ss ws p (2 * i) (omega (arith, p.words_len)) in
      let low_t = input_bit ts vs q (2 * i) (omega (arith, q.words_len)) in
      let high_s = input_bit ss ws p (2 * i + 1) (omega (arith, p.words_len)) in
      let high_t = input_bit ts vs q (2 * i + 1) (omega (arith, q.words_len)) in
      symbol_from_bits (get_or ss i Dash) (get_or ts i Dash)
      (rw (half, even) at (sym low_s ∙ low ∙ low_t))
      (rw (half', odd) at (sym high_s ∙ high ∙ high_t))

  -- the symbols at the first bit that differs are the first that differ
  pub symbols_cmp-first : (at : ℕ) → DiffersFirstAt ws vs at
      → (at / 2 < length ss) × (slice_cmp symbol_cmp ss ts ≡ symbol_cmp (get_or ss (at / 2) Dash) (get_or ts (at / 2) Dash))
  symbols_cmp-first at d =
      let inside : at < 64 * length vs = omega (arith, d.within, p.words_len, q.words_len) in
      let differ : get_or ss (at / 2) Dash ≢ get_or ts (at / 2) Dash =
      λ same. d.differs (input_bit ss ws p at d.within ∙ ap (λ s. bit_of (agrees s (eqb (at % 2) 1))) same ∙ sym (input_bit ts vs q at inside)) in
      let within : at / 2 < length ss = elim (cases_lt (at / 2) (length ss)) [
        | inl lt ↦ lt
        | inr past ↦
            let past_t : length ts ≤ at / 2 = omega arith in
            absurd (differ (get_or_past ss (at / 2) Dash past ∙ sym (get_or_past ts (at / 2) Dash past_t)))
      ] in (
        within,
        first_settles symbol_cmp symbol_same ss ts (at / 2) Dash e within
            (λ k below. same_symbol_at k (omega arith) (d.before (2 * k) (omega arith)) (d.before (2 * k + 1) (omega arith)))
            (symbol_differs (get_or ss (at / 2) Dash) (get_or ts (at / 2) Dash) differ),
      )

  -- so the bit settles the order
  pub symbols_cmp-by_bit : (at : ℕ) → DiffersFirstAt ws vs at
      → slice_cmp symbol_cmp ss ts ≡ cond (bit_of_words ws at == 1) Less Greater
  symbols_cmp-by_bit at d =
      let inside : at < 64 * length vs = omega (arith, d.within, p.words_len, q.words_len) in
      let s = get_or ss (at / 2) Dash in
      let t = get_or ts (at / 2) Dash in
      let mine = input_bit ss ws p at d.within in
      let theirs = input_bit ts vs q at inside in
      (symbols_cmp-first at d).1
      ∙ elim (cases_lt 0 (at % 2)) [
        | inl odd ↦
            let one : at % 2 ≡ 1 = omega arith in
            let before : at - 1 < at = omega arith in
            let half : (at - 1) / 2 ≡ at / 2 = omega arith in
            let even : (at - 1) % 2 ≡ 0 = omega arith in
            let low_s = input_bit ss ws p (at - 1) (omega (arith, d.within)) in
            let low_t = input_bit ts vs q (at - 1) (omega (arith, inside)) in
            let own : bit_of_words ws at ≡ bit_of (agrees s true) = rw one at mine in
            let other : bit_of_words vs at ≡ bit_of (agrees t true) = rw one at theirs in
            by_high_bit s t (rw (half, even) at (sym low_s ∙ d.before (at - 1) before ∙ low_t)) (λ same. d.differs (own ∙ same ∙ sym other))
            ∙ ap (λ b. cond (b == 1) Less Greater) (sym own)
        | inr even ↦
            let zero : at % 2 ≡ 0 = omega arith in
            let own : bit_of_words ws at ≡ bit_of (agrees s false) = rw zero at mine in
            let other : bit_of_words vs at ≡ bit_of (agrees t false) = rw zero at theirs in
            by_low_bit s t (λ same. d.differs (own ∙ same ∙ sym other)) ∙ ap (λ b. cond (b == 1) Less Greater) (sym own)
      ]

  pub symbols_cmp-same : ((k : ℕ) → k < 64 * length ws → bit_of_words ws k ≡ bit_of_words vs k) → slice_cmp symbol_cmp ss ts ≡ Equal
  symbols_cmp-same same =
      ap (λ l. slice_cmp symbol_cmp ss l)
      (sym (ext_get_or Dash ss ts e (λ i lt. same_symbol_at i lt (same (2 * i) (omega (arith, p.words_len))) (same (2 * i + 1) (omega (arith, p.words_len))))))
      ∙ slice_same symbol_cmp symbol_same ss

-- ---- outputs

output_bit_at : (os : List Bool) (ws : List ℕ) → PacksOutputs os ws → (k : ℕ) → k < 64 * length ws
    → bit_of_words ws k ≡ bit_of (get_or os k false)
output_bit_at os ws p k lt =
    let at : 64 * (k / 64) + k % 64 ≡ k = omega arith in
    (p.each (k / 64) (omega (arith, p.words_len))).bits (k % 64) (omega arith) ∙ ap (λ i. bit_of (get_or os i false)) at

same_output_bit : (x y : Bool) → bit_of x ≡ bit_of y → x ≡ y
same_output_bit true true e = refl
same_output_bit true false e = absurd (omega arith)
same_output_bit false true e = absurd (omega arith)
same_output_bit false false e = refl

output_differs : (x y : Bool) → x ≢ y → bool_cmp x y ≡ Equal → ⊥
output_differs true true ne e = ne refl
output_differs true false ne e = cc e
output_differs false true ne e = cc e
output_differs false false ne e = ne refl

output_by_bit : (x y : Bool) → x ≢ y → bool_cmp x y ≡ cond (bit_of x == 1) Greater Less
output_by_bit true true ne = absurd (ne refl)
output_by_bit true false ne = refl
output_by_bit false true ne = refl
output_by_bit false false ne = absurd (ne refl)

module _ (bs os : List Bool) (e : length bs ≡ length os) (ws vs : List ℕ) (p : PacksOutputs bs ws) (q : PacksOutputs os vs) where
  same_output_at : (j : ℕ) → j < length bs → bit_of_words ws j ≡ bit_of_words vs j → get_or bs j false ≡ get_or os j false
  same_output_at j lt same =
      same_output_bit (get_or bs j false) (get_or os j false)
      (sym (output_bit_at bs ws p j (omega (arith, p.words_len))) ∙ same ∙ output_bit_at os vs q j (omega (arith, q.words_len)))

  -- the outputs at the first bit that differs are the first that differ
  pub outputs_cmp-first : (at : ℕ) → DiffersFirstAt ws vs at
      → (at < length bs) × (slice_cmp bool_cmp bs os ≡ bool_cmp (get_or bs at false) (get_or os at false))
  outputs_cmp-first at d =
      let inside : at < 64 * length vs = omega (arith, d.within, p.words_len, q.words_len) in
      let differ : get_or bs at false ≢ get_or os at false =
      λ same. d.differs (output_bit_at bs ws p at d.within ∙ ap (λ x. bit_of x) same ∙ sym (output_bit_at os vs q at inside)) in
      let within : at < length bs = elim (cases_lt at (length bs)) [
        | inl lt ↦ lt
        | inr past ↦
            let past_o : length os ≤ at = omega arith in
            absurd (differ (get_or_past bs at false past ∙ sym (get_or_past os at false past_o)))
      ] in (
        within,
        first_settles bool_cmp bool_same bs os at false e within (λ k below. same_output_at k (omega arith) (d.before k below))
            (output_differs (get_or bs at false) (get_or os at false) differ),
      )

  -- so the bit settles the order
  pub outputs_cmp-by_bit : (at : ℕ) → DiffersFirstAt ws vs at
      → slice_cmp bool_cmp bs os ≡ cond (bit_of_words ws at == 1) Greater Less
  outputs_cmp-by_bit at d =
      let inside : at < 64 * length vs = omega (arith, d.within, p.words_len, q.words_len) in
      let own = output_bit_at bs ws p at d.within in
      let differ : get_or bs at false ≢ get_or os at false =
      λ same. d.differs (own ∙ ap (λ x. bit_of x) same ∙ sym (output_bit_at os vs q at inside)) in
      (outputs_cmp-first at d).1
      ∙ output_by_bit (get_or bs at false) (get_or os at false) differ
      ∙ ap (λ b. cond (b == 1) Greater Less) (sym own)

  pub outputs_cmp-same : ws ≡ vs → slice_cmp bool_cmp bs os ≡ Equal
  outputs_cmp-same same =
      ap (λ l. slice_cmp bool_cmp bs l) (sym (ext_get_or false bs os e (λ j lt. same_output_at j lt (ap (λ l. bit_of_words l j) same))))
      ∙ slice_same bool_cmp bool_same bs

-- ---- rows

front_bit : (n : ℕ) (words : List ℕ) (k : ℕ) → k < 64 * n → bit_of_words (take n words) k ≡ bit_of_words words k
front_bit n words k lt = ap (λ w. bit_at w (k % 64)) (get_or-take n words (k / 64) 0 (omega arith))

back_bit : (n : ℕ) (words : List ℕ) (k : ℕ) → bit_of_words (drop n words) k ≡ bit_of_words words (64 * n + k)
back_bit n words k =
    let word : (64 * n + k) / 64 ≡ n + k / 64 = omega arith in
    let bit : (64 * n + k) % 64 ≡ k % 64 = omega arith in
    ap (λ w. bit_at w (k % 64)) (get_or-drop n words (k / 64) 0)
    ∙ ap (λ w. bit_at (get_or words w 0) (k % 64)) (sym word)
    ∙ ap (λ b. bit_at (get_or words ((64 * n + k) / 64) 0) b) (sym bit)

-- the first bit that differs settles the order of rows
module _ (c d : Cube) (size : SameSize c d) (ws vs : List ℕ) (p : Packs c ws) (q : Packs d vs) where
  own_inputs : PacksInputs c.symbols (take (input_words (length c.symbols)) ws)
  own_inputs = p.inputs

  other_inputs : PacksInputs d.symbols (take (input_words (length c.symbols)) vs)
  other_inputs = subst (λ n. PacksInputs d.symbols (take (input_words n) vs)) (sym size.0) q.inputs

  other_outputs : PacksOutputs d.outputs (drop (input_words (length c.symbols)) vs)
  other_outputs = subst (λ n. PacksOutputs d.outputs (drop (input_words n) vs)) (sym size.0) q.outputs

  row_cmp-input : (at : ℕ) → DiffersFirstAt ws vs at → at / 64 < input_words (length c.symbols)
      → row_cmp c d ≡ cond (bit_of_words ws at == 1) Less Greater
  row_cmp-input at first lt =
      let n = input_words (length c.symbols) in
      let below : at < 64 * n = omega arith in
      let front : DiffersFirstAt (take n ws) (take n vs) at = record {
        within = omega (arith, own_inputs.words_len);
        differs = λ e. first.differs (sym (front_bit n ws at below) ∙ e ∙ front_bit n vs at below);
        before = λ k before. front_bit n ws k (omega arith) ∙ first.before k before ∙ sym (front_bit n vs k (omega arith));
      } in
      ap (λ o. ordering_then o (slice_cmp bool_cmp c.outputs d.outputs))
      (symbols_cmp-by_bit c.symbols d.symbols size.0 (take n ws) (take n vs) own_inputs other_inputs at front
      ∙ ap (λ b. cond (b == 1) Less Greater) (front_bit n ws at below))
      ∙ decided (bit_of_words ws at == 1) (slice_cmp bool_cmp c.outputs d.outputs)
    where
      decided : (b : Bool) (o : Ordering) → ordering_then (cond b Less Greater) o ≡ cond b Less Greater
      decided true o = refl
      decided false o = refl

  equal_inputs : ((k : ℕ) → k < 64 * input_words (length c.symbols) → bit_of_words ws k ≡ bit_of_words vs k)
      → row_cmp c d ≡ slice_cmp bool_cmp c.outputs d.outputs
  equal_inputs same =
      let n = input_words (length c.symbols) in
      ap (λ o. ordering_then o (slice_cmp bool_cmp c.outputs d.outputs))
      (symbols_cmp-same c.symbols d.symbols size.0 (take n ws) (take n vs) own_inputs other_inputs
      (λ k lt.
      let below : k < 64 * n = omega (arith, own_inputs.words_len) in
      front_bit n ws k below ∙ same k below ∙ sym (front_bit n vs k below)))

  row_cmp-output : (at : ℕ) → DiffersFirstAt ws vs at → input_words (length c.symbols) ≤ at / 64
      → row_cmp c d ≡ cond (bit_of_words ws at == 1) Greater Less
  row_cmp-output at first le =
      let n = input_words (length c.symbols) in
      let there : 64 * n + (at - 64 * n) ≡ at = omega arith in
      let back : DiffersFirstAt (drop n ws) (drop n vs) (at - 64 * n) = record {
        within = omega (arith, first.within, length-drop n ws);
        differs = λ e. first.differs
            (ap (λ k. bit_of_words ws k) (sym there) ∙ sym (back_bit n ws (at - 64 * n)) ∙ e ∙ back_bit n vs (at - 64 * n) ∙ ap (λ k. bit_of_words vs k) there);
        before = λ k before. back_bit n ws k ∙ first.before (64 * n + k) (omega arith) ∙ sym (back_bit n vs k);
      } in
      equal_inputs (λ k lt. first.before k (omega arith))
      ∙ outputs_cmp-by_bit c.outputs d.outputs size.1 (drop n ws) (drop n vs) p.outputs other_outputs (at - 64 * n) back
      ∙ ap (λ b. cond (b == 1) Greater Less) (back_bit n ws (at - 64 * n) ∙ ap (λ k. bit_of_words ws k) there)

  pub row_cmp-equal : ws ≡ vs → row_cmp c d ≡ Equal
  row_cmp-equal same =
      let n = input_words (length c.symbols) in
      equal_inputs (λ k lt. ap (λ l. bit_of_words l k) same)
      ∙ outputs_cmp-same c.outputs d.outputs size.1 (drop n ws) (drop n vs) p.outputs other_outputs (ap (λ l. drop n l) same)

  -- the word of the first bit that differs, and that bit in `ws`
  abbrev IsFound : ℕ → Bool → Type 0
  IsFound w is_set = (at : ℕ) × DiffersFirstAt ws vs at × (w ≡ at / 64) × (is_set ≡ (bit_of_words ws at == 1))

  -- they settle the order of rows
  pub row_cmp-found : (w start : ℕ) (is_set : Bool) → IsFound w is_set → start ≡ input_words (length c.symbols)
      → row_cmp c d ≡ cond (beq is_set (ltb w start)) Less Greater
  row_cmp-found w start is_set found e = elim (cases_lt w start) [
    | inl lt ↦
        row_cmp-input found.0 found.1 (omega (arith, found.2)) ∙ ap (λ b. cond b Less Greater) (sym found.3) ∙ of_input is_set
        ∙ ap (λ i. cond (beq is_set i) Less Greater) (sym (lt-ltb w start lt))
    | inr le ↦
        row_cmp-output found.0 found.1 (omega (arith, found.2)) ∙ ap (λ b. cond b Greater Less) (sym found.3) ∙ of_output is_set
        ∙ ap (λ i. cond (beq is_set i) Less Greater) (sym (le-ltb w start le))
  ]
    where
      of_input : (b : Bool) → cond b Less Greater ≡ cond (beq b true) Less Greater
      of_input true = refl
      of_input false = refl

      of_output : (b : Bool) → cond b Greater Less ≡ cond (beq b false) Less Greater
      of_output true = refl
      of_output false = refl

  -- the rows are one where no word differs
  pub same_rows-iff : (found : Option (ℕ × Bool)) (none : Bool) → is_some found ≡ not none → IfSome found (λ f. IsFound f.0 f.1) → IfNone found (ws ≡ vs)
      → IsTrue none ↔ c ≡ d
  same_rows-iff None true answer differ same = (
    λ _. sym (unpacked-Packs c ws p) ∙ ap (λ l. unpacked (length c.symbols) (length c.outputs) l) same ∙ unpacked-Packs_at d _ _ vs (sym size.0) (sym size.1) q,
    λ _. refl,
  )
  same_rows-iff None false answer differ same = absurd (false≢true answer)
  same_rows-iff (Some f) true answer differ same = absurd (false≢true (sym answer))
  same_rows-iff (Some f) false answer differ same = (
    λ t. absurd (false≢true t),
    λ e. absurd (decided (beq f.1 (ltb f.0 (input_words (length c.symbols))))
        (sym (row_cmp-found f.0 (input_words (length c.symbols)) f.1 differ refl) ∙ ap (λ x. row_cmp c x) (sym e) ∙ tied_itself row_total c)),
  )
    where
      decided : (b : Bool) → cond b Less Greater ≡ Equal → ⊥
      decided true e = cc e
      decided false e = cc e
