-- What packed words stand for.
use Rattle.std.proofs.Common.{◌≡◌, ◌≢◌, ℕ, ◌+◌, ◌*◌, ◌/◌, ◌%◌, ◌^◌, ◌<◌, ◌≤◌, Bool, true, false, cond, eq-eqb, ne_eqb, List, [], ◌∷◌, ◌++◌, length, length-append, take, drop, get_or, slice_get, Some, refl, ap, sym, subst, ◌∙◌, arith, eqb, bit_and, inl, inr}
use Rattle.std.specs.Int.{bit_at}
use Rattle.std.proofs.lemmas.List.{same_lists, get_or_append_left, get_or_push, get_or_default, get_or_past, get_or-take, get_or-drop, length-take, length-drop}
use Rattle.std.proofs.lemmas.Bool.{cond-true, cond-false, cases_lt, false≢true}
use Rattle.std.proofs.lemmas.List.FromFn.{length-map-range_with_len, get_or-map-range_with_len}
use Rattle.std.proofs.lemmas.Option.{slice_get-get_or}
use Rattle.std.proofs.lemmas.Nat.Bits.{shr_and_one}
use Rattle.cube.specs.declared.symbol.Symbol.{Symbol}
use Rattle.cube.specs.declared.symbol.Symbol.TheVariants.{Dash, Zero, One}
use Rattle.cube.specs.Pattern.{agrees}
use Rattle.cube.specs.Cube.{Cube, SameSize, word_count}
use Rattle.cube.specs.Packing.{input_words, output_words, low_bit, high_bit, output_bit, bit_of, IsInputWord, IsOutputWord, PacksInputs, PacksOutputs, symbol_of, symbols_of, outputs_of, unpacked, Packs, IsPacked}

pub symbol_of-agrees : (s : Symbol) → symbol_of (bit_of (agrees s false)) (bit_of (agrees s true)) ≡ s
symbol_of-agrees Dash = refl
symbol_of-agrees Zero = refl
symbol_of-agrees One = refl

-- a symbol is determined by its bits
pub symbol_from_bits : (s t : Symbol) → bit_of (agrees s false) ≡ bit_of (agrees t false)
    → bit_of (agrees s true) ≡ bit_of (agrees t true) → s ≡ t
symbol_from_bits s t low high =
    sym (symbol_of-agrees s) ∙ ap (λ x. symbol_of x (bit_of (agrees s true))) low
    ∙ ap (λ x. symbol_of (bit_of (agrees t false)) x) high ∙ symbol_of-agrees t

pub length-symbols : (n m : ℕ) (ws : List ℕ) (c : Cube) → unpacked n m ws ≡ c → length c.symbols ≡ n
length-symbols n m ws c e =
    ap (λ v. length v.symbols) (sym e) ∙ length-map-range_with_len (λ i. symbol_of (low_bit ws i) (high_bit ws i)) 0 n

pub length-outputs : (n m : ℕ) (ws : List ℕ) (c : Cube) → unpacked n m ws ≡ c → length c.outputs ≡ m
length-outputs n m ws c e =
    ap (λ v. length v.outputs) (sym e) ∙ length-map-range_with_len (λ j. eqb (output_bit (input_words n) ws j) 1) 0 m

-- what is kept under one shape has one size
pub SameSize-of_shape : (n m : ℕ) (ws vs : List ℕ) (c : Cube) → unpacked n m ws ≡ c → SameSize (unpacked n m vs) c
SameSize-of_shape n m ws vs c e =
    (length-symbols n m vs _ refl ∙ sym (length-symbols n m ws c e), length-outputs n m vs _ refl ∙ sym (length-outputs n m ws c e))

-- a symbol, as its two bits are read
pub slice_get-symbols : (n m : ℕ) (ws : List ℕ) (c : Cube) (i : ℕ) (s : Symbol) → unpacked n m ws ≡ c
    → i < length c.symbols
    → symbol_of (bit_and (get_or ws (i / 32) 0 / 2 ^ (2 * (i % 32))) 1) (bit_and (get_or ws (i / 32) 0 / 2 ^ (2 * (i % 32) + 1)) 1) ≡ s
    → slice_get c.symbols i ≡ Some s
slice_get-symbols n m ws c i s e lt is =
    let within : i < n = omega (arith, length-symbols n m ws c e) in
    let f = λ (i : ℕ). symbol_of (low_bit ws i) (high_bit ws i) in
    let inside : i < length (symbols_of n ws) = omega (arith, length-map-range_with_len f 0 n) in
    ap (λ v. slice_get v.symbols i) (sym e)
    ∙ slice_get-get_or (symbols_of n ws) i Dash inside
    ∙ ap (λ x. Some x) (get_or-map-range_with_len f 0 n i i Dash within (omega arith)
    ∙ ap (λ x. symbol_of x (high_bit ws i)) (sym (shr_and_one (get_or ws (i / 32) 0) (2 * (i % 32))))
    ∙ ap (λ x. symbol_of (bit_and (get_or ws (i / 32) 0 / 2 ^ (2 * (i % 32))) 1) x) (sym (shr_and_one (get_or ws (i / 32) 0) (2 * (i % 32) + 1)))
    ∙ is)

-- an output, as its bit is read
pub slice_get-outputs : (n m : ℕ) (ws : List ℕ) (c : Cube) (j : ℕ) → unpacked n m ws ≡ c
    → j < length c.outputs
    → slice_get c.outputs j ≡ Some (eqb (bit_and (get_or ws (input_words n + j / 64) 0 / 2 ^ (j % 64)) 1) 1)
slice_get-outputs n m ws c j e lt =
    let within : j < m = omega (arith, length-outputs n m ws c e) in
    let f = λ (j : ℕ). eqb (output_bit (input_words n) ws j) 1 in
    let inside : j < length (outputs_of (input_words n) m ws) = omega (arith, length-map-range_with_len f 0 m) in
    ap (λ v. slice_get v.outputs j) (sym e)
    ∙ slice_get-get_or (outputs_of (input_words n) m ws) j false inside
    ∙ ap (λ x. Some x) (get_or-map-range_with_len f 0 m j j false within (omega arith)
    ∙ ap (λ x. eqb x 1) (sym (shr_and_one (get_or ws (input_words n + j / 64) 0) (j % 64))))

pub symbol_of-same : (low high : ℕ) → low ≡ high → symbol_of low high ≡ Dash
symbol_of-same low high e = cond-true (eqb low high) Dash (cond (eqb low 1) Zero One) (eq-eqb low high e)

pub symbol_of-low : (low high : ℕ) → low ≢ high → low ≡ 1 → symbol_of low high ≡ Zero
symbol_of-low low high ne e =
    cond-false (eqb low high) Dash (cond (eqb low 1) Zero One) (ne_eqb low high ne) ∙ cond-true (eqb low 1) Zero One (eq-eqb low 1 e)

pub symbol_of-high : (low high : ℕ) → low ≢ high → low ≢ 1 → symbol_of low high ≡ One
symbol_of-high low high ne e =
    cond-false (eqb low high) Dash (cond (eqb low 1) Zero One) (ne_eqb low high ne) ∙ cond-false (eqb low 1) Zero One (ne_eqb low 1 e)

test_of_cond : (b : Bool) → eqb (cond b 1 0) 1 ≡ b
test_of_cond true = refl
test_of_cond false = refl

-- the bits of an input, and of an output, among the words of a part
pub low_of_inputs : (ss : List Symbol) (ws : List ℕ) → PacksInputs ss ws → (i : ℕ) → i < length ss
    → low_bit ws i ≡ bit_of (agrees (get_or ss i Dash) false)
low_of_inputs ss ws p i lt =
    let v : i / 32 < input_words (length ss) = omega arith in
    let k : i % 32 < 32 = omega arith in
    let e : 32 * (i / 32) + i % 32 ≡ i = omega arith in
    (p.each (i / 32) v).low (i % 32) k ∙ ap (λ x. bit_of (agrees (get_or ss x Dash) false)) e

pub high_of_inputs : (ss : List Symbol) (ws : List ℕ) → PacksInputs ss ws → (i : ℕ) → i < length ss
    → high_bit ws i ≡ bit_of (agrees (get_or ss i Dash) true)
high_of_inputs ss ws p i lt =
    let v : i / 32 < input_words (length ss) = omega arith in
    let k : i % 32 < 32 = omega arith in
    let e : 32 * (i / 32) + i % 32 ≡ i = omega arith in
    (p.each (i / 32) v).high (i % 32) k ∙ ap (λ x. bit_of (agrees (get_or ss x Dash) true)) e

pub bit_of_outputs : (os : List Bool) (ws : List ℕ) → PacksOutputs os ws → (j : ℕ) → j < length os
    → output_bit 0 ws j ≡ bit_of (get_or os j false)
bit_of_outputs os ws p j lt =
    let v : j / 64 < output_words (length os) = omega arith in
    let k : j % 64 < 64 = omega arith in
    let e : 64 * (j / 64) + j % 64 ≡ j = omega arith in
    let at : 0 + j / 64 ≡ j / 64 = omega arith in
    ap (λ x. bit_at (get_or ws x 0) (j % 64)) at
    ∙ (p.each (j / 64) v).bits (j % 64) k ∙ ap (λ x. bit_of (get_or os x false)) e

-- the same among all words
pub low_of_packed : (c : Cube) (ws : List ℕ) → Packs c ws → (i : ℕ) → i < length c.symbols
    → low_bit ws i ≡ bit_of (agrees (get_or c.symbols i Dash) false)
low_of_packed c ws p i lt =
    let within : i / 32 < input_words (length c.symbols) = omega arith in
    ap (λ w. bit_at w (2 * (i % 32))) (sym (get_or-take (input_words (length c.symbols)) ws (i / 32) 0 within))
    ∙ low_of_inputs c.symbols (take (input_words (length c.symbols)) ws) p.inputs i lt

pub high_of_packed : (c : Cube) (ws : List ℕ) → Packs c ws → (i : ℕ) → i < length c.symbols
    → high_bit ws i ≡ bit_of (agrees (get_or c.symbols i Dash) true)
high_of_packed c ws p i lt =
    let within : i / 32 < input_words (length c.symbols) = omega arith in
    ap (λ w. bit_at w (2 * (i % 32) + 1)) (sym (get_or-take (input_words (length c.symbols)) ws (i / 32) 0 within))
    ∙ high_of_inputs c.symbols (take (input_words (length c.symbols)) ws) p.inputs i lt

pub output_of_packed : (c : Cube) (ws : List ℕ) → Packs c ws → (j : ℕ) → j < length c.outputs
    → output_bit (input_words (length c.symbols)) ws j ≡ bit_of (get_or c.outputs j false)
output_of_packed c ws p j lt =
    let start = input_words (length c.symbols) in
    let at : 0 + j / 64 ≡ j / 64 = omega arith in
    ap (λ w. bit_at w (j % 64)) (sym (get_or-drop start ws (j / 64) 0) ∙ ap (λ x. get_or (drop start ws) x 0) (sym at))
    ∙ bit_of_outputs c.outputs (drop start ws) p.outputs j lt

pub length-words : (c : Cube) (ws : List ℕ) → Packs c ws → length ws ≡ input_words (length c.symbols) + output_words (length c.outputs)
length-words c ws p =
    omega (
      arith,
      p.inputs.words_len,
      p.outputs.words_len,
      length-take (input_words (length c.symbols)) ws,
      length-drop (input_words (length c.symbols)) ws,
    )

pub few_words : (c : Cube) (ws : List ℕ) → Packs c ws → word_count c ≤ 4 → length ws ≤ 4
few_words c ws p few = omega (arith, length-words c ws p, few)

pub same_words : (a b : Cube) (ws vs : List ℕ) → SameSize a b → Packs a ws → Packs b vs → length ws ≡ length vs
same_words a b ws vs size pa pb = omega (arith, length-words a ws pa, length-words b vs pb, size.0, size.1)

pub input_word_of : (c : Cube) (ws : List ℕ) → Packs c ws → (v : ℕ) → v < input_words (length c.symbols)
    → IsInputWord c.symbols v (get_or ws v 0)
input_word_of c ws p v lt =
    let P : ℕ → Type 0 = λ x. IsInputWord c.symbols v x in
    subst P (get_or-take (input_words (length c.symbols)) ws v 0 lt) (p.inputs.each v lt)

pub output_word_of : (c : Cube) (ws : List ℕ) → Packs c ws → (v : ℕ) → v < output_words (length c.outputs)
    → IsOutputWord c.outputs v (get_or ws (input_words (length c.symbols) + v) 0)
output_word_of c ws p v lt =
    let P : ℕ → Type 0 = λ x. IsOutputWord c.outputs v x in
    subst P (get_or-drop (input_words (length c.symbols)) ws v 0) (p.outputs.each v lt)

-- the words of a row stand for it
same_symbols : (c : Cube) (ws : List ℕ) → Packs c ws → symbols_of (length c.symbols) ws ≡ c.symbols
same_symbols c ws p =
    let n = length c.symbols in
    let f = λ (i : ℕ). symbol_of (low_bit ws i) (high_bit ws i) in
    same_lists (symbols_of n ws) c.symbols (length-map-range_with_len f 0 n)
    (λ k d lt.
    let within : k < n = omega (arith, length-map-range_with_len f 0 n) in
    get_or-map-range_with_len f 0 n k k d within (omega arith)
    ∙ ap (λ x. symbol_of x (high_bit ws k)) (low_of_packed c ws p k within)
    ∙ ap (λ x. symbol_of (bit_of (agrees (get_or c.symbols k Dash) false)) x) (high_of_packed c ws p k within)
    ∙ symbol_of-agrees (get_or c.symbols k Dash)
    ∙ get_or_default c.symbols k Dash d within)

same_outputs : (c : Cube) (ws : List ℕ) → Packs c ws → outputs_of (input_words (length c.symbols)) (length c.outputs) ws ≡ c.outputs
same_outputs c ws p =
    let n = length c.symbols in
    let m = length c.outputs in
    let g = λ (j : ℕ). eqb (output_bit (input_words n) ws j) 1 in
    same_lists (outputs_of (input_words n) m ws) c.outputs (length-map-range_with_len g 0 m)
    (λ k d lt.
    let within : k < m = omega (arith, length-map-range_with_len g 0 m) in
    get_or-map-range_with_len g 0 m k k d within (omega arith)
    ∙ ap (λ x. eqb x 1) (output_of_packed c ws p k within)
    ∙ test_of_cond (get_or c.outputs k false)
    ∙ get_or_default c.outputs k false d within)

pub unpacked-Packs : (c : Cube) (ws : List ℕ) → Packs c ws → unpacked (length c.symbols) (length c.outputs) ws ≡ c
unpacked-Packs c ws p =
    let row = λ (s : List Symbol). λ (o : List Bool). let r : Cube = record { symbols = s; outputs = o } in r in
    ap (λ s. row s (outputs_of (input_words (length c.symbols)) (length c.outputs) ws)) (same_symbols c ws p)
    ∙ ap (λ o. row c.symbols o) (same_outputs c ws p)

pub unpacked-Packs_at : (c : Cube) (n m : ℕ) (ws : List ℕ) → length c.symbols ≡ n → length c.outputs ≡ m → Packs c ws
    → unpacked n m ws ≡ c
unpacked-Packs_at c n m ws en em p =
    ap (λ x. unpacked x m ws) (sym en) ∙ ap (λ y. unpacked (length c.symbols) y ws) (sym em) ∙ unpacked-Packs c ws p

-- what words that pack a row owe a new cube
pub IsPacked-from_Packs : (c : Cube) (n m : ℕ) (ws : List ℕ) → length c.symbols ≡ n → length c.outputs ≡ m
    → Packs c ws → (j : ℕ) → get_or c.outputs j false ≡ true → IsPacked n m ws
IsPacked-from_Packs c n m ws en em p j on =
    let e = unpacked-Packs_at c n m ws en em p in
    record {
      own = let P : Cube → Type 0 = λ v. Packs v ws in subst P (sym e) p;
      some_output = (j, ap (λ v. get_or v.outputs j false) e ∙ on);
    }

-- what the loops that write the words leave
pub Packs-from_words : (c : Cube) (n m : ℕ) (ws : List ℕ) (start count w : ℕ) → length c.symbols ≡ n → length c.outputs ≡ m
    → start ≡ input_words n → count ≡ output_words m → w ≡ count → length ws ≡ start + w
    → ((v : ℕ) → v < start → IsInputWord c.symbols v (get_or ws v 0))
    → ((v : ℕ) → v < w → IsOutputWord c.outputs v (get_or ws (start + v) 0)) → Packs c ws
Packs-from_words c n m ws start count w en em es ec ew len inputs outputs =
    let begins : start ≡ input_words (length c.symbols) = es ∙ ap (λ x. input_words x) (sym en) in
    let counts : w ≡ output_words (length c.outputs) = ew ∙ ec ∙ ap (λ x. output_words x) (sym em) in
    let ends : start ≤ length ws = omega arith in
    let front : (v : ℕ) → v < start → IsInputWord c.symbols v (get_or (take start ws) v 0) =
    λ v lt. let P : ℕ → Type 0 = λ x. IsInputWord c.symbols v x in subst P (sym (get_or-take start ws v 0 lt)) (inputs v lt) in
    let back : (v : ℕ) → v < w → IsOutputWord c.outputs v (get_or (drop start ws) v 0) =
    λ v lt. let P : ℕ → Type 0 = λ x. IsOutputWord c.outputs v x in subst P (sym (get_or-drop start ws v 0)) (outputs v lt) in
    record {
      inputs = let P : ℕ → Type 0 = λ x. PacksInputs c.symbols (take x ws) in
          subst P begins (record {
            words_len = omega (arith, length-take start ws);
            each = λ v lt. front v (omega arith);
          });
      outputs = let P : ℕ → Type 0 = λ x. PacksOutputs c.outputs (drop x ws) in
          subst P begins (record {
            words_len = omega (arith, length-drop start ws);
            each = λ v lt. back v (omega arith);
          });
    }

pub Packs-from_invariant : (c : Cube) (n m : ℕ) (ws : List ℕ) → unpacked n m ws ≡ c → IsPacked n m ws → Packs c ws
Packs-from_invariant c n m ws e p = let P : Cube → Type 0 = λ v. Packs v ws in subst P e p.own

-- the same for the words as a call gives them
pub Packs-from_view : (c : Cube) (n m : ℕ) (ws xs : List ℕ) → unpacked n m ws ≡ c → IsPacked n m ws → xs ≡ ws → Packs c xs
Packs-from_view c n m ws xs e p same = let P : List ℕ → Type 0 = λ x. Packs c x in subst P (sym same) (Packs-from_invariant c n m ws e p)

pub some_output : (c : Cube) (n m : ℕ) (ws : List ℕ) → unpacked n m ws ≡ c → IsPacked n m ws → (j : ℕ) × (get_or c.outputs j false ≡ true)
some_output c n m ws e p = (p.some_output.0, ap (λ v. get_or v.outputs p.some_output.0 false) (sym e) ∙ p.some_output.1)

-- an output that is set has a number in range
pub within_from_true : (os : List Bool) (j : ℕ) → get_or os j false ≡ true → j < length os
within_from_true os j on = elim (cases_lt j (length os)) [
  | inl lt ↦ lt
  | inr past ↦ absurd (false≢true (sym (get_or_past os j false past) ∙ on))
]

pub true_from_bit : (b : Bool) → bit_of b ≡ 1 → b ≡ true
true_from_bit true e = refl
true_from_bit false e = absurd (omega arith)

-- what the loops over symbols and outputs leave, which end at the last of them
pub IsInputWord-from_loop : (ss : List Symbol) (v count word : ℕ)
    → ((k : ℕ) → k < count → bit_at word (2 * k) ≡ bit_of (agrees (get_or ss (32 * v + k) Dash) false))
    → ((k : ℕ) → k < count → bit_at word (2 * k + 1) ≡ bit_of (agrees (get_or ss (32 * v + k) Dash) true))
    → ((k : ℕ) → k < 64 → 2 * count ≤ k → bit_at word k ≡ 1)
    → ((k : ℕ) → k < 32 → count ≤ k → length ss ≤ 32 * v + k) → IsInputWord ss v word
IsInputWord-from_loop ss v count word low high set past = record {
  low = λ k lt. elim (cases_lt k count) [
    | inl here ↦ low k here
    | inr after ↦ set (2 * k) (omega arith) (omega arith) ∙ ap (λ s. bit_of (agrees s false)) (sym (get_or_past ss (32 * v + k) Dash (past k lt after)))
  ];
  high = λ k lt. elim (cases_lt k count) [
    | inl here ↦ high k here
    | inr after ↦ set (2 * k + 1) (omega arith) (omega arith) ∙ ap (λ s. bit_of (agrees s true)) (sym (get_or_past ss (32 * v + k) Dash (past k lt after)))
  ];
}

pub IsOutputWord-from_loop : (os : List Bool) (v count word : ℕ)
    → ((k : ℕ) → k < count → bit_at word k ≡ bit_of (get_or os (64 * v + k) false))
    → ((k : ℕ) → k < 64 → count ≤ k → bit_at word k ≡ 0)
    → ((k : ℕ) → k < 64 → count ≤ k → length os ≤ 64 * v + k) → IsOutputWord os v word
IsOutputWord-from_loop os v count word done clear past = record {
  bits = λ k lt. elim (cases_lt k count) [
    | inl here ↦ done k here
    | inr after ↦ clear k lt after ∙ ap (λ b. bit_of b) (sym (get_or_past os (64 * v + k) false (past k lt after)))
  ];
}

-- what holds of each word holds of each after a push
pub each_pushed : (P : ℕ → ℕ → Type 0) (xs ys : List ℕ) (x w : ℕ) → length xs ≡ w → ys ≡ xs ++ (x ∷ [])
    → ((v : ℕ) → v < w → P v (get_or xs v 0)) → P w x → (length ys ≡ w + 1) × ((v : ℕ) → v < w + 1 → P v (get_or ys v 0))
each_pushed P xs ys x w len is before here = (omega (arith, ap (λ l. length l) is, length-append xs (x ∷ [])), each)
  where
    each : (v : ℕ) → v < w + 1 → P v (get_or ys v 0)
    each v lt = elim (cases_lt v w) [
      | inl less ↦
          let Q : ℕ → Type 0 = λ z. P v z in
          subst Q (sym (get_or_append_left xs (x ∷ []) 0 v (omega arith)) ∙ ap (λ l. get_or l v 0) (sym is)) (before v less)
      | inr above ↦
          let e : w ≡ v = omega arith in
          let Q : ℕ → Type 0 = λ z. P w z in
          let R : ℕ → Type 0 = λ z. P z (get_or ys z 0) in
          subst R e (subst Q (sym (get_or_push xs x 0 w len) ∙ ap (λ l. get_or l w 0) (sym is)) here)
    ]
