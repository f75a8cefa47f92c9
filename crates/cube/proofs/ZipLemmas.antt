-- Rows that are made of two others element by element, and the words that stand for them.
use Rattle.std.proofs.Common.{◌≡◌, ℕ, zero, suc, ◌+◌, ◌*◌, ◌<◌, Bool, true, false, List, [], ◌∷◌, length, get_or, refl, ap, sym, subst, ◌∙◌, arith}
use Rattle.std.specs.Int.{bit_at}
use Rattle.std.proofs.lemmas.Simd.{length-zip2}
use Rattle.cube.specs.declared.symbol.Symbol.{Symbol}
use Rattle.cube.specs.declared.symbol.Symbol.TheVariants.{Dash}
use Rattle.cube.specs.Pattern.{agrees}
use Rattle.std.specs.Simd.Lanes.{zip2}
use Rattle.cube.specs.Cube.{Cube, SameSize}
use Rattle.cube.specs.Packing.{input_words, output_words, bit_of, IsInputWord, IsOutputWord, Packs, IsPacked, unpacked}
use Rattle.cube.proofs.PackingLemmas.{IsPacked-from_Packs, unpacked-Packs_at, Packs-from_words, input_word_of, output_word_of, length-words}

-- the element at any number: past the last it is f of the defaults
pub get_or-zip2_any : {A B C : Type 0} (f : A → B → C) (xs : List A) (ys : List B) (i : ℕ) (x : A) (y : B) (z : C)
    → length xs ≡ length ys → f x y ≡ z → get_or (zip2 f xs ys) i z ≡ f (get_or xs i x) (get_or ys i y)
get_or-zip2_any f [] [] i x y z e fits = sym fits
get_or-zip2_any f [] (y' ∷ ys) i x y z e fits = absurd (omega arith)
get_or-zip2_any f (x' ∷ xs) [] i x y z e fits = absurd (omega arith)
get_or-zip2_any f (x' ∷ xs) (y' ∷ ys) zero x y z e fits = refl
get_or-zip2_any f (x' ∷ xs) (y' ∷ ys) (suc i) x y z e fits = get_or-zip2_any f xs ys i x y z (omega arith) fits

-- the row of two others
abbrev pub zip_row : (Symbol → Symbol → Symbol) → (Bool → Bool → Bool) → Cube → Cube → Cube
zip_row f g a b = record { symbols = zip2 f a.symbols b.symbols; outputs = zip2 g a.outputs b.outputs }

-- pair k of a word is that of a symbol
pub record IsPair (word k : ℕ) (s : Symbol) : Type 0 where
  pub low : bit_at word (2 * k) ≡ bit_of (agrees s false)
  pub high : bit_at word (2 * k + 1) ≡ bit_of (agrees s true)

-- each pair of w is that of f of the symbols of x and y, where the test q passes of these
pub record ZipsPairs (q : Symbol → Symbol → Bool) (f : Symbol → Symbol → Symbol) (x y w : ℕ) : Type 0 where
  pub each : (k : ℕ) (s t : Symbol) → k < 32 → q s t ≡ true → IsPair x k s → IsPair y k t → IsPair w k (f s t)

-- each bit of w is g of the bits of x and y
pub record ZipsBits (g : Bool → Bool → Bool) (x y w : ℕ) : Type 0 where
  pub each : (k : ℕ) (p r : Bool) → k < 64 → bit_at x k ≡ bit_of p → bit_at y k ≡ bit_of r → bit_at w k ≡ bit_of (g p r)

-- an operation on bits that serves for symbols
pub ZipsPairs-from_bits : (q : Symbol → Symbol → Bool) (f : Symbol → Symbol → Symbol) (g : Bool → Bool → Bool) (x y w : ℕ)
    → ((s t : Symbol) (bit : Bool) → q s t ≡ true → agrees (f s t) bit ≡ g (agrees s bit) (agrees t bit))
    → ZipsBits g x y w → ZipsPairs q f x y w
ZipsPairs-from_bits q f g x y w serves bits = record {
  each = λ k s t lt ok p r. record {
    low = bits.each (2 * k) (agrees s false) (agrees t false) (omega arith) p.low r.low ∙ ap (λ b. bit_of b) (sym (serves s t false ok));
    high = bits.each (2 * k + 1) (agrees s true) (agrees t true) (omega arith) p.high r.high ∙ ap (λ b. bit_of b) (sym (serves s t true ok));
  };
}

IsInputWord-zip : (q : Symbol → Symbol → Bool) (f : Symbol → Symbol → Symbol) → f Dash Dash ≡ Dash
    → (ss ts : List Symbol) (v x y w : ℕ) → length ss ≡ length ts
    → ((i : ℕ) → q (get_or ss i Dash) (get_or ts i Dash) ≡ true)
    → IsInputWord ss v x → IsInputWord ts v y → ZipsPairs q f x y w → IsInputWord (zip2 f ss ts) v w
IsInputWord-zip q f f_dash ss ts v x y w e ok px py zips = record {
  low = λ k lt. (pair k lt).low ∙ at (32 * v + k) false;
  high = λ k lt. (pair k lt).high ∙ at (32 * v + k) true;
}
  where
    pair : (k : ℕ) → k < 32 → IsPair w k (f (get_or ss (32 * v + k) Dash) (get_or ts (32 * v + k) Dash))
    pair k lt =
        zips.each k (get_or ss (32 * v + k) Dash) (get_or ts (32 * v + k) Dash) lt (ok (32 * v + k))
        (record { low = px.low k lt; high = px.high k lt }) (record { low = py.low k lt; high = py.high k lt })

    at : (i : ℕ) (bit : Bool) → bit_of (agrees (f (get_or ss i Dash) (get_or ts i Dash)) bit) ≡ bit_of (agrees (get_or (zip2 f ss ts) i Dash) bit)
    at i bit = ap (λ s. bit_of (agrees s bit)) (sym (get_or-zip2_any f ss ts i Dash Dash Dash e f_dash))

pub IsOutputWord-zip : (g : Bool → Bool → Bool) → g false false ≡ false → (bs os : List Bool) (v x y w : ℕ) → length bs ≡ length os
    → IsOutputWord bs v x → IsOutputWord os v y → ZipsBits g x y w → IsOutputWord (zip2 g bs os) v w
IsOutputWord-zip g g_false bs os v x y w e px py zips = record {
  bits = λ k lt. zips.each k (get_or bs (64 * v + k) false) (get_or os (64 * v + k) false) lt (px.bits k lt) (py.bits k lt)
      ∙ ap (λ b. bit_of b) (sym (get_or-zip2_any g bs os (64 * v + k) false false false e g_false));
}

module _ (q : Symbol → Symbol → Bool) (f : Symbol → Symbol → Symbol) (f_dash : f Dash Dash ≡ Dash) (g : Bool → Bool → Bool)
    (a b : Cube) (size : SameSize a b) (ok : (i : ℕ) → q (get_or a.symbols i Dash) (get_or b.symbols i Dash) ≡ true)
    (n m : ℕ) (en : length a.symbols ≡ n) (em : length a.outputs ≡ m)
    (ws vs xs : List ℕ) (pa : Packs a ws) (pb : Packs b vs) (len : length xs ≡ length ws)
    (some : (j : ℕ) × (get_or (zip2 g a.outputs b.outputs) j false ≡ true)) where
  -- words whose pairs are zipped, and that pack the outputs
  pub IsPacked-zip_row : ((v : ℕ) → v < input_words (length a.symbols) → ZipsPairs q f (get_or ws v 0) (get_or vs v 0) (get_or xs v 0))
      → ((v : ℕ) → v < output_words (length a.outputs)
      → IsOutputWord (zip2 g a.outputs b.outputs) v (get_or xs (input_words (length a.symbols) + v) 0))
      → IsPacked n m xs × (unpacked n m xs ≡ zip_row f g a b)
  IsPacked-zip_row inputs outputs =
      let start = input_words (length a.symbols) in
      let count = output_words (length a.outputs) in
      let total : length ws ≡ start + count = length-words a ws pa in
      let e_in = length-zip2 f a.symbols b.symbols size.0 in
      let e_out = length-zip2 g a.outputs b.outputs size.1 in
      let packs = Packs-from_words (zip_row f g a b) (length a.symbols) (length a.outputs) xs start count count e_in e_out refl refl refl (len ∙ total)
      (λ v lt.
      let in_b : v < input_words (length b.symbols) = omega (arith, size.0) in
      IsInputWord-zip q f f_dash a.symbols b.symbols v (get_or ws v 0) (get_or vs v 0) (get_or xs v 0) size.0 ok
      (input_word_of a ws pa v lt) (input_word_of b vs pb v in_b) (inputs v lt))
      outputs in
      (IsPacked-from_Packs (zip_row f g a b) n m xs (e_in ∙ en) (e_out ∙ em) packs some.0 some.1, unpacked-Packs_at (zip_row f g a b) n m xs (e_in ∙ en) (e_out ∙ em) packs)

  -- words that come from one operation on bits
  pub IsPacked-zip_bits : g false false ≡ false
      → ((s t : Symbol) (bit : Bool) → q s t ≡ true → agrees (f s t) bit ≡ g (agrees s bit) (agrees t bit))
      → ((v : ℕ) → v < length ws → ZipsBits g (get_or ws v 0) (get_or vs v 0) (get_or xs v 0))
      → IsPacked n m xs × (unpacked n m xs ≡ zip_row f g a b)
  IsPacked-zip_bits g_false serves words =
      let start = input_words (length a.symbols) in
      let total : length ws ≡ start + output_words (length a.outputs) = length-words a ws pa in
      let same : input_words (length b.symbols) ≡ start = omega (arith, size.0) in
      IsPacked-zip_row
      (λ v lt. ZipsPairs-from_bits q f g (get_or ws v 0) (get_or vs v 0) (get_or xs v 0) serves (words v (omega arith)))
      (λ v lt.
      let in_b : v < output_words (length b.outputs) = omega (arith, size.1) in
      let Q : ℕ → Type 0 = λ s. IsOutputWord b.outputs v (get_or vs (s + v) 0) in
      IsOutputWord-zip g g_false a.outputs b.outputs v (get_or ws (start + v) 0) (get_or vs (start + v) 0) (get_or xs (start + v) 0) size.1
      (output_word_of a ws pa v lt) (subst Q same (output_word_of b vs pb v in_b)) (words (start + v) (omega arith)))
