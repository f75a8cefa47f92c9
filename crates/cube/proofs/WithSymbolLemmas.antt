-- One symbol of a row replaced, and the two bits of its words.
use Rattle.std.proofs.Common.{◌≡◌, ◌≢◌, ℕ, ◌+◌, ◌*◌, ◌/◌, ◌%◌, ◌<◌, Bool, true, false, List, length, get_or, set, refl, ap, sym, subst, ◌∙◌, take, ◌++◌, arith, inl, inr}
use Rattle.std.specs.Int.{bit_at}
use Rattle.std.specs.List.{refill}
use Rattle.std.proofs.lemmas.Bool.{cases_eq}
use Rattle.std.proofs.lemmas.List.{get_or-set_same, get_or-set_other, length-set, append-nil}
use Rattle.std.proofs.Math.ListN.{drop_of_length-le}
use Rattle.std.proofs.Math.Seq.{take-length}
use Rattle.cube.specs.declared.symbol.Symbol.{Symbol}
use Rattle.cube.specs.declared.symbol.Symbol.TheVariants.{Dash}
use Rattle.cube.specs.Pattern.{agrees}
use Rattle.cube.specs.Cube.{Cube, with_symbol}
use Rattle.cube.specs.Packing.{input_words, output_words, bit_of, IsInputWord, IsOutputWord, Packs, IsPacked, unpacked}
use Rattle.cube.proofs.PackingLemmas.{IsPacked-from_Packs, unpacked-Packs_at, Packs-from_words, Packs-from_view, some_output, input_word_of, output_word_of, length-symbols, length-outputs, length-words}

module _ (ss : List Symbol) (i : ℕ) (lt : i < length ss) where
  at_other : (s : Symbol) (k : ℕ) (b : Bool) → k ≢ i → bit_of (agrees (get_or (set ss i s) k Dash) b) ≡ bit_of (agrees (get_or ss k Dash) b)
  at_other s k b ne = ap (λ t. bit_of (agrees t b)) (get_or-set_other ss i k s Dash ne)

  at_same : (s : Symbol) (k : ℕ) (b : Bool) → k ≡ i → bit_of (agrees (get_or (set ss i s) k Dash) b) ≡ bit_of (agrees s b)
  at_same s k b e = ap (λ x. bit_of (agrees (get_or (set ss i s) x Dash) b)) e ∙ ap (λ t. bit_of (agrees t b)) (get_or-set_same ss i s Dash lt)

  -- the two bits of the input written
  pub IsInputWord-set : (s : Symbol) (w w' : ℕ) → IsInputWord ss (i / 32) w
      → bit_at w' (2 * (i % 32)) ≡ bit_of (agrees s false) → bit_at w' (2 * (i % 32) + 1) ≡ bit_of (agrees s true)
      → ((q : ℕ) → q < 64 → q ≢ 2 * (i % 32) → q ≢ 2 * (i % 32) + 1 → bit_at w' q ≡ bit_at w q)
      → IsInputWord (set ss i s) (i / 32) w'
  IsInputWord-set s w w' p low high kept = record {
    low = λ k small. elim (cases_eq (32 * (i / 32) + k) i) [
      | inl e ↦
          let at : 2 * k ≡ 2 * (i % 32) = omega arith in
          ap (λ x. bit_at w' x) at ∙ low ∙ sym (at_same s (32 * (i / 32) + k) false e)
      | inr ne ↦ kept (2 * k) (omega arith) (omega arith) (omega arith) ∙ p.low k small ∙ sym (at_other s (32 * (i / 32) + k) false ne)
    ];
    high = λ k small. elim (cases_eq (32 * (i / 32) + k) i) [
      | inl e ↦
          let at : 2 * k + 1 ≡ 2 * (i % 32) + 1 = omega arith in
          ap (λ x. bit_at w' x) at ∙ high ∙ sym (at_same s (32 * (i / 32) + k) true e)
      | inr ne ↦ kept (2 * k + 1) (omega arith) (omega arith) (omega arith) ∙ p.high k small ∙ sym (at_other s (32 * (i / 32) + k) true ne)
    ];
  }

  IsInputWord-other : (s : Symbol) (v w : ℕ) → v ≢ i / 32 → IsInputWord ss v w → IsInputWord (set ss i s) v w
  IsInputWord-other s v w ne p = record {
    low = λ k small. p.low k small ∙ sym (at_other s (32 * v + k) false (λ e. ne (omega arith)));
    high = λ k small. p.high k small ∙ sym (at_other s (32 * v + k) true (λ e. ne (omega arith)));
  }

pub Packs-set : (c : Cube) (ws : List ℕ) (i : ℕ) (s : Symbol) (w' : ℕ) → i < length c.symbols → Packs c ws
    → IsInputWord (set c.symbols i s) (i / 32) w' → Packs (with_symbol c i s) (set ws (i / 32) w')
Packs-set c ws i s w' lt p word =
    let start = input_words (length c.symbols) in
    let count = output_words (length c.outputs) in
    let total : length ws ≡ start + count = length-words c ws p in
    Packs-from_words (with_symbol c i s) (length c.symbols) (length c.outputs) (set ws (i / 32) w') start count count
    (length-set c.symbols i s) refl refl refl refl (length-set ws (i / 32) w' ∙ total)
    (λ v in_v. elim (cases_eq v (i / 32)) [
      | inl e ↦
          let inside : i / 32 < length ws = omega arith in
          let P : ℕ → Type 0 = λ x. IsInputWord (set c.symbols i s) v x in
          let Q : ℕ → Type 0 = λ x. IsInputWord (set c.symbols i s) x w' in
          subst P (sym (get_or-set_same ws (i / 32) w' 0 inside) ∙ ap (λ x. get_or (set ws (i / 32) w') x 0) (sym e)) (subst Q (sym e) word)
      | inr ne ↦
          let P : ℕ → Type 0 = λ x. IsInputWord (set c.symbols i s) v x in
          subst P (sym (get_or-set_other ws (i / 32) v w' 0 ne)) (IsInputWord-other c.symbols i lt s v (get_or ws v 0) ne (input_word_of c ws p v in_v))
    ])
    (λ v in_v.
    let apart : start + v ≢ i / 32 = omega arith in
    let P : ℕ → Type 0 = λ x. IsOutputWord c.outputs v x in
    subst P (sym (get_or-set_other ws (i / 32) (start + v) w' 0 apart)) (output_word_of c ws p v in_v))

-- as many elements as there are take the place of all
refill-all : (xs ys : List ℕ) → length ys ≡ length xs → refill (length xs) xs ys ≡ ys
refill-all xs ys e =
    ap (λ r. take (length xs) (ys ++ r)) (drop_of_length-le xs (omega arith)) ∙ ap (λ l. take (length xs) l) (append-nil ys)
    ∙ ap (λ n. take n ys) (sym e) ∙ take-length ys

-- what `set_symbol` owes: the lower bit is written first, and then the higher
pub IsPacked-with_symbol : (c : Cube) (n m i : ℕ) (s : Symbol) (x y : Bool) (u w : ℕ) (items ws : List ℕ)
    → unpacked n m items ≡ c → IsPacked n m items → ws ≡ items → i < length c.symbols
    → x ≡ agrees s false → bit_at u (2 * (i % 32)) ≡ bit_of x
    → ((k : ℕ) → k < 64 → k ≢ 2 * (i % 32) → bit_at u k ≡ bit_at (get_or ws (i / 32) 0) k)
    → y ≡ agrees s true → bit_at w (2 * (i % 32) + 1) ≡ bit_of y
    → ((k : ℕ) → k < 64 → k ≢ 2 * (i % 32) + 1 → bit_at w k ≡ bit_at u k)
    → IsPacked n m (refill (length items) items (set ws (i / 32) w)) × (unpacked n m (refill (length items) items (set ws (i / 32) w)) ≡ with_symbol c i s)
IsPacked-with_symbol c n m i s x y u w items ws view packed is lt ex low kept_low ey high kept_high =
    let p = Packs-from_view c n m items ws view packed is in
    let v : i / 32 < input_words (length c.symbols) = omega arith in
    let word = IsInputWord-set c.symbols i lt s (get_or ws (i / 32) 0) w (input_word_of c ws p (i / 32) v)
    (kept_high (2 * (i % 32)) (omega arith) (omega arith) ∙ low ∙ ap (λ b. bit_of b) ex) (high ∙ ap (λ b. bit_of b) ey)
    (λ q small ne_low ne_high. kept_high q small ne_high ∙ kept_low q small ne_low) in
    let P : List ℕ → Type 0 = λ z. Packs (with_symbol c i s) z in
    let whole = refill-all items (set ws (i / 32) w) (length-set ws (i / 32) w ∙ ap length is) in
    let packs = subst P (sym whole) (Packs-set c ws i s w lt p word) in
    let on = some_output c n m items view packed in
    let inputs = length-set c.symbols i s ∙ length-symbols n m items c view in
    let outputs = length-outputs n m items c view in (
      IsPacked-from_Packs (with_symbol c i s) n m _ inputs outputs packs on.0 on.1,
      unpacked-Packs_at (with_symbol c i s) n m _ inputs outputs packs,
    )
