-- What a row of bytes is after one more was put.
use Rattle.std.proofs.Common.{◌≡◌, ℕ, ◌+◌, ◌*◌, ◌/◌, ◌%◌, ◌^◌, ◌<◌, ◌≤◌, Bool, false, bit_and, min, List, [], ◌∷◌, ◌++◌, length, take, drop, map, get_or, slice_set, refl, ap, sym, ◌∙◌, append_assoc, arith}
use Rattle.std.proofs.lemmas.List.{map_more, drop-drop, set-append_right, length-take-le, length-map, length-drop, length-append, take-append-drop, map-append, same_lists, get_or-map, get_or-take, get_or-drop, get_or_default}
use Rattle.std.proofs.lemmas.Slice.{take-put_mid, drop-put_mid}
use Rattle.std.proofs.Math.Seq.{take-append_seam, drop-append-add, take-add}
use borrow.Rule.Slice.PartMut.{put_mid}
use Rattle.std.proofs.lemmas.Nat.Bits.{shr_and_one, bit_at_and, bit_at_ones, bit_at-lt}
use Rattle.std.proofs.Math.Pow.{shr-shr}
use Rattle.std.specs.Prelude.{◌||◌}
use Rattle.std.specs.List.{list_any}
use Rattle.std.specs.Int.{bit_at}
use Rattle.cube.specs.declared.symbol.Symbol.{Symbol}
use Rattle.cube.specs.declared.symbol.Symbol.TheVariants.{Dash}
use Rattle.cube.specs.Pattern.{agrees}
use Rattle.cube.specs.Packing.{PacksInputs, PacksOutputs, bit_of, symbol_of}
use Rattle.cube.proofs.PackingLemmas.{low_of_inputs, high_of_inputs, bit_of_outputs, symbol_of-agrees}

-- the byte of one more element is put behind those of the first i
pub put_more : {X : Type 0} (f : X → ℕ) (xs : List X) (i : ℕ) (d : X) (old row : List ℕ) (v : ℕ)
    → i < length xs → length xs ≤ length old → v ≡ f (get_or xs i d) → row ≡ map f (take i xs) ++ drop i old
    → slice_set row i v ≡ map f (take (i + 1) xs) ++ drop (i + 1) old
put_more f xs i d old row v within room byte before =
    let long : length (map f (take i xs)) ≡ i = length-map (take i xs) f ∙ length-take-le i xs (omega arith) in
    ap (λ r. slice_set r i v) before
    ∙ set-append_right (map f (take i xs)) (drop i old) i i v long (omega arith)
    ∙ ap (λ k. map f (take i xs) ++ slice_set (drop i old) k v) (omega arith)
    ∙ ap (λ w. map f (take i xs) ++ w) (set_first (drop i old) v (omega (arith, length-drop i old)) ∙ ap (λ w. v ∷ w) (drop-drop 1 i old))
    ∙ sym (append_assoc (map f (take i xs)) (v ∷ []) (drop (i + 1) old))
    ∙ ap (λ b. (map f (take i xs) ++ b ∷ []) ++ drop (i + 1) old) byte
    ∙ ap (λ w. w ++ drop (i + 1) old) (sym (map_more f xs i d within))
  where
    set_first : (xs : List ℕ) (v : ℕ) → 0 < length xs → slice_set xs 0 v ≡ v ∷ drop 1 xs
    set_first [] v lt = absurd (omega arith)
    set_first (x ∷ xs) v lt = refl

-- a symbol, as its two bits are read
pub symbol_read : (ss : List Symbol) (ws : List ℕ) (i : ℕ) → PacksInputs ss ws → i < length ss
    → symbol_of (bit_and (get_or ws (i / 32) 0 / 2 ^ (2 * (i % 32))) 1) (bit_and (get_or ws (i / 32) 0 / 2 ^ (2 * (i % 32) + 1)) 1) ≡ get_or ss i Dash
symbol_read ss ws i p lt =
    ap (λ x. symbol_of x (bit_and (get_or ws (i / 32) 0 / 2 ^ (2 * (i % 32) + 1)) 1)) (shr_and_one (get_or ws (i / 32) 0) (2 * (i % 32)) ∙ low_of_inputs ss ws p i lt)
    ∙ ap (λ x. symbol_of (bit_of (agrees (get_or ss i Dash) false)) x) (shr_and_one (get_or ws (i / 32) 0) (2 * (i % 32) + 1) ∙ high_of_inputs ss ws p i lt)
    ∙ symbol_of-agrees (get_or ss i Dash)

-- an output, as its bit is read
pub output_read : (os : List Bool) (ws : List ℕ) (j : ℕ) → PacksOutputs os ws → j < length os
    → bit_and (get_or ws (j / 64) 0 / 2 ^ (j % 64)) 1 ≡ bit_of (get_or os j false)
output_read os ws j p lt =
    shr_and_one (get_or ws (j / 64) 0) (j % 64) ∙ ap (λ k. bit_at (get_or ws k 0) (j % 64)) (omega arith) ∙ bit_of_outputs os ws p j lt

-- the bytes of four more elements are put behind those of the first i
pub put_four : {X : Type 0} (f : X → ℕ) (xs : List X) (i n : ℕ) (d : X) (old row four : List ℕ)
    → i + 4 ≤ length xs → length xs ≤ length old → n ≡ 4 → length four ≡ 4
    → ((k : ℕ) → k < 4 → get_or four k 0 ≡ f (get_or xs (i + k) d)) → row ≡ map f (take i xs) ++ drop i old
    → put_mid i n row four ≡ map f (take (i + 4) xs) ++ drop (i + 4) old
put_four f xs i n d old row four within room width len each before =
    let front = map f (take i xs) in
    let long : length front ≡ i = length-map (take i xs) f ∙ length-take-le i xs (omega arith) in
    let fits : i ≤ length row = omega (arith, ap (λ r. length r) before, length-append front (drop i old)) in
    let next : length (map f (take 4 (drop i xs))) ≡ 4 =
    length-map (take 4 (drop i xs)) f ∙ length-take-le 4 (drop i xs) (omega (arith, length-drop i xs)) in
    let at : (k : ℕ) → k < 4 → get_or (map f (take 4 (drop i xs))) k 0 ≡ f (get_or xs (i + k) d) =
    λ k lt. get_or-map f (take 4 (drop i xs)) k d 0 (omega (arith, next, length-map (take 4 (drop i xs)) f))
    ∙ ap f (get_or-take 4 (drop i xs) k d lt ∙ get_or-drop i xs k d) in
    let same : four ≡ map f (take 4 (drop i xs)) =
    same_lists four (map f (take 4 (drop i xs))) (len ∙ sym next)
    (λ k e lt. get_or_default four k e 0 lt ∙ each k (omega arith) ∙ sym (at k (omega arith)) ∙ get_or_default (map f (take 4 (drop i xs))) k 0 e (omega arith)) in
    let first : take i row ≡ front = ap (take i) before ∙ ap (λ k. take k (front ++ drop i old)) (sym long) ∙ take-append_seam front (drop i old) in
    let last : drop (i + 4) row ≡ drop (i + 4) old =
    ap (drop (i + 4)) before ∙ ap (λ k. drop (k + 4) (front ++ drop i old)) (sym long) ∙ drop-append-add front (drop i old) 4 ∙ drop-drop 4 i old in
    sym (take-append-drop (i + 4) (put_mid i n row four))
    ∙ ap (λ a. a ++ drop (i + 4) (put_mid i n row four)) (take-put_mid i n row four (i + 4) (omega arith) fits)
    ∙ ap (λ b. (take i row ++ four) ++ b) (drop-put_mid i n row four (i + 4) (omega arith) fits (omega arith) ∙ last)
    ∙ ap (λ a. (a ++ four) ++ drop (i + 4) old) first ∙ ap (λ b. (front ++ b) ++ drop (i + 4) old) same
    ∙ ap (λ a. a ++ drop (i + 4) old) (sym (map-append f (take i xs) (take 4 (drop i xs))) ∙ ap (map f) (sym (take-add i 4 xs)))

-- a bit of eight bits of a word
byte_bit : (w s j : ℕ) → j < 8 → bit_at (bit_and (w / 2 ^ s) 255) j ≡ bit_at w (s + j)
byte_bit w s j lt =
    bit_at_and (w / 2 ^ s) 255 j ∙ ap (min (bit_at (w / 2 ^ s) j)) (bit_at_ones 8 j lt) ∙ omega (arith, bit_at-lt (w / 2 ^ s) j)
    ∙ ap (λ x. x % 2) (shr-shr w s j)

-- a symbol, as its two bits are read in a group of four
pub group_read : (ss : List Symbol) (ws : List ℕ) (g k : ℕ) → PacksInputs ss ws → k < 4 → 4 * g + k < length ss
    → (let bits = bit_and (get_or ws (g / 8) 0 / 2 ^ (8 * (g % 8))) 255 in symbol_of (bit_at bits (2 * k)) (bit_at bits (2 * k + 1))) ≡ get_or ss (4 * g + k) Dash
group_read ss ws g k p lt within =
    let word = get_or ws (g / 8) 0 in
    let bits = bit_and (word / 2 ^ (8 * (g % 8))) 255 in
    let here : (4 * g + k) / 32 ≡ g / 8 = omega arith in
    let low : 2 * ((4 * g + k) % 32) ≡ 8 * (g % 8) + 2 * k = omega arith in
    let high : 2 * ((4 * g + k) % 32) + 1 ≡ 8 * (g % 8) + (2 * k + 1) = omega arith in
    ap (λ x. symbol_of x (bit_at bits (2 * k + 1))) (byte_bit word (8 * (g % 8)) (2 * k) (omega arith)
    ∙ ap (bit_at word) (sym low) ∙ ap (λ v. bit_at (get_or ws v 0) (2 * ((4 * g + k) % 32))) (sym here) ∙ low_of_inputs ss ws p (4 * g + k) within)
    ∙ ap (λ x. symbol_of (bit_of (agrees (get_or ss (4 * g + k) Dash) false)) x) (byte_bit word (8 * (g % 8)) (2 * k + 1) (omega arith)
    ∙ ap (bit_at word) (sym high) ∙ ap (λ v. bit_at (get_or ws v 0) (2 * ((4 * g + k) % 32) + 1)) (sym here) ∙ high_of_inputs ss ws p (4 * g + k) within)
    ∙ symbol_of-agrees (get_or ss (4 * g + k) Dash)

-- whether one passes, and whether one of the answers is true
pub any_map : {X : Type 0} (p : X → Bool) (xs : List X) → list_any p xs ≡ list_any (λ b. b) (map p xs)
any_map p [] = refl
any_map p (x ∷ xs) = ap (λ r. p x || r) (any_map p xs)
