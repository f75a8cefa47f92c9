-- Places of cubes, symbol by symbol.
use Rattle.std.proofs.Common.{◌≡◌, ℕ, zero, suc, ◌<◌, ◌≤◌, Bool, true, false, List, [], ◌∷◌, length, map, get_or, set, refl, ap, sym, ◌∙◌, arith, inl, inr}
use Rattle.std.proofs.lemmas.Bool.{and_parts, and_from, cases_lt, false≢true}
use Rattle.std.proofs.lemmas.List.{get_or-set_same, length-map, get_or_past}
use Rattle.cube.specs.declared.symbol.Symbol.{Symbol}
use Rattle.cube.specs.declared.symbol.Symbol.TheVariants.{Dash, Zero, One}
use Rattle.cube.specs.Pattern.{agrees, matches}
use Rattle.cube.specs.Cube.{Cube, holds, IsSubset, SameSize}

pub length-matches : (ss : List Symbol) (bs : List Bool) → matches ss bs ≡ true → length bs ≡ length ss
length-matches [] [] h = refl
length-matches [] (b ∷ bs) h = absurd (false≢true h)
length-matches (s ∷ ss) [] h = absurd (false≢true h)
length-matches (s ∷ ss) (b ∷ bs) h = ap suc (length-matches ss bs (and_parts (agrees s b) (matches ss bs) h).1)

pub agrees_at-matches : (ss : List Symbol) (bs : List Bool) (i : ℕ) → matches ss bs ≡ true → i < length ss
    → agrees (get_or ss i Dash) (get_or bs i false) ≡ true
agrees_at-matches [] bs i h lt = absurd (omega arith)
agrees_at-matches (s ∷ ss) [] i h lt = absurd (false≢true h)
agrees_at-matches (s ∷ ss) (b ∷ bs) zero h lt = (and_parts (agrees s b) (matches ss bs) h).0
agrees_at-matches (s ∷ ss) (b ∷ bs) (suc i) h lt =
    agrees_at-matches ss bs i (and_parts (agrees s b) (matches ss bs) h).1 (omega arith)

pub matches-from_agrees : (ss : List Symbol) (bs : List Bool) → length bs ≡ length ss
    → ((i : ℕ) → i < length ss → agrees (get_or ss i Dash) (get_or bs i false) ≡ true) → matches ss bs ≡ true
matches-from_agrees [] [] e h = refl
matches-from_agrees [] (b ∷ bs) e h = absurd (omega arith)
matches-from_agrees (s ∷ ss) [] e h = absurd (omega arith)
matches-from_agrees (s ∷ ss) (b ∷ bs) e h =
    and_from (agrees s b) (matches ss bs) (h 0 (omega arith))
    (matches-from_agrees ss bs (omega arith) (λ i lt. h (suc i) (omega arith)))

-- a point of the symbols
pub pick : Symbol → Bool
pick Dash = false
pick Zero = false
pick One = true

agrees-pick : (s : Symbol) → agrees s (pick s) ≡ true
unfolding pick
agrees-pick Dash = refl
agrees-pick Zero = refl
agrees-pick One = refl

pub matches-map_pick : (ss : List Symbol) → matches ss (map pick ss) ≡ true
matches-map_pick [] = refl
matches-map_pick (s ∷ ss) = and_from (agrees s (pick s)) (matches ss (map pick ss)) (agrees-pick s) (matches-map_pick ss)

pub matches-set : (ss : List Symbol) (bs : List Bool) (i : ℕ) (v : Bool) → matches ss bs ≡ true
    → agrees (get_or ss i Dash) v ≡ true → matches ss (set bs i v) ≡ true
matches-set [] [] i v h a = refl
matches-set [] (b ∷ bs) i v h a = absurd (false≢true h)
matches-set (s ∷ ss) [] i v h a = absurd (false≢true h)
matches-set (s ∷ ss) (b ∷ bs) zero v h a =
    and_from (agrees s v) (matches ss bs) a (and_parts (agrees s b) (matches ss bs) h).1
matches-set (s ∷ ss) (b ∷ bs) (suc i) v h a =
    let both = and_parts (agrees s b) (matches ss bs) h in
    and_from (agrees s b) (matches ss (set bs i v)) both.0 (matches-set ss bs i v both.1 a)

-- containment, symbol by symbol and output by output
pub record Covers (a b : Cube) : Type 0 where
  pub inputs : (i : ℕ) (bit : Bool) → agrees (get_or b.symbols i Dash) bit ≡ true → agrees (get_or a.symbols i Dash) bit ≡ true
  pub outputs : (j : ℕ) → get_or b.outputs j false ≡ true → get_or a.outputs j false ≡ true

pub IsSubset-from_Covers : (a b : Cube) → SameSize a b → Covers a b → IsSubset (holds b) (holds a)
IsSubset-from_Covers a b size cover p h =
    let parts = and_parts (matches b.symbols p.point) (get_or b.outputs p.output false) h in
    let len = length-matches b.symbols p.point parts.0 in
    and_from (matches a.symbols p.point) (get_or a.outputs p.output false)
    (matches-from_agrees a.symbols p.point (len ∙ sym size.0)
    (λ i lt. let within : i < length b.symbols = omega (arith, size.0) in
    cover.inputs i (get_or p.point i false) (agrees_at-matches b.symbols p.point i parts.0 within)))
    (cover.outputs p.output parts.1)

pub Covers-from_IsSubset : (a b : Cube) → SameSize a b → (j : ℕ) → get_or b.outputs j false ≡ true
    → IsSubset (holds b) (holds a) → Covers a b
Covers-from_IsSubset a b size j on sub = record {
  inputs = λ i bit ok. elim (cases_lt i (length b.symbols)) [
    | inl lt ↦
        let point = set (map pick b.symbols) i bit in
        let in_b = and_from (matches b.symbols point) (get_or b.outputs j false)
        (matches-set b.symbols (map pick b.symbols) i bit (matches-map_pick b.symbols) ok) on in
        let in_a = and_parts (matches a.symbols point) (get_or a.outputs j false) (sub (record { point = point; output = j }) in_b) in
        let within : i < length a.symbols = omega (arith, size.0) in
        let inside : i < length (map pick b.symbols) = omega (arith, length-map b.symbols pick) in
        ap (λ x. agrees (get_or a.symbols i Dash) x) (sym (get_or-set_same (map pick b.symbols) i bit false inside))
        ∙ agrees_at-matches a.symbols point i in_a.0 within
    | inr le ↦
        let past : length a.symbols ≤ i = omega (arith, size.0) in
        ap (λ s. agrees s bit) (get_or_past a.symbols i Dash past)
  ];
  outputs = λ k ok.
      let in_b = and_from (matches b.symbols (map pick b.symbols)) (get_or b.outputs k false) (matches-map_pick b.symbols) ok in
      (and_parts (matches a.symbols (map pick b.symbols)) (get_or a.outputs k false)
      (sub (record { point = map pick b.symbols; output = k }) in_b)).1;
}
