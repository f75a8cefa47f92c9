-- Every place, and the cube that holds it.
use Rattle.std.proofs.Common.{◌≡◌, ℕ, zero, suc, ◌<◌, Bool, true, false, not, ◌||◌, List, [], ◌∷◌, length, map, replicate, get_or, refl, ap, sym, ◌∙◌, arith, inl, inr, ◌↔◌, IsTrue}
use Rattle.std.specs.List.{Contains, range_with_len}
use Rattle.std.proofs.lemmas.Bool.{false≢true, and_from, or_right}
use Rattle.std.proofs.lemmas.List.{length-replicate, get_or-replicate}
use Rattle.std.proofs.lemmas.List.FromFn.{length-range_with_len, get_or-range_with_len}
use Rattle.cube.specs.declared.symbol.Symbol.TheVariants.{Dash}
use Rattle.cube.specs.Size.{Size}
use Rattle.cube.specs.Pattern.{matches}
use Rattle.cube.specs.Cube.{Cube, Place, holds, IsSubset, HasSize}
use Rattle.cube.specs.Sum.{lists_of, all_places, is_subset}
use Rattle.cube.proofs.Members.{Contains-nil, Contains-cases, Contains-map_cases, Contains-flat_map_cases, list_all_at, list_all_from}
use Rattle.cube.proofs.SumLemmas.{IsSubset-from_test, is_subset-from_fact}
use Rattle.rows.specs.Places.{holds_all, universal}

-- two tests that decide one fact are equal
pub same_test : {P : Type 0} (a b : Bool) → (IsTrue a ↔ P) → (IsTrue b ↔ P) → a ≡ b
same_test true true f g = refl
same_test true false f g = absurd (false≢true (g.1 (f.0 refl)))
same_test false true f g = absurd (false≢true (f.1 (g.0 refl)))
same_test false false f g = refl

dashes_match : (n : ℕ) (point : List Bool) → Contains (lists_of (false ∷ true ∷ []) n) point → matches (replicate n Dash) point ≡ true
dashes_match zero point h = elim (Contains-cases [] [] point h) [
  | inl e ↦ ap (matches []) (sym e)
  | inr none' ↦ absurd (Contains-nil point none')
]
dashes_match (suc n) point h =
    let r = Contains-flat_map_cases (λ x. map (λ rest. x ∷ rest) (lists_of (false ∷ true ∷ []) n)) (false ∷ true ∷ []) point h in
    let q = Contains-map_cases (λ rest. r.0 ∷ rest) (lists_of (false ∷ true ∷ []) n) point r.2 in
    ap (matches (replicate (suc n) Dash)) (sym q.2) ∙ dashes_match n q.0 q.1

pub HasSize-universal : (size : Size) → HasSize (universal size) size
HasSize-universal size = (length-replicate size.inputs Dash, length-replicate size.outputs true)

pub universal-all_places : (size : Size) (p : Place) → Contains (all_places size) p → holds (universal size) p ≡ true
universal-all_places size p h =
    let f = λ (point : List Bool). map (λ j. let q : Place = record { point = point; output = j } in q) (range_with_len 0 size.outputs) in
    let r = Contains-flat_map_cases f (lists_of (false ∷ true ∷ []) size.inputs) p h in
    let q = Contains-map_cases (λ j. let q : Place = record { point = r.0; output = j } in q) (range_with_len 0 size.outputs) p r.2 in
    let k_lt : q.1.0 < size.outputs = omega (arith, q.1.1, length-range_with_len 0 size.outputs) in
    let small : q.0 < size.outputs = omega (arith, q.1.2, get_or-range_with_len 0 size.outputs q.1.0 q.0 k_lt) in
    ap (λ x. holds (universal size) x) (sym q.2)
    ∙ and_from (matches (replicate size.inputs Dash) r.0) (get_or (replicate size.outputs true) q.0 false)
    (dashes_match size.inputs r.0 r.1) (get_or-replicate size.outputs q.0 true false small)

dashes_any : (n : ℕ) (point : List Bool) → length point ≡ n → matches (replicate n Dash) point ≡ true
dashes_any zero [] e = refl
dashes_any zero (b ∷ bs) e = absurd (omega arith)
dashes_any (suc n) [] e = absurd (omega arith)
dashes_any (suc n) (b ∷ bs) e = dashes_any n bs (omega arith)

pub holds_universal : (size : Size) (p : Place) → length p.point ≡ size.inputs → p.output < size.outputs → holds (universal size) p ≡ true
holds_universal size p long small =
    and_from (matches (replicate size.inputs Dash) p.point) (get_or (replicate size.outputs true) p.output false)
    (dashes_any size.inputs p.point long) (get_or-replicate size.outputs p.output true false small)

-- a set that holds the universal cube holds every place
pub holds_all-universal : (size : Size) (s : Place → Bool) → IsTrue (holds_all size s) ↔ IsSubset (holds (universal size)) s
holds_all-universal size s = (
  λ all. IsSubset-from_test size (universal size) s (HasSize-universal size)
      (list_all_from (λ p. not (holds (universal size) p) || s p) (all_places size)
      (λ p member. or_right (not (holds (universal size) p)) (s p) (list_all_at s (all_places size) p all member))),
  λ h. list_all_from s (all_places size) (λ p member. h p (universal-all_places size p member)),
)

pub is_subset-iff : (size : Size) (c : Cube) (s : Place → Bool) → HasSize c size → IsTrue (is_subset size (holds c) s) ↔ IsSubset (holds c) s
is_subset-iff size c s h = (IsSubset-from_test size c s h, is_subset-from_fact size (holds c) s)
