-- A complete sum holds the places of its set, and no others.
use Rattle.std.proofs.Common.{◌≡◌, ◌≢◌, ℕ, Bool, true, false, not, List, [], ◌∷◌, map, replicate, get_or, set, refl, ap, ap₂, sym, ◌∙◌, arith, inl, inr}
use Rattle.std.proofs.lemmas.Bool.{cases_Bool, cases_lt, false≢true, and_parts, and_from, not-true, not_from_false}
use Rattle.std.proofs.lemmas.List.{length-map, length-set, length-replicate, get_or-replicate, get_or-set_same, get_or-set_other, get_or_past}
use Rattle.cube.specs.Size.{Size}
use Rattle.cube.specs.Pattern.{agrees, matches}
use Rattle.cube.specs.Cube.{Cube, Place, holds, IsCube, IsPlace, IsSubset}
use Rattle.cube.specs.Sum.{complete_sum}
use Rattle.cube.proofs.SharpLemmas.{true_some}
use Rattle.cube.proofs.SumLemmas.{Contains-complete_sum, IsPlace-from_holds, complete_sum-over}
use Rattle.rows.specs.Complete.{literal}
use Rattle.rows.specs.Places.{holds_all, places, share_place, universal}
use Rattle.rows.proofs.Everywhere.{HasSize-universal, holds_all-universal}
use Rattle.rows.proofs.Lists.{list_any_from, list_any_witness}
use Rattle.rows.proofs.Meeting.{is_disjoint-from_fact}

-- ---- no others

pub places-within : (size : Size) (s : Place → Bool) (p : Place) → places (complete_sum size s) p ≡ true → s p ≡ true
places-within size s p held =
    let w = list_any_witness (λ c. holds c p) (complete_sum size s) held in
    ((Contains-complete_sum size s w.0).0 w.1).within p w.2

-- ---- the cube of one place

agrees_own : (b : Bool) → agrees (literal b) b ≡ true
agrees_own false = refl
agrees_own true = refl

agrees_alone : (b x : Bool) → agrees (literal b) x ≡ true → x ≡ b
agrees_alone false x e = not-true x e
agrees_alone true x e = e

matches_own : (bits : List Bool) → matches (map literal bits) bits ≡ true
matches_own [] = refl
matches_own (b ∷ bits) = and_from (agrees (literal b) b) (matches (map literal bits) bits) (agrees_own b) (matches_own bits)

matches_alone : (bits point : List Bool) → matches (map literal bits) point ≡ true → point ≡ bits
matches_alone [] [] e = refl
matches_alone [] (x ∷ point) e = absurd (false≢true e)
matches_alone (b ∷ bits) [] e = absurd (false≢true e)
matches_alone (b ∷ bits) (x ∷ point) e =
    let parts = and_parts (agrees (literal b) x) (matches (map literal bits) point) e in
    ap₂ (λ y ys. y ∷ ys) (agrees_alone b x parts.0) (matches_alone bits point parts.1)

get_or-no_output : (n i : ℕ) → get_or (replicate n false) i false ≡ false
get_or-no_output n i = elim (cases_lt i n) [
  | inl lt ↦ get_or-replicate n i false false lt
  | inr past ↦ get_or_past (replicate n false) i false (omega (arith, length-replicate n false))
]

module _ (size : Size) (p : Place) (is : IsPlace size p) where
  abbrev single : Cube
  single = record { symbols = map literal p.point; outputs = set (replicate size.outputs false) p.output true }

  single_output : get_or single.outputs p.output false ≡ true
  single_output = get_or-set_same (replicate size.outputs false) p.output true false (omega (arith, length-replicate size.outputs false, is.1))

  single_cube : IsCube size single
  single_cube = record {
    has_size = (length-map p.point literal ∙ is.0, length-set (replicate size.outputs false) p.output true ∙ length-replicate size.outputs false);
    some_output = true_some single.outputs p.output single_output;
  }

  single_holds : holds single p ≡ true
  single_holds = and_from (matches single.symbols p.point) (get_or single.outputs p.output false) (matches_own p.point) single_output

  single_alone : (q : Place) → holds single q ≡ true → q ≡ p
  single_alone q e =
      let parts = and_parts (matches single.symbols q.point) (get_or single.outputs q.output false) e in
      let point : q.point ≡ p.point = matches_alone p.point q.point parts.0 in
      let same : (q.output ≢ p.output) → ⊥ = λ other. false≢true (sym (get_or-set_other (replicate size.outputs false) p.output q.output true false other ∙ get_or-no_output size.outputs q.output) ∙ parts.1) in
      let output : q.output ≡ p.output = elim (cases_lt q.output p.output) [
        | inl below ↦ absurd (same (λ e. omega (arith, below, e)))
        | inr up ↦ elim (cases_lt p.output q.output) [
          | inl above ↦ absurd (same (λ e. omega (arith, above, e)))
          | inr down ↦ omega (arith, up, down)
        ]
      ] in
      λ i. record { point = point i; output = output i }

  -- each place of the set is in the complete sum
  pub places-of_sum : (s : Place → Bool) → s p ≡ true → places (complete_sum size s) p ≡ true
  places-of_sum s e =
      let r = complete_sum-over size s single single_cube (λ q h. ap s (single_alone q h) ∙ e) in
      list_any_from (λ c. holds c p) (complete_sum size s) r.0 r.1 (r.2 p single_holds)

-- ---- what a set and the complete sum of the places outside share

outside-not : (size : Size) (s u : Place → Bool) → IsSubset s u → (p : Place) → s p ≡ true → places (complete_sum size (λ q. not (u q))) p ≡ true → ⊥
outside-not size s u below p in_s out = false≢true (sym (not-true (u p) (places-within size (λ q. not (u q)) p out)) ∙ below p in_s)

-- a set that lies within u shares none with what lies outside of u
pub shares-outside : (size : Size) (s u : Place → Bool) → IsSubset s u → share_place size s (places (complete_sum size (λ q. not (u q)))) ≡ false
shares-outside size s u below = ap not (is_disjoint-from_fact size s (places (complete_sum size (λ q. not (u q)))) (outside-not size s u below))

pub outside-shares : (size : Size) (s u : Place → Bool) → IsSubset s u → share_place size (places (complete_sum size (λ q. not (u q)))) s ≡ false
outside-shares size s u below = ap not (is_disjoint-from_fact size (places (complete_sum size (λ q. not (u q)))) s (λ p out in_s. outside-not size s u below p in_s out))

-- u and what lies outside of it are all places
pub whole-outside : (size : Size) (t u : Place → Bool) → IsSubset u t → IsSubset (places (complete_sum size (λ q. not (u q)))) t → holds_all size t ≡ true
whole-outside size t u inside outside = (holds_all-universal size t).1 (λ p e. elim (cases_Bool (u p)) [
  | inl on ↦ inside p on
  | inr off ↦ outside p (places-of_sum size p (IsPlace-from_holds size (universal size) p (HasSize-universal size) e) (λ q. not (u q)) (not_from_false (u p) off))
])

-- no list shares none
pub shares-none : (size : Size) (s : Place → Bool) → share_place size s (places []) ≡ false
shares-none size s = ap not (is_disjoint-from_fact size s (places []) (λ p _ none'. false≢true none'))

pub none-shares : (size : Size) (s : Place → Bool) → share_place size (places []) s ≡ false
none-shares size s = ap not (is_disjoint-from_fact size (places []) s (λ p none' _. false≢true none'))
