-- Cubes that hints show to be implicants.
use Rattle.std.proofs.Common.{◌≡◌, ℕ, ◌<◌, ◌≤◌, ◌+◌, ◌&&◌, ◌||◌, Bool, true, false, List, [], Option, None, Some, length, map, set, replicate, get_or, slice_get, IsTrue, IfSome, IfNone, IsNone, ◌↔◌, All, ap, sym, subst, ◌∙◌, inl, inr, refl, arith}
use Rattle.std.specs.List.{Contains, list_any}
use Rattle.std.specs.Borrow.{Bor}
use Rattle.std.proofs.lemmas.Bool.{false≢true, cases_lt, and_from, and_parts, or_left, or_right, or_cases}
use Rattle.std.proofs.lemmas.List.{set-set}
use Rattle.std.proofs.lemmas.Option.{get_or_from_slice_get}
use Rattle.cube.specs.declared.symbol.Symbol.{Symbol}
use Rattle.cube.specs.declared.symbol.Symbol.TheVariants.{Dash}
use Rattle.cube.specs.Pattern.{matches}
use Rattle.cube.specs.Sharp.{opposite}
use Rattle.cube.specs.Size.{Size}
use Rattle.cube.specs.Cube.{Cube, HasSize, Place, IsSubset, IsDisjoint, holds, with_symbol}
use Rattle.cube.proofs.HoldsLemmas.{pick}
use Rattle.cube.proofs.SharpLemmas.{some_true}
use Rattle.cube.proofs.SumLemmas.{IsPlace-from_holds}
use Rattle.rows.specs.Places.{places, behind}
use Rattle.regions.specs.Reason.{AreKnown}
use Rattle.rows.proofs.Lists.{list_any_from, members_all, behind_all}
use Rattle.rows.proofs.OneOutput.{held_at as held_at_output}
use Rattle.rows.proofs.Regions.{narrowed_at, place_at}
use Rattle.regions.proofs.Reasons.{either_side}

-- what holds a half of a region holds it with the other half
pub half_held : (region half rest row : Cube) (i : ℕ) (t : Symbol) → i < length region.symbols → half ≡ with_symbol region i t
    → rest ≡ with_symbol half i (opposite t) → IsSubset (holds half) (holds row) → IsSubset (holds region) (λ p. holds row p || holds rest p)
half_held region half rest row i t lt e_half e_rest sub p h =
    let other : rest ≡ with_symbol region i (opposite t) =
    e_rest ∙ ap (λ x. with_symbol x i (opposite t)) e_half
    ∙ ap (λ l. record { symbols = l; outputs = region.outputs }) (set-set region.symbols i t (opposite t)) in
    elim (either_side t (get_or p.point i false)) [
      | inl a ↦ or_left (holds row p) (holds rest p) (sub p (ap (λ x. holds x p) e_half ∙ narrowed_at region i t lt p h a))
      | inr a ↦ or_right (holds row p) (holds rest p) (ap (λ x. holds x p) other ∙ narrowed_at region i (opposite t) lt p h a)
    ]

-- a list holds the places of a cube at an index
pub held_at : (known : List Cube) (k : ℕ) (d : Cube) → k < length known → d ≡ get_or known k d → IsSubset (holds d) (places known)
held_at known k d lt e p h = list_any_from (λ c. holds c p) known d (k, lt, sym e) h

-- what is left once the cube at an index held a part
pub narrowed_by : (known : List Cube) (k : ℕ) (d cube region rest : Cube) → k < length known → d ≡ get_or known k d
    → IsSubset (holds region) (λ p. holds d p || holds rest p)
    → (IsSubset (holds region) (places known) → IsSubset (holds cube) (places known))
    → IsSubset (holds rest) (places known) → IsSubset (holds cube) (places known)
narrowed_by known k d cube region rest lt e either before sub =
    before (λ p h. elim (or_cases (holds d p) (holds rest p) (either p h)) [ inl a ↦ held_at known k d lt e p a | inr b ↦ sub p b ])

-- a cube within the region and outside the rows
pub outside : (rows : List Cube) (region point : Cube) → IsTrue (list_any (λ b. b) point.outputs) → IsSubset (holds point) (holds region)
    → IsDisjoint (holds point) (places rows) → IsSubset (holds region) (places rows) → ⊥
outside rows region point some sub apart all =
    let on = some_true point.outputs some in
    let p : Place = record { point = map pick point.symbols; output = on.0 } in
    let h = place_at point on.0 on.1 in
    apart p h (all p (sub p h))

-- what is known at a size is known at an equal one
pub known_at : (one other : Size) (known rows : List Cube) → one.inputs ≡ other.inputs → one.outputs ≡ other.outputs
    → AreKnown one known rows → AreKnown other known rows
known_at one other known rows e f h = (λ k d lt. let s = h.0 k d lt in (s.0 ∙ e, s.1 ∙ f), h.1)

-- copies of the rows are known
pub known_copies : (size : Size) (known : List Cube) (rows : List (Bor Cube)) → All (λ d. HasSize d.now size) rows → known ≡ behind rows
    → AreKnown size known (behind rows)
known_copies size known rows sizes e =
    (members_all (λ d. HasSize d size) known (λ d member. behind_all (λ c. HasSize c size) rows sizes d (subst (λ l. Contains l d) e member)), λ p h. ap (λ l. places l p) (sym e) ∙ h)

-- ---- regions by outputs

-- a region has no place at an output that it lacks
pub lacking : (region : Cube) (j : ℕ) → slice_get region.outputs j ≡ Some false → (p : Place) → p.output ≡ j → IsTrue (holds region p) → ⊥
lacking region j e p at h =
    false≢true (sym (get_or_from_slice_get region.outputs p.output false false (ap (λ k. slice_get region.outputs k) at ∙ e))
    ∙ (and_parts (matches region.symbols p.point) (get_or region.outputs p.output false) h).1)

module _ (size : Size) (region all : Cube) (j : ℕ) (has : HasSize region size) (lt : j < size.outputs)
    (is : all ≡ record { symbols = replicate size.inputs Dash; outputs = set (replicate size.outputs false) j true }) where
  all_at : (p : Place) → p.output ≡ j → IsTrue (holds region p) → IsTrue (holds all p)
  all_at p at h = ap (λ c. holds c p) is ∙ held_at_output size [] j p lt (IsPlace-from_holds size region p has h) at

  pub part_within : (found : Option Cube) → IfSome found (λ c. (p : Place) → holds c p ≡ (holds region p && holds all p))
      → IfSome found (λ c. IsSubset (holds c) (holds region))
  part_within None both = tt
  part_within (Some c) both = λ p h. (and_parts (holds region p) (holds all p) (sym (both p) ∙ h)).0

  pub part_whole : (found : Option Cube) → IfSome found (λ c. (p : Place) → holds c p ≡ (holds region p && holds all p))
      → IfSome found (λ c. (p : Place) → p.output ≡ j → IsTrue (holds region p) → IsTrue (holds c p))
  part_whole None both = tt
  part_whole (Some c) both = λ p at h. both p ∙ and_from (holds region p) (holds all p) h (all_at p at h)

  pub part_none : (found : Option Cube) → (IsNone found ↔ IsDisjoint (holds region) (holds all))
      → IfNone found ((p : Place) → p.output ≡ j → IsTrue (holds region p) → ⊥)
  part_none None apart = λ p at h. apart.0 refl p h (all_at p at h)
  part_none (Some c) apart = tt

-- the rows hold what a region has at the outputs before this one
abbrev pub AreHeldBefore : Cube → (Place → Bool) → ℕ → Type 0
AreHeldBefore region s j = (p : Place) → p.output < j → IsTrue (holds region p) → IsTrue (s p)

-- and with those at this one
pub held_next : (region : Cube) (s : Place → Bool) (j : ℕ) → AreHeldBefore region s j
    → ((p : Place) → p.output ≡ j → IsTrue (holds region p) → IsTrue (s p)) → AreHeldBefore region s (j + 1)
held_next region s j before here p lt h = elim (cases_lt p.output j) [ inl less ↦ before p less h | inr up ↦ here p (omega (arith, lt, up)) h ]

-- all of them
pub held_all : (size : Size) (region : Cube) (s : Place → Bool) (j : ℕ) → HasSize region size → size.outputs ≤ j → AreHeldBefore region s j
    → IsSubset (holds region) s
held_all size region s j has past before p h = before p (let place = IsPlace-from_holds size region p has h in omega (arith, place.1, past)) h
