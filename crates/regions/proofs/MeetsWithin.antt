-- What holds the places that two lists have in common.
use Rattle.std.proofs.Common.{◌≡◌, ℕ, Bool, true, false, ◌||◌, List, ◌++◌, take, drop, refl, ap, sym, subst, ◌∙◌, inl, inr, ◌↔◌, IsTrue}
use Rattle.std.specs.List.{Contains}
use Rattle.std.specs.Borrow.{Bor}
use Rattle.std.proofs.lemmas.Bool.{false≢true, and_parts, and_from, or_cases, or_left, or_right}
use Rattle.std.proofs.lemmas.List.{take-append-drop}
use Rattle.cube.specs.Size.{Size}
use Rattle.cube.specs.Cube.{Cube, Place, IsCube, IsDisjoint, IsSubset, holds, intersection}
use Rattle.rows.specs.Cubes.{AreCubes}
use Rattle.rows.specs.Places.{places, behind}
use Rattle.regions.specs.Reason.{AreAmong}
use Rattle.regions.proofs.EqualRows.{behind-cases}
use Rattle.rows.proofs.Lists.{all_members, members_all, list_any_from, list_any_witness}
use Rattle.rows.proofs.SumMeets.{places-append}

-- lists without a place in common
pub IsSubset-apart : (s m t : Place → Bool) → IsDisjoint s m → IsTrue true ↔ IsSubset (intersection s m) t
IsSubset-apart s m t apart = (λ _ p h. let both = and_parts (s p) (m p) h in absurd (apart p both.0 both.1), λ _. refl)

-- what the meets say
pub IsSubset-meets : (s t u : Place → Bool) → ((p : Place) → s p ≡ t p) → (r : Bool) → IsTrue r ↔ IsSubset s u → IsTrue r ↔ IsSubset t u
IsSubset-meets s t u same r answer = (λ on p h. answer.0 on p (same p ∙ h), λ h. answer.1 (λ p k. h p (sym (same p) ∙ k)))

-- ---- the rows in two parts

module _ (rows front back : List Cube) (m t : Place → Bool) (n : ℕ) (is_front : front ≡ take n rows) (is_back : back ≡ drop n rows) where
  at : (p : Place) → places rows p ≡ (places front p || places back p)
  at p =
      ap (λ l. places l p) (sym (take-append-drop n rows)) ∙ places-append (take n rows) (drop n rows) p
      ∙ ap (λ l. places l p || places (drop n rows) p) (sym is_front) ∙ ap (λ l. places front p || places l p) (sym is_back)

  of_front : IsSubset (intersection (places rows) m) t → IsSubset (intersection (places front) m) t
  of_front h p k =
      let both = and_parts (places front p) (m p) k in
      h p (and_from (places rows p) (m p) (at p ∙ or_left (places front p) (places back p) both.0) both.1)

  of_back : IsSubset (intersection (places rows) m) t → IsSubset (intersection (places back) m) t
  of_back h p k =
      let both = and_parts (places back p) (m p) k in
      h p (and_from (places rows p) (m p) (at p ∙ or_right (places front p) (places back p) both.0) both.1)

  pub IsSubset-front : (r : Bool) → r ≡ false → IsTrue r ↔ IsSubset (intersection (places front) m) t → IsTrue false ↔ IsSubset (intersection (places rows) m) t
  IsSubset-front r off answer = (λ on. absurd (false≢true on), λ h. absurd (false≢true (sym off ∙ answer.1 (of_front h))))

  pub IsSubset-back : (first : Bool) → first ≡ true → IsTrue first ↔ IsSubset (intersection (places front) m) t
      → (r : Bool) → IsTrue r ↔ IsSubset (intersection (places back) m) t → IsTrue r ↔ IsSubset (intersection (places rows) m) t
  IsSubset-back first on answer r second = (
    λ yes p k.
        let both = and_parts (places rows p) (m p) k in
        elim (or_cases (places front p) (places back p) (sym (at p) ∙ both.0)) [
          | inl here ↦ answer.0 on p (and_from (places front p) (m p) here both.1)
          | inr there ↦ second.0 yes p (and_from (places back p) (m p) there both.1)
        ],
    λ h. second.1 (of_back h),
  )

-- ---- the rows that stand nowhere else

module _ (size : Size) (list : List Cube) (rows rest others : List (Bor Cube)) (rows_are : behind rows ≡ list) (some : AreAmong rest rows) where
  pub AreCubes-rest : AreCubes size list → AreCubes size (behind rest)
  AreCubes-rest are =
      members_all (IsCube size) (behind rest) (λ d h. all_members (IsCube size) list are d (within d h))
    where
      within : (d : Cube) → Contains (behind rest) d → Contains list d
      within d h = subst (λ l. Contains l d) rows_are (some d h)

  -- what holds the rest holds the rows too, which are in the others
  pub IsSubset-rest_where : AreAmong rows (rest ++ others) → (m : Place → Bool) (r : Bool)
      → IsTrue r ↔ IsSubset (intersection (places (behind rest)) m) (places (behind others))
      → IsTrue r ↔ IsSubset (intersection (places list) m) (places (behind others))
  IsSubset-rest_where all m r answer = (
    λ on p k.
        let both = and_parts (places list p) (m p) k in
        let w = list_any_witness (λ d. holds d p) (behind rows) (ap (λ l. places l p) rows_are ∙ both.0) in
        elim (behind-cases rest others w.0 (all w.0 w.1)) [
          | inl kept ↦ answer.0 on p (and_from (places (behind rest) p) (m p) (list_any_from (λ d. holds d p) (behind rest) w.0 kept w.2) both.1)
          | inr there ↦ list_any_from (λ d. holds d p) (behind others) w.0 there w.2
        ],
    λ h. answer.1 (λ p k.
        let both = and_parts (places (behind rest) p) (m p) k in
        let w = list_any_witness (λ d. holds d p) (behind rest) both.0 in
        h p (and_from (places list p) (m p) (sym (ap (λ l. places l p) rows_are) ∙ list_any_from (λ d. holds d p) (behind rows) w.0 (some w.0 w.1) w.2) both.1)),
  )
