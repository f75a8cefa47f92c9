-- The rows of a list that are not wholly in a set of places.
use Rattle.std.proofs.Common.{◌≡◌, Bool, true, not, List, ap, sym, subst, ◌∙◌, inl, inr, filter}
use Rattle.std.specs.Cmp.{both_ways as same_bool}
use Rattle.std.specs.List.{Contains}
use Rattle.std.proofs.lemmas.Bool.{cases_Bool, false≢true, and_parts, and_from, not-true}
use Rattle.std.proofs.lemmas.List.Elements.{All-filter}
use Rattle.cube.specs.Size.{Size}
use Rattle.cube.specs.Cube.{Cube, Place, holds, IsCube, difference}
use Rattle.cube.specs.Sum.{is_subset}
use Rattle.cube.proofs.Members.{Contains-filter, Contains-filter_cases}
use Rattle.cube.proofs.SumLemmas.{IsSubset-from_test}
use Rattle.rows.specs.Cubes.{AreCubes}
use Rattle.rows.specs.Places.{places}
use Rattle.cover.specs.NotHeld.{is_not_held}
use Rattle.rows.proofs.Lists.{all_members, list_any_from, list_any_witness}

module _ (size : Size) (s : Place → Bool) (cubes rows : List Cube) (cubes_are : AreCubes size cubes) (kept : rows ≡ filter (is_not_held size s) cubes) where
  pub AreCubes-not_held : AreCubes size rows
  AreCubes-not_held = subst (AreCubes size) (sym kept) (All-filter (is_not_held size s) (IsCube size) cubes cubes_are)

  -- a place outside the set lies in no row that is wholly in it
  outside_kept : (p : Place) → not (s p) ≡ true → (d : Cube) → Contains cubes d → holds d p ≡ true → Contains rows d
  outside_kept p out d member held = elim (cases_Bool (is_subset size (holds d) s)) [
    | inl within ↦ absurd (false≢true (sym (not-true (s p) out) ∙ IsSubset-from_test size d s (all_members (IsCube size) cubes cubes_are d member).has_size within p held))
    | inr apart ↦ subst (λ l. Contains l d) (sym kept) (Contains-filter (is_not_held size s) cubes d member (ap not apart))
  ]

  -- outside the set the rows that are left have the places of all
  pub difference-not_held : (p : Place) → difference (places rows) s p ≡ difference (places cubes) s p
  difference-not_held p =
      same_bool (difference (places rows) s p) (difference (places cubes) s p)
      (λ h.
      let both = and_parts (places rows p) (not (s p)) h in
      let w = list_any_witness (λ d. holds d p) rows both.0 in
      let member = (Contains-filter_cases (is_not_held size s) cubes w.0 (subst (λ l. Contains l w.0) kept w.1)).0 in
      and_from (places cubes p) (not (s p)) (list_any_from (λ d. holds d p) cubes w.0 member w.2) both.1)
      (λ h.
      let both = and_parts (places cubes p) (not (s p)) h in
      let w = list_any_witness (λ d. holds d p) cubes both.0 in
      and_from (places rows p) (not (s p)) (list_any_from (λ d. holds d p) rows w.0 (outside_kept p both.1 w.0 w.1 w.2) w.2) both.1)
