-- Whether lists share a place, and whether they agree.
use Rattle.std.proofs.Common.{◌≡◌, ℕ, ◌<◌, Bool, true, false, not, ◌||◌, List, ◌++◌, length, get_or, All, refl, ap, sym, ◌∙◌, inl, inr, ◌↔◌, IsTrue}
use Rattle.std.specs.Bool.{beq}
use Rattle.std.specs.Borrow.{Bor}
use Rattle.std.proofs.lemmas.Bool.{cases_Bool, false≢true, or_cases, or_left, or_right, not-true, not_from_false}
use Rattle.cube.specs.Size.{Size}
use Rattle.cube.specs.Cube.{Cube, Place, holds, IsCube, IsSubset, IsDisjoint}
use Rattle.cube.specs.Sum.{all_places, is_subset}
use Rattle.cube.proofs.Members.{list_all_at, list_all_from}
use Rattle.cube.proofs.SumLemmas.{IsSubset-from_test}
use Rattle.rows.specs.Cubes.{AreCubes}
use Rattle.rows.specs.Places.{places, is_disjoint, share_place, agree_outside, behind}
use Rattle.rows.proofs.Lists.{list_any_from, list_any_witness, all_members, behind_member, behind_all}
use Rattle.rows.proofs.Meeting.{is_disjoint-from_fact}
use Rattle.rows.proofs.Everywhere.{same_test}
use Rattle.rows.proofs.SumMeets.{places-append}

-- what misses a list misses each of its cubes
pub IsDisjoint-member : (s : Place → Bool) (rows : List (Bor Cube)) (i : ℕ) (row : Bor Cube) → i < length rows → row ≡ get_or rows i row
    → IsDisjoint s (places (behind rows)) → IsDisjoint s (holds row.now)
IsDisjoint-member s rows i row lt at h p in_s in_row =
    h p in_s (list_any_from (λ d. holds d p) (behind rows) row.now (behind_member rows i row lt at) in_row)

-- where one of the rows has a place of s, the lists share it
pub IsDisjoint-row : (s : Place → Bool) (rows : List (Bor Cube)) (i : ℕ) (row : Bor Cube) → i < length rows → row ≡ get_or rows i row
    → IsDisjoint (places (behind rows)) s → IsDisjoint (holds row.now) s
IsDisjoint-row s rows i row lt at h p in_row in_s =
    h p (list_any_from (λ d. holds d p) (behind rows) row.now (behind_member rows i row lt at) in_row) in_s

-- what holds a list holds each of its cubes
pub IsSubset-row : (s : Place → Bool) (rows : List (Bor Cube)) (i : ℕ) (row : Bor Cube) → i < length rows → row ≡ get_or rows i row
    → IsSubset (places (behind rows)) s → IsSubset (holds row.now) s
IsSubset-row s rows i row lt at h p in_row =
    h p (list_any_from (λ d. holds d p) (behind rows) row.now (behind_member rows i row lt at) in_row)

-- ---- the tests

-- the test decides, for the cubes of a list
pub IsSubset-places_test : (size : Size) (cubes : List Cube) (t : Place → Bool) → AreCubes size cubes
    → is_subset size (places cubes) t ≡ true → IsSubset (places cubes) t
IsSubset-places_test size cubes t are test p in_cubes =
    let w = list_any_witness (λ c. holds c p) cubes in_cubes in
    let c = w.0 in
    let own : is_subset size (holds c) t ≡ true =
    list_all_from (λ q. not (holds c q) || t q) (all_places size) (λ q member.
    elim (or_cases (not (places cubes q)) (t q) (list_all_at (λ x. not (places cubes x) || t x) (all_places size) q test member)) [
      | inl out ↦ elim (cases_Bool (holds c q)) [
        | inl on ↦ absurd (false≢true (sym (not-true (places cubes q) out) ∙ list_any_from (λ d. holds d q) cubes c w.1 on))
        | inr off ↦ or_left (not (holds c q)) (t q) (not_from_false (holds c q) off)
      ]
      | inr on ↦ or_right (not (holds c q)) (t q) on
    ]) in
    IsSubset-from_test size c t (all_members (IsCube size) cubes are c w.1).has_size own p w.2

-- the answer of a test that lists share no place
pub share_place-from_answer : (size : Size) (cubes others : List Cube) → AreCubes size cubes → (r : Bool)
    → (IsTrue r ↔ IsDisjoint (places cubes) (places others)) → not r ≡ share_place size (places cubes) (places others)
share_place-from_answer size cubes others are r answer =
    ap not (same_test r (is_disjoint size (places cubes) (places others)) answer (
      λ test p in_cubes in_others.
          false≢true (sym (not-true (places others p) (IsSubset-places_test size cubes (λ q. not (places others q)) are test p in_cubes)) ∙ in_others),
      λ h. is_disjoint-from_fact size (places cubes) (places others) h,
    ))

-- ---- a list by its cubes

pub IsDisjoint-list : (s : Place → Bool) (rows : List (Bor Cube)) → All (λ d. IsDisjoint s (holds d.now)) rows → IsDisjoint s (places (behind rows))
IsDisjoint-list s rows all p in_s in_rows =
    let w = list_any_witness (λ d. holds d p) (behind rows) in_rows in
    behind_all (λ d. IsDisjoint s (holds d)) rows all w.0 w.1 p in_s w.2

pub IsDisjoint-rows : (s : Place → Bool) (rows : List (Bor Cube)) → All (λ d. IsDisjoint (holds d.now) s) rows → IsDisjoint (places (behind rows)) s
IsDisjoint-rows s rows all p in_rows in_s =
    let w = list_any_witness (λ d. holds d p) (behind rows) in_rows in
    behind_all (λ d. IsDisjoint (holds d) s) rows all w.0 w.1 p w.2 in_s

pub IsSubset-rows : (s : Place → Bool) (rows : List (Bor Cube)) → All (λ d. IsSubset (holds d.now) s) rows → IsSubset (places (behind rows)) s
IsSubset-rows s rows all p in_rows =
    let w = list_any_witness (λ d. holds d p) (behind rows) in_rows in
    behind_all (λ d. IsSubset (holds d) s) rows all w.0 w.1 p w.2

-- ---- agreement

module _ (size : Size) (cubes others : List Cube) (free : Place → Bool) where
  either-from_agree : AreCubes size cubes → agree_outside size (places cubes) (places others) free ≡ true
      → IsSubset (places cubes) (λ p. free p || places others p)
  either-from_agree are h =
      IsSubset-places_test size cubes (λ p. free p || places others p) are
      (list_all_from (λ p. not (places cubes p) || (free p || places others p)) (all_places size) (λ p member.
      one (places cubes p) (places others p) (free p) (list_all_at (λ q. free q || beq (places cubes q) (places others q)) (all_places size) p h member)))
    where
      one : (x y d : Bool) → (d || beq x y) ≡ true → (not x || (d || y)) ≡ true
      one false y d e = refl
      one true y true e = refl
      one true true false e = refl
      one true false false e = absurd (false≢true e)

  agree-from_either : IsSubset (places cubes) (λ p. free p || places others p) → IsSubset (places others) (λ p. free p || places cubes p)
      → agree_outside size (places cubes) (places others) free ≡ true
  agree-from_either h k =
      list_all_from (λ p. free p || beq (places cubes p) (places others p)) (all_places size)
      (λ p member. one (places cubes p) (places others p) (free p) (h p) (k p))
    where
      one : (x y d : Bool) → (x ≡ true → (d || y) ≡ true) → (y ≡ true → (d || x) ≡ true) → (d || beq x y) ≡ true
      one x y true f g = refl
      one true true false f g = refl
      one true false false f g = absurd (false≢true (f refl))
      one false true false f g = absurd (false≢true (g refl))
      one false false false f g = refl

pub agree_outside-turned : (size : Size) (s t free : Place → Bool) → agree_outside size s t free ≡ true → agree_outside size t s free ≡ true
agree_outside-turned size s t free h =
    list_all_from (λ p. free p || beq (t p) (s p)) (all_places size) (λ p member.
    one (s p) (t p) (free p) (list_all_at (λ q. free q || beq (s q) (t q)) (all_places size) p h member))
  where
    one : (x y d : Bool) → (d || beq x y) ≡ true → (d || beq y x) ≡ true
    one x y true e = refl
    one true true false e = e
    one true false false e = e
    one false true false e = e
    one false false false e = e

module _ (size : Size) (cubes others : List Cube) (free : Place → Bool) (are : AreCubes size cubes) where
  -- what the first test says where it fails
  pub agree_outside-first : IsTrue false ↔ IsSubset (places cubes) (λ p. free p || places others p)
      → false ≡ agree_outside size (places cubes) (places others) free
  agree_outside-first answer = elim (cases_Bool (agree_outside size (places cubes) (places others) free)) [
    | inl on ↦ absurd (false≢true (answer.1 (either-from_agree size cubes others free are on)))
    | inr off ↦ sym off
  ]

  -- and the second decides, where it holds
  pub agree_outside-second : AreCubes size others → IsTrue true ↔ IsSubset (places cubes) (λ p. free p || places others p)
      → (r : Bool) → IsTrue r ↔ IsSubset (places others) (λ p. free p || places cubes p)
      → r ≡ agree_outside size (places cubes) (places others) free
  agree_outside-second are_others first r second =
      same_test r (agree_outside size (places cubes) (places others) free) second (
        λ on. either-from_agree size others cubes free are_others (agree_outside-turned size (places cubes) (places others) free on),
        λ h. agree-from_either size cubes others free (first.0 refl) h,
      )

-- the places of two lists of references, one after the other
pub IsSubset-either : (s : Place → Bool) (free others all : List Cube) → all ≡ free ++ others → (r : Bool) → IsTrue r ↔ IsSubset s (places all)
    → IsTrue r ↔ IsSubset s (λ p. places free p || places others p)
IsSubset-either s free others all e r answer =
    let same : (p : Place) → places all p ≡ (places free p || places others p) = λ p. ap (λ l. places l p) e ∙ places-append free others p in
    (λ on p in_s. sym (same p) ∙ answer.0 on p in_s, λ h. answer.1 (λ p in_s. same p ∙ h p in_s))
