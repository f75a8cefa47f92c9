-- Cubes by their numbers.
use Rattle.std.proofs.Common.{◌≡◌, ℕ, ◌<◌, ◌≤◌, true, false, List, [], length, All, refl, ap, sym, subst, ◌∙◌, inl, inr, eqb}
use Rattle.std.specs.List.{Contains}
use Rattle.std.proofs.lemmas.Bool.{cases_lt, eq-eqb, eqb-true, false≢true, and_parts}
use Rattle.std.proofs.lemmas.List.{get_or_default, get_or_past}
use Rattle.cube.specs.Cube.{Cube, Place, holds}
use Rattle.cube.specs.Pattern.{matches}
use Rattle.cover.specs.Places.{places}
use Rattle.cover.specs.Marks.{cube_at}
use Rattle.cover.proofs.Lists.{list_any_from, list_any_witness, all_members}
use Rattle.covering.specs.Table.{has}
use Rattle.minimum.specs.PrimeRows.{holds_at}

pub has_member : (n : ℕ) (xs : List ℕ) → has n xs ≡ true → Contains xs n
has_member n xs h = let w = list_any_witness (λ x. eqb n x) xs h in subst (Contains xs) (sym (eqb-true n w.0 w.2)) w.1

pub member_has : (n : ℕ) (xs : List ℕ) → Contains xs n → has n xs ≡ true
member_has n xs h = list_any_from (λ x. eqb n x) xs n h (eq-eqb n n refl)

pub has_all : (P : ℕ → Type 0) (n : ℕ) (xs : List ℕ) → All P xs → has n xs ≡ true → P n
has_all P n xs all h = all_members P xs all n (has_member n xs h)

pub cube_at-past : (cubes : List Cube) (i : ℕ) → length cubes ≤ i → cube_at cubes i ≡ record { symbols = []; outputs = [] }
cube_at-past cubes i far = get_or_past cubes i (record { symbols = []; outputs = [] }) far

-- only a cube of the list holds a place
pub holds_at-below : (cubes : List Cube) (i : ℕ) (p : Place) → holds_at cubes i p ≡ true → i < length cubes
holds_at-below cubes i p h = elim (cases_lt i (length cubes)) [
  | inl lt ↦ lt
  | inr far ↦ absurd (false≢true ((and_parts (matches [] p.point) false (ap (λ c. holds c p) (sym (cube_at-past cubes i far)) ∙ h)).1))
]

pub cube_at-member : (cubes : List Cube) (i : ℕ) → i < length cubes → Contains cubes (cube_at cubes i)
cube_at-member cubes i lt = (i, lt, get_or_default cubes i (cube_at cubes i) (record { symbols = []; outputs = [] }) lt)

pub cube_at-all : (P : Cube → Type 0) (cubes : List Cube) (i : ℕ) → i < length cubes → All P cubes → P (cube_at cubes i)
cube_at-all P cubes i lt all = all_members P cubes all (cube_at cubes i) (cube_at-member cubes i lt)

pub places_at : (cubes : List Cube) (i : ℕ) (p : Place) → holds_at cubes i p ≡ true → places cubes p ≡ true
places_at cubes i p h = list_any_from (λ c. holds c p) cubes (cube_at cubes i) (cube_at-member cubes i (holds_at-below cubes i p h)) h

pub numbered : (cubes : List Cube) (p : Place) → places cubes p ≡ true → (i : ℕ) × (holds_at cubes i p ≡ true)
numbered cubes p h =
    let w = list_any_witness (λ c. holds c p) cubes h in
    let k = w.1.0 in
    (k, ap (λ c. holds c p) (get_or_default cubes k (record { symbols = []; outputs = [] }) w.0 w.1.1 ∙ w.1.2) ∙ w.2)
