-- Rows of which some are left, and the others stand elsewhere.
use Rattle.std.proofs.Common.{ℕ, ◌+◌, ◌<◌, ◌≡◌, ◌∙◌, ◌↔◌, ◌⊎◌, inl, inr, Bool, not, List, [], ◌∷◌, ◌++◌, length, take, get_or, All, sym, subst, IsTrue}
use Rattle.std.specs.List.{Contains}
use Rattle.std.specs.Borrow.{Bor}
use Rattle.std.specs.Cmp.{both_ways as same_bool}
use Rattle.std.proofs.lemmas.Bool.{and_parts, and_from, not-true, false≢true}
use Rattle.std.proofs.lemmas.List.{map-append}
use Rattle.std.proofs.lemmas.List.Elements.{Contains-append_left, Contains-append_right, Contains-append_cases}
use Rattle.cube.specs.Size.{Size}
use Rattle.cube.specs.Cube.{Cube, Place, HasSize, IsSubset, difference, holds}
use Rattle.cube.proofs.Members.{Contains-here}
use Rattle.rows.specs.Places.{places, behind}
use Rattle.regions.specs.Reason.{AreAmong}
use Rattle.rows.proofs.Lists.{list_any_from, list_any_witness, behind-more_cases, behind_all, all_behind}

module _ (some others : List (Bor Cube)) (d : Cube) where
  pub behind-first : Contains (behind some) d → Contains (behind (some ++ others)) d
  behind-first h =
      subst (λ l. Contains l d) (sym (map-append (λ r. r.now) some others)) (Contains-append_left (behind some) (behind others) d h)

  pub behind-second : Contains (behind others) d → Contains (behind (some ++ others)) d
  behind-second h =
      subst (λ l. Contains l d) (sym (map-append (λ r. r.now) some others)) (Contains-append_right (behind some) (behind others) d h)

  pub behind-cases : Contains (behind (some ++ others)) d → Contains (behind some) d ⊎ Contains (behind others) d
  behind-cases h =
      Contains-append_cases (behind some) (behind others) d (subst (λ l. Contains l d) (map-append (λ r. r.now) some others) h)

-- one more of the rows
pub among_taken : (rows all : List (Bor Cube)) (i : ℕ) (row : Bor Cube) → i < length rows → row ≡ get_or rows i row
    → AreAmong (take i rows) all → Contains (behind all) row.now → AreAmong (take (i + 1) rows) all
among_taken rows all i row lt at h member d k = elim (behind-more_cases rows i row lt at d k) [
  | inl before ↦ h d before
  | inr e ↦ subst (λ x. Contains (behind all) x) e member
]

-- one more row is left
pub among_rest : (rows rest others : List (Bor Cube)) (row : Bor Cube) → AreAmong rows (rest ++ others)
    → AreAmong rows ((rest ++ row ∷ []) ++ others)
among_rest rows rest others row h d k = elim (behind-cases rest others d (h d k)) [
  | inl kept ↦ behind-first (rest ++ row ∷ []) others d (behind-first rest (row ∷ []) d kept)
  | inr there ↦ behind-second (rest ++ row ∷ []) others d there
]

-- the row that is left is there
pub rest_last : (rest others : List (Bor Cube)) (row : Bor Cube) → Contains (behind ((rest ++ row ∷ []) ++ others)) row.now
rest_last rest others row =
    behind-first (rest ++ row ∷ []) others row.now (behind-second rest (row ∷ []) row.now (Contains-here row.now []))

-- the others hold all rows where they hold those that are left
pub IsSubset-rest : (rows rest others : List (Bor Cube)) → AreAmong rest rows → AreAmong rows (rest ++ others) → (held : Bool)
    → (IsTrue held ↔ IsSubset (places (behind rest)) (places (behind others)))
    → (IsTrue held ↔ IsSubset (places (behind rows)) (places (behind others)))
IsSubset-rest rows rest others some all held h = (
  λ on p in_rows.
      let w = list_any_witness (λ d. holds d p) (behind rows) in_rows in
      elim (behind-cases rest others w.0 (all w.0 w.1)) [
        | inl kept ↦ h.0 on p (list_any_from (λ d. holds d p) (behind rest) w.0 kept w.2)
        | inr there ↦ list_any_from (λ d. holds d p) (behind others) w.0 there w.2
      ],
  λ within. h.1 (λ p in_rest.
      let w = list_any_witness (λ d. holds d p) (behind rest) in_rest in
      within p (list_any_from (λ d. holds d p) (behind rows) w.0 (some w.0 w.1) w.2)),
)

-- outside the others those that are left have the places of all
pub difference-rest : (rows rest others : List (Bor Cube)) → AreAmong rest rows → AreAmong rows (rest ++ others) → (p : Place)
    → difference (places (behind rest)) (places (behind others)) p ≡ difference (places (behind rows)) (places (behind others)) p
difference-rest rows rest others some all p =
    same_bool (difference (places (behind rest)) outside p) (difference (places (behind rows)) outside p)
    (λ h.
    let both = and_parts (places (behind rest) p) (not (outside p)) h in
    let w = list_any_witness (λ d. holds d p) (behind rest) both.0 in
    and_from (places (behind rows) p) (not (outside p)) (list_any_from (λ d. holds d p) (behind rows) w.0 (some w.0 w.1) w.2) both.1)
    (λ h.
    let both = and_parts (places (behind rows) p) (not (outside p)) h in
    let w = list_any_witness (λ d. holds d p) (behind rows) both.0 in
    elim (behind-cases rest others w.0 (all w.0 w.1)) [
      | inl kept ↦ and_from (places (behind rest) p) (not (outside p)) (list_any_from (λ d. holds d p) (behind rest) w.0 kept w.2) both.1
      | inr there ↦ absurd (false≢true (sym (not-true (outside p) both.1) ∙ list_any_from (λ d. holds d p) (behind others) w.0 there w.2))
    ])
  where
    outside : Place → Bool
    outside = places (behind others)

-- those that are left have a size that all have
pub HasSize-rest : (size : Size) (some rows : List (Bor Cube)) → All (λ d. HasSize d.now size) rows → AreAmong some rows
    → All (λ d. HasSize d.now size) some
HasSize-rest size some rows sizes h =
    all_behind (λ d. HasSize d size) some (λ d k. behind_all (λ e. HasSize e size) rows sizes d (h d k))
