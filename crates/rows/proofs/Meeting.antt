-- The cubes of a list that have a place of a region.
use Rattle.std.proofs.Common.{◌≡◌, ℕ, ◌+◌, ◌<◌, Bool, true, false, not, cond, List, [], ◌∷◌, ◌++◌, length, take, get_or, ap, sym, ◌∙◌, arith, inl, inr, ◌↔◌, IsTrue, append-nil}
use Rattle.std.specs.Borrow.{Bor}
use Rattle.std.proofs.lemmas.Bool.{cases_Bool, false≢true, not-true, not_from_false}
use Rattle.std.proofs.lemmas.List.{take-map, get_or-map, length-map, map-append}
use Rattle.std.proofs.lemmas.List.Elements.{filter_more}
use Rattle.cube.specs.Size.{Size}
use Rattle.cube.specs.Cube.{Cube, Place, holds, HasSize, SameSize, IsDisjoint, size_of}
use Rattle.cube.proofs.SumLemmas.{IsSubset-from_test, is_subset-from_fact}
use Rattle.rows.specs.Places.{is_disjoint, meeting, behind}

-- the test decides, for cubes of the size
pub is_disjoint-from_fact : (size : Size) (a b : Place → Bool) → IsDisjoint a b → is_disjoint size a b ≡ true
is_disjoint-from_fact size a b h =
    is_subset-from_fact size a (λ p. not (b p)) (λ p in_a. elim (cases_Bool (b p)) [
      | inl in_b ↦ absurd (h p in_a in_b)
      | inr out ↦ not_from_false (b p) out
    ])

pub IsDisjoint-from_test : (size : Size) (a : Cube) (b : Place → Bool) → HasSize a size → is_disjoint size (holds a) b ≡ true → IsDisjoint (holds a) b
IsDisjoint-from_test size a b h test p in_a in_b =
    false≢true (sym (not-true (b p) (IsSubset-from_test size a (λ q. not (b q)) h test p in_a)) ∙ in_b)

-- what the answer of `disjoint` is
pub is_disjoint-from_answer : (a b : Cube) (r : Bool) → SameSize a b → (IsTrue r ↔ IsDisjoint (holds a) (holds b))
    → is_disjoint (size_of b) (holds a) (holds b) ≡ r
is_disjoint-from_answer a b r size h = elim (cases_Bool r) [
  | inl on ↦ is_disjoint-from_fact (size_of b) (holds a) (holds b) (h.0 on) ∙ sym on
  | inr off ↦ elim (cases_Bool (is_disjoint (size_of b) (holds a) (holds b))) [
    | inl apart ↦ absurd (false≢true (sym off ∙ h.1 (IsDisjoint-from_test (size_of b) a (holds b) size apart)))
    | inr meets ↦ meets ∙ sym off
  ]
]

-- one more cube
module _ (region : Cube) (rows : List (Bor Cube)) (i : ℕ) (row : Bor Cube) (r : Bool) (lt : i < length rows) (at : row ≡ get_or rows i row)
    (size : SameSize row.now region) (answer : IsTrue r ↔ IsDisjoint (holds row.now) (holds region)) where
  meeting-more : meeting (size_of region) region (behind (take (i + 1) rows))
      ≡ meeting (size_of region) region (behind (take i rows)) ++ cond (not r) (row.now ∷ []) []
  meeting-more =
      let more = filter_more (λ d. not (is_disjoint (size_of region) (holds d) (holds region))) (behind rows) i row.now (omega (arith, length-map rows (λ x. x.now))) in
      let item : get_or (behind rows) i row.now ≡ row.now = get_or-map (λ x. x.now) rows i row row.now lt ∙ ap (λ x. x.now) (sym at) in
      let same = is_disjoint-from_answer row.now region r size answer in
      ap (λ l. meeting (size_of region) region l) (sym (take-map (λ x. x.now) (i + 1) rows))
      ∙ more
      ∙ ap (λ l. meeting (size_of region) region l ++ cond (not (is_disjoint (size_of region) (holds (get_or (behind rows) i row.now)) (holds region))) (get_or (behind rows) i row.now ∷ []) []) (take-map (λ x. x.now) i rows)
      ∙ ap (λ d. meeting (size_of region) region (behind (take i rows)) ++ cond (not (is_disjoint (size_of region) (holds d) (holds region))) (d ∷ []) []) item
      ∙ ap (λ b. meeting (size_of region) region (behind (take i rows)) ++ cond (not b) (row.now ∷ []) []) same

  pub meeting-kept : (kept : List (Bor Cube)) → behind kept ≡ meeting (size_of region) region (behind (take i rows)) → r ≡ false
      → behind (kept ++ row ∷ []) ≡ meeting (size_of region) region (behind (take (i + 1) rows))
  meeting-kept kept h off =
      map-append (λ x. x.now) kept (row ∷ [])
      ∙ ap (λ l. l ++ row.now ∷ []) h
      ∙ ap (λ b. meeting (size_of region) region (behind (take i rows)) ++ cond (not b) (row.now ∷ []) []) (sym off)
      ∙ sym meeting-more

  pub meeting-skipped : (kept : List (Bor Cube)) → behind kept ≡ meeting (size_of region) region (behind (take i rows)) → r ≡ true
      → behind kept ≡ meeting (size_of region) region (behind (take (i + 1) rows))
  meeting-skipped kept h on =
      h ∙ sym (append-nil (meeting (size_of region) region (behind (take i rows))))
      ∙ ap (λ b. meeting (size_of region) region (behind (take i rows)) ++ cond (not b) (row.now ∷ []) []) (sym on)
      ∙ sym meeting-more
