-- The cubes that have a place of a region, and those that hold it.
use Rattle.std.proofs.Common.{◌≡◌, ℕ, ◌+◌, ◌<◌, ◌≤◌, Bool, true, false, not, List, [], ◌∷◌, length, take, get_or, slice_get, Some, eqb, All, inl, inr, refl, ap, sym, subst, ◌∙◌, arith, ◌↔◌, IsTrue}
use Rattle.std.proofs.lemmas.List.{take_more}
use Rattle.std.proofs.lemmas.List.Folds.{list_any-append}
use Rattle.std.proofs.lemmas.Bool.{cases_lt, cases_eq, or_cases, eqb-true, false≢true}
use Rattle.std.proofs.lemmas.Option.{get_or_from_slice_get}
use Rattle.cube.specs.declared.symbol.Symbol.{Symbol}
use Rattle.cube.specs.declared.symbol.Symbol.TheVariants.{Dash}
use Rattle.cube.specs.Cube.{Cube, holds, SameSize, IsSubset, IsDisjoint, IsNextLiteral, size_of}
use Rattle.cube.specs.Sum.{is_subset}
use Rattle.cover.specs.Marks.{cube_at}
use Rattle.cover.proofs.ContainmentLemmas.{cube_at-is}
use Rattle.cover.proofs.Everywhere.{same_test, is_subset-iff}
use Rattle.cover.proofs.Meeting.{is_disjoint-from_answer}
use Rattle.covering.specs.Table.{has}
use Rattle.minimum.specs.PrimeRows.{intersects_region, contains_region, HasNoneInside}

module _ (cubes : List Cube) (region : Cube) (sizes : All (λ d. SameSize d region) cubes) (i : ℕ) (lt : i < length cubes) (d : Cube) (at : d ≡ get_or cubes i d) where
  own_size : SameSize d region
  own_size = subst (λ x. SameSize x region) (sym at) (sizes i d lt)

  pub intersects_region-from_answer : (r : Bool) → (IsTrue r ↔ IsDisjoint (holds d) (holds region)) → not r ≡ intersects_region cubes region i
  intersects_region-from_answer r h = ap not (sym (is_disjoint-from_answer d region r own_size h)) ∙ ap (λ c. intersects_region (c ∷ []) region 0) (cube_at-is cubes i d lt at)

  pub contains_region-from_answer : (r : Bool) → (IsTrue r ↔ IsSubset (holds region) (holds d)) → r ≡ contains_region cubes region i
  contains_region-from_answer r h =
      same_test r (is_subset (size_of region) (holds region) (holds d)) h (is_subset-iff (size_of region) region (holds d) (refl, refl))
      ∙ ap (λ c. is_subset (size_of region) (holds region) (holds c)) (cube_at-is cubes i d lt at)

-- the next literal of the cube is at no dash of the region
pub none_inside_next : (cube region : Cube) (from i : ℕ) → ((k : ℕ) → k < from → get_or region.symbols k Dash ≡ Dash → get_or cube.symbols k Dash ≡ Dash)
    → IsNextLiteral cube from i → (s : Symbol) → slice_get region.symbols i ≡ Some s → (s ≡ Dash → ⊥)
    → (i + 1 ≤ length cube.symbols) × ((k : ℕ) → k < i + 1 → get_or region.symbols k Dash ≡ Dash → get_or cube.symbols k Dash ≡ Dash)
none_inside_next cube region from i before next s at literal = (
  (let w = next.within in omega arith),
  λ k lt dash. elim (cases_lt k from) [
    | inl low ↦ before k low dash
    | inr high ↦ elim (cases_eq k i) [
      | inl e ↦ absurd (literal (sym (get_or_from_slice_get region.symbols i s Dash at) ∙ ap (λ n. get_or region.symbols n Dash) (sym e) ∙ dash))
      | inr apart ↦ next.dashes k (omega arith) (omega arith)
    ]
  ],
)

-- one more cube without a literal inside the region
pub outside_next : (cubes : List Cube) (region : Cube) (numbers : List ℕ) (i : ℕ) → i < length numbers → (d : Cube) → get_or numbers i 0 < length cubes → d ≡ get_or cubes (get_or numbers i 0) d
    → HasNoneInside d region → ((n : ℕ) → has n (take i numbers) ≡ true → HasNoneInside (cube_at cubes n) region)
    → (n : ℕ) → has n (take (i + 1) numbers) ≡ true → HasNoneInside (cube_at cubes n) region
outside_next cubes region numbers i lt d within at outside before n h =
    elim (or_cases (has n (take i numbers)) (has n (get_or numbers i 0 ∷ []))
    (sym (list_any-append (λ x. eqb n x) (take i numbers) (get_or numbers i 0 ∷ [])) ∙ ap (has n) (sym (take_more numbers i 0 lt)) ∙ h)) [
      | inl earlier ↦ before n earlier
      | inr last ↦ elim (or_cases (eqb n (get_or numbers i 0)) false last) [
        | inl e ↦ subst (λ k. HasNoneInside (cube_at cubes k) region) (sym (eqb-true n (get_or numbers i 0) e)) (subst (λ c. HasNoneInside c region) (cube_at-is cubes (get_or numbers i 0) d within at) outside)
        | inr none' ↦ absurd (false≢true none')
      ]
    ]
