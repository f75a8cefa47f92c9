-- Absorption, one cube at a time.
use Rattle.std.proofs.Common.{◌≡◌, ℕ, zero, suc, ◌+◌, ◌<◌, List, [], ◌∷◌, ◌++◌, length, get_or, take, drop, refl, ap, sym, subst, ◌∙◌, arith, inl, inr, All}
use Rattle.std.specs.List.{Contains}
use Rattle.std.specs.List.Sorted.{IsStrictlySortedBy}
use Rattle.std.specs.declared.cmp.Ordering.TheVariants.{Less}
use Rattle.std.proofs.lemmas.List.{take_more, take-append-drop}
use Rattle.std.proofs.lemmas.List.Elements.{Contains-append_left, Contains-append_right, Contains-append_cases}
use Rattle.cube.specs.Size.{Size}
use Rattle.cube.specs.Cube.{Cube, holds, IsCube, IsSubset, SameSize}
use Rattle.cube.specs.Order.{row_cmp}
use Rattle.cube.proofs.Members.{Contains-nil, Contains-cases, sorted_append}
use Rattle.cube.proofs.SumLemmas.{row_asymmetric}
use Rattle.rows.specs.Cubes.{AreCubes}
use Rattle.rows.specs.Reduced.{IsAbsorbed, HasSameCubes}
use Rattle.rows.proofs.Lists.{all_members, members_all}
use Rattle.rows.proofs.SumOrder.{rising-nil, rising-cons, rising-head, rising-tail, row_irreflexive}

-- the cubes before one in a list that rises
rising_before : (cubes : List Cube) (i : ℕ) (d c : Cube) → IsStrictlySortedBy row_cmp cubes → i < length cubes → Contains (take i cubes) c → row_cmp c (get_or cubes i d) ≡ Less
rising_before [] i d c s lt h = absurd (omega arith)
rising_before (x ∷ xs) zero d c s lt h = absurd (Contains-nil c h)
rising_before (x ∷ xs) (suc i) d c s lt h = elim (Contains-cases x (take i xs) c h) [
  | inl here ↦ subst (λ z. row_cmp z (get_or xs i d) ≡ Less) here (rising-head x xs (get_or xs i d) s (at_index xs i d (omega arith)))
  | inr there ↦ rising_before xs i d c (rising-tail x xs s) (omega arith) there
]
  where
    at_index : (xs : List Cube) (i : ℕ) (d : Cube) → i < length xs → Contains xs (get_or xs i d)
    at_index xs i d l = (i, l, same xs i d l)
      where
        same : (xs : List Cube) (i : ℕ) (d : Cube) → i < length xs → get_or xs i (get_or xs i d) ≡ get_or xs i d
        same [] i d l = absurd (omega arith)
        same (x ∷ xs) zero d l = refl
        same (x ∷ xs) (suc i) d l = same xs i d (omega arith)

pub IsAbsorbed-none : IsAbsorbed [] []
IsAbsorbed-none = record {
  rising = rising-nil;
  within = λ c h. h;
  over = λ c h. absurd (Contains-nil c h);
  apart = λ c d h k less sub. Contains-nil c h;
}

module _ (rows : List Cube) (i : ℕ) (row : Cube) (kept : List Cube) (rising : IsStrictlySortedBy row_cmp rows) (lt : i < length rows) (at : row ≡ get_or rows i row)
    (before : IsAbsorbed (take i rows) kept) where
  more : take (i + 1) rows ≡ take i rows ++ row ∷ []
  more = take_more rows i row lt ∙ ap (λ c. take i rows ++ c ∷ []) (sym at)

  later : (c : Cube) → Contains kept c → row_cmp c row ≡ Less
  later c h = subst (λ z. row_cmp c z ≡ Less) (sym at) (rising_before rows i row c rising lt (before.within c h))

  pub IsAbsorbed-kept : (new : List Cube) → All (λ d. IsSubset (holds row) (holds d) → ⊥) kept → new ≡ kept ++ row ∷ [] → IsAbsorbed (take (i + 1) rows) new
  IsAbsorbed-kept new open' is =
      let none' = λ (d : Cube). λ (h : Contains kept d). all_members (λ d. IsSubset (holds row) (holds d) → ⊥) kept open' d h in
      subst (IsAbsorbed (take (i + 1) rows)) (sym is) (subst (λ l. IsAbsorbed l (kept ++ row ∷ [])) (sym more) (record {
        rising = sorted_append row_cmp kept (row ∷ []) before.rising (rising-cons row [] (λ d h. absurd (Contains-nil d h)) rising-nil)
            (λ c d h k. elim (Contains-cases row [] d k) [
              | inl here ↦ subst (λ z. row_cmp c z ≡ Less) here (later c h)
              | inr there ↦ absurd (Contains-nil d there)
            ]);
        within = λ c h. elim (Contains-append_cases kept (row ∷ []) c h) [
          | inl old ↦ Contains-append_left (take i rows) (row ∷ []) c (before.within c old)
          | inr new ↦ Contains-append_right (take i rows) (row ∷ []) c new
        ];
        over = λ c h. elim (Contains-append_cases (take i rows) (row ∷ []) c h) [
          | inl old ↦ let r = before.over c old in (r.0, Contains-append_left kept (row ∷ []) r.0 r.1, r.2)
          | inr new ↦ (c, Contains-append_right kept (row ∷ []) c new, λ p k. k)
        ];
        apart = λ c d h k less sub. elim (Contains-append_cases kept (row ∷ []) c h) [
          | inl old_c ↦ elim (Contains-append_cases kept (row ∷ []) d k) [
            | inl old_d ↦ before.apart c d old_c old_d less sub
            | inr new_d ↦ elim (Contains-cases row [] d new_d) [
              | inl here ↦ none' c old_c (subst (λ z. IsSubset (holds z) (holds c)) (sym here) sub)
              | inr there ↦ Contains-nil d there
            ]
          ]
          | inr new_c ↦ elim (Contains-cases row [] c new_c) [
            | inl here ↦ elim (Contains-append_cases kept (row ∷ []) d k) [
              | inl old_d ↦ row_asymmetric c d less (subst (λ z. row_cmp d z ≡ Less) here (later d old_d))
              | inr new_d ↦ elim (Contains-cases row [] d new_d) [
                | inl same ↦ row_irreflexive c (subst (λ z. row_cmp c z ≡ Less) (sym same ∙ here) less)
                | inr there ↦ Contains-nil d there
              ]
            ]
            | inr there ↦ Contains-nil c there
          ]
        ];
      }))

  pub IsAbsorbed-left_out : (d : Cube) × Contains kept d × IsSubset (holds row) (holds d) → IsAbsorbed (take (i + 1) rows) kept
  IsAbsorbed-left_out cover =
      subst (λ l. IsAbsorbed l kept) (sym more) (record {
        rising = before.rising;
        within = λ c h. Contains-append_left (take i rows) (row ∷ []) c (before.within c h);
        over = λ c h. elim (Contains-append_cases (take i rows) (row ∷ []) c h) [
          | inl old ↦ before.over c old
          | inr new ↦ elim (Contains-cases row [] c new) [
            | inl here ↦ (cover.0, cover.1, subst (λ z. IsSubset (holds z) (holds cover.0)) here cover.2)
            | inr there ↦ absurd (Contains-nil c there)
          ]
        ];
        apart = before.apart;
      })

-- all cubes are of one size
pub kept_sizes : (size : Size) (rows : List Cube) (i : ℕ) (row : Cube) (kept : List Cube) → AreCubes size rows → i < length rows → row ≡ get_or rows i row
    → IsAbsorbed (take i rows) kept → All (λ d. SameSize d row) kept
kept_sizes size rows i row kept cubes lt at before =
    let own = subst (IsCube size) (sym at) (cubes i row lt) in
    members_all (λ d. SameSize d row) kept (λ d h.
    let part = Contains-append_left (take i rows) (drop i rows) d (before.within d h) in
    let cube = all_members (IsCube size) rows cubes d (subst (λ l. Contains l d) (take-append-drop i rows) part) in
    (cube.has_size.0 ∙ sym own.has_size.0, cube.has_size.1 ∙ sym own.has_size.1))

pub IsAbsorbed-sorted : (cubes sorted kept : List Cube) → HasSameCubes cubes sorted → IsAbsorbed sorted kept → IsAbsorbed cubes kept
IsAbsorbed-sorted cubes sorted kept same a = record {
  rising = a.rising;
  within = λ c h. (same c).1 (a.within c h);
  over = λ c h. a.over c ((same c).0 h);
  apart = a.apart;
}
