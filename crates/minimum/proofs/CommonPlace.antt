-- A place of a region in each of some lists, and cubes that have none.
use Rattle.std.proofs.Common.{◌≡◌, ℕ, ◌+◌, ◌<◌, ◌≤◌, inl, inr, true, ◌&&◌, List, [], ◌∷◌, ◌++◌, length, map, take, get_or, ap, sym, subst, ◌∙◌, arith, All}
use Rattle.std.specs.List.{Contains, list_any}
use Rattle.std.proofs.lemmas.Bool.{cases_eq, and_parts, and_from, or_cases}
use Rattle.std.proofs.lemmas.List.{get_or_default}
use Rattle.std.proofs.lemmas.List.Elements.{Contains-append_cases, Contains-append_left, Contains-append_right}
use Rattle.cube.specs.Cube.{Cube, Place, holds, intersection, IsSubset, SameSize}
use Rattle.cube.proofs.HoldsLemmas.{pick}
use Rattle.cube.proofs.Members.{Contains-here, Contains-nil, Contains-cases}
use Rattle.cube.proofs.SharpLemmas.{some_true}
use Rattle.cover.specs.Cubes.{Cubes}
use Rattle.cover.specs.Places.{places}
use Rattle.cover.proofs.Lists.{list_any_from, list_any_witness}
use Rattle.cover.proofs.Regions.{place_at}
use Rattle.growth.specs.Growth.{LiesInOneOf}
use Rattle.minimum.specs.Blocking.{HasCommon, IsNogood, IsWidening}
use Rattle.growth.proofs.MorePlaces.{more_places}

pub common_none : (region : Cube) (lists : List Cubes) (from : ℕ) → length lists ≤ from → list_any (λ b. b) region.outputs ≡ true → HasCommon region lists from
common_none region lists from past some =
    let w = some_true region.outputs some in
    record {
      place = record { point = map pick region.symbols; output = w.0 };
      held = place_at region w.0 w.1;
      each = λ k d low lt. absurd (omega (arith, past, low, lt));
    }

-- a place in the lists after one, and in that
common_with : (region : Cube) (lists : List Cubes) (from : ℕ) (list : Cubes) → from < length lists → list ≡ get_or lists from list → (h : HasCommon region lists (from + 1)) → places list.cubes h.place ≡ true
    → HasCommon region lists from
common_with region lists from list in_lists at h here = record {
  place = h.place;
  held = h.held;
  each = λ k d low lt. elim (cases_eq k from) [
    | inl e ↦ ap (λ n. places (get_or lists n d).cubes h.place) e ∙ ap (λ z. places z.cubes h.place) (get_or_default lists from d list in_lists ∙ sym at) ∙ here
    | inr ne ↦ h.each k d (omega (arith, low, ne)) lt
  ];
}

-- the region lies in a row of the list
pub common_whole : (region : Cube) (lists : List Cubes) (from : ℕ) (list : Cubes) → from < length lists → list ≡ get_or lists from list → LiesInOneOf list.cubes region → HasCommon region lists (from + 1)
    → HasCommon region lists from
common_whole region lists from list in_lists at whole h =
    common_with region lists from list in_lists at h (list_any_from (λ e. holds e h.place) list.cubes whole.0 whole.1 (whole.2 h.place h.held))

-- a part of the region in a row of the list
pub common_more : (region row part : Cube) (lists : List Cubes) (from : ℕ) → ((p : Place) → holds part p ≡ intersection (holds region) (holds row) p) → (list : Cubes) → from < length lists → list ≡ get_or lists from list
    → Contains list.cubes row → HasCommon part lists (from + 1) → HasCommon region lists from
common_more region row part lists from both list in_lists at member h =
    let parts = and_parts (holds region h.place) (holds row h.place) (sym (both h.place) ∙ h.held) in
    common_with region lists from list in_lists at (record { place = h.place; held = parts.0; each = h.each })
    (list_any_from (λ e. holds e h.place) list.cubes row member parts.1)

-- ---- nogoods

-- cubes of the region's size, of which no place is in each of the lists from a number on
pub record AreNogoods (lists : List Cubes) (from : ℕ) (region : Cube) (nogoods : List Cube) : Type 0 where
  pub sizes : (c : Cube) → Contains nogoods c → SameSize c region
  pub none : (c : Cube) → Contains nogoods c → HasCommon c lists from → ⊥

pub no_nogoods : (lists : List Cubes) (from : ℕ) (region : Cube) → AreNogoods lists from region []
no_nogoods lists from region = record { sizes = λ c h. absurd (Contains-nil c h); none = λ c h. absurd (Contains-nil c h) }

pub nogood_sizes : (lists : List Cubes) (from : ℕ) (region : Cube) (nogoods : List Cube) → AreNogoods lists from region nogoods → All (λ d. SameSize d region) nogoods
nogood_sizes lists from region nogoods so k d lt = so.sizes (get_or nogoods k d) (k, lt, get_or_default nogoods k (get_or nogoods k d) d lt)

pub nogoods_more : (lists : List Cubes) (from : ℕ) (region part c : Cube) (nogoods new : List Cube) → AreNogoods lists from region nogoods → SameSize part region → IsNogood lists from part c → new ≡ nogoods ++ c ∷ []
    → AreNogoods lists from region new
nogoods_more lists from region part c nogoods new so same nogood is = subst (AreNogoods lists from region) (sym is) (record {
  sizes = λ d member. elim (Contains-append_cases nogoods (c ∷ []) d member) [
    | inl was ↦ so.sizes d was
    | inr now ↦ elim (Contains-cases c [] d now) [
      | inl e ↦ subst (λ z. SameSize z region) e (nogood.size.0 ∙ same.0, nogood.size.1 ∙ same.1)
      | inr none ↦ absurd (Contains-nil d none)
    ]
  ];
  none = λ d member. elim (Contains-append_cases nogoods (c ∷ []) d member) [
    | inl was ↦ so.none d was
    | inr now ↦ elim (Contains-cases c [] d now) [
      | inl e ↦ subst (λ z. HasCommon z lists from → ⊥) e nogood.none
      | inr none ↦ absurd (Contains-nil d none)
    ]
  ];
})

-- a nogood of lists from a number on is one of the lists from an earlier one on
pub nogood_earlier : (lists : List Cubes) (from next : ℕ) (region part c : Cube) → from ≤ next → SameSize part region → IsNogood lists next part c → IsSubset (holds region) (holds c) → IsNogood lists from region c
nogood_earlier lists from next region part c le same nogood around = record {
  size = (nogood.size.0 ∙ same.0, nogood.size.1 ∙ same.1);
  around = around;
  none = λ h. nogood.none (record { place = h.place; held = h.held; each = λ k d low lt. h.each k d (omega (arith, le, low)) lt });
}

-- what a cube has of a list lies in nogoods of the lists after it
pub nogood_by_rows : (lists : List Cubes) (from number : ℕ) → from ≤ number → number < length lists → (list : Cubes) → list ≡ get_or lists number list → (region c : Cube) (nogoods : List Cube)
    → AreNogoods lists (number + 1) region nogoods → IsWidening list.cubes nogoods region c → IsNogood lists from region c
nogood_by_rows lists from number le in_lists list at region c nogoods so widening = record {
  size = widening.size;
  around = widening.around;
  none = λ h.
      let here : places list.cubes h.place ≡ true = ap (λ z. places z.cubes h.place) at ∙ h.each number list le in_lists in
      let w = list_any_witness (λ d. holds d h.place) nogoods (widening.parts h.place (and_from (holds c h.place) (places list.cubes h.place) h.held here)) in
      so.none w.0 w.1 (record { place = h.place; held = w.2; each = λ k d low lt. h.each k d (omega (arith, le, low)) lt });
}

-- ---- what a region has of a row, and of the first rows

pub first_rows_more : (region row : Cube) (rows : List Cube) (i : ℕ) (t : Place → Type 0) → i < length rows → row ≡ get_or rows i row
    → ((p : Place) → (holds region p && places (take i rows) p) ≡ true → t p) → ((p : Place) → holds region p ≡ true → holds row p ≡ true → t p)
    → (p : Place) → (holds region p && places (take (i + 1) rows) p) ≡ true → t p
first_rows_more region row rows i t lt at before here p h =
    let parts = and_parts (holds region p) (places (take (i + 1) rows) p) h in
    elim (or_cases (places (take i rows) p) (holds row p) (sym (more_places rows i row lt at p) ∙ parts.1)) [
      | inl was ↦ before p (and_from (holds region p) (places (take i rows) p) parts.0 was)
      | inr now ↦ here p parts.0 now
    ]

-- a nogood around the part in a row is added
pub parts_more : (region row part c : Cube) (rows nogoods new : List Cube) (i : ℕ) → i < length rows → row ≡ get_or rows i row → ((p : Place) → holds part p ≡ intersection (holds region) (holds row) p)
    → IsSubset (holds part) (holds c) → new ≡ nogoods ++ c ∷ [] → IsSubset (intersection (holds region) (places (take i rows))) (places nogoods) → IsSubset (intersection (holds region) (places (take (i + 1) rows))) (places new)
parts_more region row part c rows nogoods new i lt at both around is before =
    first_rows_more region row rows i (λ p. places new p ≡ true) lt at
    (λ p h. let w = list_any_witness (λ d. holds d p) nogoods (before p h) in
    ap (λ z. places z p) is ∙ list_any_from (λ d. holds d p) (nogoods ++ c ∷ []) w.0 (Contains-append_left nogoods (c ∷ []) w.0 w.1) w.2)
    (λ p in_region in_row. ap (λ z. places z p) is
    ∙ list_any_from (λ d. holds d p) (nogoods ++ c ∷ []) c (Contains-append_right nogoods (c ∷ []) c (Contains-here c [])) (around p (both p ∙ and_from (holds region p) (holds row p) in_region in_row)))
