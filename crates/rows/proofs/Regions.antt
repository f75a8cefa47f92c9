-- Whether the cubes of a list hold a region.
use Rattle.std.proofs.Common.{◌≡◌, ℕ, zero, suc, ◌<◌, Bool, true, false, not, ◌&&◌, List, [], ◌∷◌, length, map, get_or, set, slice_get, Some, All, refl, ap, sym, subst, ◌∙◌, arith, inl, inr, ◌⊎◌}
use Rattle.std.specs.List.{Contains}
use Rattle.std.proofs.lemmas.Bool.{cases_Bool, false≢true, not-true, not_from_false, and_parts, and_from}
use Rattle.std.specs.Borrow.{Bor}
use Rattle.std.proofs.lemmas.Option.{slice_get_within, get_or_from_slice_get}
use Rattle.cube.specs.declared.symbol.Symbol.{Symbol}
use Rattle.cube.specs.declared.symbol.Symbol.TheVariants.{Dash, Zero, One}
use Rattle.cube.specs.Pattern.{agrees, matches}
use Rattle.cube.specs.Cube.{Cube, Place, holds, SameSize, IsSubset, IsDisjoint, size_of, with_symbol}
use Rattle.cube.proofs.HoldsLemmas.{length-matches, agrees_at-matches, matches-from_agrees, pick, matches-map_pick}
use Rattle.cube.proofs.Members.{Contains-filter, Contains-filter_cases}
use Rattle.rows.specs.Places.{places, is_disjoint, meeting, behind}
use Rattle.rows.specs.Splits.{free, dashes}
use Rattle.rows.proofs.Inputs.{matches-set_symbol, matches-own}
use Rattle.rows.proofs.Lists.{list_any_from, list_any_witness, behind_all}
use Rattle.rows.proofs.Meeting.{is_disjoint-from_fact, IsDisjoint-from_test}

-- a place of a region at each of its outputs
pub place_at : (region : Cube) (j : ℕ) → get_or region.outputs j false ≡ true → holds region (record { point = map pick region.symbols; output = j }) ≡ true
place_at region j on = and_from (matches region.symbols (map pick region.symbols)) (get_or region.outputs j false) (matches-map_pick region.symbols) on

-- a place of the region in a list is in one of its cubes that meet the region
pub place_inside : (rows : List Cube) (region : Cube) → ((d : Cube) → Contains rows d → SameSize d region) → (p : Place)
    → holds region p ≡ true → places rows p ≡ true → places (meeting (size_of region) region rows) p ≡ true
place_inside rows region sizes p in_region in_rows =
    let meets : Cube → Bool = λ d. not (is_disjoint (size_of region) (holds d) (holds region)) in
    let w = list_any_witness (λ d. holds d p) rows in_rows in
    let met : meets w.0 ≡ true = elim (cases_Bool (is_disjoint (size_of region) (holds w.0) (holds region))) [
      | inl apart ↦ absurd (IsDisjoint-from_test (size_of region) w.0 (holds region) (sizes w.0 w.1) apart p w.2 in_region)
      | inr off ↦ not_from_false (is_disjoint (size_of region) (holds w.0) (holds region)) off
    ] in
    list_any_from (λ d. holds d p) (meeting (size_of region) region rows) w.0 (Contains-filter meets rows w.0 w.1 met) w.2

-- a region with a symbol in place of a dash lies within the region
pub narrowed : (region : Cube) (i : ℕ) (t : Symbol) → i < length region.symbols → get_or region.symbols i Dash ≡ Dash
    → IsSubset (holds (with_symbol region i t)) (holds region)
narrowed region i t lt dash p h =
    let parts = and_parts (matches (set region.symbols i t) p.point) (get_or region.outputs p.output false) h in
    let rest = (and_parts (agrees t (get_or p.point i false)) (matches (set region.symbols i Dash) p.point)
    (sym (matches-set_symbol region.symbols p.point i t lt) ∙ parts.0)).1 in
    and_from (matches region.symbols p.point) (get_or region.outputs p.output false)
    (matches-own region.symbols p.point i lt
    ∙ ap (λ s. agrees s (get_or p.point i false) && matches (set region.symbols i Dash) p.point) dash ∙ rest)
    parts.1

-- a place of the region whose bit agrees with the symbol
pub narrowed_at : (region : Cube) (i : ℕ) (t : Symbol) → i < length region.symbols → (p : Place) → holds region p ≡ true
    → agrees t (get_or p.point i false) ≡ true → holds (with_symbol region i t) p ≡ true
narrowed_at region i t lt p h agree =
    let parts = and_parts (matches region.symbols p.point) (get_or region.outputs p.output false) h in
    let rest = (and_parts (agrees (get_or region.symbols i Dash) (get_or p.point i false)) (matches (set region.symbols i Dash) p.point)
    (sym (matches-own region.symbols p.point i lt) ∙ parts.0)).1 in
    and_from (matches (set region.symbols i t) p.point) (get_or region.outputs p.output false)
    (matches-set_symbol region.symbols p.point i t lt
    ∙ and_from (agrees t (get_or p.point i false)) (matches (set region.symbols i Dash) p.point) agree rest)
    parts.1

pub bit_for : (t : Symbol) → (t ≡ Dash → ⊥) → (b : Bool) × (agrees t b ≡ true) × ((s : Symbol) → (s ≡ t → ⊥) → agrees s b ≡ true → s ≡ Dash)
bit_for Dash h = absurd (h refl)
bit_for Zero h = (false, refl, only)
  where
    only : (s : Symbol) → (s ≡ Zero → ⊥) → agrees s false ≡ true → s ≡ Dash
    only Dash apart e = refl
    only Zero apart e = absurd (apart refl)
    only One apart e = absurd (false≢true e)
bit_for One h = (true, refl, only)
  where
    only : (s : Symbol) → (s ≡ One → ⊥) → agrees s true ≡ true → s ≡ Dash
    only Dash apart e = refl
    only Zero apart e = absurd (false≢true e)
    only One apart e = absurd (apart refl)

pub zero_literal : Zero ≡ Dash → ⊥
zero_literal e = cc

pub one_literal : One ≡ Dash → ⊥
one_literal e = cc

-- ---- no literal inside the region

clash : (s t : Symbol) → (x : Bool) → agrees s x ≡ true → (agrees t x ≡ false) → (t ≡ Dash → ⊥) → (s ≡ Dash) ⊎ ((y : Bool) → agrees s y ≡ true → agrees t y ≡ true → ⊥)
clash Dash t x a b l = inl refl
clash s Dash x a b l = absurd (l refl)
clash Zero Zero x a b l = absurd (false≢true (sym b ∙ a))
clash One One x a b l = absurd (false≢true (sym b ∙ a))
clash Zero One x a b l = inr (λ y. apart y)
  where
    apart : (y : Bool) → not y ≡ true → y ≡ true → ⊥
    apart true e f = false≢true e
    apart false e f = false≢true f
clash One Zero x a b l = inr (λ y. apart y)
  where
    apart : (y : Bool) → y ≡ true → not y ≡ true → ⊥
    apart true e f = false≢true f
    apart false e f = false≢true e

-- where a cube that meets the region has no literal inside it, its inputs hold those of the region
pub inputs_hold : (region d : Cube) → SameSize d region → (IsDisjoint (holds d) (holds region) → ⊥)
    → ((i : ℕ) → i < length region.symbols → get_or region.symbols i Dash ≡ Dash → get_or d.symbols i Dash ≡ Dash)
    → (point : List Bool) → matches region.symbols point ≡ true → matches d.symbols point ≡ true
inputs_hold region d size meets free point h =
    matches-from_agrees d.symbols point (length-matches region.symbols point h ∙ sym size.0) (λ i lt.
    let r_lt : i < length region.symbols = omega (arith, size.0) in
    let own = agrees_at-matches region.symbols point i h r_lt in
    elim (cases_Bool (agrees (get_or d.symbols i Dash) (get_or point i false))) [
      | inl on ↦ on
      | inr off ↦
          let literal : get_or d.symbols i Dash ≡ Dash → ⊥ = λ e. false≢true (sym off ∙ ap (λ s. agrees s (get_or point i false)) e) in
          elim (clash (get_or region.symbols i Dash) (get_or d.symbols i Dash) (get_or point i false) own off literal) [
            | inl dash ↦ absurd (literal (free i r_lt dash))
            | inr apart ↦ absurd (meets (λ p in_d in_region.
                apart (get_or p.point i false)
                (agrees_at-matches region.symbols p.point i (and_parts (matches region.symbols p.point) (get_or region.outputs p.output false) in_region).0 r_lt)
                (agrees_at-matches d.symbols p.point i (and_parts (matches d.symbols p.point) (get_or d.outputs p.output false) in_d).0 lt)))
          ]
    ])

-- ---- the steps of the recursion, over references

module _ (rows references_to : List (Bor Cube)) (region : Cube) (sizes : All (λ d. SameSize d.now region) rows)
    (inside : behind references_to ≡ meeting (size_of region) region (behind rows)) where
  sizes_behind : (d : Cube) → Contains (behind rows) d → SameSize d region
  sizes_behind = behind_all (λ d. SameSize d region) rows sizes

  pub lent_meets : (d : Cube) → Contains (behind references_to) d → IsDisjoint (holds d) (holds region) → ⊥
  lent_meets d h apart =
      false≢true (sym (not-true (is_disjoint (size_of region) (holds d) (holds region))
      (Contains-filter_cases (λ d. not (is_disjoint (size_of region) (holds d) (holds region))) (behind rows) d
      (subst (λ l. Contains l d) inside h)).1)
      ∙ is_disjoint-from_fact (size_of region) (holds d) (holds region) apart)

  pub place_lent : (p : Place) → holds region p ≡ true → places (behind rows) p ≡ true → places (behind references_to) p ≡ true
  place_lent p in_region in_rows =
      subst (λ l. places l p ≡ true) (sym inside) (place_inside (behind rows) region sizes_behind p in_region in_rows)

dashes-set : (ss : List Symbol) (i : ℕ) (t : Symbol) → i < length ss → get_or ss i Dash ≡ Dash → free t ≡ 0 → dashes (set ss i t) < dashes ss
dashes-set [] i t lt dash lit = absurd (omega arith)
dashes-set (s ∷ ss) zero t lt dash lit = let e : free s ≡ 1 = ap free dash in omega (arith, e, lit)
dashes-set (s ∷ ss) (suc i) t lt dash lit = let h = dashes-set ss i t (omega arith) dash lit in omega (arith, h)

free-literal : (t : Symbol) → (t ≡ Dash → ⊥) → free t ≡ 0
free-literal Dash h = absurd (h refl)
free-literal Zero h = refl
free-literal One h = refl

pub fewer_dashes : (region : Cube) (i : ℕ) (t : Symbol) (half : Cube) → slice_get region.symbols i ≡ Some Dash → (t ≡ Dash → ⊥) → half ≡ with_symbol region i t
    → dashes half.symbols < dashes region.symbols
fewer_dashes region i t half dash literal e =
    subst (λ x. dashes x.symbols < dashes region.symbols) (sym e)
    (dashes-set region.symbols i t (slice_get_within region.symbols i Dash dash) (get_or_from_slice_get region.symbols i Dash Dash dash) (free-literal t literal))
