-- Cubes that say why a region is held.
use Rattle.std.proofs.Common.{◌≡◌, ℕ, zero, suc, ◌<◌, ◌≤◌, Bool, true, false, not, ◌&&◌, ◌||◌, cond, List, [], ◌∷◌, ◌++◌, length, map, get_or, set, slice_get, Option, Some, None, IsNone, IfSome, IfNone, Result, Ok, Err, IfOk, All, refl, ap, sym, subst, ◌∙◌, arith, inl, inr, ◌⊎◌, ◌↔◌, IsTrue}
use Rattle.std.specs.List.{Contains, list_any}
use Rattle.std.specs.Borrow.{Bor}
use Rattle.std.specs.Bool.{◌==◌}
use Rattle.std.proofs.lemmas.Bool.{eqb-true}
use Rattle.std.proofs.lemmas.Bool.{cases_Bool, false≢true, and_parts, and_from, or_cases, or_left, or_right, not_from_false}
use Rattle.std.proofs.lemmas.Option.{slice_get_within, get_or_from_slice_get, slice_get-get_or}
use Rattle.std.proofs.lemmas.List.{get_or-set_same, map-append}
use Rattle.std.proofs.lemmas.List.Elements.{Contains-append_left, Contains-append_right, Contains-append_cases}
use Rattle.cube.specs.declared.symbol.Symbol.{Symbol}
use Rattle.cube.specs.declared.symbol.Symbol.TheVariants.{Dash, Zero, One}
use Rattle.cube.specs.Pattern.{agrees, matches}
use Rattle.cube.specs.Sharp.{opposite, minus, rest_row}
use Rattle.cube.specs.Cube.{Cube, Place, holds, SameSize, IsSubset, IsDisjoint, size_of, with_symbol}
use Rattle.cube.proofs.HoldsLemmas.{length-matches, pick, matches-map_pick, Covers-from_IsSubset}
use Rattle.cube.proofs.SharpLemmas.{get_or-minus, length-minus, some_true, true_some}
use Rattle.cube.proofs.MeetLemmas.{decide_outputs}
use Rattle.cube.proofs.Members.{Contains-here, Contains-nil, Contains-cases, Contains-filter_cases}
use Rattle.rows.specs.Places.{places, is_disjoint, meeting, behind}
use Rattle.rows.specs.Splits.{dashes}
use Rattle.regions.specs.LeftOut.{IsLeftOut}
use Rattle.regions.specs.Answer.{Explains, IsAnswer}
use Rattle.regions.specs.Reason.{IsReason, Joins, IsClosed, Leads, Share, AreAmong, AreRowsWithNear, set_bits, extent}
use Rattle.regions.specs.declared.region.Step.TheVariants.{Row}
use Rattle.regions.specs.declared.region.Stop.{Stop}
use Rattle.regions.specs.declared.region.Stop.TheVariants.{Memory, Spent, LeftOut}
use Rattle.rows.proofs.Inputs.{matches-set_bit, matches-own}
use Rattle.rows.proofs.Lists.{list_any_from, list_any_witness, length-behind, behind_at, behind_member, behind_all, all_behind}
use Rattle.rows.proofs.Regions.{zero_literal, one_literal, place_at, narrowed, narrowed_at, bit_for, inputs_hold, place_lent, fewer_dashes, lent_meets}

-- ---- a cube without its literal at an input

-- a place of it at which the literal agrees
refilled : (c : Cube) (i : ℕ) → i < length c.symbols → (p : Place) → holds (with_symbol c i Dash) p ≡ true
    → agrees (get_or c.symbols i Dash) (get_or p.point i false) ≡ true → holds c p ≡ true
refilled c i lt p h a =
    let parts = and_parts (matches (set c.symbols i Dash) p.point) (get_or c.outputs p.output false) h in
    and_from (matches c.symbols p.point) (get_or c.outputs p.output false)
    (matches-own c.symbols p.point i lt
    ∙ and_from (agrees (get_or c.symbols i Dash) (get_or p.point i false)) (matches (set c.symbols i Dash) p.point) a parts.0)
    parts.1

-- it holds a region of which the cube holds a half
pub freed_half : (region half c : Cube) (i : ℕ) (t : Symbol) → slice_get region.symbols i ≡ Some Dash → (t ≡ Dash → ⊥) → SameSize c region
    → half ≡ with_symbol region i t → IsSubset (holds half) (holds c) → IsSubset (holds region) (holds (with_symbol c i Dash))
freed_half region half c i t dash literal size e sub p h =
    let lt = slice_get_within region.symbols i Dash dash in
    let free = get_or_from_slice_get region.symbols i Dash Dash dash in
    let b = bit_for t literal in
    let parts = and_parts (matches region.symbols p.point) (get_or region.outputs p.output false) h in
    let long : i < length p.point = omega (arith, length-matches region.symbols p.point parts.0) in
    let q : Place = record { point = set p.point i b.0; output = p.output } in
    let in_region : holds region q ≡ true =
    and_from (matches region.symbols q.point) (get_or region.outputs p.output false)
    (matches-set_bit region.symbols p.point i b.0 lt
    ∙ and_from (agrees (get_or region.symbols i Dash) b.0) (matches (set region.symbols i Dash) p.point)
    (ap (λ s. agrees s b.0) free)
    (and_parts (agrees (get_or region.symbols i Dash) (get_or p.point i false)) (matches (set region.symbols i Dash) p.point)
    (sym (matches-own region.symbols p.point i lt) ∙ parts.0)).1)
    parts.1 in
    let in_half = narrowed_at region i t lt q in_region (ap (agrees t) (get_or-set_same p.point i b.0 false long) ∙ b.1) in
    let own = and_parts (matches c.symbols q.point) (get_or c.outputs p.output false) (sub q (ap (λ x. holds x q) e ∙ in_half)) in
    let c_lt : i < length c.symbols = omega (arith, size.0) in
    and_from (matches (set c.symbols i Dash) p.point) (get_or c.outputs p.output false)
    (and_parts (agrees (get_or c.symbols i Dash) b.0) (matches (set c.symbols i Dash) p.point) (sym (matches-set_bit c.symbols p.point i b.0 c_lt) ∙ own.0)).1
    own.1

-- ---- the consensus of two cubes

-- cubes that hold a region share a place
not_apart : (region low high : Cube) → IsTrue (list_any (λ b. b) region.outputs) → IsSubset (holds region) (holds low)
    → IsSubset (holds region) (holds high) → IsDisjoint (holds low) (holds high) → ⊥
not_apart region low high some in_low in_high apart =
    let on = some_true region.outputs some in
    let p : Place = record { point = map pick region.symbols; output = on.0 } in
    let h = place_at region on.0 on.1 in
    apart p (in_low p h) (in_high p h)

-- what lies within both without their literals lies within one of them
within_either : (one other low high c : Cube) (i : ℕ) → i < length one.symbols → i < length other.symbols
    → Share (get_or one.symbols i Dash) (get_or other.symbols i Dash)
    → low ≡ with_symbol one i Dash → high ≡ with_symbol other i Dash → ((p : Place) → holds c p ≡ (holds low p && holds high p))
    → IsSubset (holds c) (λ p. holds one p || holds other p)
within_either one other low high c i lt_one lt_other share e_low e_high e p h =
    let both = and_parts (holds low p) (holds high p) (sym (e p) ∙ h) in
    elim (or_cases (agrees (get_or one.symbols i Dash) (get_or p.point i false)) (agrees (get_or other.symbols i Dash) (get_or p.point i false)) (share (get_or p.point i false))) [
      | inl a ↦ or_left (holds one p) (holds other p) (refilled one i lt_one p (ap (λ x. holds x p) (sym e_low) ∙ both.0) a)
      | inr a ↦ or_right (holds one p) (holds other p) (refilled other i lt_other p (ap (λ x. holds x p) (sym e_high) ∙ both.1) a)
    ]

-- what both share without their literals
pub joined_meet : {E : Type 0} (region one other low high : Cube) (i : ℕ) → IsTrue (list_any (λ b. b) region.outputs) → i < length region.symbols
    → SameSize one region → SameSize other region → IsSubset (holds region) (holds (with_symbol one i Dash))
    → IsSubset (holds region) (holds (with_symbol other i Dash)) → Share (get_or one.symbols i Dash) (get_or other.symbols i Dash)
    → low ≡ with_symbol one i Dash → high ≡ with_symbol other i Dash → SameSize low one → (found : Result (Option Cube) E)
    → IfOk found (λ o. IsNone o ↔ IsDisjoint (holds low) (holds high)) → IfOk found (λ o. IfSome o (λ c. SameSize c low))
    → IfOk found (λ o. IfSome o (λ c. (p : Place) → holds c p ≡ (holds low p && holds high p))) → IfOk found (Joins region one other)
joined_meet region one other low high i some lt s_one s_other in_one in_other share e_low e_high s_low (Ok None) none' size places' =
    absurd (not_apart region low high some (λ p h. ap (λ x. holds x p) e_low ∙ in_one p h) (λ p h. ap (λ x. holds x p) e_high ∙ in_other p h) (none'.0 refl))
joined_meet region one other low high i some lt s_one s_other in_one in_other share e_low e_high s_low (Ok (Some c)) none' size places' = (
  (size.0 ∙ s_low.0 ∙ s_one.0, size.1 ∙ s_low.1 ∙ s_one.1),
  (
    λ p h. places' p ∙ and_from (holds low p) (holds high p) (ap (λ x. holds x p) e_low ∙ in_one p h) (ap (λ x. holds x p) e_high ∙ in_other p h),
    within_either one other low high c i (omega (arith, lt, s_one.0)) (omega (arith, lt, s_other.0)) share e_low e_high places',
  ),
)
joined_meet region one other low high i some lt s_one s_other in_one in_other share e_low e_high s_low (Err e) none' size places' = tt

-- what both share, with the outputs of both
pub joined_stack : {E : Type 0} (region one other : Cube) → SameSize one region
    → ((point : List Bool) → IsTrue (matches region.symbols point) → IsTrue (matches one.symbols point))
    → ((point : List Bool) → IsTrue (matches region.symbols point) → IsTrue (matches other.symbols point))
    → ((j : ℕ) → IsTrue (get_or region.outputs j false) → IsTrue (get_or one.outputs j false || get_or other.outputs j false))
    → (found : Result (Option Cube) E)
    → IfOk found (λ o. IfNone o ((point : List Bool) → IsTrue (matches one.symbols point) → IsTrue (matches other.symbols point) → ⊥))
    → IfOk found (λ o. IfSome o (λ c. SameSize c one))
    → IfOk found (λ o. IfSome o (λ c. (p : Place) → holds c p
    ≡ ((matches one.symbols p.point && matches other.symbols p.point) && (get_or one.outputs p.output false || get_or other.outputs p.output false))))
    → IfOk found (Joins region one other)
joined_stack region one other s_one in_one in_other outputs (Ok None) none' size places' =
    let point = map pick region.symbols in
    let own = matches-map_pick region.symbols in
    absurd (none' point (in_one point own) (in_other point own))
joined_stack region one other s_one in_one in_other outputs (Ok (Some c)) none' size places' = (
  (size.0 ∙ s_one.0, size.1 ∙ s_one.1),
  (
    λ p h.
        let parts = and_parts (matches region.symbols p.point) (get_or region.outputs p.output false) h in
        places' p ∙ and_from (matches one.symbols p.point && matches other.symbols p.point) (get_or one.outputs p.output false || get_or other.outputs p.output false)
        (and_from (matches one.symbols p.point) (matches other.symbols p.point) (in_one p.point parts.0) (in_other p.point parts.0)) (outputs p.output parts.1),
    λ p h.
        let parts = and_parts (matches one.symbols p.point && matches other.symbols p.point) (get_or one.outputs p.output false || get_or other.outputs p.output false) (sym (places' p) ∙ h) in
        let both = and_parts (matches one.symbols p.point) (matches other.symbols p.point) parts.0 in
        elim (or_cases (get_or one.outputs p.output false) (get_or other.outputs p.output false) parts.1) [
          | inl a ↦ or_left (holds one p) (holds other p) (and_from (matches one.symbols p.point) (get_or one.outputs p.output false) both.0 a)
          | inr b ↦ or_right (holds one p) (holds other p) (and_from (matches other.symbols p.point) (get_or other.outputs p.output false) both.1 b)
        ],
  ),
)
joined_stack region one other s_one in_one in_other outputs (Err e) none' size places' = tt

pub either_side : (t : Symbol) (b : Bool) → (agrees t b ≡ true) ⊎ (agrees (opposite t) b ≡ true)
either_side Dash b = inl refl
either_side Zero true = inr refl
either_side Zero false = inl refl
either_side One true = inl refl
either_side One false = inr refl

-- a cube that holds a half agrees with its bit
agrees_half : (region half c : Cube) (i : ℕ) (t : Symbol) (b : Bool) → IsTrue (list_any (λ b. b) region.outputs) → i < length region.symbols
    → SameSize c half → half ≡ with_symbol region i t → IsSubset (holds half) (holds c) → agrees t b ≡ true → agrees (get_or c.symbols i Dash) b ≡ true
agrees_half region half c i t b some lt size e sub a =
    let on = some_true region.outputs some in
    (Covers-from_IsSubset c half size on.0 (ap (λ x. get_or x.outputs on.0 false) e ∙ on.1) sub).inputs i b
    (ap (λ x. agrees (get_or x.symbols i Dash) b) e ∙ ap (λ s. agrees s b) (get_or-set_same region.symbols i t Dash lt) ∙ a)

-- cubes that hold both halves agree with either bit
pub share_sides : (region near far one other : Cube) (i : ℕ) (t : Symbol) → IsTrue (list_any (λ b. b) region.outputs)
    → slice_get region.symbols i ≡ Some Dash → near ≡ with_symbol region i t → far ≡ with_symbol region i (opposite t)
    → SameSize one near → SameSize other far → IsSubset (holds near) (holds one) → IsSubset (holds far) (holds other)
    → Share (get_or one.symbols i Dash) (get_or other.symbols i Dash)
share_sides region near far one other i t some dash e_near e_far s_one s_other in_one in_other b =
    let lt = slice_get_within region.symbols i Dash dash in
    elim (either_side t b) [
      | inl a ↦ or_left (agrees (get_or one.symbols i Dash) b) (agrees (get_or other.symbols i Dash) b) (agrees_half region near one i t b some lt s_one e_near in_one a)
      | inr a ↦ or_right (agrees (get_or one.symbols i Dash) b) (agrees (get_or other.symbols i Dash) b) (agrees_half region far other i (opposite t) b some lt s_other e_far in_other a)
    ]

pub opposite_literal : (t : Symbol) → (t ≡ Dash → ⊥) → opposite t ≡ Dash → ⊥
opposite_literal Dash h e = h refl
opposite_literal Zero h e = one_literal e
opposite_literal One h e = zero_literal e

-- ---- reasons of parts

pub rows_part : (rows near : List (Bor Cube)) (region part : Cube) → AreRowsWithNear region rows near → SameSize part region
    → AreRowsWithNear part rows near
rows_part rows near region part r s = record {
  sizes = λ k d lt. let h = r.sizes k d lt in (h.0 ∙ sym s.0, h.1 ∙ sym s.1);
  among = r.among;
}

pub SameSize-part : (c part region : Cube) → SameSize c part → SameSize part region → SameSize c region
SameSize-part c part region s t = (s.0 ∙ t.0, s.1 ∙ t.1)

-- a reason of a part that holds the whole region
pub reason_of_more : (rows : List Cube) (part region c : Cube) → SameSize part region → IsReason part rows c → IsSubset (holds region) (holds c)
    → IsReason region rows c
reason_of_more rows part region c s r h = record { size = SameSize-part c part region r.size s; above = h; within = r.within }

-- a cube that is found for two that the rows hold
pub reason_joined : (rows : List Cube) (region one other c : Cube) → IsSubset (holds one) (places rows) → IsSubset (holds other) (places rows)
    → Joins region one other (Some c) → IsReason region rows c
reason_joined rows region one other c in_one in_other h = record {
  size = h.0;
  above = h.1.0;
  within = λ p in_c. elim (or_cases (holds one p) (holds other p) (h.1.1 p in_c)) [ inl a ↦ in_one p a | inr b ↦ in_other p b ];
}

pub within_rows : (rows : List Cube) (row : Cube) → Contains rows row → IsSubset (holds row) (places rows)
within_rows rows row member p h = list_any_from (λ d. holds d p) rows row member h

-- a row that holds the region
pub reason_of_row : (rows : List Cube) (region row c : Cube) → Contains rows row → SameSize row region → c ≡ row → IsSubset (holds region) (holds row)
    → IsReason region rows c
reason_of_row rows region row c member size e sub = subst (λ x. IsReason region rows x) (sym e) (record {
  size = size;
  above = sub;
  within = within_rows rows row member;
})

-- what is left out of a part is left out of the whole
pub left_out_of_more : (rows : List Cube) (part region c : Cube) → SameSize part region → IsSubset (holds part) (holds region)
    → IsLeftOut (size_of part) rows part c → IsLeftOut (size_of region) rows region c
left_out_of_more rows part region c size sub h = record {
  is_cube = record { has_size = SameSize-part c part region h.is_cube.has_size size; some_output = h.is_cube.some_output };
  within = λ p in_c. sub p (h.within p in_c);
  outside = h.outside;
}

-- why no reason of a part was found is why none of the whole was
pub explains_more : (rows : List Cube) (part region : Cube) (limited : Bool) (stop : Stop) → SameSize part region
    → IsSubset (holds part) (holds region) → Explains part rows limited stop → Explains region rows limited stop
explains_more rows part region limited Memory size sub h = tt
explains_more rows part region limited Spent size sub h = h
explains_more rows part region limited (LeftOut c) size sub h = left_out_of_more rows part region c size sub h

pub half_within : (region half : Cube) (i : ℕ) (t : Symbol) → slice_get region.symbols i ≡ Some Dash → half ≡ with_symbol region i t
    → IsSubset (holds half) (holds region)
half_within region half i t dash e p in_half =
    narrowed region i t (slice_get_within region.symbols i Dash dash) (get_or_from_slice_get region.symbols i Dash Dash dash) p
    (ap (λ x. holds x p) (sym e) ∙ in_half)

pub extent_half : (region half : Cube) (i : ℕ) (t : Symbol) → slice_get region.symbols i ≡ Some Dash → (t ≡ Dash → ⊥) → half ≡ with_symbol region i t
    → extent half < extent region
extent_half region half i t dash literal e =
    let less = fewer_dashes region i t half dash literal e in
    let same : set_bits half.outputs ≡ set_bits region.outputs = ap (λ x. set_bits x.outputs) e in
    omega (arith, less, same)

-- ---- outputs taken away

bit-count : (b o : Bool) → cond (b && not o) 1 0 ≤ cond b 1 0
bit-count true true = omega arith
bit-count true false = omega arith
bit-count false o = omega arith

count_minus-le : (bs os : List Bool) → length bs ≡ length os → set_bits (minus bs os) ≤ set_bits bs
count_minus-le [] [] e = omega arith
count_minus-le [] (o ∷ os) e = absurd (omega arith)
count_minus-le (b ∷ bs) [] e = absurd (omega arith)
count_minus-le (b ∷ bs) (o ∷ os) e =
    let h = count_minus-le bs os (omega arith) in
    let k = bit-count b o in
    omega (arith, h, k)

count_minus : (bs os : List Bool) → length bs ≡ length os → (j : ℕ) → get_or bs j false ≡ true → get_or os j false ≡ true
    → set_bits (minus bs os) < set_bits bs
count_minus [] os e j x y = absurd (false≢true x)
count_minus (b ∷ bs) [] e j x y = absurd (false≢true y)
count_minus (b ∷ bs) (o ∷ os) e zero x y =
    let h = count_minus-le bs os (omega arith) in
    let mine : ◌≡◌ {A = ℕ} (cond (b && not o) 1 0) 0 = ap (λ z. cond (z && not o) 1 0) x ∙ ap (λ z. cond (not z) 1 0) y in
    let own : ◌≡◌ {A = ℕ} (cond b 1 0) 1 = ap (λ z. cond z 1 0) x in
    omega (arith, h, mine, own)
count_minus (b ∷ bs) (o ∷ os) e (suc j) x y =
    let h = count_minus bs os (omega arith) j x y in
    let k = bit-count b o in
    omega (arith, h, k)

module _ (rows : List Cube) (region row rest : Cube) (size : SameSize row region) (meets : IsDisjoint (holds row) (holds region) → ⊥)
    (closed : IsClosed region row) where
  -- a point of the region matches the row
  pub row_inputs : (point : List Bool) → matches region.symbols point ≡ true → matches row.symbols point ≡ true
  row_inputs point h = inputs_hold region row size meets closed point h

  -- an output of both
  shared : (j : ℕ) × (get_or region.outputs j false ≡ true) × (get_or row.outputs j false ≡ true)
  shared = elim (decide_outputs region.outputs row.outputs (sym size.1)) [
    | inl some ↦ some
    | inr none' ↦ absurd (meets (λ p in_row in_region.
        none' p.output (and_parts (matches region.symbols p.point) (get_or region.outputs p.output false) in_region).1
        (and_parts (matches row.symbols p.point) (get_or row.outputs p.output false) in_row).1))
  ]

  -- no output is left
  pub row_above : (r : Bool) → (IsTrue r ↔ IsTrue (list_any (λ b. b) (minus region.outputs row.outputs))) → r ≡ false → IsSubset (holds region) (holds row)
  row_above r says off p h =
      let parts = and_parts (matches region.symbols p.point) (get_or region.outputs p.output false) h in
      and_from (matches row.symbols p.point) (get_or row.outputs p.output false) (row_inputs p.point parts.0)
      (elim (cases_Bool (get_or row.outputs p.output false)) [
        | inl on ↦ on
        | inr out ↦ absurd (false≢true (sym off ∙ says.1 (true_some (minus region.outputs row.outputs) p.output
            (get_or-minus region.outputs row.outputs p.output (sym size.1)
            ∙ and_from (get_or region.outputs p.output false) (not (get_or row.outputs p.output false)) parts.1 (not_from_false (get_or row.outputs p.output false) out)))))
      ])

  module _ (e : rest ≡ rest_row region row) where
    pub size_rest : SameSize rest region
    size_rest = (ap (λ x. length x.symbols) e, ap (λ x. length x.outputs) e ∙ length-minus region.outputs row.outputs (sym size.1))

    pub extent_rest : extent rest < extent region
    extent_rest =
        let less = count_minus region.outputs row.outputs (sym size.1) shared.0 shared.1 shared.2 in
        let same : dashes rest.symbols ≡ dashes region.symbols = ap (λ x. dashes x.symbols) e in
        let count : set_bits rest.outputs ≡ set_bits (minus region.outputs row.outputs) = ap (λ x. set_bits x.outputs) e in
        omega (arith, less, same, count)

    output_rest : (j : ℕ) → get_or rest.outputs j false ≡ (get_or region.outputs j false && not (get_or row.outputs j false))
    output_rest j = ap (λ x. get_or x.outputs j false) e ∙ get_or-minus region.outputs row.outputs j (sym size.1)

    pub rest_within : IsSubset (holds rest) (holds region)
    rest_within p in_rest =
        let parts = and_parts (matches rest.symbols p.point) (get_or rest.outputs p.output false) in_rest in
        and_from (matches region.symbols p.point) (get_or region.outputs p.output false)
        (ap (λ x. matches x.symbols p.point) (sym e) ∙ parts.0)
        (and_parts (get_or region.outputs p.output false) (not (get_or row.outputs p.output false)) (sym (output_rest p.output) ∙ parts.1)).0

    module _ (other : Cube) (sub : IsSubset (holds rest) (holds other)) where
      pub other_inputs : IsTrue (list_any (λ b. b) (minus region.outputs row.outputs))
          → (point : List Bool) → matches region.symbols point ≡ true → matches other.symbols point ≡ true
      other_inputs some point h =
          let on = some_true (minus region.outputs row.outputs) some in
          let p : Place = record { point = point; output = on.0 } in
          (and_parts (matches other.symbols point) (get_or other.outputs on.0 false)
          (sub p (and_from (matches rest.symbols point) (get_or rest.outputs on.0 false)
          (ap (λ x. matches x.symbols point) e ∙ h) (ap (λ x. get_or x.outputs on.0 false) e ∙ on.1)))).0

      pub either_output : (j : ℕ) → get_or region.outputs j false ≡ true → (get_or row.outputs j false || get_or other.outputs j false) ≡ true
      either_output j on = elim (cases_Bool (get_or row.outputs j false)) [
        | inl mine ↦ or_left (get_or row.outputs j false) (get_or other.outputs j false) mine
        | inr off ↦
            let p : Place = record { point = map pick rest.symbols; output = j } in
            or_right (get_or row.outputs j false) (get_or other.outputs j false)
            (and_parts (matches other.symbols (map pick rest.symbols)) (get_or other.outputs j false)
            (sub p (place_at rest j (output_rest j ∙ and_from (get_or region.outputs j false) (not (get_or row.outputs j false)) on (not_from_false (get_or row.outputs j false) off))))).1
      ]

-- ---- rows among others

pub among_more : (some rows : List (Bor Cube)) (row : Bor Cube) → AreAmong some rows → AreAmong some (rows ++ row ∷ [])
among_more some rows row h d k =
    subst (λ l. Contains l d) (sym (map-append (λ r. r.now) rows (row ∷ []))) (Contains-append_left (behind rows) (row.now ∷ []) d (h d k))

pub among_last : (rows : List (Bor Cube)) (row : Bor Cube) → Contains (behind (rows ++ row ∷ [])) row.now
among_last rows row =
    subst (λ l. Contains l row.now) (sym (map-append (λ r. r.now) rows (row ∷ [])))
    (Contains-append_right (behind rows) (row.now ∷ []) row.now (Contains-here row.now []))

pub among_added : (some rows : List (Bor Cube)) (row : Bor Cube) → AreAmong some rows → Contains (behind rows) row.now → AreAmong (some ++ row ∷ []) rows
among_added some rows row h member d k =
    elim (Contains-append_cases (behind some) (row.now ∷ []) d (subst (λ l. Contains l d) (map-append (λ r. r.now) some (row ∷ [])) k)) [
      | inl before ↦ h d before
      | inr last ↦ elim (Contains-cases row.now [] d last) [
        | inl e ↦ subst (λ x. Contains (behind rows) x) e member
        | inr none' ↦ absurd (Contains-nil d none')
      ]
    ]

pub among_none : (rows : List (Bor Cube)) → AreAmong [] rows
among_none rows d k = absurd (Contains-nil d k)

-- what some of the rows hold all hold
pub within_among : (some rows : List (Bor Cube)) (s : Place → Bool) → AreAmong some rows → IsSubset s (places (behind some)) → IsSubset s (places (behind rows))
within_among some rows s h sub p on =
    let w = list_any_witness (λ d. holds d p) (behind some) (sub p on) in
    list_any_from (λ d. holds d p) (behind rows) w.0 (h w.0 w.1) w.2

-- a reason over some of the rows is one over all
pub reason_of_some : (some rows : List (Bor Cube)) (region c : Cube) → AreAmong some rows → IsReason region (behind some) c → IsReason region (behind rows) c
reason_of_some some rows region c h r = record {
  size = r.size;
  above = r.above;
  within = within_among some rows (holds c) h r.within;
}

pub sizes_among : (some rows : List (Bor Cube)) (region : Cube) → All (λ d. SameSize d.now region) rows → AreAmong some rows
    → All (λ d. SameSize d.now region) some
sizes_among some rows region sizes h =
    all_behind (λ d. SameSize d region) some (λ d k. behind_all (λ e. SameSize e region) rows sizes d (h d k))

-- the rows that are among those that meet the region meet it
pub meets_among : (some rows references_to : List (Bor Cube)) (region : Cube) → All (λ d. SameSize d.now region) rows
    → behind references_to ≡ meeting (size_of region) region (behind rows) → AreAmong some references_to
    → All (λ d. IsDisjoint (holds d.now) (holds region) → ⊥) some
meets_among some rows references_to region sizes inside h =
    all_behind (λ d. IsDisjoint (holds d) (holds region) → ⊥) some (λ d k. lent_meets rows references_to region sizes inside d (h d k))

-- the rows that meet the region are among all
pub among_lent : (rows references_to : List (Bor Cube)) (region : Cube) → behind references_to ≡ meeting (size_of region) region (behind rows) → AreAmong references_to rows
among_lent rows references_to region inside d k =
    (Contains-filter_cases (λ e. not (is_disjoint (size_of region) (holds e) (holds region))) (behind rows) d (subst (λ l. Contains l d) inside k)).0

-- ---- whether there are rows

pub none_left : {X : Type 0} (xs : List X) (n : ℕ) (b : Bool) → n ≡ length xs → b ≡ (n == 0) → b ≡ true → xs ≡ []
none_left [] n b len e on = refl
none_left (x ∷ xs) n b len e on = let z = eqb-true n 0 (sym e ∙ on) in absurd (omega (arith, z, len))

pub some_left : {X : Type 0} (xs : List X) (n : ℕ) (b : Bool) → n ≡ length xs → b ≡ (n == 0) → b ≡ false → 1 ≤ length xs
some_left [] n b len e off = absurd (false≢true (sym off ∙ e ∙ ap (λ k. k == 0) len))
some_left (x ∷ xs) n b len e off = omega arith

-- ---- the rows that meet the region

-- a reason for them is one for all rows
pub reason_lent : (rows references_to : List (Bor Cube)) (region : Cube)
    → behind references_to ≡ meeting (size_of region) region (behind rows) → (c : Cube) → IsReason region (behind references_to) c → IsReason region (behind rows) c
reason_lent rows references_to region inside c h = record {
  size = h.size;
  above = h.above;
  within = λ p in_c.
      let w = list_any_witness (λ d. holds d p) (behind references_to) (h.within p in_c) in
      list_any_from (λ d. holds d p) (behind rows) w.0
      (Contains-filter_cases (λ d. not (is_disjoint (size_of region) (holds d) (holds region))) (behind rows) w.0 (subst (λ l. Contains l w.0) inside w.1)).0 w.2;
}

-- and what is left out of them is left out of all rows
pub left_out_lent : (rows references_to : List (Bor Cube)) (region c : Cube) → All (λ d. SameSize d.now region) rows
    → behind references_to ≡ meeting (size_of region) region (behind rows) → IsLeftOut (size_of region) (behind references_to) region c
    → IsLeftOut (size_of region) (behind rows) region c
left_out_lent rows references_to region c sizes inside h = record {
  is_cube = h.is_cube;
  within = h.within;
  outside = λ p in_c in_rows. h.outside p in_c (place_lent rows references_to region sizes inside p (h.within p in_c) in_rows);
}

-- an answer by the rows that meet the region is one by all rows
pub answer_lent : (rows references_to : List (Bor Cube)) (region : Cube) (limited : Bool) (result : Result Cube Stop)
    → All (λ d. SameSize d.now region) rows → behind references_to ≡ meeting (size_of region) region (behind rows)
    → IsAnswer region (behind references_to) limited result → IsAnswer region (behind rows) limited result
answer_lent rows references_to region limited (Ok c) sizes inside h = reason_lent rows references_to region inside c h
answer_lent rows references_to region limited (Err Memory) sizes inside h = tt
answer_lent rows references_to region limited (Err Spent) sizes inside h = h
answer_lent rows references_to region limited (Err (LeftOut part)) sizes inside h = left_out_lent rows references_to region part sizes inside h

-- without such rows the whole region is left out
pub left_out_whole : (rows references_to : List (Bor Cube)) (region c : Cube) → All (λ d. SameSize d.now region) rows
    → behind references_to ≡ meeting (size_of region) region (behind rows) → IsTrue (list_any (λ b. b) region.outputs) → behind references_to ≡ []
    → c ≡ region → IsLeftOut (size_of region) (behind rows) region c
left_out_whole rows references_to region c sizes inside some none' e = subst (λ x. IsLeftOut (size_of region) (behind rows) region x) (sym e) (record {
  is_cube = record { has_size = (refl, refl); some_output = some };
  within = λ p h. h;
  outside = λ p in_region in_rows.
      false≢true (subst (λ l. places l p ≡ true) none' (place_lent rows references_to region sizes inside p in_region in_rows));
})

-- a near row without an open literal is a next step
pub closed_leads : (near : List (Bor Cube)) (region : Cube) (k : ℕ) (row : Bor Cube) → k < length near → row ≡ get_or near k row → IsClosed region row.now
    → Leads region (behind near) (Row k)
closed_leads near region k row lt at closed = (
  omega (arith, lt, length-behind near),
  λ d e. subst (IsClosed region) (sym (behind_at near k row lt at) ∙ get_or_from_slice_get (behind near) k d row.now e) closed,
)

-- what is known of a near row without an open literal
pub row_leads : (rows near : List (Bor Cube)) (region : Cube) → AreRowsWithNear region rows near
    → All (λ d. IsDisjoint (holds d.now) (holds region) → ⊥) near → (k : ℕ) (row : Bor Cube) → Leads region (behind near) (Row k) → row ≡ get_or near k row
    → SameSize row.now region × (Contains (behind rows) row.now × ((IsDisjoint (holds row.now) (holds region) → ⊥) × IsClosed region row.now))
row_leads rows near region r meets k row h at =
    let lt : k < length near = omega (arith, h.0, length-behind near) in
    let member = behind_member near k row lt at in (
      behind_all (λ d. SameSize d region) rows r.sizes row.now (r.among row.now member),
      (
        r.among row.now member,
        (
          behind_all (λ d. IsDisjoint (holds d) (holds region) → ⊥) near meets row.now member,
          h.1 row.now (slice_get-get_or (behind near) k row.now h.0 ∙ ap Some (behind_at near k row lt at)),
        ),
      ),
    )
