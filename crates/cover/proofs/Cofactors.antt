-- The cofactor of a list holds every place where the list holds the cube.
use Rattle.std.proofs.Common.{◌≡◌, ℕ, ◌+◌, ◌<◌, Bool, true, false, not, ◌||◌, cond, List, [], ◌∷◌, ◌++◌, length, map, take, get_or, refl, ap, sym, subst, ◌∙◌, arith, inl, inr, ◌⊎◌, ◌↔◌, IsTrue, filter}
use Rattle.std.specs.List.{Contains}
use Rattle.std.specs.Simd.Lanes.{zip2}
use Rattle.std.proofs.lemmas.Bool.{cases_Bool, cases_lt, false≢true, and_parts, and_from, or_cases, or_left, or_right, not-true, not_from_false}
use Rattle.std.proofs.lemmas.List.{get_or_past, length-replicate, take_more, map-append, append-nil}
use Rattle.std.proofs.lemmas.List.Elements.{filter-append}
use Rattle.std.proofs.lemmas.Simd.{length-zip2, get_or-zip2}
use Rattle.cube.specs.declared.symbol.Symbol.{Symbol}
use Rattle.cube.specs.declared.symbol.Symbol.TheVariants.{Dash, Zero, One}
use Rattle.cube.specs.Size.{Size}
use Rattle.cube.specs.Pattern.{agrees, matches}
use Rattle.cube.specs.Cube.{Cube, Place, holds, HasSize, IsCube, IsSubset, IsDisjoint}
use Rattle.cube.specs.Cofactor.{cofactor, cofactor_symbol}
use Rattle.cube.proofs.HoldsLemmas.{length-matches, agrees_at-matches, matches-from_agrees}
use Rattle.cube.proofs.Members.{Contains-map, Contains-map_cases, Contains-filter, Contains-filter_cases}
use Rattle.cube.proofs.SharpLemmas.{some_true, true_some}
use Rattle.cube.proofs.ZipLemmas.{get_or-zip2_any}
use Rattle.rows.specs.Cubes.{AreCubes}
use Rattle.cover.specs.Cofactor.{cofactors}
use Rattle.rows.specs.Places.{places, holds_all, is_disjoint, meeting, universal}
use Rattle.rows.proofs.Everywhere.{holds_all-universal, holds_universal}
use Rattle.rows.proofs.Lists.{list_any_from, list_any_witness, all_members, members_all}
use Rattle.rows.proofs.Meeting.{is_disjoint-from_fact, IsDisjoint-from_test}

-- the bit that a symbol asks for, or else the point's own
forced_bit : Symbol → Bool → Bool
forced_bit Dash x = x
forced_bit Zero x = false
forced_bit One x = true

agrees-forced_bit : (s : Symbol) (x : Bool) → agrees s (forced_bit s x) ≡ true
unfolding forced_bit
agrees-forced_bit Dash x = refl
agrees-forced_bit Zero x = refl
agrees-forced_bit One x = refl

-- where a symbol agrees with a forced bit, its cofactor agrees with the point's own
agrees-cofactor : (s t : Symbol) (x : Bool) → agrees s (forced_bit t x) ≡ true → agrees (cofactor_symbol s t) x ≡ true
unfolding forced_bit
agrees-cofactor s Dash x h = h
agrees-cofactor s Zero x h = refl
agrees-cofactor s One x h = refl

-- a bit that agrees with the second symbol, and with the cofactor, agrees with the first, unless no
-- bit agrees with both
agrees-back : (s t : Symbol) (x : Bool) → agrees t x ≡ true → agrees (cofactor_symbol s t) x ≡ true
    → (agrees s x ≡ true) ⊎ ((y : Bool) → agrees s y ≡ true → agrees t y ≡ true → ⊥)
agrees-back s Dash x h k = inl k
agrees-back Dash t x h k = inl refl
agrees-back Zero Zero x h k = inl h
agrees-back One One x h k = inl h
agrees-back Zero One x h k = inr (λ y. apart y)
  where
    apart : (y : Bool) → not y ≡ true → y ≡ true → ⊥
    apart true e f = false≢true e
    apart false e f = false≢true f
agrees-back One Zero x h k = inr (λ y. apart y)
  where
    apart : (y : Bool) → y ≡ true → not y ≡ true → ⊥
    apart true e f = false≢true f
    apart false e f = false≢true e

get_or-forced : (ts : List Symbol) (point : List Bool) (i : ℕ) → length ts ≡ length point
    → get_or (zip2 forced_bit ts point) i false ≡ forced_bit (get_or ts i Dash) (get_or point i false)
unfolding forced_bit
get_or-forced ts point i e = get_or-zip2_any forced_bit ts point i Dash false false e refl

matches-forced : (ts : List Symbol) (point : List Bool) → length ts ≡ length point → matches ts (zip2 forced_bit ts point) ≡ true
matches-forced ts point e =
    matches-from_agrees ts (zip2 forced_bit ts point) (length-zip2 forced_bit ts point e)
    (λ i lt. ap (agrees (get_or ts i Dash)) (get_or-forced ts point i e) ∙ agrees-forced_bit (get_or ts i Dash) (get_or point i false))

get_or-cofactor : (ss ts : List Symbol) (i : ℕ) → length ss ≡ length ts
    → get_or (zip2 cofactor_symbol ss ts) i Dash ≡ cofactor_symbol (get_or ss i Dash) (get_or ts i Dash)
get_or-cofactor ss ts i e = get_or-zip2_any cofactor_symbol ss ts i Dash Dash Dash e refl

-- ---- sizes

below : (bs : List Bool) (j : ℕ) → get_or bs j false ≡ true → j < length bs
below bs j on = elim (cases_lt j (length bs)) [
  | inl lt ↦ lt
  | inr past ↦ absurd (false≢true (sym (get_or_past bs j false past) ∙ on))
]

pub IsCube-cofactor : (size : Size) (d c : Cube) → IsCube size d → HasSize c size → IsCube size (cofactor d c)
IsCube-cofactor size d c k h =
    let e_in : length d.symbols ≡ length c.symbols = k.has_size.0 ∙ sym h.0 in
    let e_out : length d.outputs ≡ length c.outputs = k.has_size.1 ∙ sym h.1 in
    let j = some_true d.outputs k.some_output in
    let lt : j.0 < length d.outputs = below d.outputs j.0 j.1 in
    record {
      has_size = (length-zip2 cofactor_symbol d.symbols c.symbols e_in ∙ k.has_size.0, length-zip2 (λ x y. x || not y) d.outputs c.outputs e_out ∙ k.has_size.1);
      some_output = true_some (zip2 (λ x y. x || not y) d.outputs c.outputs) j.0
          (get_or-zip2 (λ x y. x || not y) d.outputs c.outputs j.0 false false false lt (omega (arith, e_out))
          ∙ or_left (get_or d.outputs j.0 false) (not (get_or c.outputs j.0 false)) j.1);
    }

pub AreCubes-cofactors : (size : Size) (c : Cube) (cubes left : List Cube) → HasSize c size → AreCubes size cubes → left ≡ cofactors size c cubes → AreCubes size left
AreCubes-cofactors size c cubes left h are e =
    members_all (IsCube size) left (λ x member.
    let r = Contains-map_cases (λ d. cofactor d c) (meeting size c cubes) x (subst (λ l. Contains l x) e member) in
    let m = Contains-filter_cases (λ d. not (is_disjoint size (holds d) (holds c))) cubes r.0 r.1 in
    subst (IsCube size) r.2 (IsCube-cofactor size r.0 c (all_members (IsCube size) cubes are r.0 m.0) h))

-- ---- one more cube

module _ (size : Size) (c : Cube) (cubes : List Cube) (i : ℕ) (d : Cube) (lt : i < length cubes) (at : d ≡ get_or cubes i d) (d_size : HasSize d size) where
  cofactors-more : (b : Bool) → is_disjoint size (holds d) (holds c) ≡ b
      → cofactors size c (take (i + 1) cubes) ≡ cofactors size c (take i cubes) ++ cond (not b) (cofactor d c ∷ []) []
  cofactors-more b e =
      let f : Cube → Cube = λ x. cofactor x c in
      let p : Cube → Bool = λ x. not (is_disjoint size (holds x) (holds c)) in
      ap (λ l. cofactors size c l) (take_more cubes i d lt ∙ ap (λ x. take i cubes ++ x ∷ []) (sym at))
      ∙ ap (map f) (filter-append p (take i cubes) (d ∷ []))
      ∙ map-append f (filter p (take i cubes)) (filter p (d ∷ []))
      ∙ ap (λ l. map f (filter p (take i cubes)) ++ l) (one b e)
    where
      one : (b : Bool) → is_disjoint size (holds d) (holds c) ≡ b
          → map (λ x. cofactor x c) (filter (λ x. not (is_disjoint size (holds x) (holds c))) (d ∷ [])) ≡ cond (not b) (cofactor d c ∷ []) []
      one true e = ap (λ b. map (λ x. cofactor x c) (cond (not b) (d ∷ []) [])) e
      one false e = ap (λ b. map (λ x. cofactor x c) (cond (not b) (d ∷ []) [])) e

  pub cofactors-keep : (IsDisjoint (holds d) (holds c) → ⊥) → cofactors size c (take (i + 1) cubes) ≡ cofactors size c (take i cubes) ++ cofactor d c ∷ []
  cofactors-keep h = elim (cases_Bool (is_disjoint size (holds d) (holds c))) [
    | inl on ↦ absurd (h (IsDisjoint-from_test size d (holds c) d_size on))
    | inr off ↦ cofactors-more false off
  ]

  pub cofactors-skip : IsDisjoint (holds d) (holds c) → cofactors size c (take (i + 1) cubes) ≡ cofactors size c (take i cubes)
  cofactors-skip h = cofactors-more true (is_disjoint-from_fact size (holds d) (holds c) h) ∙ append-nil (cofactors size c (take i cubes))

-- ---- the places

module _ (size : Size) (c : Cube) (cubes : List Cube) (c_cube : IsCube size c) (are : AreCubes size cubes) where
  cube_of : (d : Cube) → Contains cubes d → IsCube size d
  cube_of = all_members (IsCube size) cubes are

  -- what the cofactor of a cube holds of c, the cube holds
  held_back : (d : Cube) → Contains cubes d → (IsDisjoint (holds d) (holds c) → ⊥) → (p : Place) → holds c p ≡ true
      → holds (cofactor d c) p ≡ true → holds d p ≡ true
  held_back d member meet p in_c in_left =
      let d_cube = cube_of d member in
      let e_in : length d.symbols ≡ length c.symbols = d_cube.has_size.0 ∙ sym c_cube.has_size.0 in
      let e_out : length d.outputs ≡ length c.outputs = d_cube.has_size.1 ∙ sym c_cube.has_size.1 in
      let own = and_parts (matches c.symbols p.point) (get_or c.outputs p.output false) in_c in
      let left = and_parts (matches (zip2 cofactor_symbol d.symbols c.symbols) p.point) (get_or (zip2 (λ x y. x || not y) d.outputs c.outputs) p.output false) in_left in
      let c_lt = below c.outputs p.output own.1 in
      let both : (get_or d.outputs p.output false || not (get_or c.outputs p.output false)) ≡ true =
      sym (get_or-zip2 (λ x y. x || not y) d.outputs c.outputs p.output false false false (omega (arith, e_out)) c_lt) ∙ left.1 in
      and_from (matches d.symbols p.point) (get_or d.outputs p.output false)
      (matches-from_agrees d.symbols p.point (length-matches c.symbols p.point own.0 ∙ sym e_in) (λ i lt.
      let i_lt : i < length c.symbols = omega (arith, e_in) in
      let z_lt : i < length (zip2 cofactor_symbol d.symbols c.symbols) = omega (arith, length-zip2 cofactor_symbol d.symbols c.symbols e_in) in
      let a = agrees_at-matches c.symbols p.point i own.0 i_lt in
      let b = ap (λ s. agrees s (get_or p.point i false)) (sym (get_or-cofactor d.symbols c.symbols i e_in))
      ∙ agrees_at-matches (zip2 cofactor_symbol d.symbols c.symbols) p.point i left.0 z_lt in
      elim (agrees-back (get_or d.symbols i Dash) (get_or c.symbols i Dash) (get_or p.point i false) a b) [
        | inl on ↦ on
        | inr apart ↦ absurd (meet (λ q in_d in_q. apart (get_or q.point i false)
            (agrees_at-matches d.symbols q.point i (and_parts (matches d.symbols q.point) (get_or d.outputs q.output false) in_d).0 lt)
            (agrees_at-matches c.symbols q.point i (and_parts (matches c.symbols q.point) (get_or c.outputs q.output false) in_q).0 i_lt)))
      ]))
      (elim (or_cases (get_or d.outputs p.output false) (not (get_or c.outputs p.output false)) both) [
        | inl on ↦ on
        | inr off ↦ absurd (false≢true (sym (not-true (get_or c.outputs p.output false) off) ∙ own.1))
      ])

  -- what a cube holds at a point forced into c, its cofactor holds at the point
  held_on : (d : Cube) → Contains cubes d → (p : Place) (j : ℕ) → length p.point ≡ size.inputs → p.output < size.outputs
      → (get_or c.outputs p.output false ≡ true → j ≡ p.output)
      → holds d (record { point = zip2 forced_bit c.symbols p.point; output = j }) ≡ true → holds (cofactor d c) p ≡ true
  held_on d member p j long small same h =
      let d_cube = cube_of d member in
      let e_in : length d.symbols ≡ length c.symbols = d_cube.has_size.0 ∙ sym c_cube.has_size.0 in
      let e_out : length d.outputs ≡ length c.outputs = d_cube.has_size.1 ∙ sym c_cube.has_size.1 in
      let e_point : length c.symbols ≡ length p.point = c_cube.has_size.0 ∙ sym long in
      let own = and_parts (matches d.symbols (zip2 forced_bit c.symbols p.point)) (get_or d.outputs j false) h in
      let c_lt : p.output < length c.outputs = omega (arith, c_cube.has_size.1) in
      and_from (matches (zip2 cofactor_symbol d.symbols c.symbols) p.point) (get_or (zip2 (λ x y. x || not y) d.outputs c.outputs) p.output false)
      (matches-from_agrees (zip2 cofactor_symbol d.symbols c.symbols) p.point
      (sym (length-zip2 cofactor_symbol d.symbols c.symbols e_in ∙ e_in ∙ e_point)) (λ i lt.
      let i_lt : i < length d.symbols = omega (arith, length-zip2 cofactor_symbol d.symbols c.symbols e_in) in
      ap (λ s. agrees s (get_or p.point i false)) (get_or-cofactor d.symbols c.symbols i e_in)
      ∙ agrees-cofactor (get_or d.symbols i Dash) (get_or c.symbols i Dash) (get_or p.point i false)
      (ap (agrees (get_or d.symbols i Dash)) (sym (get_or-forced c.symbols p.point i e_point))
      ∙ agrees_at-matches d.symbols (zip2 forced_bit c.symbols p.point) i own.0 i_lt)))
      (get_or-zip2 (λ x y. x || not y) d.outputs c.outputs p.output false false false (omega (arith, e_out)) c_lt
      ∙ elim (cases_Bool (get_or c.outputs p.output false)) [
        | inl on ↦ or_left (get_or d.outputs p.output false) (not (get_or c.outputs p.output false)) (ap (λ x. get_or d.outputs x false) (sym (same on)) ∙ own.1)
        | inr off ↦ or_right (get_or d.outputs p.output false) (not (get_or c.outputs p.output false)) (not_from_false (get_or c.outputs p.output false) off)
      ])

  -- an output of c, that of the place where c has it
  output_for : (j : ℕ) → (k : ℕ) × (get_or c.outputs k false ≡ true) × (get_or c.outputs j false ≡ true → k ≡ j)
  output_for j = elim (cases_Bool (get_or c.outputs j false)) [
    | inl on ↦ (j, on, λ _. refl)
    | inr off ↦ let k = some_true c.outputs c_cube.some_output in (k.0, k.1, λ on. absurd (false≢true (sym off ∙ on)))
  ]

  all_from_held : IsSubset (holds c) (places cubes) → (p : Place) → length p.point ≡ size.inputs → p.output < size.outputs
      → places (cofactors size c cubes) p ≡ true
  all_from_held h p long small =
      let k = output_for p.output in
      let e_point : length c.symbols ≡ length p.point = c_cube.has_size.0 ∙ sym long in
      let q : Place = record { point = zip2 forced_bit c.symbols p.point; output = k.0 } in
      let in_c : holds c q ≡ true = and_from (matches c.symbols q.point) (get_or c.outputs k.0 false) (matches-forced c.symbols p.point e_point) k.1 in
      let w = list_any_witness (λ d. holds d q) cubes (h q in_c) in
      let met : not (is_disjoint size (holds w.0) (holds c)) ≡ true = elim (cases_Bool (is_disjoint size (holds w.0) (holds c))) [
        | inl apart ↦ absurd (IsDisjoint-from_test size w.0 (holds c) (cube_of w.0 w.1).has_size apart q w.2 in_c)
        | inr off ↦ not_from_false (is_disjoint size (holds w.0) (holds c)) off
      ] in
      list_any_from (λ d. holds d p) (cofactors size c cubes) (cofactor w.0 c)
      (Contains-map (λ d. cofactor d c) (meeting size c cubes) w.0 (Contains-filter (λ d. not (is_disjoint size (holds d) (holds c))) cubes w.0 w.1 met))
      (held_on w.0 w.1 p k.0 long small k.2 w.2)

  held_from_all : ((p : Place) → holds c p ≡ true → places (cofactors size c cubes) p ≡ true) → IsSubset (holds c) (places cubes)
  held_from_all h p in_c =
      let w = list_any_witness (λ d. holds d p) (cofactors size c cubes) (h p in_c) in
      let r = Contains-map_cases (λ d. cofactor d c) (meeting size c cubes) w.0 w.1 in
      let m = Contains-filter_cases (λ d. not (is_disjoint size (holds d) (holds c))) cubes r.0 r.1 in
      list_any_from (λ d. holds d p) cubes r.0 m.0
      (held_back r.0 m.0
      (λ apart. false≢true (sym (not-true (is_disjoint size (holds r.0) (holds c)) m.1) ∙ is_disjoint-from_fact size (holds r.0) (holds c) apart))
      p in_c (ap (λ x. holds x p) r.2 ∙ w.2))

  -- the cofactor holds every place exactly where the list holds the cube
  pub holds_all-cofactors : IsTrue (holds_all size (places (cofactors size c cubes))) ↔ IsSubset (holds c) (places cubes)
  holds_all-cofactors =
      let u = holds_all-universal size (places (cofactors size c cubes)) in (
        λ all. held_from_all (λ p in_c. u.0 all p
            (let parts = and_parts (matches c.symbols p.point) (get_or c.outputs p.output false) in_c in
            holds_universal size p (length-matches c.symbols p.point parts.0 ∙ c_cube.has_size.0)
            (subst (λ n. p.output < n) c_cube.has_size.1 (below c.outputs p.output parts.1)))),
        λ h. u.1 (λ p in_u.
            let parts = and_parts (matches (universal size).symbols p.point) (get_or (universal size).outputs p.output false) in_u in
            all_from_held h p (length-matches (universal size).symbols p.point parts.0 ∙ length-replicate size.inputs Dash)
            (subst (λ n. p.output < n) (length-replicate size.outputs true) (below (universal size).outputs p.output parts.1))),
      )
