-- The complete sum of rows in two parts that have no input in common.
use Rattle.std.proofs.Common.{◌≡◌, ℕ, ◌<◌, ◌≤◌, Bool, true, false, ◌&&◌, ◌||◌, List, length, map, replicate, get_or, set, refl, ap, sym, subst, ◌∙◌, arith, inl, inr, ◌⊎◌}
use Rattle.std.specs.List.{Contains}
use Rattle.std.proofs.lemmas.Bool.{cases_Bool, cases_lt, false≢true, and_parts, and_from, or_cases, or_left}
use Rattle.std.proofs.lemmas.List.{get_or_past, get_or-replicate, length-replicate}
use Rattle.cube.specs.declared.symbol.Symbol.{Symbol}
use Rattle.cube.specs.declared.symbol.Symbol.TheVariants.{Dash, Zero, One}
use Rattle.cube.specs.Size.{Size}
use Rattle.cube.specs.Pattern.{agrees, matches}
use Rattle.cube.specs.Cube.{Cube, Place, holds, IsCube, IsSubset}
use Rattle.cube.specs.Sum.{complete_sum, is_subset, IsMaximal}
use Rattle.cube.proofs.HoldsLemmas.{length-matches, matches-from_agrees, pick, matches-map_pick, Covers-from_IsSubset}
use Rattle.cube.proofs.SharpLemmas.{some_true}
use Rattle.cube.proofs.SumLemmas.{Contains-complete_sum, complete_sum-over, sorted-complete_sum, complete_sum-from_members, complete_sum-same, IsSubset-from_test, is_subset-from_fact}
use Rattle.rows.specs.Cubes.{AreCubes}
use Rattle.rows.specs.Places.{places}
use Rattle.rows.specs.Complete.{put}
use Rattle.rows.specs.Parts.{merged, has_literal}
use Rattle.sums.specs.Apart.{IsFree, IsInParts}
use Rattle.rows.proofs.Lists.{all_members, list_any_from, list_any_witness}
use Rattle.sums.proofs.SumMixed.{mixed, matches-mixed, matches-mixed_left, matches-mixed_right, dash_of_member}
use Rattle.rows.proofs.SumOrder.{merged-cases, merged-left, merged-right, merged-rising}
use Rattle.rows.proofs.SumSplit.{holds-put, with_symbol-own, maximal_dash, same_size}

abbrev mix : (ℕ → Bool) → Place → Place → Place
mix u p q = record { point = mixed u p.point q.point; output = p.output }

-- the row of dashes with these outputs
abbrev dashes : Size → List Bool → Cube
dashes size outputs = record { symbols = replicate size.inputs Dash; outputs = outputs }

pub dash_above : (s : Symbol) → ((b : Bool) → agrees s b ≡ true) → s ≡ Dash
dash_above Dash h = refl
dash_above Zero h = absurd (false≢true (h true))
dash_above One h = absurd (false≢true (h false))

-- the place of a member
in_list : (cubes : List Cube) (c : Cube) (p : Place) → Contains cubes c → holds c p ≡ true → places cubes p ≡ true
in_list cubes c p member h = list_any_from (λ (d : Cube). holds d p) cubes c member h

or_same : (x y : Bool) → (y ≡ true → x ≡ true) → (x || y) ≡ x
or_same true y h = refl
or_same false true h = sym (h refl)
or_same false false h = refl

or_swapped : (x y : Bool) → (x || y) ≡ (y || x)
or_swapped true true = refl
or_swapped true false = refl
or_swapped false true = refl
or_swapped false false = refl

-- a list does not look at an input where it has no literal
places-put : (size : Size) (k : ℕ) (b : Bool) (p : Place) (cubes : List Cube) → k < size.inputs → AreCubes size cubes → has_literal k cubes ≡ false
    → places cubes (put k b p) ≡ places cubes p
places-put size k b p cubes lt are none' = elim (cases_Bool (places cubes p)) [
  | inl on ↦ from (λ (x : Bool). places cubes (put k b p) ≡ x) on
      (let w = list_any_witness (λ (c : Cube). holds c p) cubes on in
      in_list cubes w.0 (put k b p) w.1 (unmoved w.0 w.1 ∙ w.2))
  | inr off ↦ elim (cases_Bool (places cubes (put k b p))) [
    | inl moved ↦
        let w = list_any_witness (λ (c : Cube). holds c (put k b p)) cubes moved in
        absurd (false≢true (sym off ∙ in_list cubes w.0 p w.1 (sym (unmoved w.0 w.1) ∙ w.2)))
    | inr still ↦ still ∙ sym off
  ]
]
  where
    from : (F : Bool → Type 0) {x : Bool} → places cubes p ≡ x → F x → F (places cubes p)
    from F e f = subst F (sym e) f

    unmoved : (c : Cube) → Contains cubes c → holds c (put k b p) ≡ holds c p
    unmoved c member =
        let inside : k < length c.symbols = omega (arith, (all_members (IsCube size) cubes are c member).has_size.0) in
        let dash = dash_of_member k cubes c none' member in
        holds-put c k b p inside ∙ ap (λ s. agrees s b && holds (record { symbols = set c.symbols k Dash; outputs = c.outputs }) p) dash
        ∙ ap (λ d. holds d p) (with_symbol-own c k Dash dash)

swapped : (size : Size) (cubes one other : List Cube) → IsInParts size cubes one other → IsInParts size cubes other one
swapped size cubes one other h = record {
  one_cubes = h.other_cubes;
  other_cubes = h.one_cubes;
  places = λ p. h.places p ∙ or_swapped (places one p) (places other p);
  apart = λ k. elim (h.apart k) [ inl x ↦ inr x | inr y ↦ inl y ];
  same_outputs = λ c d in_other in_one. sym (h.same_outputs d c in_one in_other);
  no_more = λ k e. or_swapped (has_literal k other) (has_literal k one) ∙ h.no_more k e;
  one_literal = h.other_literal;
  other_literal = h.one_literal;
}

module _ (size : Size) (cubes one other : List Cube) (parts : IsInParts size cubes one other) where
  abbrev ours : ℕ → Bool
  ours k = has_literal k one

  one_dash : (d : Cube) (k : ℕ) → Contains one d → ours k ≡ false → get_or d.symbols k Dash ≡ Dash
  one_dash d k member e = dash_of_member k one d e member

  other_dash : (d : Cube) (k : ℕ) → Contains other d → ours k ≡ true → get_or d.symbols k Dash ≡ Dash
  other_dash d k member e = elim (parts.apart k) [
    | inl x ↦ absurd (false≢true (sym x ∙ e))
    | inr y ↦ dash_of_member k other d y member
  ]

  -- two places of a cube, the one outside the one part and the other outside the other
  torn : (c : Cube) → IsSubset (holds c) (places cubes) → (p q : Place) → holds c p ≡ true → holds c q ≡ true
      → places one p ≡ false → places other q ≡ false → ⊥
  torn c sub p q hp hq out_one out_other =
      let r = mix ours p q in
      let on_p = and_parts (matches c.symbols p.point) (get_or c.outputs p.output false) hp in
      let on_q = and_parts (matches c.symbols q.point) (get_or c.outputs q.output false) hq in
      let len : length p.point ≡ length q.point = length-matches c.symbols p.point on_p.0 ∙ sym (length-matches c.symbols q.point on_q.0) in
      let in_c : holds c r ≡ true = and_from (matches c.symbols r.point) (get_or c.outputs r.output false) (matches-mixed c.symbols ours p.point q.point on_p.0 on_q.0) on_p.1 in
      elim (or_cases (places one r) (places other r) (sym (parts.places r) ∙ sub r in_c)) [
        | inl in_one ↦
            let w = list_any_witness (λ (d : Cube). holds d r) one in_one in
            let own = and_parts (matches w.0.symbols r.point) (get_or w.0.outputs r.output false) w.2 in
            false≢true (sym out_one ∙ in_list one w.0 p w.1
            (and_from (matches w.0.symbols p.point) (get_or w.0.outputs p.output false)
            (sym (matches-mixed_left w.0.symbols ours p.point q.point len (λ k e. one_dash w.0 k w.1 e)) ∙ own.0) own.1))
        | inr in_other ↦
            let w = list_any_witness (λ (d : Cube). holds d r) other in_other in
            let own = and_parts (matches w.0.symbols r.point) (get_or w.0.outputs r.output false) w.2 in
            elim (or_cases (places one q) (places other q) (sym (parts.places q) ∙ sub q hq)) [
              | inl q_one ↦
                  let v = list_any_witness (λ (d : Cube). holds d q) one q_one in
                  let q_own = and_parts (matches v.0.symbols q.point) (get_or v.0.outputs q.output false) v.2 in
                  false≢true (sym out_other ∙ in_list other w.0 q w.1
                  (and_from (matches w.0.symbols q.point) (get_or w.0.outputs q.output false)
                  (sym (matches-mixed_right w.0.symbols ours p.point q.point len (λ k e. other_dash w.0 k w.1 e)) ∙ own.0)
                  (ap (λ o. get_or o q.output false) (sym (parts.same_outputs v.0 w.0 v.1 w.1)) ∙ q_own.1)))
              | inr q_other ↦ false≢true (sym out_other ∙ q_other)
            ]
      ]

  -- so a cube within both parts together lies within one of them
  within_either : (c : Cube) → IsCube size c → IsSubset (holds c) (places cubes) → IsSubset (holds c) (places one) ⊎ IsSubset (holds c) (places other)
  within_either c cube sub = elim (cases_Bool (is_subset size (holds c) (places one))) [
    | inl on ↦ inl (IsSubset-from_test size c (places one) cube.has_size on)
    | inr off ↦ inr (λ q hq. elim (cases_Bool (places other q)) [
      | inl on ↦ on
      | inr out_other ↦ absurd (false≢true (sym off ∙ is_subset-from_fact size (holds c) (places one) (λ p hp. elim (cases_Bool (places one p)) [
        | inl on ↦ on
        | inr out_one ↦ absurd (torn c sub p q hp hq out_one out_other)
      ])))
    ])
  ]

  from_one : (p : Place) → places one p ≡ true → places cubes p ≡ true
  from_one p h = parts.places p ∙ or_left (places one p) (places other p) h

  -- a maximal cube of the one part that lies within the other: then that holds everything
  escapes : (c : Cube) → IsMaximal size (places one) c → IsSubset (holds c) (places other) → (m : Cube) × Contains (complete_sum size (places other)) m × IsFree m
  escapes c h sub =
      let cube = h.is_cube in
      let wide = dashes size c.outputs in
      let wide_cube : IsCube size wide = record { has_size = (length-replicate size.inputs Dash, cube.has_size.1); some_output = cube.some_output } in
      let dash = λ (k : ℕ). λ (e : ours k ≡ false). elim (cases_lt k size.inputs) as (λ _. get_or c.symbols k Dash ≡ Dash) [
        | inl lt ↦ maximal_dash size k lt (places one) (λ p b. places-put size k b p one lt parts.one_cubes e) c h
        | inr past ↦ let out : length c.symbols ≤ k = omega (arith, cube.has_size.0) in get_or_past c.symbols k Dash out
      ] in
      let x = map pick c.symbols in
      let within : IsSubset (holds wide) (places other) = λ p held.
      let on = and_parts (matches wide.symbols p.point) (get_or c.outputs p.output false) held in
      let len : length x ≡ length p.point = length-matches c.symbols x (matches-map_pick c.symbols) ∙ cube.has_size.0 ∙ sym (length-matches wide.symbols p.point on.0 ∙ length-replicate size.inputs Dash) in
      let q : Place = record { point = mixed ours x p.point; output = p.output } in
      let in_c : holds c q ≡ true = and_from (matches c.symbols q.point) (get_or c.outputs q.output false)
      (matches-mixed_left c.symbols ours x p.point len dash ∙ matches-map_pick c.symbols) on.1 in
      let w = list_any_witness (λ (d : Cube). holds d q) other (sub q in_c) in
      let own = and_parts (matches w.0.symbols q.point) (get_or w.0.outputs q.output false) w.2 in
      in_list other w.0 p w.1 (and_from (matches w.0.symbols p.point) (get_or w.0.outputs p.output false)
      (sym (matches-mixed_right w.0.symbols ours x p.point len (λ k e. other_dash w.0 k w.1 e)) ∙ own.0) own.1) in
      let r = complete_sum-over size (places other) wide wide_cube within in
      let m = (Contains-complete_sum size (places other) r.0).0 r.1 in
      let on = some_true c.outputs cube.some_output in
      let covers = Covers-from_IsSubset r.0 wide (same_size size r.0 wide m.is_cube wide_cube) on.0 on.1 r.2 in
      (r.0, r.1, λ k. dash_above (get_or r.0.symbols k Dash) (λ b. covers.inputs k b (ap (λ s. agrees s b) (get_or-dashes size.inputs k))))
    where
      get_or-dashes : (n k : ℕ) → get_or (replicate n Dash) k Dash ≡ Dash
      get_or-dashes n k = elim (cases_lt k n) [
        | inl lt ↦ get_or-replicate n k Dash Dash lt
        | inr past ↦ get_or_past (replicate n Dash) k Dash (omega (arith, length-replicate n Dash))
      ]

  maximal_from_one : ((m : Cube) → Contains (complete_sum size (places other)) m → IsFree m → ⊥) → (c : Cube) → IsMaximal size (places one) c → IsMaximal size (places cubes) c
  maximal_from_one none' c h = record {
    is_cube = h.is_cube;
    within = λ p k. from_one p (h.within p k);
    largest = λ d cube within above. elim (within_either d cube within) [
      | inl in_one ↦ h.largest d cube in_one above
      | inr in_other ↦ let m = escapes c h (λ p k. in_other p (above p k)) in absurd (none' m.0 m.1 m.2)
    ];
  }

  one_from_maximal : (c : Cube) → IsMaximal size (places cubes) c → IsSubset (holds c) (places one) → IsMaximal size (places one) c
  one_from_maximal c h sub = record {
    is_cube = h.is_cube;
    within = sub;
    largest = λ d cube within above. h.largest d cube (λ p k. from_one p (within p k)) above;
  }

  -- a row without a literal in the sum of the one part: that holds everything
  pub complete_sum-whole : (rows : List Cube) → rows ≡ complete_sum size (places one) → (m : Cube) → Contains rows m → IsFree m → rows ≡ complete_sum size (places cubes)
  complete_sum-whole rows is m member free =
      is ∙ complete_sum-same size (places one) (places cubes) (λ p. sym (or_same (places one p) (places other p) (whole p)) ∙ sym (parts.places p))
    where
      whole : (p : Place) → places other p ≡ true → places one p ≡ true
      whole p h =
          let w = list_any_witness (λ (d : Cube). holds d p) other h in
          let own = and_parts (matches w.0.symbols p.point) (get_or w.0.outputs p.output false) w.2 in
          let max = (Contains-complete_sum size (places one) m).0 (subst (λ l. Contains l m) is member) in
          let on = some_true m.outputs max.is_cube.some_output in
          let len : length p.point ≡ length m.symbols = length-matches w.0.symbols p.point own.0 ∙ (all_members (IsCube size) other parts.other_cubes w.0 w.1).has_size.0 ∙ sym max.is_cube.has_size.0 in
          let q : Place = record { point = p.point; output = on.0 } in
          let in_m : holds m q ≡ true = and_from (matches m.symbols q.point) (get_or m.outputs q.output false)
          (matches-from_agrees m.symbols p.point len (λ i lt. ap (λ s. agrees s (get_or p.point i false)) (free i))) on.1 in
          let v = list_any_witness (λ (d : Cube). holds d q) one (max.within q in_m) in
          let v_own = and_parts (matches v.0.symbols q.point) (get_or v.0.outputs q.output false) v.2 in
          in_list one v.0 p v.1 (and_from (matches v.0.symbols p.point) (get_or v.0.outputs p.output false) v_own.0
          (ap (λ o. get_or o p.output false) (parts.same_outputs v.0 w.0 v.1 w.1) ∙ own.1))

module _ (size : Size) (cubes one other : List Cube) (parts : IsInParts size cubes one other) where
  pub complete_sum-whole_other : (rows : List Cube) → rows ≡ complete_sum size (places other) → (m : Cube) → Contains rows m → IsFree m → rows ≡ complete_sum size (places cubes)
  complete_sum-whole_other = complete_sum-whole size cubes other one (swapped size cubes one other parts)

  -- neither part holds everything: the maximal cubes are those of the parts
  pub complete_sum-parts : (rows others all : List Cube) → rows ≡ complete_sum size (places one) → others ≡ complete_sum size (places other)
      → ((m : Cube) → Contains rows m → IsFree m → ⊥) → ((m : Cube) → Contains others m → IsFree m → ⊥) → all ≡ merged rows others → all ≡ complete_sum size (places cubes)
  complete_sum-parts rows others all is is' none' none'' merges =
      let a = complete_sum size (places one) in
      let b = complete_sum size (places other) in
      let back = swapped size cubes one other parts in
      merges ∙ ap (λ l. merged l others) is ∙ ap (λ l. merged a l) is'
      ∙ complete_sum-from_members size (places cubes) (merged a b) (merged-rising a b (sorted-complete_sum size (places one)) (sorted-complete_sum size (places other)))
      (λ c h. elim (merged-cases a b c h) [
        | inl x ↦ maximal_from_one size cubes one other parts (λ m k. none'' m (subst (λ l. Contains l m) (sym is') k)) c ((Contains-complete_sum size (places one) c).0 x)
        | inr y ↦ maximal_from_one size cubes other one back (λ m k. none' m (subst (λ l. Contains l m) (sym is) k)) c ((Contains-complete_sum size (places other) c).0 y)
      ])
      (λ c h. elim (within_either size cubes one other parts c h.is_cube h.within) [
        | inl in_one ↦ merged-left a b c ((Contains-complete_sum size (places one) c).1 (one_from_maximal size cubes one other parts c h in_one))
        | inr in_other ↦ merged-right a b c ((Contains-complete_sum size (places other) c).1 (one_from_maximal size cubes other one back c h in_other))
      ])
