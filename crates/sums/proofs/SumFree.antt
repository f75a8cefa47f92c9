-- The complete sum of a list with outputs that a row without a literal has.
use Rattle.std.proofs.Common.{◌≡◌, ℕ, ◌+◌, ◌<◌, ◌≤◌, Bool, true, false, not, ◌&&◌, ◌||◌, List, [], ◌∷◌, ◌++◌, length, map, take, get_or, refl, ap, sym, subst, ◌∙◌, inl, inr, IsTrue, ◌↔◌}
use Rattle.std.specs.List.{Contains, list_any}
use Rattle.std.specs.List.Sorted.{IsStrictlySortedBy}
use Rattle.std.specs.Simd.Lanes.{zip2}
use Rattle.std.proofs.lemmas.Bool.{cases_Bool, false≢true, and_parts, and_from, or_cases, or_left, or_right, or_parts, or_from}
use Rattle.std.proofs.lemmas.List.{take_more}
use Rattle.std.proofs.lemmas.List.Elements.{Contains-append_left, Contains-append_right, Contains-append_cases}
use Rattle.std.proofs.lemmas.Simd.{length-zip2}
use Rattle.cube.specs.declared.symbol.Symbol.TheVariants.{Dash}
use Rattle.cube.specs.Size.{Size}
use Rattle.cube.specs.Order.{row_cmp}
use Rattle.cube.specs.Pattern.{agrees, matches}
use Rattle.cube.specs.Sharp.{minus, rest_row}
use Rattle.cube.specs.Cube.{Cube, Place, holds, IsCube, IsSubset, SameSize}
use Rattle.cube.specs.Sum.{complete_sum, IsMaximal}
use Rattle.cube.proofs.HoldsLemmas.{length-matches, matches-from_agrees, pick, matches-map_pick, Covers-from_IsSubset}
use Rattle.cube.proofs.Members.{Contains-here, Contains-nil, Contains-cases}
use Rattle.cube.proofs.ZipLemmas.{get_or-zip2_any}
use Rattle.cube.proofs.SharpLemmas.{some_true, true_some, get_or-minus, length-minus, same_from_places}
use Rattle.cube.proofs.SumLemmas.{Contains-complete_sum, complete_sum-over, complete_sum-from_members}
use Rattle.rows.specs.Places.{places}
use Rattle.rows.specs.Parts.{has_literal, live}
use Rattle.rows.specs.Reduced.{HasSameCubes}
use Rattle.sums.specs.Apart.{IsFree}
use Rattle.sums.specs.Free.{IsFreePart, IsRest, IsWider, AreWider}
use Rattle.rows.proofs.Found.{output_of_place}
use Rattle.rows.proofs.Lists.{all_members, members_all, list_any_from}
use Rattle.sums.proofs.SumApart.{dash_above}
use Rattle.rows.proofs.SumMeets.{places-append}
use Rattle.rows.proofs.SumParts.{has_literal-append, live-at_most}
use Rattle.rows.proofs.SumSplit.{same_size}

off_from : (b : Bool) → not b ≡ true → b ≡ false
off_from true h = absurd (false≢true h)
off_from false h = refl

-- a cube without a literal holds each point of its size
free_matches : (size : Size) (free : Cube) → IsCube size free → IsFree free → (point : List Bool) → length point ≡ size.inputs → matches free.symbols point ≡ true
free_matches size free cube no_literal point len =
    matches-from_agrees free.symbols point (len ∙ sym cube.has_size.0) (λ i lt. ap (λ s. agrees s (get_or point i false)) (no_literal i))

-- the length of a point that a cube has
long : (size : Size) (c : Cube) (point : List Bool) → IsCube size c → matches c.symbols point ≡ true → length point ≡ size.inputs
long size c point cube h = length-matches c.symbols point h ∙ cube.has_size.0

-- a cube over one without a literal has none
free_above : (size : Size) (d free : Cube) → IsCube size d → IsCube size free → IsFree free → IsSubset (holds free) (holds d) → IsFree d
free_above size d free cube_d cube no_literal sub =
    let on = some_true free.outputs cube.some_output in
    let covers = Covers-from_IsSubset d free (same_size size d free cube_d cube) on.0 on.1 sub in
    λ k. dash_above (get_or d.symbols k Dash) (λ b. covers.inputs k b (ap (λ s. agrees s b) (no_literal k)))

-- ---- the part without a literal, row by row

pub IsFreePart-first : (size : Size) (cubes : List Cube) (row : Cube) → IsCube size row → Contains cubes row → IsFree row → IsFreePart size cubes row
IsFreePart-first size cubes row cube member no_literal = record {
  is_cube = cube;
  no_literal = no_literal;
  within = λ p h. list_any_from (λ (c : Cube). holds c p) cubes row member h;
}

pub IsFreePart-joined : (size : Size) (cubes : List Cube) (old row both : Cube) → IsFreePart size cubes old → IsCube size row → Contains cubes row → IsFree row → IsCube size both
    → ((p : Place) → holds both p ≡ ((matches old.symbols p.point && matches row.symbols p.point) && (get_or old.outputs p.output false || get_or row.outputs p.output false)))
    → IsFreePart size cubes both
IsFreePart-joined size cubes old row both h cube member no_literal cube_both is = record {
  is_cube = cube_both;
  no_literal = free_above size both old cube_both h.is_cube h.no_literal (λ p k.
      let parts = and_parts (matches old.symbols p.point) (get_or old.outputs p.output false) k in
      let other = free_matches size row cube no_literal p.point (long size old p.point h.is_cube parts.0) in
      is p ∙ and_from (matches old.symbols p.point && matches row.symbols p.point) (get_or old.outputs p.output false || get_or row.outputs p.output false)
      (and_from (matches old.symbols p.point) (matches row.symbols p.point) parts.0 other)
      (or_left (get_or old.outputs p.output false) (get_or row.outputs p.output false) parts.1));
  within = λ p k.
      let parts = and_parts (matches old.symbols p.point && matches row.symbols p.point) (get_or old.outputs p.output false || get_or row.outputs p.output false) (sym (is p) ∙ k) in
      let points = and_parts (matches old.symbols p.point) (matches row.symbols p.point) parts.0 in
      elim (or_cases (get_or old.outputs p.output false) (get_or row.outputs p.output false) parts.1) [
        | inl mine ↦ h.within p (and_from (matches old.symbols p.point) (get_or old.outputs p.output false) points.0 mine)
        | inr theirs ↦ list_any_from (λ (c : Cube). holds c p) cubes row member (and_from (matches row.symbols p.point) (get_or row.outputs p.output false) points.1 theirs)
      ];
}

-- a cube stacked with one without a literal is a cube
pub stack_IsCube : (size : Size) (row free both : Cube) → IsCube size row → IsCube size free → IsFree free → SameSize both row
    → ((p : Place) → holds both p ≡ ((matches row.symbols p.point && matches free.symbols p.point) && (get_or row.outputs p.output false || get_or free.outputs p.output false)))
    → IsCube size both
stack_IsCube size row free both cube cube_free no_literal same is =
    let on = some_true row.outputs cube.some_output in
    let point = map pick row.symbols in
    let mine = matches-map_pick row.symbols in
    let other = free_matches size free cube_free no_literal point (long size row point cube mine) in
    let place : Place = record { point = point; output = on.0 } in
    record {
      has_size = (same.0 ∙ cube.has_size.0, same.1 ∙ cube.has_size.1);
      some_output = output_of_place both place
          (is place ∙ and_from (matches row.symbols point && matches free.symbols point) (get_or row.outputs on.0 false || get_or free.outputs on.0 false)
          (and_from (matches row.symbols point) (matches free.symbols point) mine other)
          (or_left (get_or row.outputs on.0 false) (get_or free.outputs on.0 false) on.1));
    }

-- ---- the rows at other outputs, row by row

spread : (a m r n : Bool) → ((a && n) || ((m && (r && n)) || false)) ≡ ((a || ((m && r) || false)) && n)
spread true true true true = refl
spread true true false true = refl
spread true false r true = refl
spread true true true false = refl
spread true true false false = refl
spread true false r false = refl
spread false true true true = refl
spread false true true false = refl
spread false true false n = refl
spread false false r n = refl

skip : (a m r n : Bool) → (r ≡ true → n ≡ true → ⊥) → (a && n) ≡ ((a || ((m && r) || false)) && n)
skip true m r n h = refl
skip false true true true h = absurd (h refl refl)
skip false true true false h = refl
skip false true false n h = refl
skip false false r n h = refl

pub IsRest-nothing : (size : Size) (free : Cube) → IsRest size [] free []
IsRest-nothing size free = record {
  are_cubes = members_all (IsCube size) [] (λ c h. absurd (Contains-nil c h));
  places = λ p. refl;
  literals = λ k h. refl;
}

module _ (size : Size) (rows : List Cube) (i : ℕ) (row free : Cube) (rest : List Cube) (lt : i < length rows) (at : row ≡ get_or rows i row)
    (cube : IsCube size row) (cube_free : IsCube size free) (before : IsRest size (take i rows) free rest) where
  more : take (i + 1) rows ≡ take i rows ++ row ∷ []
  more = take_more rows i row lt ∙ ap (λ c. take i rows ++ c ∷ []) (sym at)

  abbrev kept : Place → Bool
  kept p = not (get_or free.outputs p.output false)

  same_outputs : length row.outputs ≡ length free.outputs
  same_outputs = cube.has_size.1 ∙ sym cube_free.has_size.1

  is_rest : IsTrue (list_any (λ b. b) (minus row.outputs free.outputs)) → IsCube size (rest_row row free)
  is_rest some = record { has_size = (cube.has_size.0, length-minus row.outputs free.outputs same_outputs ∙ cube.has_size.1); some_output = some }

  pub IsRest-more : IsTrue (list_any (λ b. b) (minus row.outputs free.outputs)) → (new : List Cube) → new ≡ rest ++ rest_row row free ∷ [] → IsRest size (take (i + 1) rows) free new
  IsRest-more some new is =
      subst (IsRest size (take (i + 1) rows) free) (sym is) (subst (λ l. IsRest size l free (rest ++ rest_row row free ∷ [])) (sym more) (record {
        are_cubes = members_all (IsCube size) (rest ++ rest_row row free ∷ []) (λ c h. elim (Contains-append_cases rest (rest_row row free ∷ []) c h) [
          | inl old ↦ all_members (IsCube size) rest before.are_cubes c old
          | inr new ↦ elim (Contains-cases (rest_row row free) [] c new) [
            | inl here ↦ subst (IsCube size) here (is_rest some)
            | inr there ↦ absurd (Contains-nil c there)
          ]
        ]);
        places = λ p.
            places-append rest (rest_row row free ∷ []) p
            ∙ ap (λ x. x || (holds (rest_row row free) p || false)) (before.places p)
            ∙ ap (λ x. (places (take i rows) p && kept p) || ((matches row.symbols p.point && x) || false)) (get_or-minus row.outputs free.outputs p.output same_outputs)
            ∙ spread (places (take i rows) p) (matches row.symbols p.point) (get_or row.outputs p.output false) (kept p)
            ∙ ap (λ x. x && kept p) (sym (places-append (take i rows) (row ∷ []) p));
        literals = λ k h.
            let parts = or_parts (has_literal k (take i rows)) (has_literal k (row ∷ [])) (sym (has_literal-append k (take i rows) (row ∷ [])) ∙ h) in
            has_literal-append k rest (rest_row row free ∷ []) ∙ or_from (has_literal k rest) (has_literal k (rest_row row free ∷ [])) (before.literals k parts.0) parts.1;
      }))

  pub IsRest-same : (r : Bool) → (IsTrue r ↔ IsTrue (list_any (λ b. b) (minus row.outputs free.outputs))) → r ≡ false → IsRest size (take (i + 1) rows) free rest
  IsRest-same r says off =
      subst (λ l. IsRest size l free rest) (sym more) (record {
        are_cubes = before.are_cubes;
        places = λ p.
            before.places p
            ∙ skip (places (take i rows) p) (matches row.symbols p.point) (get_or row.outputs p.output false) (kept p)
            (λ on out. false≢true (sym off ∙ says.1 (true_some (minus row.outputs free.outputs) p.output
            (get_or-minus row.outputs free.outputs p.output same_outputs ∙ and_from (get_or row.outputs p.output false) (kept p) on out))))
            ∙ ap (λ x. x && kept p) (sym (places-append (take i rows) (row ∷ []) p));
        literals = λ k h. before.literals k (or_parts (has_literal k (take i rows)) (has_literal k (row ∷ [])) (sym (has_literal-append k (take i rows) (row ∷ [])) ∙ h)).0;
      })

pub live-rest : (size : Size) (cubes rest others : List Cube) (free : Cube) → IsRest size cubes free rest → (n : ℕ) → live n rest others ≤ live n cubes others
live-rest size cubes rest others free left =
    live-at_most cubes others rest others
    (λ k h. let both = or_parts (has_literal k cubes) (has_literal k others) h in
    or_from (has_literal k rest) (has_literal k others) (left.literals k both.0) both.1)

-- ---- wider rows, row by row

pub AreWider-nothing : (size : Size) (free : Cube) → AreWider size free [] []
AreWider-nothing size free = record {
  are_cubes = members_all (IsCube size) [] (λ c h. absurd (Contains-nil c h));
  from = λ m h. absurd (Contains-nil m h);
  over = λ c h. absurd (Contains-nil c h);
}

module _ (size : Size) (rows : List Cube) (i : ℕ) (row free : Cube) (wide : List Cube) (lt : i < length rows) (at : row ≡ get_or rows i row)
    (cube : IsCube size row) (cube_free : IsCube size free) (no_literal : IsFree free) where
  other_matches : (point : List Bool) → matches row.symbols point ≡ true → matches free.symbols point ≡ true
  other_matches point h = free_matches size free cube_free no_literal point (long size row point cube h)

  -- the two share points
  pub shares_point : ((point : List Bool) → IsTrue (matches row.symbols point) → IsTrue (matches free.symbols point) → ⊥) → ⊥
  shares_point apart = apart (map pick row.symbols) (matches-map_pick row.symbols) (other_matches (map pick row.symbols) (matches-map_pick row.symbols))

  one_of : (m r : Bool) (x : Bool) → (m ≡ true → r ≡ true) → ((m && r) && x) ≡ (m && x)
  one_of true r x h = ap (λ y. y && x) (h refl)
  one_of false r x h = refl

  pub AreWider-more : AreWider size free (take i rows) wide → (both : Cube) → IsCube size both
      → ((p : Place) → holds both p ≡ ((matches row.symbols p.point && matches free.symbols p.point) && (get_or row.outputs p.output false || get_or free.outputs p.output false)))
      → (new : List Cube) → new ≡ wide ++ both ∷ [] → AreWider size free (take (i + 1) rows) new
  AreWider-more before both cube_both is new e =
      let is_wider : IsWider free row both = λ p. is p
      ∙ one_of (matches row.symbols p.point) (matches free.symbols p.point) (get_or row.outputs p.output false || get_or free.outputs p.output false) (other_matches p.point) in
      let more : take (i + 1) rows ≡ take i rows ++ row ∷ [] = take_more rows i row lt ∙ ap (λ c. take i rows ++ c ∷ []) (sym at) in
      subst (AreWider size free (take (i + 1) rows)) (sym e) (subst (λ l. AreWider size free l (wide ++ both ∷ [])) (sym more) (record {
        are_cubes = members_all (IsCube size) (wide ++ both ∷ []) (λ c h. elim (Contains-append_cases wide (both ∷ []) c h) [
          | inl old ↦ all_members (IsCube size) wide before.are_cubes c old
          | inr new ↦ elim (Contains-cases both [] c new) [
            | inl here ↦ subst (IsCube size) here cube_both
            | inr there ↦ absurd (Contains-nil c there)
          ]
        ]);
        from = λ m h. elim (Contains-append_cases wide (both ∷ []) m h) [
          | inl old ↦ let r = before.from m old in (r.0, Contains-append_left (take i rows) (row ∷ []) r.0 r.1, r.2)
          | inr new ↦ elim (Contains-cases both [] m new) [
            | inl here ↦ (row, Contains-append_right (take i rows) (row ∷ []) row (Contains-here row []), subst (IsWider free row) here is_wider)
            | inr there ↦ absurd (Contains-nil m there)
          ]
        ];
        over = λ c h. elim (Contains-append_cases (take i rows) (row ∷ []) c h) [
          | inl old ↦ let r = before.over c old in (r.0, Contains-append_left wide (both ∷ []) r.0 r.1, r.2)
          | inr new ↦ elim (Contains-cases row [] c new) [
            | inl here ↦ (both, Contains-append_right wide (both ∷ []) both (Contains-here both []), subst (λ x. IsWider free x both) here is_wider)
            | inr there ↦ absurd (Contains-nil c there)
          ]
        ];
      }))

-- ---- the sum

module _ (size : Size) (cubes rest : List Cube) (free : Cube) (part : IsFreePart size cubes free) (left : IsRest size cubes free rest) where
  abbrev has : Cube → Place → Bool
  has c p = get_or c.outputs p.output false

  abbrev at_output : Place → ℕ → Place
  at_output p j = record { point = p.point; output = j }

  into_rest : (p : Place) → places cubes p ≡ true → has free p ≡ false → places rest p ≡ true
  into_rest p h off = left.places p ∙ and_from (places cubes p) (not (has free p)) h (ap not off)

  from_rest : (p : Place) → places rest p ≡ true → (places cubes p ≡ true) × (has free p ≡ false)
  from_rest p h = let parts = and_parts (places cubes p) (not (has free p)) (sym (left.places p) ∙ h) in (parts.0, off_from (has free p) parts.1)

  from_free : (c : Cube) (p : Place) → IsCube size c → matches c.symbols p.point ≡ true → has free p ≡ true → holds free p ≡ true
  from_free c p cube h on = and_from (matches free.symbols p.point) (has free p) (free_matches size free part.is_cube part.no_literal p.point (long size c p.point cube h)) on

  lengths : (d : Cube) → IsCube size d → length d.outputs ≡ length free.outputs
  lengths d cube = cube.has_size.1 ∙ sym part.is_cube.has_size.1

  -- a cube at the other outputs
  cut_holds : (d : Cube) (p : Place) → IsCube size d → matches d.symbols p.point ≡ true → has d p ≡ true → has free p ≡ false → holds (rest_row d free) p ≡ true
  cut_holds d p cube h on off = and_from (matches d.symbols p.point) (get_or (minus d.outputs free.outputs) p.output false) h
      (get_or-minus d.outputs free.outputs p.output (lengths d cube) ∙ and_from (has d p) (not (has free p)) on (ap not off))

  cut_parts : (d : Cube) (p : Place) → IsCube size d → holds (rest_row d free) p ≡ true → (matches d.symbols p.point ≡ true) × (has d p ≡ true) × (has free p ≡ false)
  cut_parts d p cube h =
      let parts = and_parts (matches d.symbols p.point) (get_or (minus d.outputs free.outputs) p.output false) h in
      let own = and_parts (has d p) (not (has free p)) (sym (get_or-minus d.outputs free.outputs p.output (lengths d cube)) ∙ parts.1) in
      (parts.0, own.0, off_from (has free p) own.1)

  cut_cube : (d : Cube) → IsCube size d → list_any (λ b. b) (minus d.outputs free.outputs) ≡ true → IsCube size (rest_row d free)
  cut_cube d cube some = record { has_size = (cube.has_size.0, length-minus d.outputs free.outputs (lengths d cube) ∙ cube.has_size.1); some_output = some }

  cut_some : (d : Cube) (j : ℕ) → IsCube size d → get_or d.outputs j false ≡ true → get_or free.outputs j false ≡ false → list_any (λ b. b) (minus d.outputs free.outputs) ≡ true
  cut_some d j cube on off = true_some (minus d.outputs free.outputs) j
      (get_or-minus d.outputs free.outputs j (lengths d cube) ∙ and_from (get_or d.outputs j false) (not (get_or free.outputs j false)) on (ap not off))

  cut_within : (d : Cube) → IsCube size d → IsSubset (holds d) (places cubes) → IsSubset (holds (rest_row d free)) (places rest)
  cut_within d cube sub p h =
      let parts = cut_parts d p cube h in
      into_rest p (sub p (and_from (matches d.symbols p.point) (has d p) parts.0 parts.1)) parts.2

  -- a cube with the outputs beside its own
  abbrev wide_row : Cube → Cube
  wide_row d = record { symbols = d.symbols; outputs = zip2 (λ b o. b || o) d.outputs free.outputs }

  wide_has : (d : Cube) (p : Place) → IsCube size d → has (wide_row d) p ≡ (has d p || has free p)
  wide_has d p cube = get_or-zip2_any (λ b o. b || o) d.outputs free.outputs p.output false false false (lengths d cube) refl

  wide_holds : (d : Cube) (p : Place) → IsCube size d → matches d.symbols p.point ≡ true → (has d p || has free p) ≡ true → holds (wide_row d) p ≡ true
  wide_holds d p cube h on = and_from (matches d.symbols p.point) (has (wide_row d) p) h (wide_has d p cube ∙ on)

  wide_cube : (d : Cube) → IsCube size d → IsCube size (wide_row d)
  wide_cube d cube =
      let on = some_true d.outputs cube.some_output in
      let p : Place = record { point = []; output = on.0 } in
      record {
        has_size = (cube.has_size.0, length-zip2 (λ b o. b || o) d.outputs free.outputs (lengths d cube) ∙ cube.has_size.1);
        some_output = true_some (wide_row d).outputs on.0 (wide_has d p cube ∙ or_left (has d p) (has free p) on.1);
      }

  wide_within : (d : Cube) → IsCube size d → IsSubset (holds d) (places cubes) → IsSubset (holds (wide_row d)) (places cubes)
  wide_within d cube sub p h =
      let parts = and_parts (matches d.symbols p.point) (has (wide_row d) p) h in
      elim (or_cases (has d p) (has free p) (sym (wide_has d p cube) ∙ parts.1)) [
        | inl own ↦ sub p (and_from (matches d.symbols p.point) (has d p) parts.0 own)
        | inr on ↦ part.within p (from_free d p cube parts.0 on)
      ]

  -- a largest cube at the other outputs, with these beside its own
  wide_maximal : (c m : Cube) → IsMaximal size (places rest) c → IsCube size m → IsWider free c m → IsMaximal size (places cubes) m
  wide_maximal c m max cube w =
      let on = some_true c.outputs max.is_cube.some_output in
      let q0 : Place = record { point = map pick c.symbols; output = on.0 } in
      let off : has free q0 ≡ false = (from_rest q0 (max.within q0 (and_from (matches c.symbols q0.point) (has c q0) (matches-map_pick c.symbols) on.1))).1 in
      record {
        is_cube = cube;
        within = λ p h.
            let parts = and_parts (matches c.symbols p.point) (has c p || has free p) (sym (w p) ∙ h) in
            elim (or_cases (has c p) (has free p) parts.1) [
              | inl own ↦ (from_rest p (max.within p (and_from (matches c.symbols p.point) (has c p) parts.0 own))).0
              | inr free_on ↦ part.within p (from_free c p max.is_cube parts.0 free_on)
            ];
        largest = λ d cube_d sub above.
            let d_on : get_or d.outputs on.0 false ≡ true = (and_parts (matches d.symbols q0.point) (has d q0) (above q0
            (w q0 ∙ and_from (matches c.symbols q0.point) (has c q0 || has free q0) (matches-map_pick c.symbols) (or_left (has c q0) (has free q0) on.1)))).1 in
            let back = max.largest (rest_row d free) (cut_cube d cube_d (cut_some d on.0 cube_d d_on off)) (cut_within d cube_d sub)
            (λ q hq.
            let own = and_parts (matches c.symbols q.point) (has c q) hq in
            let hd = and_parts (matches d.symbols q.point) (has d q) (above q (w q ∙ and_from (matches c.symbols q.point) (has c q || has free q) own.0 (or_left (has c q) (has free q) own.1))) in
            cut_holds d q cube_d hd.0 hd.1 (from_rest q (max.within q hq)).1) in
            λ p k.
            let pk = and_parts (matches d.symbols p.point) (has d p) k in
            let r = and_parts (matches c.symbols p.point) (get_or c.outputs on.0 false) (back (at_output p on.0) (cut_holds d (at_output p on.0) cube_d pk.0 d_on off)) in
            w p ∙ and_from (matches c.symbols p.point) (has c p || has free p) r.0 (elim (cases_Bool (has free p)) [
              | inl free_on ↦ or_right (has c p) (has free p) free_on
              | inr free_off ↦ or_left (has c p) (has free p) (and_parts (matches c.symbols p.point) (has c p) (back p (cut_holds d p cube_d pk.0 pk.1 free_off))).1
            ]);
      }

  -- that row itself, if no largest cube at the other outputs is without a literal
  free_maximal : ((m : Cube) → Contains (complete_sum size (places rest)) m → IsFree m → ⊥) → IsMaximal size (places cubes) free
  free_maximal none' = record {
    is_cube = part.is_cube;
    within = part.within;
    largest = λ d cube sub above p k.
        let parts = and_parts (matches d.symbols p.point) (has d p) k in
        elim (cases_Bool (has free p)) [
          | inl on ↦ from_free d p cube parts.0 on
          | inr off ↦
              let cube' = cut_cube d cube (cut_some d p.output cube parts.1 off) in
              let r = complete_sum-over size (places rest) (rest_row d free) cube' (cut_within d cube sub) in
              let max = (Contains-complete_sum size (places rest) r.0).0 r.1 in
              let d_free = free_above size d free cube part.is_cube part.no_literal above in
              absurd (none' r.0 r.1 (free_above size r.0 (rest_row d free) max.is_cube cube' d_free r.2))
        ];
  }

  -- each largest cube has these outputs
  has_all : (m : Cube) → IsMaximal size (places cubes) m → (p : Place) → matches m.symbols p.point ≡ true → has free p ≡ true → has m p ≡ true
  has_all m max p h on =
      (and_parts (matches m.symbols p.point) (has m p)
      (max.largest (wide_row m) (wide_cube m max.is_cube) (wide_within m max.is_cube max.within)
      (λ q hq. let own = and_parts (matches m.symbols q.point) (has m q) hq in wide_holds m q max.is_cube own.0 (or_left (has m q) (has free q) own.1))
      p (wide_holds m p max.is_cube h (or_right (has m p) (has free p) on)))).1

  -- and is largest at the others, if it has others
  cut_maximal : (m : Cube) → IsMaximal size (places cubes) m → list_any (λ b. b) (minus m.outputs free.outputs) ≡ true → IsMaximal size (places rest) (rest_row m free)
  cut_maximal m max some =
      let cube = max.is_cube in
      let j = some_true (minus m.outputs free.outputs) some in
      let at_j = and_parts (get_or m.outputs j.0 false) (not (get_or free.outputs j.0 false)) (sym (get_or-minus m.outputs free.outputs j.0 (lengths m cube)) ∙ j.1) in
      record {
        is_cube = cut_cube m cube some;
        within = cut_within m cube max.within;
        largest = λ d cube_d sub above p k.
            let in_cubes : IsSubset (holds d) (places cubes) = λ q hq. (from_rest q (sub q hq)).0 in
            let back = max.largest (wide_row d) (wide_cube d cube_d) (wide_within d cube_d in_cubes)
            (λ q hq.
            let own = and_parts (matches m.symbols q.point) (has m q) hq in
            let at = and_parts (matches d.symbols q.point) (get_or d.outputs j.0 false)
            (above (at_output q j.0) (cut_holds m (at_output q j.0) cube own.0 at_j.0 (off_from (get_or free.outputs j.0 false) at_j.1))) in
            wide_holds d q cube_d at.0 (elim (cases_Bool (has free q)) [
              | inl on ↦ or_right (has d q) (has free q) on
              | inr off ↦ or_left (has d q) (has free q) (and_parts (matches d.symbols q.point) (has d q) (above q (cut_holds m q cube own.0 own.1 off))).1
            ])) in
            let own = and_parts (matches d.symbols p.point) (has d p) k in
            let in_m = and_parts (matches m.symbols p.point) (has m p) (back p (wide_holds d p cube_d own.0 (or_left (has d p) (has free p) own.1))) in
            cut_holds m p cube in_m.0 in_m.1 (from_rest p (sub p k)).1;
      }

  module _ (sum wide : List Cube) (is : sum ≡ complete_sum size (places rest)) (widened : AreWider size free sum wide) where
    in_sum : (c : Cube) → Contains sum c → IsMaximal size (places rest) c
    in_sum c h = (Contains-complete_sum size (places rest) c).0 (subst (λ l. Contains l c) is h)

    wide_to : (m : Cube) → Contains wide m → IsMaximal size (places cubes) m
    wide_to m h = let r = widened.from m h in wide_maximal r.0 m (in_sum r.0 r.1) (all_members (IsCube size) wide widened.are_cubes m h) r.2

    with_more : (m : Cube) → IsMaximal size (places cubes) m → list_any (λ b. b) (minus m.outputs free.outputs) ≡ true → Contains wide m
    with_more m max some =
        let cube = max.is_cube in
        let r = widened.over (rest_row m free) (subst (λ l. Contains l (rest_row m free)) (sym is) ((Contains-complete_sum size (places rest) (rest_row m free)).1 (cut_maximal m max some))) in
        let minus_has = λ (p : Place). get_or-minus m.outputs free.outputs p.output (lengths m cube) in
        subst (Contains wide) (same_from_places size r.0 m (all_members (IsCube size) wide widened.are_cubes r.0 r.1) cube
        (λ p h.
        let parts = and_parts (matches m.symbols p.point) (get_or (minus m.outputs free.outputs) p.output false || has free p) (sym (r.2 p) ∙ h) in
        and_from (matches m.symbols p.point) (has m p) parts.0 (elim (or_cases (get_or (minus m.outputs free.outputs) p.output false) (has free p) parts.1) [
          | inl own ↦ (and_parts (has m p) (not (has free p)) (sym (minus_has p) ∙ own)).0
          | inr on ↦ has_all m max p parts.0 on
        ]))
        (λ p h.
        let parts = and_parts (matches m.symbols p.point) (has m p) h in
        r.2 p ∙ and_from (matches m.symbols p.point) (get_or (minus m.outputs free.outputs) p.output false || has free p) parts.0 (elim (cases_Bool (has free p)) [
          | inl on ↦ or_right (get_or (minus m.outputs free.outputs) p.output false) (has free p) on
          | inr off ↦ or_left (get_or (minus m.outputs free.outputs) p.output false) (has free p) (minus_has p ∙ and_from (has m p) (not (has free p)) parts.1 (ap not off))
        ]))) r.1

    -- a largest cube with no other outputs is the row without a literal
    alone : (m : Cube) → IsMaximal size (places cubes) m → list_any (λ b. b) (minus m.outputs free.outputs) ≡ false → m ≡ free
    alone m max none' =
        let cube = max.is_cube in
        let below : IsSubset (holds m) (holds free) = λ p h.
        let parts = and_parts (matches m.symbols p.point) (has m p) h in
        from_free m p cube parts.0 (elim (cases_Bool (has free p)) [
          | inl on ↦ on
          | inr off ↦ absurd (false≢true (sym none' ∙ cut_some m p.output cube parts.1 off))
        ]) in
        same_from_places size m free cube part.is_cube below (max.largest free part.is_cube part.within below)

    -- which is within a wider one, if one of the sum is without a literal
    not_alone : (m c : Cube) → IsMaximal size (places cubes) m → m ≡ free → Contains sum c → IsFree c → ⊥
    not_alone m c max same member no_literal =
        let own = in_sum c member in
        let cube = own.is_cube in
        let in_cubes : IsSubset (holds c) (places cubes) = λ q hq. (from_rest q (own.within q hq)).0 in
        let below = subst (λ x. IsSubset (holds (wide_row c)) (holds x)) same (max.largest (wide_row c) (wide_cube c cube) (wide_within c cube in_cubes) (subst (λ x. IsSubset (holds x) (holds (wide_row c))) (sym same) (λ p h.
        let parts = and_parts (matches free.symbols p.point) (has free p) h in
        wide_holds c p cube (free_matches size c cube no_literal p.point (long size free p.point part.is_cube parts.0)) (or_right (has c p) (has free p) parts.1)))) in
        let on = some_true c.outputs cube.some_output in
        let q : Place = record { point = map pick c.symbols; output = on.0 } in
        let held = and_from (matches c.symbols q.point) (has c q) (matches-map_pick c.symbols) on.1 in
        let free_on = (and_parts (matches free.symbols q.point) (has free q) (below q (wide_holds c q cube (matches-map_pick c.symbols) (or_left (has c q) (has free q) on.1)))).1 in
        false≢true (sym (from_rest q (own.within q held)).1 ∙ free_on)

    pub complete_sum-widened : (all : List Cube) → IsStrictlySortedBy row_cmp all → HasSameCubes wide all → (c : Cube) → Contains sum c → IsFree c
        → all ≡ complete_sum size (places cubes)
    complete_sum-widened all rising same c member no_literal =
        complete_sum-from_members size (places cubes) all rising
        (λ m h. wide_to m ((same m).1 h))
        (λ m max. elim (cases_Bool (list_any (λ b. b) (minus m.outputs free.outputs))) [
          | inl some ↦ (same m).0 (with_more m max some)
          | inr none' ↦ absurd (not_alone m c max (alone m max none') member no_literal)
        ])

    pub complete_sum-with_constant_outputs : (all : List Cube) → IsStrictlySortedBy row_cmp all → HasSameCubes (free ∷ wide) all → ((c : Cube) → Contains sum c → IsFree c → ⊥)
        → all ≡ complete_sum size (places cubes)
    complete_sum-with_constant_outputs all rising same none' =
        complete_sum-from_members size (places cubes) all rising
        (λ m h. elim (Contains-cases free wide m ((same m).1 h)) [
          | inl here ↦ subst (IsMaximal size (places cubes)) here (free_maximal (λ c k. none' c (subst (λ l. Contains l c) (sym is) k)))
          | inr there ↦ wide_to m there
        ])
        (λ m max. elim (cases_Bool (list_any (λ b. b) (minus m.outputs free.outputs))) [
          | inl some ↦ (same m).0 (Contains-append_right (free ∷ []) wide m (with_more m max some))
          | inr out ↦ (same m).0 (subst (Contains (free ∷ wide)) (sym (alone m max out)) (Contains-here free wide))
        ])
