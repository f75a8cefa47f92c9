-- The rows that have outputs of a region hold its places as all rows do.
use Rattle.std.proofs.Common.{◌≡◌, ℕ, ◌+◌, ◌<◌, ◌≤◌, inl, inr, ◌↔◌, IsTrue, Bool, true, false, not, List, [], ◌∷◌, ◌++◌, All, length, get_or, ap, sym, subst, ◌∙◌, arith}
use Rattle.std.specs.Prelude.{Option, Some, IfSome, Vec, slice_get, unwrap_or}
use Rattle.std.specs.List.{Contains}
use Rattle.std.specs.Borrow.{Bor}
use Rattle.std.proofs.Math.Seq.{get_or-append_seam}
use Rattle.std.proofs.lemmas.Bool.{cases_Bool, cases_eq, cases_lt, false≢true, and_parts}
use Rattle.std.proofs.lemmas.List.{get_or_past, get_or_append_left, length-append}
use Rattle.std.proofs.lemmas.List.Elements.{Contains-append_left, Contains-append_right, Contains-append_cases}
use Rattle.std.proofs.lemmas.Option.{slice_get_within, slice_get-get_or}
use Rattle.cube.specs.Pattern.{matches}
use Rattle.cube.specs.Cube.{Cube, Place, holds, HasSize, SameSize, IsSubset, IsDisjoint}
use Rattle.cube.specs.Size.{Size}
use Rattle.cube.proofs.Members.{Contains-nil, Contains-map, Contains-map_cases, Contains-filter, Contains-filter_cases}
use Rattle.rows.specs.Cubes.{AreCubes}
use Rattle.rows.specs.Places.{places, behind}
use Rattle.rows.proofs.Lists.{list_any_from, list_any_witness, all_members, members_all, sizes_of_cubes}
use Rattle.growth.specs.declared.prime.Side.{Side}
use Rattle.growth.specs.declared.prime.Side.TheVariants.{Inside, Outside}
use Rattle.growth.specs.Growth.{on_side}
use Rattle.growth.specs.RowsByOutput.{with_output, HoldSame}

-- a place in some row that references are to
place_of_member : (refs : List (Bor Cube)) (p : Place) → places (behind refs) p ≡ true → (r : Bor Cube) × Contains refs r × (holds r.now p ≡ true)
place_of_member refs p h =
    let w = list_any_witness (λ c. holds c p) (behind refs) h in
    let r = Contains-map_cases (λ (x : Bor Cube). x.now) refs w.0 w.1 in
    (r.0, r.1, ap (λ c. holds c p) r.2 ∙ w.2)

member_place : (refs : List (Bor Cube)) (p : Place) (r : Bor Cube) → Contains refs r → holds r.now p ≡ true → places (behind refs) p ≡ true
member_place refs p r among h = list_any_from (λ c. holds c p) (behind refs) r.now (Contains-map (λ (x : Bor Cube). x.now) refs r among) h

-- rows of all of which each place of the region under the first n outputs is in one
pub record AreReaching (region : Cube) (all found : List (Bor Cube)) (n : ℕ) : Type 0 where
  pub among : (d : Bor Cube) → Contains found d → Contains all d
  pub held : (p : Place) → p.output < n → get_or region.outputs p.output false ≡ true → places (behind all) p ≡ true → places (behind found) p ≡ true

module _ (region : Cube) (all : List (Bor Cube)) where
  pub reaching_none : AreReaching region all [] 0
  reaching_none = record { among = λ d h. absurd (Contains-nil d h); held = λ p lt. absurd (omega (arith, lt)) }

  module _ (found : List (Bor Cube)) (n : ℕ) (so : AreReaching region all found n) where
    pub reaching_lacks : get_or region.outputs n false ≡ false → AreReaching region all found (n + 1)
    reaching_lacks lacks = record {
      among = so.among;
      held = λ p lt on in_all. elim (cases_eq p.output n) [
        | inl e ↦ absurd (false≢true (sym lacks ∙ ap (λ j. get_or region.outputs j false) (sym e) ∙ on))
        | inr ne ↦ so.held p (omega (arith, lt, ne)) on in_all
      ];
    }

    pub reaching_more : (few new : List (Bor Cube)) → few ≡ with_output n all → new ≡ found ++ few → AreReaching region all new (n + 1)
    reaching_more few new is joined = record {
      among = λ d h. elim (Contains-append_cases found few d (subst (λ l. Contains l d) joined h)) [
        | inl old ↦ so.among d old
        | inr more ↦ (Contains-filter_cases (λ (x : Bor Cube). get_or x.now.outputs n false) all d (subst (λ l. Contains l d) is more)).0
      ];
      held = λ p lt on in_all. subst (λ l. places (behind l) p ≡ true) (sym joined) (elim (cases_eq p.output n) [
        | inl e ↦
            let w = place_of_member all p in_all in
            let has = ap (λ j. get_or w.0.now.outputs j false) (sym e) ∙ (and_parts (matches w.0.now.symbols p.point) (get_or w.0.now.outputs p.output false) w.2).1 in
            let kept = Contains-filter (λ (x : Bor Cube). get_or x.now.outputs n false) all w.0 w.1 has in
            member_place (found ++ few) p w.0 (Contains-append_right found few w.0 (subst (λ l. Contains l w.0) (sym is) kept)) w.2
        | inr ne ↦
            let w = place_of_member found p (so.held p (omega (arith, lt, ne)) on in_all) in
            member_place (found ++ few) p w.0 (Contains-append_left found few w.0 w.1) w.2
      ]);
    }

    pub reaching_all : length region.outputs ≤ n → (rows : List Cube) → behind all ≡ rows → HoldSame region (behind found) rows
    reaching_all long rows is p in_region =
        let on = (and_parts (matches region.symbols p.point) (get_or region.outputs p.output false) in_region).1 in
        let lt : p.output < n = elim (cases_lt p.output (length region.outputs)) [
          | inl lt ↦ omega (arith, lt, long)
          | inr past ↦ absurd (false≢true (sym (get_or_past region.outputs p.output false past) ∙ on))
        ] in
        let e : places rows p ≡ places (behind all) p = ap (λ l. places l p) (sym is) in
        elim (cases_Bool (places (behind all) p)) [
          | inl held ↦ so.held p lt on held ∙ sym held ∙ sym e
          | inr off ↦ elim (cases_Bool (places (behind found) p)) [
            | inr none' ↦ none' ∙ sym off ∙ sym e
            | inl some ↦ absurd (let w = place_of_member found p some in false≢true (sym off ∙ member_place all p w.0 (so.among w.0 w.1) w.2))
          ]
        ]

    pub reaching_sizes : (size : Size) (rows : List Cube) → AreCubes size rows → behind all ≡ rows → HasSize region size → All (λ d. SameSize d.now region) found
    reaching_sizes size rows are is long =
        members_all (λ d. SameSize d.now region) found (λ d h. all_members (λ d. SameSize d.now region) all (sizes_of_cubes size rows are all is region long) d (so.among d h))

-- the rows of some outputs, with those of one more
pub few_more : {Z : Type 0} (all : List (Bor Cube)) (by : List (Option (Vec (Bor Cube) Z))) (o : Option (Vec (Bor Cube) Z)) (n : ℕ) → length by ≡ n
    → ((j : ℕ) (found : Vec (Bor Cube) Z) → slice_get by j ≡ Some (Some found) → found.items ≡ with_output j all)
    → IfSome o (λ found. found.items ≡ with_output n all)
    → (j : ℕ) (found : Vec (Bor Cube) Z) → slice_get (by ++ o ∷ []) j ≡ Some (Some found) → found.items ≡ with_output j all
few_more all by o n long so own j found at =
    let within : j < length (by ++ o ∷ []) = slice_get_within (by ++ o ∷ []) j (Some found) at in
    elim (cases_lt j (length by)) [
      | inl lt ↦ so j found (slice_get-get_or by j o lt ∙ ap Some (sym (get_or_append_left by (o ∷ []) o j lt)) ∙ sym (slice_get-get_or (by ++ o ∷ []) j o within) ∙ at)
      | inr past ↦
          let e : j ≡ length by = omega (arith, past, within, length-append by (o ∷ [])) in
          let last : Some o ≡ Some (Some found) = ap Some (sym (get_or-append_seam by o [] o)) ∙ ap (λ k. Some (get_or (by ++ o ∷ []) k o)) (sym e) ∙ sym (slice_get-get_or (by ++ o ∷ []) j o within) ∙ at in
          subst (λ k. found.items ≡ with_output k all) (sym (e ∙ long)) (subst (λ x. IfSome x (λ f. f.items ≡ with_output n all)) (ap (λ x. unwrap_or x o) last) own)
    ]

-- ---- the side of rows that hold the same places of a cube

pub same_answer : (side : Side) (region : Cube) (few rows : List Cube) → HoldSame region few rows → (b : Bool) → IsTrue b ↔ IsSubset (holds region) (on_side side few)
    → IsTrue b ↔ IsSubset (holds region) (on_side side rows)
same_answer Inside region few rows same b answer = (λ on p h. sym (same p h) ∙ answer.0 on p h, λ sub. answer.1 (λ p h. same p h ∙ sub p h))
same_answer Outside region few rows same b answer = (λ on p h. ap not (sym (same p h)) ∙ answer.0 on p h, λ sub. answer.1 (λ p h. ap not (same p h) ∙ sub p h))

outside_from : (region : Cube) (rows : List Cube) (b : Bool) → IsTrue b ↔ IsDisjoint (holds region) (places rows) → IsTrue b ↔ IsSubset (holds region) (on_side Outside rows)
outside_from region rows b answer = (
  λ on p h. elim (cases_Bool (places rows p)) [
    | inl held ↦ absurd (answer.0 on p h held)
    | inr off ↦ ap not off
  ],
  λ sub. answer.1 (λ p h held. false≢true (ap not (sym held) ∙ sub p h)),
)

pub outside_answer : (side : Side) (region : Cube) (rows : List Cube) (b : Bool) → side ≡ Outside → IsTrue b ↔ IsDisjoint (holds region) (places rows) → IsTrue b ↔ IsSubset (holds region) (on_side side rows)
outside_answer side region rows b e answer = subst (λ z. IsTrue b ↔ IsSubset (holds region) (on_side z rows)) (sym e) (outside_from region rows b answer)
