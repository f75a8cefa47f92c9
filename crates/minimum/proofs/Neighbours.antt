-- The rows put back by a step out of a prime.
use Rattle.std.proofs.Common.{◌≡◌, ◌≢◌, ℕ, ◌+◌, ◌<◌, ◌⊎◌, inl, inr, Bool, true, false, not, ◌&&◌, ◌||◌, List, length, take, get_or, set, refl, ap, sym, ◌∙◌, arith, Option, Some, None, IfSome, IfNone}
use Rattle.std.specs.List.{list_any}
use Rattle.std.specs.Option.{is_some}
use Rattle.std.proofs.lemmas.Bool.{cases_Bool, cases_eq, cases_lt, false≢true, and_parts, and_from, or_cases, or_parts, or_from, not-true, not_from_false}
use Rattle.std.proofs.lemmas.List.{get_or-set_other, get_or_past, set-get_or}
use Rattle.cube.specs.declared.symbol.Symbol.{Symbol}
use Rattle.cube.specs.declared.symbol.Symbol.TheVariants.{Dash, Zero, One}
use Rattle.cube.specs.Pattern.{agrees, matches}
use Rattle.cube.specs.Cube.{Cube, Place, holds, with_symbol, SameSize, IsDisjoint, size_of}
use Rattle.cube.specs.Literals.{are_opposite, is_beyond_symbol}
use Rattle.cube.specs.Sharp.{opposite, minus}
use Rattle.cube.proofs.HoldsLemmas.{agrees_at-matches}
use Rattle.cube.proofs.SharpLemmas.{some_true, true_some, get_or-minus}
use Rattle.cover.specs.Cubes.{AreCubes, Cubes}
use Rattle.cover.specs.Places.{places}
use Rattle.cover.proofs.Found.{output_of_place}
use Rattle.cover.proofs.Inputs.{matches-set_bit, matches-own}
use Rattle.cover.proofs.Regions.{zero_literal, one_literal}
use Rattle.minimum.specs.Neighbours.{flip, under, held_by, IsAlone, IsAloneByInputs, IsAloneByOutputs, AreNeighbours, AddsNeighbours}
use Rattle.growth.specs.declared.prime.Side.{Side}
use Rattle.growth.specs.declared.prime.Side.TheVariants.{Inside}
use Rattle.growth.specs.Growth.{on_side, IsBeside, AreNear}
use Rattle.growth.proofs.MorePlaces.{more_places}
use Rattle.growth.proofs.Near.{against, near_side}

-- ---- a symbol at a literal

either : (own t : Symbol) (bit : Bool) → own ≢ Dash → agrees own bit ≡ true → agrees t (not bit) ≡ true → (t ≡ Dash) ⊎ (t ≡ opposite own)
either Dash t bit literal a b = absurd (literal refl)
either Zero Dash bit literal a b = inl refl
either Zero Zero true literal a b = absurd (false≢true a)
either Zero Zero false literal a b = absurd (false≢true b)
either Zero One bit literal a b = inr refl
either One Dash bit literal a b = inl refl
either One Zero bit literal a b = inr refl
either One One true literal a b = absurd (false≢true b)
either One One false literal a b = absurd (false≢true a)

across : (own : Symbol) (bit : Bool) → own ≢ Dash → agrees own bit ≡ true → agrees (opposite own) (not bit) ≡ true
across Dash bit literal a = absurd (literal refl)
across Zero bit literal a = a
across One true literal a = refl
across One false literal a = absurd (false≢true a)

-- a cube that is not apart from another has an output
pub met_output : (a b : Cube) → (IsDisjoint (holds a) (holds b) → ⊥) → list_any (λ x. x) a.outputs ≡ true
met_output a b meets = elim (cases_Bool (list_any (λ x. x) a.outputs)) [
  | inl on ↦ on
  | inr off ↦ absurd (meets (λ p mine theirs. false≢true (sym off ∙ output_of_place a p mine)))
]

-- no opposite literals, and no literal that the second does not have

pub not_opposite : (own t : Symbol) → are_opposite own t ≡ false → t ≡ opposite own → own ≡ Dash
not_opposite Dash t e f = refl
not_opposite Zero t e f = absurd (false≢true (sym e ∙ ap (are_opposite Zero) f))
not_opposite One t e f = absurd (false≢true (sym e ∙ ap (are_opposite One) f))

pub not_beyond : (own t : Symbol) → is_beyond_symbol own t ≡ false → t ≡ Dash → own ≡ Dash
not_beyond Dash t e f = refl
not_beyond Zero t e f = absurd (false≢true (sym e ∙ ap (is_beyond_symbol Zero) f))
not_beyond One t e f = absurd (false≢true (sym e ∙ ap (is_beyond_symbol One) f))

pub beyond_dash : (own t : Symbol) → is_beyond_symbol own t ≡ true → are_opposite own t ≡ false → (own ≢ Dash) × (t ≡ Dash)
beyond_dash Dash t e f = absurd (false≢true e)
beyond_dash Zero Dash e f = (zero_literal, refl)
beyond_dash Zero Zero e f = absurd (false≢true e)
beyond_dash Zero One e f = absurd (false≢true (sym f))
beyond_dash One Dash e f = (one_literal, refl)
beyond_dash One Zero e f = absurd (false≢true (sym f))
beyond_dash One One e f = absurd (false≢true e)

-- ---- a row put back by steps at inputs

module _ (c d : Cube) (size : SameSize d c) (p : Place) (in_c : holds c p ≡ true) where
  point_in : matches c.symbols p.point ≡ true
  point_in = (and_parts (matches c.symbols p.point) (get_or c.outputs p.output false) in_c).0

  at_input : (k : ℕ) → get_or c.symbols k Dash ≢ Dash → k < length c.symbols
  at_input k literal = elim (cases_lt k (length c.symbols)) [
    | inl lt ↦ lt
    | inr past ↦ absurd (literal (get_or_past c.symbols k Dash past))
  ]

  in_row : (k : ℕ) → get_or c.symbols k Dash ≢ Dash → k < length d.symbols
  in_row k literal = let lt = at_input k literal in omega (arith, size.0, lt)

  own_agrees : (k : ℕ) → get_or c.symbols k Dash ≢ Dash → agrees (get_or c.symbols k Dash) (get_or p.point k false) ≡ true
  own_agrees k literal = agrees_at-matches c.symbols p.point k point_in (at_input k literal)

  -- a step into the row
  step_parts : (k : ℕ) → get_or c.symbols k Dash ≢ Dash → holds d (flip k p) ≡ true
      → (agrees (get_or d.symbols k Dash) (not (get_or p.point k false)) ≡ true) × (matches (set d.symbols k Dash) p.point ≡ true) × (get_or d.outputs p.output false ≡ true)
  step_parts k literal h =
      let parts = and_parts (matches d.symbols (set p.point k (not (get_or p.point k false)))) (get_or d.outputs p.output false) h in
      let inner = and_parts (agrees (get_or d.symbols k Dash) (not (get_or p.point k false))) (matches (set d.symbols k Dash) p.point)
      (sym (matches-set_bit d.symbols p.point k (not (get_or p.point k false)) (in_row k literal)) ∙ parts.0) in
      (inner.0, inner.1, parts.1)

  step_from : (k : ℕ) → get_or c.symbols k Dash ≢ Dash → agrees (get_or d.symbols k Dash) (not (get_or p.point k false)) ≡ true
      → matches (set d.symbols k Dash) p.point ≡ true → get_or d.outputs p.output false ≡ true → holds d (flip k p) ≡ true
  step_from k literal a m o =
      and_from (matches d.symbols (set p.point k (not (get_or p.point k false)))) (get_or d.outputs p.output false)
      (matches-set_bit d.symbols p.point k (not (get_or p.point k false)) (in_row k literal)
      ∙ and_from (agrees (get_or d.symbols k Dash) (not (get_or p.point k false))) (matches (set d.symbols k Dash) p.point) a m) o

  module _ (i : ℕ) (literal : get_or c.symbols i Dash ≢ Dash) (cross : get_or d.symbols i Dash ≡ opposite (get_or c.symbols i Dash)) (e : Cube) (is : e ≡ with_symbol d i Dash) where
    pub crossed_some : holds e p ≡ true → IsAloneByInputs (holds d) c p → ⊥
    crossed_some h alone =
        let parts = and_parts (matches (set d.symbols i Dash) p.point) (get_or d.outputs p.output false) (ap (λ k. holds k p) (sym is) ∙ h) in
        let bit = get_or p.point i false in
        false≢true (sym (alone i literal) ∙ step_from i literal (ap (λ t. agrees t (not bit)) cross ∙ across (get_or c.symbols i Dash) bit literal (own_agrees i literal)) parts.0 parts.1)

    pub crossed_none : holds e p ≡ false → IsAloneByInputs (holds d) c p
    crossed_none h k k_literal = elim (cases_Bool (holds d (flip k p))) [
      | inr off ↦ off
      | inl on ↦ absurd (
          let parts = step_parts k k_literal on in
          elim (cases_eq k i) [
            | inl same ↦ false≢true (sym h ∙ ap (λ x. holds x p) is
                ∙ and_from (matches (set d.symbols i Dash) p.point) (get_or d.outputs p.output false) (ap (λ x. matches (set d.symbols x Dash) p.point) (sym same) ∙ parts.1) parts.2)
            | inr apart ↦ (
                let bits = set p.point k (not (get_or p.point k false)) in
                let m = (and_parts (matches d.symbols bits) (get_or d.outputs p.output false) on).0 in
                let at = agrees_at-matches d.symbols bits i m (in_row i literal) in
                let other : i ≢ k = λ e. apart (sym e) in
                let bit = get_or p.point i false in
                against (get_or c.symbols i Dash) bit literal (own_agrees i literal)
                (ap (λ t. agrees t bit) (sym cross) ∙ ap (λ b. agrees (get_or d.symbols i Dash) b) (sym (get_or-set_other p.point k i (not (get_or p.point k false)) false other)) ∙ at))
          ])
    ]

  module _ (uncrossed : (k : ℕ) → get_or d.symbols k Dash ≡ opposite (get_or c.symbols k Dash) → get_or c.symbols k Dash ≡ Dash) where
    step_dash : (k : ℕ) → get_or c.symbols k Dash ≢ Dash → holds d (flip k p) ≡ true → get_or d.symbols k Dash ≡ Dash
    step_dash k literal on = elim (either (get_or c.symbols k Dash) (get_or d.symbols k Dash) (get_or p.point k false) literal (own_agrees k literal) (step_parts k literal on).0) [
      | inl dash ↦ dash
      | inr cross ↦ absurd (literal (uncrossed k cross))
    ]

    pub free_some : (i : ℕ) → get_or c.symbols i Dash ≢ Dash → get_or d.symbols i Dash ≡ Dash → holds d p ≡ true → IsAloneByInputs (holds d) c p → ⊥
    free_some i literal dash h alone =
        let parts = and_parts (matches d.symbols p.point) (get_or d.outputs p.output false) h in
        let inner = and_parts (agrees (get_or d.symbols i Dash) (get_or p.point i false)) (matches (set d.symbols i Dash) p.point) (sym (matches-own d.symbols p.point i (in_row i literal)) ∙ parts.0) in
        false≢true (sym (alone i literal) ∙ step_from i literal (ap (λ t. agrees t (not (get_or p.point i false))) dash) inner.1 parts.1)

    pub free_none : holds d p ≡ false → IsAloneByInputs (holds d) c p
    free_none h k literal = elim (cases_Bool (holds d (flip k p))) [
      | inr off ↦ off
      | inl on ↦ absurd (
          let parts = step_parts k literal on in
          false≢true (sym h ∙ and_from (matches d.symbols p.point) (get_or d.outputs p.output false)
          (matches-own d.symbols p.point k (in_row k literal) ∙ and_from (agrees (get_or d.symbols k Dash) (get_or p.point k false)) (matches (set d.symbols k Dash) p.point)
          (ap (λ t. agrees t (get_or p.point k false)) (step_dash k literal on)) parts.1) parts.2))
    ]

    pub no_step : ((k : ℕ) → get_or d.symbols k Dash ≡ Dash → get_or c.symbols k Dash ≡ Dash) → IsAloneByInputs (holds d) c p
    no_step bound k literal = elim (cases_Bool (holds d (flip k p))) [
      | inr off ↦ off
      | inl on ↦ absurd (literal (bound k (step_dash k literal on)))
    ]

  -- ---- a row put back by steps to other outputs

  pub no_more_outputs : (list_any (λ b. b) (minus d.outputs c.outputs) ≡ true → ⊥) → IsAloneByOutputs (holds d) c p
  no_more_outputs none j lt lacks = elim (cases_Bool (holds d (under j p))) [
    | inr off ↦ off
    | inl on ↦ absurd (none (true_some (minus d.outputs c.outputs) j (get_or-minus d.outputs c.outputs j size.1
        ∙ and_from (get_or d.outputs j false) (not (get_or c.outputs j false)) (and_parts (matches d.symbols p.point) (get_or d.outputs j false) on).1 (not_from_false (get_or c.outputs j false) lacks))))
  ]

  pub stacked_some : list_any (λ b. b) (minus d.outputs c.outputs) ≡ true → (found : Option Cube)
      → IfSome found (λ e. (q : Place) → holds e q ≡ ((matches d.symbols q.point && matches c.symbols q.point) && (get_or d.outputs q.output false || get_or c.outputs q.output false)))
      → held_by found p ≡ true → IsAloneByOutputs (holds d) c p → ⊥
  stacked_some more None stacked h alone = false≢true h
  stacked_some more (Some e) stacked h alone =
      let w = some_true (minus d.outputs c.outputs) more in
      let at = and_parts (get_or d.outputs w.0 false) (not (get_or c.outputs w.0 false)) (sym (get_or-minus d.outputs c.outputs w.0 size.1) ∙ w.1) in
      let parts = and_parts (matches d.symbols p.point && matches c.symbols p.point) (get_or d.outputs p.output false || get_or c.outputs p.output false) (sym (stacked p) ∙ h) in
      let lt : w.0 < length c.outputs = elim (cases_lt w.0 (length c.outputs)) [
        | inl lt ↦ lt
        | inr past ↦ absurd (false≢true (sym (get_or_past d.outputs w.0 false (omega (arith, size.1, past))) ∙ at.0))
      ] in
      false≢true (sym (alone w.0 lt (not-true (get_or c.outputs w.0 false) at.1))
      ∙ and_from (matches d.symbols p.point) (get_or d.outputs w.0 false) (and_parts (matches d.symbols p.point) (matches c.symbols p.point) parts.0).0 at.0)

-- ---- answers

pub some_both : (o : Option ℕ) (P Q : ℕ → Type 0) → is_some o ≡ true → IfSome o P → IfSome o Q → (i : ℕ) × P i × Q i
some_both None P Q e p q = absurd (false≢true e)
some_both (Some i) P Q e p q = (i, p, q)

pub none_of : (o : Option ℕ) (P : Type 0) → is_some o ≡ false → IfNone o P → P
none_of None P e p = p
none_of (Some i) P e p = absurd (false≢true (sym e))

-- ---- both together

pub adds_both : (c d : Cube) (a b : Option Cube) (old mid new : List Cube)
    → ((p : Place) → holds c p ≡ true → held_by a p ≡ false → IsAloneByInputs (holds d) c p)
    → ((p : Place) → holds c p ≡ true → held_by a p ≡ true → IsAloneByInputs (holds d) c p → ⊥)
    → ((p : Place) → holds c p ≡ true → held_by b p ≡ false → IsAloneByOutputs (holds d) c p)
    → ((p : Place) → holds c p ≡ true → held_by b p ≡ true → IsAloneByOutputs (holds d) c p → ⊥)
    → (AreCubes (size_of c) old → AreCubes (size_of c) mid) → (AreCubes (size_of c) mid → AreCubes (size_of c) new)
    → ((p : Place) → holds c p ≡ true → places mid p ≡ (places old p || held_by a p))
    → ((p : Place) → holds c p ≡ true → places new p ≡ (places mid p || held_by b p))
    → AddsNeighbours c d old new
adds_both c d a b old mid new a_none a_some b_none b_some first second to_mid to_new = record {
  are_cubes = λ h. second (first h);
  none = λ p in_c h.
      let outer = or_parts (places mid p) (held_by b p) (sym (to_new p in_c) ∙ h) in
      let inner = or_parts (places old p) (held_by a p) (sym (to_mid p in_c) ∙ outer.0) in
      (inner.0, record { inputs = a_none p in_c inner.1; outputs = b_none p in_c outer.1 });
  some = λ p in_c h out alone. elim (or_cases (places mid p) (held_by b p) (sym (to_new p in_c) ∙ h)) [
    | inr by_b ↦ b_some p in_c by_b alone.outputs
    | inl in_mid ↦ elim (or_cases (places old p) (held_by a p) (sym (to_mid p in_c) ∙ in_mid)) [
      | inr by_a ↦ a_some p in_c by_a alone.inputs
      | inl was ↦ false≢true (sym out ∙ was)
    ]
  ];
}

module _ (c : Cube) (rows : List Cube) (i : ℕ) (row : Cube) (lt : i < length rows) (at : row ≡ get_or rows i row) where
  next_places : (q : Place) → places (take (i + 1) rows) q ≡ (places (take i rows) q || holds row q)
  next_places = more_places rows i row lt at

  pub neighbours_next : (near new : List Cube) → AreNeighbours c (take i rows) near → AddsNeighbours c row near new → AreNeighbours c (take (i + 1) rows) new
  neighbours_next near new so adds = record {
    are_cubes = adds.are_cubes so.are_cubes;
    none = λ p in_c h.
        let added = adds.none p in_c h in
        let before = so.none p in_c added.0 in
        record {
          inputs = λ k literal. next_places (flip k p) ∙ or_from (places (take i rows) (flip k p)) (holds row (flip k p)) (before.inputs k literal) (added.1.inputs k literal);
          outputs = λ j lt lacks. next_places (under j p) ∙ or_from (places (take i rows) (under j p)) (holds row (under j p)) (before.outputs j lt lacks) (added.1.outputs j lt lacks);
        };
    some = λ p in_c h alone.
        let old : IsAlone (places (take i rows)) c p = record {
          inputs = λ k literal. (or_parts (places (take i rows) (flip k p)) (holds row (flip k p)) (sym (next_places (flip k p)) ∙ alone.inputs k literal)).0;
          outputs = λ j lt lacks. (or_parts (places (take i rows) (under j p)) (holds row (under j p)) (sym (next_places (under j p)) ∙ alone.outputs j lt lacks)).0;
        } in
        let here : IsAlone (holds row) c p = record {
          inputs = λ k literal. (or_parts (places (take i rows) (flip k p)) (holds row (flip k p)) (sym (next_places (flip k p)) ∙ alone.inputs k literal)).1;
          outputs = λ j lt lacks. (or_parts (places (take i rows) (under j p)) (holds row (under j p)) (sym (next_places (under j p)) ∙ alone.outputs j lt lacks)).1;
        } in
        elim (cases_Bool (places near p)) [
          | inl was ↦ so.some p in_c was old
          | inr out ↦ adds.some p in_c h out here
        ];
  }

-- ---- of the rows near a prime

pub beside_flip : (c : Cube) (p : Place) (i : ℕ) → holds c p ≡ true → IsBeside c (flip i p)
beside_flip c p i in_c = record { place = p; held = in_c; input = i; bit = not (get_or p.point i false); same = refl }

pub beside_under : (c : Cube) (p : Place) (j : ℕ) → holds c p ≡ true → IsBeside c (under j p)
beside_under c p j in_c = record { place = p; held = in_c; input = 0; bit = get_or p.point 0 false; same = sym (set-get_or p.point 0 false) }

module _ (c : Cube) (rows near : Cubes) (are : AreNear c rows near) where
  pub alone_to_all : (side : Side) (p : Place) → holds c p ≡ true → IsAlone (on_side side near.cubes) c p → IsAlone (on_side side rows.cubes) c p
  alone_to_all side p in_c alone = record {
    inputs = λ i lit. sym (near_side c rows near are side (flip i p) (beside_flip c p i in_c)) ∙ alone.inputs i lit;
    outputs = λ j lt lacks. sym (near_side c rows near are side (under j p) (beside_under c p j in_c)) ∙ alone.outputs j lt lacks;
  }

  pub alone_to_near : (side : Side) (p : Place) → holds c p ≡ true → IsAlone (on_side side rows.cubes) c p → IsAlone (on_side side near.cubes) c p
  alone_to_near side p in_c alone = record {
    inputs = λ i lit. near_side c rows near are side (flip i p) (beside_flip c p i in_c) ∙ alone.inputs i lit;
    outputs = λ j lt lacks. near_side c rows near are side (under j p) (beside_under c p j in_c) ∙ alone.outputs j lt lacks;
  }

  pub near_neighbours : (found : List Cube) → AreNeighbours c near.cubes found → AreNeighbours c rows.cubes found
  near_neighbours found so = record {
    are_cubes = so.are_cubes;
    none = λ p in_c h. alone_to_all Inside p in_c (so.none p in_c h);
    some = λ p in_c h alone. so.some p in_c h (alone_to_near Inside p in_c alone);
  }
