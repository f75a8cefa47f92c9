-- The outputs that rows reach inside a cube.
use Rattle.std.proofs.Common.{◌≡◌, ℕ, ◌+◌, ◌<◌, inl, inr, Bool, true, false, not, ◌&&◌, ◌||◌, List, length, take, map, get_or, slice_get, Some, refl, ap, sym, subst, ◌∙◌}
use Rattle.std.specs.List.{list_any}
use Rattle.std.proofs.lemmas.Bool.{cases_Bool, false≢true, and_parts, and_from, or_right, not_from_false}
use Rattle.std.proofs.lemmas.List.{set-get_or, length-set}
use Rattle.std.proofs.lemmas.Option.{slice_get_within, get_or_from_slice_get}
use Rattle.cube.specs.Size.{Size}
use Rattle.cube.specs.declared.symbol.Symbol.{Symbol}
use Rattle.cube.specs.declared.symbol.Symbol.TheVariants.{Dash, Zero}
use Rattle.cube.specs.Pattern.{matches}
use Rattle.cube.specs.Cube.{Cube, Place, holds, with_symbol, SameSize, IsCube}
use Rattle.cube.proofs.HoldsLemmas.{pick, matches-map_pick}
use Rattle.cube.specs.Sharp.{minus}
use Rattle.cube.proofs.SharpLemmas.{some_true, true_some, get_or-minus}
use Rattle.cover.specs.Cubes.{Cubes}
use Rattle.cover.specs.Places.{places}
use Rattle.cover.proofs.Regions.{narrowed}
use Rattle.growth.specs.Growth.{Grows, IsSettledOutput, IsBeside, AreNear, IsPartOf, AreReached}
use Rattle.growth.proofs.MorePlaces.{more_places, row_left}

-- ---- a part to begin with

pub part_whole : (c part : Cube) → part ≡ c → IsPartOf c part
part_whole c part e = record { size = (ap (λ (d : Cube). length d.symbols) e, ap (λ (d : Cube). length d.outputs) e); outputs = ap (λ d. d.outputs) e; within = λ p h. ap (λ d. holds d p) (sym e) ∙ h }

pub part_narrowed : (c part new : Cube) (i : ℕ) (s : Symbol) → slice_get part.symbols i ≡ Some s → s ≡ Dash → new ≡ with_symbol part i Zero → IsPartOf c part → IsPartOf c new
part_narrowed c part new i s is dash e so = subst (IsPartOf c) (sym e) (record {
  size = (length-set part.symbols i Zero ∙ so.size.0, so.size.1);
  outputs = so.outputs;
  within = λ p h. so.within p (narrowed part i Zero (slice_get_within part.symbols i s is) (get_or_from_slice_get part.symbols i s Dash is ∙ dash) p h);
})

-- ---- one more row

pub reached_none : (region : Cube) (rows : List Cube) → AreReached region (take 0 rows) region
reached_none region rows = record { size = (refl, refl); inputs = λ point m. m; outputs = λ p m lacks. sym lacks }

module _ (region here : Cube) (rows : List Cube) (i : ℕ) (row : Cube) (lt : i < length rows) (at : row ≡ get_or rows i row) (so : AreReached region (take i rows) here) where
  pub reached_left : ((point : List Bool) → matches here.symbols point ≡ true → matches row.symbols point ≡ true → ⊥) → AreReached region (take (i + 1) rows) here
  reached_left apart = record {
    size = so.size;
    inputs = so.inputs;
    outputs = λ p m lacks.
        let off : holds row p ≡ false = elim (cases_Bool (holds row p)) [
          | inr out ↦ out
          | inl on ↦ absurd (apart p.point m (and_parts (matches row.symbols p.point) (get_or row.outputs p.output false) on).0)
        ] in
        sym (row_left rows i row lt at p p (take i rows) (take i rows) refl off) ∙ so.outputs p m lacks;
  }

  module _ (both : Cube) (size : SameSize both here) (some : list_any (λ b. b) both.outputs ≡ true) (stacked : (p : Place) → holds both p ≡ ((matches here.symbols p.point && matches row.symbols p.point)
      && (get_or here.outputs p.output false || get_or row.outputs p.output false))) where
    in_each : (point : List Bool) → matches both.symbols point ≡ true → (matches here.symbols point ≡ true) × (matches row.symbols point ≡ true)
    in_each point m =
        let w = some_true both.outputs some in
        and_parts (matches here.symbols point) (matches row.symbols point)
        (and_parts (matches here.symbols point && matches row.symbols point) (get_or here.outputs w.0 false || get_or row.outputs w.0 false)
        (sym (stacked (record { point = point; output = w.0 })) ∙ and_from (matches both.symbols point) (get_or both.outputs w.0 false) m w.1)).0

    pub reached_stacked : AreReached region (take (i + 1) rows) both
    reached_stacked = record {
      size = (size.0 ∙ so.size.0, size.1 ∙ so.size.1);
      inputs = λ point m. so.inputs point (in_each point m).0;
      outputs = λ p m lacks.
          let e = in_each p.point m in
          let own = get_or here.outputs p.output false in
          let more = get_or row.outputs p.output false in
          more_places rows i row lt at p
          ∙ ap (λ b. b || holds row p) (so.outputs p e.0 lacks)
          ∙ ap (λ b. own || (b && more)) e.1
          ∙ sym (ap (λ b. (b && matches row.symbols p.point) && (own || more)) e.0 ∙ ap (λ b. b && (own || more)) e.1)
          ∙ sym (stacked p)
          ∙ ap (λ b. b && get_or both.outputs p.output false) m;
    }

-- ---- a row that adds no output

-- a cube with more outputs than another has one
pub more_output : (both here : Cube) → SameSize both here → list_any (λ b. b) (minus both.outputs here.outputs) ≡ true → list_any (λ b. b) both.outputs ≡ true
more_output both here size more =
    let w = some_true (minus both.outputs here.outputs) more in
    true_some both.outputs w.0 (and_parts (get_or both.outputs w.0 false) (not (get_or here.outputs w.0 false)) (sym (get_or-minus both.outputs here.outputs w.0 size.1) ∙ w.1)).0

module _ (region here : Cube) (rows : List Cube) (i : ℕ) (row : Cube) (lt : i < length rows) (at : row ≡ get_or rows i row) (so : AreReached region (take i rows) here)
    (both : Cube) (size : SameSize both here) (stacked : (p : Place) → holds both p ≡ ((matches here.symbols p.point && matches row.symbols p.point) && (get_or here.outputs p.output false || get_or row.outputs p.output false)))
    (less : list_any (λ b. b) (minus both.outputs here.outputs) ≡ true → ⊥) where
  has_already : (p : Place) → matches here.symbols p.point ≡ true → holds row p ≡ true → get_or here.outputs p.output false ≡ true
  has_already p m on =
      let own = get_or here.outputs p.output false in
      let more = get_or row.outputs p.output false in
      let parts = and_parts (matches row.symbols p.point) more on in
      let held : holds both p ≡ true = stacked p ∙ and_from (matches here.symbols p.point && matches row.symbols p.point) (own || more)
      (and_from (matches here.symbols p.point) (matches row.symbols p.point) m parts.0) (or_right own more parts.1) in
      let there = (and_parts (matches both.symbols p.point) (get_or both.outputs p.output false) held).1 in
      elim (cases_Bool own) [
        | inl e ↦ e
        | inr lacks ↦ absurd (less (true_some (minus both.outputs here.outputs) p.output (get_or-minus both.outputs here.outputs p.output size.1
            ∙ and_from (get_or both.outputs p.output false) (not own) there (not_from_false own lacks))))
      ]

  pub reached_already : AreReached region (take (i + 1) rows) here
  reached_already = record {
    size = so.size;
    inputs = so.inputs;
    outputs = λ p m lacks. elim (cases_Bool (holds row p)) [
      | inr off ↦ sym (row_left rows i row lt at p p (take i rows) (take i rows) refl off) ∙ so.outputs p m lacks
      | inl on ↦
          let own = has_already p m on in
          more_places rows i row lt at p ∙ ap (λ b. b || holds row p) (so.outputs p m lacks ∙ own) ∙ sym own
    ];
  }

-- ---- of a part of the cube, and of the rows near it

pub reached_near : (size : Size) (c part here : Cube) (rows near : Cubes) → IsCube size c → AreNear c rows near → IsPartOf c part → AreReached part near.cubes here → AreReached c rows.cubes here
reached_near size c part here rows near cube are of so =
    let w = some_true c.outputs cube.some_output in
    let held : (point : List Bool) → matches here.symbols point ≡ true → holds c (record { point = point; output = w.0 }) ≡ true = λ point m.
    of.within (record { point = point; output = w.0 }) (and_from (matches part.symbols point) (get_or part.outputs w.0 false) (so.inputs point m) (ap (λ l. get_or l w.0 false) of.outputs ∙ w.1)) in
    record {
      size = (so.size.0 ∙ of.size.0, so.size.1 ∙ of.size.1);
      inputs = λ point m. (and_parts (matches c.symbols point) (get_or c.outputs w.0 false) (held point m)).0;
      outputs = λ p m lacks.
          let beside : IsBeside c p = record { place = record { point = p.point; output = w.0 }; held = held p.point m; input = 0; bit = get_or p.point 0 false; same = sym (set-get_or p.point 0 false) } in
          sym (are.same p beside) ∙ so.outputs p m (ap (λ l. get_or l p.output false) of.outputs ∙ lacks);
    }

-- ---- of a cube that grows

pub reached_grown : (size : Size) (s : Place → Bool) (old new here : Cube) (rows : List Cube) → IsCube size old → Grows size s old new → AreReached old rows here → AreReached new rows here
reached_grown size s old new here rows cube grows so =
    let w = some_true old.outputs cube.some_output in
    let long = cube.has_size in
    let now = grows.is_cube.has_size in
    record {
      size = (so.size.0 ∙ long.0 ∙ sym now.0, so.size.1 ∙ long.1 ∙ sym now.1);
      inputs = λ point m. (and_parts (matches new.symbols point) (get_or new.outputs w.0 false)
          (grows.over (record { point = point; output = w.0 }) (and_from (matches old.symbols point) (get_or old.outputs w.0 false) (so.inputs point m) w.1))).0;
      outputs = λ p m lacks. so.outputs p m (elim (cases_Bool (get_or old.outputs p.output false)) [
        | inr off ↦ off
        | inl on ↦ absurd (false≢true (sym lacks ∙ (and_parts (matches new.symbols p.point) (get_or new.outputs p.output false)
            (grows.over p (and_from (matches old.symbols p.point) (get_or old.outputs p.output false) (so.inputs p.point m) on))).1))
      ]);
    }

-- ---- an output that is refused

pub off_settles : (size : Size) (s : Place → Bool) (c here : Cube) (rows : List Cube) (j : ℕ) → IsCube size c → AreReached c rows here → get_or c.outputs j false ≡ false
    → ((p : Place) → places rows p ≡ get_or here.outputs j false → s p ≡ false) → IsSettledOutput size s c j
off_settles size s c here rows j cube so lacks off d d_cube above within on =
    let w = some_true c.outputs cube.some_output in
    let point = map pick here.symbols in
    let m = matches-map_pick here.symbols in
    let p : Place = record { point = point; output = j } in
    let in_d = (and_parts (matches d.symbols point) (get_or d.outputs w.0 false)
    (above (record { point = point; output = w.0 }) (and_from (matches c.symbols point) (get_or c.outputs w.0 false) (so.inputs point m) w.1))).0 in
    absurd (false≢true (sym (off p (so.outputs p m lacks)) ∙ within p (and_from (matches d.symbols point) (get_or d.outputs j false) in_d on)))
