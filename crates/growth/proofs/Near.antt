-- The rows near a cube hold what all rows hold beside it.
use Rattle.std.proofs.Common.{◌≡◌, ◌≢◌, ℕ, ◌+◌, ◌<◌, inl, inr, ◌∷◌, ◌++◌, [], Bool, true, false, not, List, length, take, get_or, set, refl, ap, sym, ◌∙◌, arith, ◌↔◌, IsTrue, Option, Some, None}
use Rattle.std.specs.Prelude.{is_some}
use Rattle.std.proofs.lemmas.Bool.{cases_Bool, cases_eq, cases_lt, false≢true, and_parts, and_from}
use Rattle.std.proofs.lemmas.List.{get_or-set_other, get_or_past, set-get_or, set-set}
use Rattle.cube.specs.declared.symbol.Symbol.{Symbol}
use Rattle.cube.specs.declared.symbol.Symbol.TheVariants.{Dash, Zero, One}
use Rattle.cube.specs.Pattern.{agrees, matches}
use Rattle.cube.specs.Cube.{Cube, Place, holds, with_symbol, SameSize, IsSubset}
use Rattle.cube.specs.Sharp.{opposite}
use Rattle.cube.proofs.HoldsLemmas.{agrees_at-matches}
use Rattle.cover.specs.Cubes.{Cubes}
use Rattle.cover.specs.Places.{places}
use Rattle.cover.proofs.Inputs.{matches-set_bit, matches-set_symbol}
use Rattle.growth.specs.declared.prime.Side.{Side}
use Rattle.growth.specs.declared.prime.Side.TheVariants.{Inside, Outside}
use Rattle.growth.specs.Growth.{on_side, IsBeside, Conflicts, IsFar, AreNear, near_or}
use Rattle.growth.proofs.MorePlaces.{places_pushed, row_added, row_left}

-- ---- places beside a cube

pub beside_own : (c : Cube) (p : Place) → holds c p ≡ true → IsBeside c p
beside_own c p in_c = record { place = p; held = in_c; input = 0; bit = get_or p.point 0 false; same = sym (set-get_or p.point 0 false) }

some_bit : (t : Symbol) → (bit : Bool) × (agrees t bit ≡ true)
some_bit Dash = (true, refl)
some_bit Zero = (false, refl)
some_bit One = (true, refl)

pub beside_half : (c : Cube) (i : ℕ) (t : Symbol) → i < length c.symbols → (half : Cube) → half ≡ with_symbol c i t → (p : Place) → holds half p ≡ true → IsBeside c p
beside_half c i t lt half is p h =
    let parts = and_parts (matches (set c.symbols i t) p.point) (get_or c.outputs p.output false) (ap (λ d. holds d p) (sym is) ∙ h) in
    let rest = (and_parts (agrees t (get_or p.point i false)) (matches (set c.symbols i Dash) p.point) (sym (matches-set_symbol c.symbols p.point i t lt) ∙ parts.0)).1 in
    let w = some_bit (get_or c.symbols i Dash) in
    record {
      place = record { point = set p.point i w.0; output = p.output };
      held = and_from (matches c.symbols (set p.point i w.0)) (get_or c.outputs p.output false)
          (matches-set_bit c.symbols p.point i w.0 lt ∙ and_from (agrees (get_or c.symbols i Dash) w.0) (matches (set c.symbols i Dash) p.point) w.1 rest) parts.1;
      input = i;
      bit = get_or p.point i false;
      same = sym (set-get_or p.point i false) ∙ sym (set-set p.point i w.0 (get_or p.point i false));
    }

-- ---- a row that conflicts at two inputs

pub against : (own : Symbol) (bit : Bool) → own ≢ Dash → agrees own bit ≡ true → agrees (opposite own) bit ≡ true → ⊥
against Dash bit literal a b = literal refl
against Zero true literal a b = false≢true a
against Zero false literal a b = false≢true b
against One true literal a b = false≢true b
against One false literal a b = false≢true a

module _ (c row : Cube) (size : SameSize row c) (p : Place) (beside : IsBeside c p) where
  conflict_out : (k : ℕ) → k ≢ beside.input → Conflicts c row k → holds row p ≡ false
  conflict_out k apart conflict = elim (cases_Bool (holds row p)) [
    | inr off ↦ off
    | inl on ↦ elim (cases_lt k (length c.symbols)) [
      | inr past ↦ absurd (conflict.0 (get_or_past c.symbols k Dash past))
      | inl lt ↦ absurd (
          let q = beside.place in
          let own = and_parts (matches c.symbols q.point) (get_or c.outputs q.output false) beside.held in
          let theirs = and_parts (matches row.symbols p.point) (get_or row.outputs p.output false) on in
          let bit : get_or p.point k false ≡ get_or q.point k false = ap (λ l. get_or l k false) beside.same ∙ get_or-set_other q.point beside.input k beside.bit false apart in
          against (get_or c.symbols k Dash) (get_or q.point k false) conflict.0 (agrees_at-matches c.symbols q.point k own.0 lt)
          (ap (λ t. agrees t (get_or q.point k false)) (sym conflict.1) ∙ ap (λ b. agrees (get_or row.symbols k Dash) b) (sym bit)
          ∙ agrees_at-matches row.symbols p.point k theirs.0 (omega (arith, size.0, lt))))
    ]
  ]

  pub far_out : IsFar c row → holds row p ≡ false
  far_out far = elim (cases_eq far.one beside.input) [
    | inr apart ↦ conflict_out far.one apart far.at_one
    | inl same ↦ conflict_out far.other (λ e. far.apart (same ∙ sym e)) far.at_other
  ]

-- ---- one more row

abbrev pub AreNearSoFar : Cube → List Cube → List Cube → Type 0
AreNearSoFar c rows near = (p : Place) → IsBeside c p → places near p ≡ places rows p

module _ (c : Cube) (rows : List Cube) (i : ℕ) (row : Cube) (lt : i < length rows) (at : row ≡ get_or rows i row) (near : List Cube) (so : AreNearSoFar c (take i rows) near) where
  pub near_kept : (new : List Cube) → new ≡ near ++ row ∷ [] → AreNearSoFar c (take (i + 1) rows) new
  near_kept new is p beside =
      row_added rows i row lt at p p near new (so p beside) (holds row p) refl (ap (λ l. places l p) is ∙ places_pushed near row p)

  pub near_left : SameSize row c → IsFar c row → AreNearSoFar c (take (i + 1) rows) near
  near_left size far p beside = row_left rows i row lt at p p near near (so p beside) (far_out c row size p beside far)

-- ---- what is asked of the rows near

pub near_all : (c : Cube) (rows : Cubes) → AreNear c rows rows
near_all c rows = record { size = refl; same = λ p beside. refl }

module _ (c : Cube) (rows near : Cubes) (are : AreNear c rows near) where
  pub near_side : (side : Side) (p : Place) → IsBeside c p → on_side side near.cubes p ≡ on_side side rows.cubes p
  near_side Inside p beside = are.same p beside
  near_side Outside p beside = ap not (are.same p beside)

  module _ (side : Side) (region : Cube) (beside : (p : Place) → holds region p ≡ true → IsBeside c p) where
    pub near_to_all : IsSubset (holds region) (on_side side near.cubes) → IsSubset (holds region) (on_side side rows.cubes)
    near_to_all sub p h = sym (near_side side p (beside p h)) ∙ sub p h

    pub all_to_near : IsSubset (holds region) (on_side side rows.cubes) → IsSubset (holds region) (on_side side near.cubes)
    all_to_near sub p h = near_side side p (beside p h) ∙ sub p h

  -- a cube beside which are fewer places
  pub near_fewer : (d : Cube) → ((p : Place) → IsBeside d p → IsBeside c p) → AreNear d rows near
  near_fewer d fewer = record { size = are.size; same = λ p beside. are.same p (fewer p beside) }

-- whether a part beside the cube lies on that side of the rows near is whether it lies on that side of all
pub answer_for_all : (c : Cube) (rows near : Cubes) → AreNear c rows near → (side : Side) (part : Cube) → ((p : Place) → holds part p ≡ true → IsBeside c p) → (b : Bool)
    → IsTrue b ↔ IsSubset (holds part) (on_side side near.cubes) → IsTrue b ↔ IsSubset (holds part) (on_side side rows.cubes)
answer_for_all c rows near are side part beside b answer =
    (λ yes. near_to_all c rows near are side part beside (answer.0 yes), λ sub. answer.1 (all_to_near c rows near are side part beside sub))

-- without a list of their own the near rows are all rows
pub near_none : (c : Cube) (rows : Cubes) (near : Option Cubes) → is_some near ≡ false → AreNear c rows (near_or rows near)
near_none c rows None is = near_all c rows
near_none c rows (Some l) is = absurd (false≢true (sym is))
