-- Lists of cubes that contain a region, on the way to the cubes of a complete sum that do.
use Rattle.std.proofs.Common.{◌≡◌, ◌≢◌, ℕ, ◌+◌, ◌<◌, ◌≤◌, Bool, true, false, not, ◌&&◌, ◌||◌, cond, List, [], ◌∷◌, ◌++◌, length, take, get_or, All, refl, ap, sym, subst, ◌∙◌, arith, inl, inr, ◌⊎◌}
use Rattle.std.specs.Prelude.{IsTrue}
use Rattle.std.specs.List.{Contains, filter, list_any}
use Rattle.std.specs.List.Sorted.{IsStrictlySortedBy}
use Rattle.std.specs.Cmp.{both_ways as same_bool}
use Rattle.std.proofs.lemmas.Bool.{cases_lt, cases_eq, cases_Bool, false≢true, and_parts, and_from, or_cases, or_left, or_right, not-true, not_from_false, false_from_ne_true}
use Rattle.std.proofs.lemmas.List.{take_more, get_or_past, get_or-set_same, get_or-set_other, length-set}
use Rattle.std.proofs.lemmas.List.Elements.{Contains-append_left, Contains-append_right, Contains-append_cases}
use Rattle.std.proofs.lemmas.List.Kept.{IsStrictlySortedBy-filter}
use Rattle.cube.specs.declared.symbol.Symbol.{Symbol}
use Rattle.cube.specs.declared.symbol.Symbol.TheVariants.{Dash, Zero, One}
use Rattle.cube.specs.Size.{Size}
use Rattle.cube.specs.Pattern.{agrees, matches}
use Rattle.cube.specs.Cube.{Cube, Place, holds, difference, size_of, with_symbol, HasSize, SameSize, IsCube, IsSubset, IsDisjoint}
use Rattle.cube.specs.Literals.{are_opposite, is_opposite, IsNextInput}
use Rattle.cube.specs.Order.{row_cmp}
use Rattle.cube.specs.Sharp.{minus, rest_row, rest_rows}
use Rattle.cube.specs.Sum.{complete_sum, IsMaximal}
use Rattle.cube.proofs.HoldsLemmas.{agrees_at-matches, Covers, IsSubset-from_Covers, Covers-from_IsSubset}
use Rattle.cube.proofs.MeetLemmas.{compatible, decide_inputs, decide_outputs, common_place}
use Rattle.cube.proofs.LiteralMarks.{opposite_symbols}
use Rattle.cube.proofs.SharpLemmas.{dash_from_opposites, some_true, true_some, get_or-minus, length-minus}
use Rattle.cube.proofs.Members.{Contains-here, Contains-nil, Contains-cases, Contains-filter, Contains-filter_cases, list_any_none, list_any_false, same_from_members}
use Rattle.cube.proofs.SumLemmas.{IsPlace-from_holds, IsSubset-from_test, is_subset-from_fact, Contains-complete_sum, sorted-complete_sum, row_asymmetric}
use Rattle.rows.specs.Cubes.{AreCubes}
use Rattle.rows.specs.Places.{places, universal}
use Rattle.rows.specs.Contained.{is_within}
use Rattle.sums.specs.Outside.{AreNear}
use Rattle.rows.specs.Reduced.{IsAbsorbed, IsPartlyAbsorbed, IsWithoutAbsorbed, HasSameCubes}
use Rattle.sums.specs.Containing.{sum_containing, lies_in_larger, largest, IsOver, Cuts, ArePieces, IsCut}
use Rattle.rows.proofs.Lists.{all_members, members_all, list_any_from, list_any_witness}
use Rattle.rows.proofs.SumMeets.{places-append}
use Rattle.rows.proofs.SumSplit.{same_cube}
use Rattle.rows.proofs.Everywhere.{holds_universal, HasSize-universal}

-- ---- the test

pub within_from_fact : (size : Size) (c d : Cube) → IsSubset (holds c) (holds d) → is_within size c d ≡ true
within_from_fact size c d h = is_subset-from_fact size (holds c) (holds d) h

pub fact_from_within : (size : Size) (c d : Cube) → HasSize c size → is_within size c d ≡ true → IsSubset (holds c) (holds d)
fact_from_within size c d h e = IsSubset-from_test size c (holds d) h e

pub size_of-is : (c : Cube) (size : Size) → HasSize c size → size_of c ≡ size
size_of-is c size h i = record { inputs = h.0 i; outputs = h.1 i }

-- ---- absorption

pub IsPartlyAbsorbed-self : (cubes : List Cube) → IsPartlyAbsorbed cubes cubes
IsPartlyAbsorbed-self cubes = record { within = λ c h. h; over = λ c h. (c, h, λ p held. held) }

-- a row that meets no cube
pub apart_from_all : (cubes : List Cube) (row : Cube) → All (λ d. IsDisjoint (holds d) (holds row)) cubes → IsDisjoint (holds row) (places cubes)
apart_from_all cubes row apart p in_row held = let w = list_any_witness (λ c. holds c p) cubes held in all_members (λ d. IsDisjoint (holds d) (holds row)) cubes apart w.0 w.1 p w.2 in_row

-- ---- members of one more

Contains-one : (x y : Cube) → Contains (x ∷ []) y → x ≡ y
Contains-one x y h = elim (Contains-cases x [] y h) [ inl e ↦ e | inr none' ↦ absurd (Contains-nil y none') ]

-- ---- rows of a list, one after the other

module _ (rows : List Cube) (i : ℕ) (row : Cube) (lt : i < length rows) (at : row ≡ get_or rows i row) where
  one_more : take (i + 1) rows ≡ take i rows ++ row ∷ []
  one_more = take_more rows i row lt ∙ ap (λ c. take i rows ++ c ∷ []) (sym at)

  pub some-left : (kept : List Cube) → ((c : Cube) → Contains kept c → Contains (take i rows) c) → (c : Cube) → Contains kept c → Contains (take (i + 1) rows) c
  some-left kept h c k = subst (λ l. Contains l c) (sym one_more) (Contains-append_left (take i rows) (row ∷ []) c (h c k))

  pub some-kept : (kept new : List Cube) → new ≡ kept ++ row ∷ [] → ((c : Cube) → Contains kept c → Contains (take i rows) c) → (c : Cube) → Contains new c → Contains (take (i + 1) rows) c
  some-kept kept new e h c k = elim (Contains-append_cases kept (row ∷ []) c (subst (λ l. Contains l c) e k)) [
    | inl m ↦ some-left kept h c m
    | inr m ↦ subst (λ l. Contains l c) (sym one_more) (Contains-append_right (take i rows) (row ∷ []) c m)
  ]

-- some rows of a list before the list
pub HasSameCubes-first : (rows some all : List Cube) → all ≡ some ++ rows → ((c : Cube) → Contains some c → Contains rows c) → HasSameCubes rows all
HasSameCubes-first rows some all e h c = (
  λ k. subst (λ l. Contains l c) (sym e) (Contains-append_right some rows c k),
  λ k. elim (Contains-append_cases some rows c (subst (λ l. Contains l c) e k)) [ inl m ↦ h c m | inr m ↦ m ],
)

-- ---- the pieces of a cube outside a row that contain the region

-- a symbol within one that has no bit in common with another is that one, and opposite to the other
opposite_through : (s c t : Symbol) → ((bit : Bool) → agrees s bit ≡ true → agrees c bit ≡ true) → compatible c t ≡ false → (are_opposite s t ≡ true) × (c ≡ s)
unfolding compatible
opposite_through s Dash t cover h = absurd (false≢true (sym h))
opposite_through s Zero Dash cover h = absurd (false≢true (sym h))
opposite_through s Zero Zero cover h = absurd (false≢true (sym h))
opposite_through Dash Zero One cover h = absurd (false≢true (cover true refl))
opposite_through Zero Zero One cover h = (refl, refl)
opposite_through One Zero One cover h = absurd (false≢true (cover true refl))
opposite_through s One Dash cover h = absurd (false≢true (sym h))
opposite_through Dash One Zero cover h = absurd (false≢true (cover false refl))
opposite_through Zero One Zero cover h = absurd (false≢true (cover false refl))
opposite_through One One Zero cover h = (refl, refl)
opposite_through s One One cover h = absurd (false≢true (sym h))

opposite_apart : (s t : Symbol) (bit : Bool) → are_opposite s t ≡ true → agrees s bit ≡ true → agrees t bit ≡ true → ⊥
opposite_apart s t bit h x y =
    let literals = opposite_symbols s t h in
    literals.0 (dash_from_opposites s bit x (subst (λ u. agrees u bit ≡ true) literals.1 y))

-- the cube with the literal of the region
abbrev pub piece_at : Cube → Cube → ℕ → Cube
piece_at region cube i = with_symbol cube i (get_or region.symbols i Dash)

-- the pieces that were made for the outputs and for the inputs before a number
pub record ArePiecesBefore (region row cube : Cube) (from : ℕ) (pieces : List Cube) : Type 0 where
  pub each : (d : Cube) → Contains pieces d → IsCube (size_of region) d × IsSubset (holds region) (holds d) × IsDisjoint (holds d) (holds row) × IsSubset (holds d) (holds cube)
  pub rest : list_any (λ b. b) (minus cube.outputs row.outputs) ≡ true → IsSubset (holds region) (holds (rest_row cube row)) → Contains pieces (rest_row cube row)
  pub found : (i : ℕ) → i < from → is_opposite region row i ≡ true → Contains pieces (piece_at region cube i)

-- none, of a cube that leaves out some of the region
pub ArePieces-none : (size : Size) (region row cube : Cube) → is_within size region cube ≡ false → ArePieces size region row cube []
ArePieces-none size region row cube left_out = record {
  are_cubes = members_all (IsCube size) [] (λ c h. absurd (Contains-nil c h));
  contain = λ c h. absurd (Contains-nil c h);
  outside = λ c h. absurd (Contains-nil c h);
  within = λ c h. absurd (Contains-nil c h);
  over = λ c is_cube above below apart. absurd (false≢true (sym left_out ∙ within_from_fact size region cube (λ p held. below p (above p held))));
}

module _ (region row cube : Cube) (some_output : IsTrue (list_any (λ b. b) region.outputs)) (cube_size : SameSize cube region) (row_size : SameSize cube row)
    (contains : is_within (size_of region) region cube ≡ true) where
  output : (j : ℕ) × (get_or region.outputs j false ≡ true)
  output = some_true region.outputs some_output

  covers : Covers cube region
  covers = Covers-from_IsSubset cube region cube_size output.0 output.1 (fact_from_within (size_of region) region cube (refl, refl) contains)

  same_size : (c d : Cube) → IsCube (size_of region) c → SameSize d region → SameSize d c
  same_size c d h e = (e.0 ∙ sym h.has_size.0, e.1 ∙ sym h.has_size.1)

  -- ---- for an input

  module _ (i : ℕ) (lt : i < length region.symbols) where
    inside : i < length cube.symbols
    inside = omega (arith, cube_size.0)

    symbol_here : get_or (piece_at region cube i).symbols i Dash ≡ get_or region.symbols i Dash
    symbol_here = get_or-set_same cube.symbols i (get_or region.symbols i Dash) Dash inside

    symbol_other : (k : ℕ) → k ≢ i → get_or (piece_at region cube i).symbols k Dash ≡ get_or cube.symbols k Dash
    symbol_other k ne = get_or-set_other cube.symbols i k (get_or region.symbols i Dash) Dash ne

    piece_size : SameSize (piece_at region cube i) region
    piece_size = (length-set cube.symbols i (get_or region.symbols i Dash) ∙ cube_size.0, cube_size.1)

    piece_cube : IsCube (size_of region) (piece_at region cube i)
    piece_cube = record { has_size = piece_size; some_output = true_some cube.outputs output.0 (covers.outputs output.0 output.1) }

    -- a cube within the cube that asks there as much as the region
    piece_over : (c : Cube) → SameSize (piece_at region cube i) c → Covers cube c
        → ((bit : Bool) → agrees (get_or c.symbols i Dash) bit ≡ true → agrees (get_or region.symbols i Dash) bit ≡ true)
        → IsSubset (holds c) (holds (piece_at region cube i))
    piece_over c sized below own = IsSubset-from_Covers (piece_at region cube i) c sized (record {
      inputs = λ k bit h. elim (cases_eq k i) [
        | inl e ↦
            ap (λ x. agrees (get_or (piece_at region cube i).symbols x Dash) bit) e ∙ ap (λ s. agrees s bit) symbol_here
            ∙ own bit (ap (λ x. agrees (get_or c.symbols x Dash) bit) (sym e) ∙ h)
        | inr ne ↦ ap (λ s. agrees s bit) (symbol_other k ne) ∙ below.inputs k bit h
      ];
      outputs = below.outputs;
    })

    piece_within : IsSubset (holds (piece_at region cube i)) (holds cube)
    piece_within = IsSubset-from_Covers cube (piece_at region cube i) (sym (length-set cube.symbols i (get_or region.symbols i Dash)), refl) (record {
      inputs = λ k bit h. elim (cases_eq k i) [
        | inl e ↦
            ap (λ x. agrees (get_or cube.symbols x Dash) bit) e
            ∙ covers.inputs i bit (ap (λ s. agrees s bit) (sym symbol_here) ∙ ap (λ x. agrees (get_or (piece_at region cube i).symbols x Dash) bit) (sym e) ∙ h)
        | inr ne ↦ ap (λ s. agrees s bit) (sym (symbol_other k ne)) ∙ h
      ];
      outputs = λ j h. h;
    })

    piece_outside : is_opposite region row i ≡ true → IsDisjoint (holds (piece_at region cube i)) (holds row)
    piece_outside opposite p held on =
        let in_piece : i < length (piece_at region cube i).symbols = omega (arith, piece_size.0) in
        let in_row : i < length row.symbols = omega (arith, row_size.0, cube_size.0) in
        let bit = get_or p.point i false in
        opposite_apart (get_or region.symbols i Dash) (get_or row.symbols i Dash) bit opposite
        (ap (λ s. agrees s bit) (sym symbol_here)
        ∙ agrees_at-matches (piece_at region cube i).symbols p.point i (and_parts (matches (piece_at region cube i).symbols p.point) (get_or cube.outputs p.output false) held).0 in_piece)
        (agrees_at-matches row.symbols p.point i (and_parts (matches row.symbols p.point) (get_or row.outputs p.output false) on).0 in_row)

    piece_each : is_opposite region row i ≡ true → IsCube (size_of region) (piece_at region cube i) × IsSubset (holds region) (holds (piece_at region cube i))
        × IsDisjoint (holds (piece_at region cube i)) (holds row) × IsSubset (holds (piece_at region cube i)) (holds cube)
    piece_each opposite = (piece_cube, piece_over region piece_size covers (λ bit h. h), piece_outside opposite, piece_within)

  -- ---- for the outputs

  rest_output : (p : Place) → holds (rest_row cube row) p ≡ true → (matches cube.symbols p.point ≡ true) × (get_or cube.outputs p.output false ≡ true) × (get_or row.outputs p.output false ≡ false)
  rest_output p held =
      let parts = and_parts (matches cube.symbols p.point) (get_or (minus cube.outputs row.outputs) p.output false) held in
      let outs = and_parts (get_or cube.outputs p.output false) (not (get_or row.outputs p.output false)) (sym (get_or-minus cube.outputs row.outputs p.output row_size.1) ∙ parts.1) in
      (parts.0, outs.0, not-true (get_or row.outputs p.output false) outs.1)

  rest_outside : IsDisjoint (holds (rest_row cube row)) (holds row)
  rest_outside p held on = false≢true (sym (rest_output p held).2 ∙ (and_parts (matches row.symbols p.point) (get_or row.outputs p.output false) on).1)

  rest_within : IsSubset (holds (rest_row cube row)) (holds cube)
  rest_within p held = let r = rest_output p held in and_from (matches cube.symbols p.point) (get_or cube.outputs p.output false) r.0 r.1

  rest_size : SameSize (rest_row cube row) region
  rest_size = (cube_size.0, length-minus cube.outputs row.outputs row_size.1 ∙ cube_size.1)

  -- the rest is made
  pub ArePiecesBefore-rest : (pieces : List Cube) → pieces ≡ filter (is_within (size_of region) region) (rest_rows cube row) → ArePiecesBefore region row cube 0 pieces
  ArePiecesBefore-rest pieces e = subst (ArePiecesBefore region row cube 0) (sym e) (by_outputs (list_any (λ b. b) (minus cube.outputs row.outputs)) refl)
    where
      by_outputs : (some : Bool) → list_any (λ b. b) (minus cube.outputs row.outputs) ≡ some
          → ArePiecesBefore region row cube 0 (filter (is_within (size_of region) region) (cond some (rest_row cube row ∷ []) []))
      by_outputs true some = record {
        each = λ d h.
            let f = Contains-filter_cases (is_within (size_of region) region) (rest_row cube row ∷ []) d h in
            subst (λ x. IsCube (size_of region) x × IsSubset (holds region) (holds x) × IsDisjoint (holds x) (holds row) × IsSubset (holds x) (holds cube)) (Contains-one (rest_row cube row) d f.0) (
              record { has_size = rest_size; some_output = some },
              fact_from_within (size_of region) region (rest_row cube row) (refl, refl) (ap (is_within (size_of region) region) (Contains-one (rest_row cube row) d f.0) ∙ f.1),
              rest_outside,
              rest_within,
            );
        rest = λ _ inside. Contains-filter (is_within (size_of region) region) (rest_row cube row ∷ []) (rest_row cube row) (Contains-here (rest_row cube row) []) (within_from_fact (size_of region) region (rest_row cube row) inside);
        found = λ i lt. absurd (omega arith);
      }
      by_outputs false none' = record {
        each = λ d h. absurd (Contains-nil d h);
        rest = λ some. absurd (false≢true (sym none' ∙ some));
        found = λ i lt. absurd (omega arith);
      }

  -- a piece is made for the next input
  pub ArePiecesBefore-more : (from i : ℕ) (pieces new : List Cube) → IsNextInput (is_opposite region row) from i → i < length region.symbols
      → new ≡ pieces ++ piece_at region cube i ∷ [] → ArePiecesBefore region row cube from pieces → ArePiecesBefore region row cube (i + 1) new
  ArePiecesBefore-more from i pieces new next lt e h = subst (ArePiecesBefore region row cube (i + 1)) (sym e) (record {
    each = λ d k. elim (Contains-append_cases pieces (piece_at region cube i ∷ []) d k) [
      | inl m ↦ h.each d m
      | inr m ↦
          subst (λ x. IsCube (size_of region) x × IsSubset (holds region) (holds x) × IsDisjoint (holds x) (holds row) × IsSubset (holds x) (holds cube)) (Contains-one (piece_at region cube i) d m)
          (piece_each i lt next.passes)
    ];
    rest = λ some inside. Contains-append_left pieces (piece_at region cube i ∷ []) (rest_row cube row) (h.rest some inside);
    found = λ k before opposite. elim (cases_eq k i) [
      | inl same ↦ subst (λ x. Contains (pieces ++ piece_at region cube i ∷ []) (piece_at region cube x)) (sym same)
          (Contains-append_right pieces (piece_at region cube i ∷ []) (piece_at region cube i) (Contains-here (piece_at region cube i) []))
      | inr ne ↦ elim (cases_lt k from) [
        | inl less ↦ Contains-append_left pieces (piece_at region cube i ∷ []) (piece_at region cube k) (h.found k less opposite)
        | inr past ↦ (let less : k < i = omega arith in absurd (false≢true (sym (next.before k past less) ∙ opposite)))
      ]
    ];
  })

  -- all are made
  pub ArePieces-before : (from : ℕ) (pieces : List Cube) → ((k : ℕ) → from ≤ k → is_opposite region row k ≡ false) → ArePiecesBefore region row cube from pieces
      → ArePieces (size_of region) region row cube pieces
  ArePieces-before from pieces none' h = record {
    are_cubes = members_all (IsCube (size_of region)) pieces (λ c k. (h.each c k).0);
    contain = λ c k. (h.each c k).1;
    outside = λ c k. (h.each c k).2;
    within = λ c k. (h.each c k).3;
    over = over;
  }
    where
      found : (i : ℕ) → is_opposite region row i ≡ true → Contains pieces (piece_at region cube i)
      found i opposite = elim (cases_lt i from) [
        | inl less ↦ h.found i less opposite
        | inr past ↦ absurd (false≢true (sym (none' i past) ∙ opposite))
      ]

      over : (c : Cube) → IsCube (size_of region) c → IsSubset (holds region) (holds c) → IsSubset (holds c) (holds cube) → IsDisjoint (holds c) (holds row)
          → (d : Cube) × Contains pieces d × IsSubset (holds c) (holds d)
      over c is_cube above_c below apart =
          let c_output = some_true c.outputs is_cube.some_output in
          let c_covers = Covers-from_IsSubset c region is_cube.has_size output.0 output.1 above_c in
          let cube_covers = Covers-from_IsSubset cube c (same_size c cube is_cube cube_size) c_output.0 c_output.1 below in
          let c_row : SameSize c row = (is_cube.has_size.0 ∙ sym cube_size.0 ∙ row_size.0, is_cube.has_size.1 ∙ sym cube_size.1 ∙ row_size.1) in
          elim (decide_inputs c.symbols row.symbols c_row.0) [
            | inl all ↦ elim (decide_outputs c.outputs row.outputs c_row.1) [
              | inl both ↦ (let place = common_place c row c_row all both in absurd (apart place.0 place.1 place.2))
              | inr alone ↦ (
                  let outs : (j : ℕ) → get_or c.outputs j false ≡ true → get_or (minus cube.outputs row.outputs) j false ≡ true = λ j on.
                  get_or-minus cube.outputs row.outputs j row_size.1
                  ∙ and_from (get_or cube.outputs j false) (not (get_or row.outputs j false)) (cube_covers.outputs j on)
                  (not_from_false (get_or row.outputs j false) (false_from_ne_true (get_or row.outputs j false) (alone j on))) in
                  let in_rest = IsSubset-from_Covers (rest_row cube row) c (same_size c (rest_row cube row) is_cube rest_size) (record { inputs = cube_covers.inputs; outputs = outs }) in (
                    rest_row cube row,
                    h.rest (true_some (minus cube.outputs row.outputs) c_output.0 (outs c_output.0 c_output.1)) (λ p held. in_rest p (above_c p held)),
                    in_rest,
                  ))
            ]
            | inr conflict ↦ (
                let i = conflict.0 in
                let through = opposite_through (get_or region.symbols i Dash) (get_or c.symbols i Dash) (get_or row.symbols i Dash) (c_covers.inputs i) conflict.1 in
                let lt : i < length region.symbols = elim (cases_lt i (length region.symbols)) [
                  | inl lt ↦ lt
                  | inr past ↦ absurd (false≢true (ap (λ s. are_opposite s (get_or row.symbols i Dash)) (sym (get_or_past region.symbols i Dash past)) ∙ through.0))
                ] in (
                  piece_at region cube i,
                  found i through.0,
                  piece_over i lt c (same_size c (piece_at region cube i) is_cube (piece_size i lt)) cube_covers (λ bit on. ap (λ s. agrees s bit) (sym through.1) ∙ on),
                ))
          ]

-- ---- lists over a region

module _ (size : Size) (region : Cube) where
  pub IsOver-same : (s t : Place → Bool) (cubes : List Cube) → ((p : Place) → s p ≡ t p) → IsOver size region s cubes → IsOver size region t cubes
  IsOver-same s t cubes same h = record {
    are_cubes = h.are_cubes;
    contain = h.contain;
    within = λ c k p held. sym (same p) ∙ h.within c k p held;
    over = λ c cube above in_t. h.over c cube above (λ p held. same p ∙ in_t p held);
  }

  -- everything, before any row
  pub IsOver-universal : (all : Cube) (cubes : List Cube) → IsCube size all → all ≡ universal size → HasSize region size → cubes ≡ all ∷ [] → IsOver size region (λ p. true) cubes
  IsOver-universal all cubes cube e sized is =
      let over = λ (c : Cube). λ (h : HasSize c size). λ (p : Place). λ (held : holds c p ≡ true).
      let place = IsPlace-from_holds size c p h held in
      ap (λ d. holds d p) e ∙ holds_universal size p place.0 place.1 in
      subst (IsOver size region (λ p. true)) (sym is) (record {
        are_cubes = members_all (IsCube size) (all ∷ []) (λ c h. subst (IsCube size) (Contains-one all c h) cube);
        contain = λ c h. subst (λ d. IsSubset (holds region) (holds d)) (Contains-one all c h) (over region sized);
        within = λ c h p held. refl;
        over = λ c is_cube above inside. (all, Contains-here all [], over c is_cube.has_size);
      })

  -- absorption
  pub IsOver-absorbed : (s : Place → Bool) (cubes kept : List Cube) → IsAbsorbed cubes kept → IsOver size region s cubes → IsOver size region s kept
  IsOver-absorbed s cubes kept a h = record {
    are_cubes = members_all (IsCube size) kept (λ c k. all_members (IsCube size) cubes h.are_cubes c (a.within c k));
    contain = λ c k. h.contain c (a.within c k);
    within = λ c k. h.within c (a.within c k);
    over = λ c cube above inside.
        let r = h.over c cube above inside in
        let q = a.over r.0 r.1 in
        (q.0, q.1, λ p k. q.2 p (r.2 p k));
  }

  -- no cube has a place of u
  pub Cuts-apart : (u : Place → Bool) (cubes : List Cube) → ((d : Cube) → Contains cubes d → IsDisjoint (holds d) u) → Cuts size region u cubes cubes
  Cuts-apart u cubes apart s h = record {
    are_cubes = h.are_cubes;
    contain = h.contain;
    within = λ c k p held. and_from (s p) (not (u p)) (h.within c k p held)
        (elim (cases_Bool (u p)) [
          | inl on ↦ absurd (apart c k p held on)
          | inr off ↦ not_from_false (u p) off
        ]);
    over = λ c cube above inside. h.over c cube above (λ p held. (and_parts (s p) (not (u p)) (inside p held)).0);
  }

  -- no cube has a place of the row
  pub Cuts-none : (row : Cube) (cubes : List Cube) → All (λ d. IsDisjoint (holds d) (holds row)) cubes → Cuts size region (holds row) cubes cubes
  Cuts-none row cubes apart = Cuts-apart (holds row) cubes (λ d k. all_members (λ d. IsDisjoint (holds d) (holds row)) cubes apart d k)

  -- one cut after another
  pub Cuts-in_turn : (u v w : Place → Bool) (cubes mid last : List Cube) → ((p : Place) → w p ≡ (u p || v p)) → Cuts size region u cubes mid → Cuts size region v mid last → Cuts size region w cubes last
  Cuts-in_turn u v w cubes mid last both one two s o =
      IsOver-same (difference (difference s u) v) (difference s w) last (λ p. joined (s p) (u p) (v p) ∙ ap (λ b. s p && not b) (sym (both p)))
      (two (difference s u) (one s o))
    where
      joined : (a b c : Bool) → ((a && not b) && not c) ≡ (a && not (b || c))
      joined true true c = refl
      joined true false c = refl
      joined false b c = refl

  -- no rows
  pub Cuts-no_rows : (cubes : List Cube) → Cuts size region (places []) cubes cubes
  Cuts-no_rows cubes = Cuts-apart (places []) cubes (λ d k p held on. false≢true on)

  -- a row more
  pub Cuts-more : (rows : List Cube) (i : ℕ) (row : Cube) (cubes mid last : List Cube) → i < length rows → row ≡ get_or rows i row
      → Cuts size region (places (take i rows)) cubes mid → Cuts size region (holds row) mid last → Cuts size region (places (take (i + 1) rows)) cubes last
  Cuts-more rows i row cubes mid last lt at = Cuts-in_turn (places (take i rows)) (holds row) (places (take (i + 1) rows)) cubes mid last next
    where
      or_none : (b : Bool) → (b || false) ≡ b
      or_none true = refl
      or_none false = refl

      next : (p : Place) → places (take (i + 1) rows) p ≡ (places (take i rows) p || holds row p)
      next p = ap (λ l. places l p) (take_more rows i row lt ∙ ap (λ c. take i rows ++ c ∷ []) (sym at)) ∙ places-append (take i rows) (row ∷ []) p ∙ ap (λ b. places (take i rows) p || b) (or_none (holds row p))

  -- some rows, and then those that meet what is left
  pub Cuts-in_order : (rows forcing near all cubes core last : List Cube) → ((c : Cube) → Contains forcing c → Contains rows c) → AreNear size (places core) rows near → HasSameCubes near all
      → Cuts size region (places forcing) cubes core → Cuts size region (places all) core last → Cuts size region (places rows) cubes last
  Cuts-in_order rows forcing near all cubes core last some h same one two =
      Cuts-in_turn (λ p. places forcing p || far p) (places all) (places rows) cubes core last
      (λ p. same_bool (places rows p) ((places forcing p || far p) || places all p)
      (λ e. elim (cases_Bool (places all p)) [
        | inl on ↦ or_right (places forcing p || far p) (places all p) on
        | inr off ↦ or_left (places forcing p || far p) (places all p) (or_right (places forcing p) (far p) (and_from (places rows p) (not (places all p)) e (not_from_false (places all p) off)))
      ])
      (λ e. elim (or_cases (places forcing p || far p) (places all p) e) [
        | inl k ↦ elim (or_cases (places forcing p) (far p) k) [
          | inl m ↦ (let w = list_any_witness (λ c. holds c p) forcing m in list_any_from (λ c. holds c p) rows w.0 (some w.0 w.1) w.2)
          | inr m ↦ (and_parts (places rows p) (not (places all p)) m).0
        ]
        | inr k ↦ (let w = list_any_witness (λ c. holds c p) all k in list_any_from (λ c. holds c p) rows w.0 (h.within w.0 ((same w.0).1 w.1)) w.2)
      ]))
      (Cuts-in_turn (places forcing) far (λ p. places forcing p || far p) cubes core core (λ p. refl) one (Cuts-apart far core apart))
      two
    where
      far : Place → Bool
      far p = places rows p && not (places all p)

      apart : (d : Cube) → Contains core d → IsDisjoint (holds d) far
      apart d k p held on =
          let parts = and_parts (places rows p) (not (places all p)) on in
          let w = list_any_witness (λ c. holds c p) rows parts.0 in
          elim (h.all w.0 w.1) [
            | inl off ↦ off p w.2 (list_any_from (λ c. holds c p) core d k held)
            | inr m ↦ false≢true (sym (not-true (places all p) parts.1) ∙ list_any_from (λ c. holds c p) all w.0 ((same w.0).0 m) w.2)
          ]

  -- everything cut by all rows
  pub IsOver-whole : (all : Cube) (cubes off left : List Cube) → all ≡ universal size → IsTrue (list_any (λ b. b) all.outputs) → HasSize region size → cubes ≡ all ∷ []
      → Cuts size region (places off) cubes left → IsOver size region (λ p. not (places off p)) left
  IsOver-whole all cubes off left e some sized is cuts =
      let cube : IsCube size all = record { has_size = subst (λ (d : Cube). HasSize d size) (sym e) (HasSize-universal size); some_output = some } in
      IsOver-same (difference (λ p. true) (places off)) (λ p. not (places off p)) left (λ p. refl) (cuts (λ p. true) (IsOver-universal all cubes cube e sized is))

  -- ---- a list that is cut

  pub IsCut-none : (row : Cube) → IsCut size region row [] [] []
  IsCut-none row = record {
    kept_cubes = members_all (IsCube size) [] (λ c h. absurd (Contains-nil c h));
    piece_cubes = members_all (IsCube size) [] (λ c h. absurd (Contains-nil c h));
    kept_within = λ c h. absurd (Contains-nil c h);
    pieces_within = λ c h. absurd (Contains-nil c h);
    over = λ c d cube h. absurd (Contains-nil d h);
  }

  module _ (row : Cube) (cubes : List Cube) (i : ℕ) (cube : Cube) (kept pieces : List Cube) (are : AreCubes size cubes) (lt : i < length cubes) (at : cube ≡ get_or cubes i cube)
      (so_far : IsCut size region row (take i cubes) kept pieces) where
    more : take (i + 1) cubes ≡ take i cubes ++ cube ∷ []
    more = take_more cubes i cube lt ∙ ap (λ c. take i cubes ++ c ∷ []) (sym at)

    is_cube : IsCube size cube
    is_cube = subst (IsCube size) (sym at) (are i cube lt)

    before : (d : Cube) → Contains (take i cubes) d → Contains (take (i + 1) cubes) d
    before d h = subst (λ l. Contains l d) (sym more) (Contains-append_left (take i cubes) (cube ∷ []) d h)

    own : Contains (take (i + 1) cubes) cube
    own = subst (λ l. Contains l cube) (sym more) (Contains-append_right (take i cubes) (cube ∷ []) cube (Contains-here cube []))

    cases : (d : Cube) → Contains (take (i + 1) cubes) d → Contains (take i cubes) d ⊎ (cube ≡ d)
    cases d h = elim (Contains-append_cases (take i cubes) (cube ∷ []) d (subst (λ l. Contains l d) more h)) [
      | inl k ↦ inl k
      | inr k ↦ inr (Contains-one cube d k)
    ]

    -- the cube stays
    pub IsCut-kept : (new : List Cube) → new ≡ kept ++ cube ∷ [] → IsDisjoint (holds cube) (holds row) → IsCut size region row (take (i + 1) cubes) new pieces
    IsCut-kept new e apart = subst (λ l. IsCut size region row (take (i + 1) cubes) l pieces) (sym e) (record {
      kept_cubes = members_all (IsCube size) (kept ++ cube ∷ []) (λ c h. elim (Contains-append_cases kept (cube ∷ []) c h) [
        | inl k ↦ all_members (IsCube size) kept so_far.kept_cubes c k
        | inr k ↦ subst (IsCube size) (Contains-one cube c k) is_cube
      ]);
      piece_cubes = so_far.piece_cubes;
      kept_within = λ c h. elim (Contains-append_cases kept (cube ∷ []) c h) [
        | inl k ↦ (let w = so_far.kept_within c k in (before c w.0, w.1))
        | inr k ↦ subst (λ d. Contains (take (i + 1) cubes) d × IsDisjoint (holds d) (holds row)) (Contains-one cube c k) (own, apart)
      ];
      pieces_within = λ c h. (let w = so_far.pieces_within c h in (w.0, w.1, (w.2.0, before w.2.0 w.2.1, w.2.2)));
      over = λ c d c_cube h above below off. elim (cases d h) [
        | inl k ↦ (
            let r = so_far.over c d c_cube k above below off in
            (r.0, elim r.1 [ inl m ↦ inl (Contains-append_left kept (cube ∷ []) r.0 m) | inr m ↦ inr m ], r.2))
        | inr k ↦ (cube, inl (Contains-append_right kept (cube ∷ []) cube (Contains-here cube [])), λ p held. ap (λ x. holds x p) k ∙ below p held)
      ];
    })

    -- its pieces take its place
    pub IsCut-pieces : (own_pieces new : List Cube) → new ≡ pieces ++ own_pieces → ArePieces size region row cube own_pieces → IsCut size region row (take (i + 1) cubes) kept new
    IsCut-pieces own_pieces new e are_pieces = subst (λ l. IsCut size region row (take (i + 1) cubes) kept l) (sym e) (record {
      kept_cubes = so_far.kept_cubes;
      piece_cubes = members_all (IsCube size) (pieces ++ own_pieces) (λ c h. elim (Contains-append_cases pieces own_pieces c h) [
        | inl k ↦ all_members (IsCube size) pieces so_far.piece_cubes c k
        | inr k ↦ all_members (IsCube size) own_pieces are_pieces.are_cubes c k
      ]);
      kept_within = λ c h. (let w = so_far.kept_within c h in (before c w.0, w.1));
      pieces_within = λ c h. elim (Contains-append_cases pieces own_pieces c h) [
        | inl k ↦ (let w = so_far.pieces_within c k in (w.0, w.1, (w.2.0, before w.2.0 w.2.1, w.2.2)))
        | inr k ↦ (are_pieces.contain c k, are_pieces.outside c k, (cube, own, are_pieces.within c k))
      ];
      over = λ c d c_cube h above below off. elim (cases d h) [
        | inl k ↦ (
            let r = so_far.over c d c_cube k above below off in
            (r.0, elim r.1 [ inl m ↦ inl m | inr m ↦ inr (Contains-append_left pieces own_pieces r.0 m) ], r.2))
        | inr k ↦ (
            let r = are_pieces.over c c_cube above (λ p held. ap (λ x. holds x p) k ∙ below p held) off in
            (r.0, inr (Contains-append_right pieces own_pieces r.0 r.1), r.2))
      ];
    })

  -- pieces may leave that lie in others
  pub IsCut-absorbed : (row : Cube) (cubes kept pieces fewer left : List Cube) → IsPartlyAbsorbed pieces fewer → IsWithoutAbsorbed fewer kept left
      → IsCut size region row cubes kept pieces → IsCut size region row cubes kept left
  IsCut-absorbed row cubes kept pieces fewer left a w h = record {
    kept_cubes = h.kept_cubes;
    piece_cubes = members_all (IsCube size) left (λ c k. all_members (IsCube size) pieces h.piece_cubes c (a.within c (w.within c k)));
    kept_within = h.kept_within;
    pieces_within = λ c k. h.pieces_within c (a.within c (w.within c k));
    over = λ c d cube k above below off.
        let r = h.over c d cube k above below off in
        elim r.1 [
          | inl m ↦ (r.0, inl m, r.2)
          | inr m ↦ (
              let q = a.over r.0 m in
              elim (w.over q.0 q.1) [
                | inl n ↦ (q.0, inr n, λ p held. q.2 p (r.2 p held))
                | inr n ↦ (n.0, inl n.1, λ p held. n.2 p (q.2 p (r.2 p held)))
              ])
        ];
  }

  pub AreCubes-cut : (row : Cube) (cubes kept pieces all : List Cube) → all ≡ kept ++ pieces → IsCut size region row cubes kept pieces → AreCubes size all
  AreCubes-cut row cubes kept pieces all e h = subst (AreCubes size) (sym e) (members_all (IsCube size) (kept ++ pieces) (λ c k. elim (Contains-append_cases kept pieces c k) [
    | inl m ↦ all_members (IsCube size) kept h.kept_cubes c m
    | inr m ↦ all_members (IsCube size) pieces h.piece_cubes c m
  ]))

  -- the whole list is cut
  pub Cuts-all : (row : Cube) (cubes kept pieces all : List Cube) → all ≡ kept ++ pieces → IsCut size region row cubes kept pieces → Cuts size region (holds row) cubes all
  Cuts-all row cubes kept pieces all e h s o = subst (IsOver size region (difference s (holds row))) (sym e) (record {
    are_cubes = members_all (IsCube size) (kept ++ pieces) (λ c k. elim (Contains-append_cases kept pieces c k) [
      | inl m ↦ all_members (IsCube size) kept h.kept_cubes c m
      | inr m ↦ all_members (IsCube size) pieces h.piece_cubes c m
    ]);
    contain = λ c k. elim (Contains-append_cases kept pieces c k) [
      | inl m ↦ o.contain c (h.kept_within c m).0
      | inr m ↦ (h.pieces_within c m).0
    ];
    within = λ c k p held. elim (Contains-append_cases kept pieces c k) [
      | inl m ↦ (let w = h.kept_within c m in outside p (o.within c w.0 p held) (w.1 p held))
      | inr m ↦ (let w = h.pieces_within c m in outside p (o.within w.2.0 w.2.1 p (w.2.2 p held)) (w.1 p held))
    ];
    over = λ c cube above inside.
        let r = o.over c cube above (λ p held. (and_parts (s p) (not (holds row p)) (inside p held)).0) in
        let q = h.over c r.0 cube r.1 above r.2 (λ p held on. false≢true (sym (not-true (holds row p) (and_parts (s p) (not (holds row p)) (inside p held)).1) ∙ on)) in
        (q.0, elim q.1 [ inl m ↦ Contains-append_left kept pieces q.0 m | inr m ↦ Contains-append_right kept pieces q.0 m ], q.2);
  })
    where
      outside : (p : Place) → s p ≡ true → (holds row p ≡ true → ⊥) → (s p && not (holds row p)) ≡ true
      outside p e off = and_from (s p) (not (holds row p)) e
          (elim (cases_Bool (holds row p)) [ inl on ↦ absurd (off on) | inr no' ↦ not_from_false (holds row p) no' ])

  -- ---- the largest

  module _ (s : Place → Bool) (cubes : List Cube) (rising : IsStrictlySortedBy row_cmp cubes) (o : IsOver size region s cubes) where
    cube_of : (c : Cube) → Contains cubes c → IsCube size c
    cube_of c h = all_members (IsCube size) cubes o.are_cubes c h

    -- a cube that lies in no larger one is maximal
    to_maximal : (c : Cube) → Contains cubes c → lies_in_larger size cubes c ≡ false → IsMaximal size s c
    to_maximal c h none' = record {
      is_cube = cube_of c h;
      within = o.within c h;
      largest = λ d cube inside above.
          let r = o.over d cube (λ p held. above p (o.contain c h p held)) inside in
          let up : IsSubset (holds c) (holds r.0) = λ p held. r.2 p (above p held) in
          elim (cases_Bool (is_within size r.0 c)) [
            | inl on ↦ (λ p held. fact_from_within size r.0 c (cube_of r.0 r.1).has_size on p (r.2 p held))
            | inr off ↦ absurd (list_any_none (λ e. is_within size c e && not (is_within size e c)) cubes r.0 none' r.1
                (and_from (is_within size c r.0) (not (is_within size r.0 c)) (within_from_fact size c r.0 up) (not_from_false (is_within size r.0 c) off)))
          ];
    }

    from_maximal : (c : Cube) → IsMaximal size s c → IsSubset (holds region) (holds c) → Contains cubes c × (lies_in_larger size cubes c ≡ false)
    from_maximal c m above =
        let r = o.over c m.is_cube above m.within in
        let same = same_cube size c r.0 m.is_cube (cube_of r.0 r.1) r.2 (m.largest r.0 (cube_of r.0 r.1) (o.within r.0 r.1) r.2) in (
          subst (Contains cubes) (sym same) r.1,
          list_any_false (λ e. is_within size c e && not (is_within size e c)) cubes (λ d h t.
              let parts = and_parts (is_within size c d) (not (is_within size d c)) t in
              let up = fact_from_within size c d m.is_cube.has_size parts.0 in
              false≢true (sym (not-true (is_within size d c) parts.1) ∙ within_from_fact size d c (m.largest d (cube_of d h) (o.within d h) up))),
        )

    pub largest-sum_containing : HasSize region size → largest size cubes ≡ sum_containing size s region
    largest-sum_containing sized =
        same_from_members row_cmp row_asymmetric (largest size cubes) (sum_containing size s region)
        (IsStrictlySortedBy-filter row_cmp (λ c. not (lies_in_larger size cubes c)) cubes rising)
        (IsStrictlySortedBy-filter row_cmp (is_within size region) (complete_sum size s) (sorted-complete_sum size s))
        (λ c h.
        let f = Contains-filter_cases (λ c. not (lies_in_larger size cubes c)) cubes c h in
        Contains-filter (is_within size region) (complete_sum size s) c
        ((Contains-complete_sum size s c).1 (to_maximal c f.0 (not-true (lies_in_larger size cubes c) f.1)))
        (within_from_fact size region c (o.contain c f.0)))
        (λ c h.
        let f = Contains-filter_cases (is_within size region) (complete_sum size s) c h in
        let r = from_maximal c ((Contains-complete_sum size s c).0 f.0) (fact_from_within size region c sized f.1) in
        Contains-filter (λ c. not (lies_in_larger size cubes c)) cubes c r.0 (not_from_false (lies_in_larger size cubes c) r.1))

pub AreCubes-largest : (size : Size) (cubes kept : List Cube) → kept ≡ largest size cubes → AreCubes size cubes → AreCubes size kept
AreCubes-largest size cubes kept e h =
    subst (AreCubes size) (sym e) (members_all (IsCube size) (largest size cubes) (λ c k. all_members (IsCube size) cubes h c (Contains-filter_cases (λ c. not (lies_in_larger size cubes c)) cubes c k).0))
