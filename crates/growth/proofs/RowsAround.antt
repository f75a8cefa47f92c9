-- Rows as cubes that contain another cube meet them: literals that they share with it do not count.
use Rattle.std.proofs.Common.{◌≡◌, ◌∙◌, ℕ, ◌+◌, ◌<◌, ◌||◌, Bool, true, false, not, cond, List, [], ◌∷◌, ◌++◌, length, map, take, get_or, refl, ap, sym, subst, arith, inl, inr}
use Rattle.std.specs.List.{Contains, list_any, filter, range_with_len}
use Rattle.std.proofs.lemmas.Bool.{and_parts, and_from, cases_Bool, or_cases, false≢true, not_from_false}
use Rattle.std.proofs.lemmas.List.{length-map, take_more}
use Rattle.std.proofs.lemmas.List.Elements.{Contains-append_left, Contains-append_right, Contains-push_cases}
use Rattle.std.proofs.lemmas.List.FromFn.{get_or-map-range_with_len, length-range_with_len}
use Rattle.cube.specs.declared.symbol.Symbol.{Symbol}
use Rattle.cube.specs.declared.symbol.Symbol.TheVariants.{Dash, Zero, One}
use Rattle.cube.specs.Size.{Size}
use Rattle.cube.specs.Pattern.{agrees, matches}
use Rattle.cube.specs.Cube.{Cube, Place, holds, HasSize, SameSize, IsCube, IsSubset, IsDisjoint}
use Rattle.cube.specs.Join.{supercube_symbol, supercube}
use Rattle.cube.specs.Sharp.{opposite, minus}
use Rattle.cube.proofs.HoldsLemmas.{Covers, agrees_at-matches, length-matches, matches-from_agrees}
use Rattle.cube.proofs.JoinLemmas.{agrees-supercube_symbol}
use Rattle.cube.proofs.Members.{Contains-here, Contains-nil, Contains-filter, Contains-filter_cases}
use Rattle.cube.proofs.SharpLemmas.{true_some, get_or-minus}
use Rattle.cube.proofs.SumLemmas.{Contains-complete_sum, is_subset-from_fact, IsSubset-from_test}
use Rattle.cube.proofs.ZipLemmas.{get_or-zip2_any}
use Rattle.cover.specs.Cubes.{Cubes}
use Rattle.cover.specs.Contained.{is_within}
use Rattle.cover.specs.Places.{places}
use Rattle.cover.specs.Reduced.{HasSameCubes}
use Rattle.cover.proofs.Lists.{list_any_witness}
use Rattle.cover.proofs.Reasons.{within_rows}
use Rattle.covering.specs.declared.choice.Choice.{Choice}
use Rattle.growth.specs.Dominating.{IsDominated, primes_outside, IsImplicant, IsAgainst, IsWidened, IsAround, HaveSameImplicantsOver}
use Rattle.growth.proofs.Dominating.{prime_parts}
use Rattle.growth.proofs.GrowthSteps.{same_sizes, covering}
use Rattle.growth.proofs.Joins.{wide_cube, wide_over, avoids, avoids_back}

agrees-opposite : (s : Symbol) (b : Bool) → agrees (opposite s) b ≡ true → agrees s (not b) ≡ true
agrees-opposite Dash b h = refl
agrees-opposite Zero true h = refl
agrees-opposite Zero false h = absurd (false≢true h)
agrees-opposite One true h = absurd (false≢true h)
agrees-opposite One false h = refl

agrees_either : (s : Symbol) (b : Bool) → agrees s b ≡ false → agrees s (not b) ≡ true
agrees_either Dash b h = absurd (false≢true (sym h))
agrees_either Zero true h = refl
agrees_either Zero false h = absurd (false≢true (sym h))
agrees_either One true h = absurd (false≢true (sym h))
agrees_either One false h = refl

-- the bit itself where the row agrees with it, and else the other one
abbrev bent : Symbol → Bool → Bool
bent s b = cond (agrees s b) b (not b)

module _ (c row y : Symbol) (b : Bool) (inside : agrees c b ≡ true) (wide : agrees (supercube_symbol row (opposite y)) b ≡ true) (over : (bit : Bool) → agrees y bit ≡ true → agrees c bit ≡ true) where
  bent_both : (agrees c (bent row b) ≡ true) × (agrees row (bent row b) ≡ true)
  bent_both = elim (cases_Bool (agrees row b)) [
    | inl e ↦ let same : bent row b ≡ b = ap (λ t. cond t b (not b)) e in (ap (agrees c) same ∙ inside, ap (agrees row) same ∙ e)
    | inr e ↦
        let other : bent row b ≡ not b = ap (λ t. cond t b (not b)) e in
        let from : agrees (opposite y) b ≡ true = sym (ap (λ t. t || agrees (opposite y) b) e) ∙ sym (agrees-supercube_symbol row (opposite y) b) ∙ wide in
        (ap (agrees c) other ∙ over (not b) (agrees-opposite y b from), ap (agrees row) other ∙ agrees_either row b e)
  ]

-- a row, widened to what it has against a cube: a cube over that cube meets both or none
module _ (c row y against : Cube) (same : SameSize row c) (covers : Covers c y) (long : length against.symbols ≡ length c.symbols)
    (wide_outputs : length against.outputs ≡ length c.outputs)
    (symbols : (i : ℕ) → get_or against.symbols i Dash ≡ opposite (get_or y.symbols i Dash))
    (outputs : (j : ℕ) → get_or against.outputs j false ≡ true → get_or row.outputs j false ≡ true) where
  module _ (p : Place) (inside : holds c p ≡ true) (met : holds (supercube row against) p ≡ true) where
    abbrev bits : ℕ → Bool
    bits i = bent (get_or row.symbols i Dash) (get_or p.point i false)

    abbrev point : List Bool
    point = map bits (range_with_len 0 (length c.symbols))

    long_point : length point ≡ length c.symbols
    long_point = length-map (range_with_len 0 (length c.symbols)) bits ∙ length-range_with_len 0 (length c.symbols)

    bit_of_point : (i : ℕ) → i < length c.symbols → get_or point i false ≡ bits i
    bit_of_point i lt = get_or-map-range_with_len bits 0 (length c.symbols) i i false lt (omega arith)

    both : (i : ℕ) → i < length c.symbols → (agrees (get_or c.symbols i Dash) (bits i) ≡ true) × (agrees (get_or row.symbols i Dash) (bits i) ≡ true)
    both i lt =
        let b = get_or p.point i false in
        let parts = and_parts (matches c.symbols p.point) (get_or c.outputs p.output false) inside in
        let others = and_parts (matches (supercube row against).symbols p.point) (get_or (supercube row against).outputs p.output false) met in
        let symbol : get_or (supercube row against).symbols i Dash ≡ supercube_symbol (get_or row.symbols i Dash) (get_or against.symbols i Dash) =
        get_or-zip2_any supercube_symbol row.symbols against.symbols i Dash Dash Dash (same.0 ∙ sym long) refl in
        let in_wide : i < length (supercube row against).symbols = omega (arith, length-matches c.symbols p.point parts.0, length-matches (supercube row against).symbols p.point others.0) in
        let wide : agrees (supercube_symbol (get_or row.symbols i Dash) (opposite (get_or y.symbols i Dash))) b ≡ true =
        ap (λ s. agrees (supercube_symbol (get_or row.symbols i Dash) s) b) (sym (symbols i)) ∙ ap (λ s. agrees s b) (sym symbol) ∙ agrees_at-matches (supercube row against).symbols p.point i others.0 in_wide in
        bent_both (get_or c.symbols i Dash) (get_or row.symbols i Dash) (get_or y.symbols i Dash) b (agrees_at-matches c.symbols p.point i parts.0 lt) wide (covers.inputs i)

    output : get_or row.outputs p.output false ≡ true
    output =
        let others = and_parts (matches (supercube row against).symbols p.point) (get_or (supercube row against).outputs p.output false) met in
        let bit : get_or (supercube row against).outputs p.output false ≡ (get_or row.outputs p.output false || get_or against.outputs p.output false) =
        get_or-zip2_any (λ x y'. x || y') row.outputs against.outputs p.output false false false (same.1 ∙ sym wide_outputs) refl in
        elim (or_cases (get_or row.outputs p.output false) (get_or against.outputs p.output false) (sym bit ∙ others.1)) [
          | inl e ↦ e
          | inr e ↦ outputs p.output e
        ]

    abbrev moved : Place
    moved = record { point = point; output = p.output }

    in_cube : holds c moved ≡ true
    in_cube =
        let parts = and_parts (matches c.symbols p.point) (get_or c.outputs p.output false) inside in
        and_from (matches c.symbols point) (get_or c.outputs p.output false)
        (matches-from_agrees c.symbols point long_point (λ i lt. ap (agrees (get_or c.symbols i Dash)) (bit_of_point i lt) ∙ (both i lt).0)) parts.1

    in_row : holds row moved ≡ true
    in_row =
        and_from (matches row.symbols point) (get_or row.outputs p.output false)
        (matches-from_agrees row.symbols point (long_point ∙ sym same.0) (λ i lt. let at : i < length c.symbols = omega (arith, lt, same.0) in ap (agrees (get_or row.symbols i Dash)) (bit_of_point i at) ∙ (both i at).1)) output

  pub apart_wide : IsDisjoint (holds row) (holds c) → IsDisjoint (holds (supercube row against)) (holds c)
  apart_wide apart p met inside = apart (moved p inside met) (in_row p inside met) (in_cube p inside met)

-- ---- one row

pub widened_none : (size : Size) (y row wide : Cube) → IsCube size row → wide ≡ row → IsWidened size y row wide
widened_none size y row wide is e = subst (IsWidened size y row) (sym e) (record { is_cube = is; over = λ p h. h; apart = λ c c_is sub apart. apart })

-- a row, joined with what is against a cube, whose outputs it has
pub widened_by : (size : Size) (y row against wide : Cube) → IsCube size row → IsCube size y → IsAgainst size y against → (list_any (λ b. b) (minus against.outputs row.outputs) ≡ true → ⊥)
    → wide ≡ supercube row against → IsWidened size y row wide
widened_by size y row against wide row_is y_is is none e =
    let off : Cubes = record { size = size; cubes = [] } in
    let long : length against.outputs ≡ length row.outputs = is.is_cube.has_size.1 ∙ sym row_is.has_size.1 in
    record {
      is_cube = wide_cube off row against wide row_is is.is_cube e;
      over = wide_over off row against wide row_is is.is_cube e;
      apart = λ c c_is sub apart. subst (λ w. IsDisjoint (holds w) (holds c)) (sym e) (apart_wide c row y against (same_sizes size c row c_is row_is) (covering size y c y_is c_is sub)
          (is.is_cube.has_size.0 ∙ sym c_is.has_size.0) (is.is_cube.has_size.1 ∙ sym c_is.has_size.1) is.symbols
          (λ j on. elim (cases_Bool (get_or row.outputs j false)) [
            | inl has ↦ has
            | inr lacks ↦ absurd (none (true_some (minus against.outputs row.outputs) j (get_or-minus against.outputs row.outputs j long
                ∙ and_from (get_or against.outputs j false) (not (get_or row.outputs j false)) on (not_from_false (get_or row.outputs j false) lacks))))
          ])
          apart);
    }

-- ---- places of lists

pub places_grow : (old new : List Cube) → ((c : Cube) → Contains old c → Contains new c) → IsSubset (places old) (places new)
places_grow old new kept p h = let w = list_any_witness (λ z. holds z p) old h in within_rows new w.0 (kept w.0 w.1) p w.2

-- one row more lies in s
pub over_next : (rows : List Cube) (i : ℕ) (row : Cube) → i < length rows → row ≡ get_or rows i row → (s : Place → Bool) → IsSubset (places (take i rows)) s → IsSubset (holds row) s → IsSubset (places (take (i + 1) rows)) s
over_next rows i row lt at s before here p h =
    let w = list_any_witness (λ z. holds z p) (take (i + 1) rows) h in
    elim (Contains-push_cases (take i rows) (get_or rows i row) w.0 (subst (λ l. Contains l w.0) (take_more rows i row lt) w.1)) [
      | inl low ↦ before p (within_rows (take i rows) w.0 low p w.2)
      | inr same ↦ here p (ap (λ z. holds z p) (at ∙ same) ∙ w.2)
    ]

-- ---- all rows

pub around_none : (off : Cubes) (y : Cube) (rows : List Cube) → IsAround off y (take 0 rows) []
around_none off y rows = record { over = λ p h. h; apart = λ d c member. absurd (Contains-nil d member) }

pub around_next : (off : Cubes) (y : Cube) (rows : List Cube) (i : ℕ) (row wide : Cube) (old new : List Cube) → i < length rows → row ≡ get_or rows i row → Contains off.cubes row → IsWidened off.size y row wide
    → new ≡ old ++ wide ∷ [] → IsAround off y (take i rows) old → IsAround off y (take (i + 1) rows) new
around_next off y rows i row wide old new lt at member widened e so =
    let more : (c : Cube) → Contains old c → Contains new c = λ c h. subst (λ l. Contains l c) (sym e) (Contains-append_left old (wide ∷ []) c h) in
    let last : Contains new wide = subst (λ l. Contains l wide) (sym e) (Contains-append_right old (wide ∷ []) wide (Contains-here wide [])) in
    record {
      over = over_next rows i row lt at (places new) (λ p h. places_grow old new more p (so.over p h)) (λ p h. within_rows new wide last p (widened.over p h));
      apart = λ d c h within. elim (Contains-push_cases old wide d (subst (λ l. Contains l d) e h)) [
        | inl low ↦ so.apart d c low within
        | inr same ↦ subst (λ z. IsDisjoint (holds z) (holds c)) same
            (widened.apart c within.is_cube within.over (λ p in_row in_c. avoids_back off c within.within p in_c (within_rows off.cubes row member p in_row)))
      ];
    }

pub same_implicants : (off around : Cubes) (y : Cube) (wide sorted : List Cube) → IsAround off y off.cubes wide → HasSameCubes wide sorted → ((c : Cube) → Contains around.cubes c → Contains sorted c)
    → IsSubset (places sorted) (places around.cubes) → HaveSameImplicantsOver off around y
same_implicants off around y wide sorted is same members over c c_is sub = (
  λ within. avoids around c (λ p in_c held.
      let w = list_any_witness (λ z. holds z p) around.cubes held in
      is.apart w.0 c ((same w.0).1 (members w.0 w.1)) (record { is_cube = c_is; within = within; over = sub }) p w.2 in_c),
  λ within. avoids off c (λ p in_c held. avoids_back around c within p in_c (over p (places_grow wide sorted (λ d. (same d).0) p (is.over p held)))),
)

-- ---- columns around a point

module _ (off around : Cubes) (y : Cube) (size : around.size ≡ off.size) (same : HaveSameImplicantsOver off around y) where
  pub prime_around : (c : Cube) → Contains (primes_outside around) c → IsSubset (holds y) (holds c) → Contains (primes_outside off) c
  prime_around c member over =
      let is = prime_parts around c member in
      let is_cube : IsCube off.size c = subst (λ n. IsCube n c) size is.is_cube in
      (Contains-complete_sum off.size (λ p. not (places off.cubes p)) c).1 (record {
        is_cube = is_cube;
        within = (same c is_cube over).1 is.within;
        largest = λ d d_is within sub. is.largest d (subst (λ n. IsCube n d) (sym size) d_is) ((same d d_is (λ p h. sub p (over p h))).0 within) sub;
      })

  module _ (points found kept : List Cube) (n : Size) (n_is : n ≡ off.size) (own : Contains points y) (kept_is : kept ≡ filter (is_within n y) found) (y_is : IsCube off.size y) where
    pub kept_prime : ((c : Cube) → Contains found c → Contains (primes_outside around) c) → (c : Cube) → Contains kept c → Contains (primes_outside off) c
    kept_prime primes c h =
        let f = Contains-filter_cases (is_within n y) found c (subst (λ l. Contains l c) kept_is h) in
        prime_around c (primes c f.0) (IsSubset-from_test n y (holds c) (subst (HasSize y) (sym n_is) y_is.has_size) f.1)

    pub kept_dominated : (choice : Choice) → ((c : Cube) → IsCube around.size c → IsImplicant around c → IsSubset (holds y) (holds c) → IsDominated choice points found c)
        → (c : Cube) → IsCube off.size c → IsImplicant off c → IsSubset (holds y) (holds c) → IsDominated choice points kept c
    kept_dominated choice served c c_is within over =
        let d = served c (subst (λ m. IsCube m c) (sym size) c_is) ((same c c_is over).0 within) over in
        record {
          column = d.column;
          member = subst (λ l. Contains l d.column) (sym kept_is) (Contains-filter (is_within n y) found d.column d.member (is_subset-from_fact n (holds y) (holds d.column) (d.dominates.over y own over)));
          dominates = d.dominates;
        }
