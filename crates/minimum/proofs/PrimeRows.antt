-- Rows of the wanted places of a region.
use Rattle.std.proofs.Common.{◌≡◌, ◌≢◌, ℕ, suc, ◌<◌, Bool, true, false, not, List, [], ◌∷◌, ◌++◌, length, get_or, slice_get, Some, All, refl, ap, sym, subst, ◌∙◌, arith, inl, inr, eqb}
use Rattle.std.specs.Prelude.{MatchBool}
use Rattle.std.specs.List.{AllByRecursion, list_any, filter}
use Rattle.std.proofs.lemmas.Bool.{cases_Bool, false≢true, both_ways, and_parts, and_from, or_cases, eqb-true, not-true, not_from_false}
use Rattle.std.proofs.lemmas.Option.{slice_get_within, get_or_from_slice_get}
use Rattle.std.proofs.lemmas.List.{length-set}
use Rattle.std.proofs.lemmas.List.Elements.{All-filter}
use Rattle.cube.specs.declared.symbol.Symbol.{Symbol}
use Rattle.cube.specs.declared.symbol.Symbol.TheVariants.{Dash, Zero, One}
use Rattle.cube.specs.Pattern.{matches}
use Rattle.cube.specs.Cube.{Cube, Place, holds, difference, SameSize, IsSubset, IsDisjoint, size_of, with_symbol}
use Rattle.cube.proofs.Members.{list_all_at}
use Rattle.cube.proofs.SumLemmas.{IsSubset-from_test, is_subset-from_fact}
use Rattle.cover.specs.Places.{places, is_disjoint}
use Rattle.cover.specs.Marks.{cube_at}
use Rattle.cover.proofs.Lists.{list_any_from, list_any_witness}
use Rattle.cover.proofs.Meeting.{is_disjoint-from_fact}
use Rattle.cover.proofs.Regions.{narrowed, narrowed_at, inputs_hold}
use Rattle.covering.specs.Table.{has, RisesFrom}
use Rattle.covering.specs.Cover.{meets}
use Rattle.covering.specs.Steps.{HasRow}
use Rattle.covering.specs.Search.{is_blank}
use Rattle.covering.specs.Reduce.{holds_all}
use Rattle.minimum.specs.PrimeRows.{intersects_region, contains_region, holds_at, HasNoneInside, AreCandidates, AreIntersecting, HasOneOutput, IsSplit, IsIntersecting, HasRowsFor, IsSettled, IsOpen, IsDemand, AddsRows}
use Rattle.covering.proofs.Sets.{filter_parts, filter_keeps, filter_rises, meets_from}
use Rattle.minimum.proofs.Numbers.{has_member, member_has, has_all, cube_at-all, places_at, numbered, holds_at-below}

-- ---- the cubes near a region

-- a cube that has a place of the region passes the test
pub touches_from_place : (cubes : List Cube) (region : Cube) (i : ℕ) (p : Place) → All (λ d. SameSize d region) cubes → holds region p ≡ true → holds_at cubes i p ≡ true → intersects_region cubes region i ≡ true
touches_from_place cubes region i p sizes in_region in_cube =
    let size = cube_at-all (λ d. SameSize d region) cubes i (holds_at-below cubes i p in_cube) sizes in
    elim (cases_Bool (is_disjoint (size_of region) (holds (cube_at cubes i)) (holds region))) [
      | inl apart ↦ absurd (IsDisjoint-test (cube_at cubes i) region size apart p in_cube in_region)
      | inr off ↦ ap not off
    ]
  where
    IsDisjoint-test : (c region : Cube) → SameSize c region → is_disjoint (size_of region) (holds c) (holds region) ≡ true → IsDisjoint (holds c) (holds region)
    IsDisjoint-test c region size test p in_c in_region = false≢true (sym (not-true (holds region p) (IsSubset-from_test (size_of region) c (λ q. not (holds region q)) size test p in_c)) ∙ in_region)

pub candidates_touching : (cubes : List Cube) (region : Cube) (numbers kept : List ℕ) → All (λ d. SameSize d region) cubes → AreCandidates cubes region numbers
    → kept ≡ filter (intersects_region cubes region) numbers → AreCandidates cubes region kept × AreIntersecting cubes region kept
candidates_touching cubes region numbers kept sizes candidates e = subst (λ l. AreCandidates cubes region l × AreIntersecting cubes region l) (sym e) (
  record {
    rises = filter_rises (intersects_region cubes region) 0 numbers candidates.rises;
    below = All-filter (intersects_region cubes region) (λ i. i < length cubes) numbers candidates.below;
    all = λ i p in_region in_cube. filter_keeps (intersects_region cubes region) i numbers (candidates.all i p in_region in_cube) (touches_from_place cubes region i p sizes in_region in_cube);
  },
  λ i h. (filter_parts (intersects_region cubes region) i numbers h).1,
)

pub spans_holds : (cubes : List Cube) (region : Cube) (i : ℕ) → contains_region cubes region i ≡ true → IsSubset (holds region) (holds (cube_at cubes i))
spans_holds cubes region i test = IsSubset-from_test (size_of region) region (holds (cube_at cubes i)) (refl, refl) test

-- a cube that intersects_region a region of one output, and has no literal inside, holds it
pub spans_from_outside : (cubes : List Cube) (region : Cube) (i : ℕ) → HasOneOutput region → SameSize (cube_at cubes i) region → intersects_region cubes region i ≡ true
    → HasNoneInside (cube_at cubes i) region → IsSubset (holds region) (holds (cube_at cubes i))
spans_from_outside cubes region i one size touched outside p in_region =
    let d = cube_at cubes i in
    let meets : IsDisjoint (holds d) (holds region) → ⊥ = λ apart. false≢true (sym (not-true _ touched) ∙ is_disjoint-from_fact (size_of region) (holds d) (holds region) apart) in
    let parts = and_parts (matches region.symbols p.point) (get_or region.outputs p.output false) in_region in
    and_from (matches d.symbols p.point) (get_or d.outputs p.output false)
    (inputs_hold region d size meets (λ k lt dash. outside k dash) p.point parts.0)
    (elim (cases_Bool (get_or d.outputs p.output false)) [
      | inl on ↦ on
      | inr off ↦ absurd (meets (λ q in_d in_q.
          let other = one p.output q.output parts.1 (and_parts (matches region.symbols q.point) (get_or region.outputs q.output false) in_q).1 in
          false≢true (sym off ∙ ap (λ j. get_or d.outputs j false) other ∙ (and_parts (matches d.symbols q.point) (get_or d.outputs q.output false) in_d).1)))
    ])

module _ (primes on dc : List Cube) where
  abbrev wants : Place → Bool
  wants = difference (places on) (places dc)

  -- ---- no place is wanted

  pub no_row_without_on : (region : Cube) (np non ndc : List ℕ) (rows : List (List ℕ)) → IsSplit primes on dc region np non ndc → non ≡ [] → HasRowsFor primes on dc (holds region) rows
  no_row_without_on region np non ndc rows s none' p in_region want =
      let n = numbered on p (and_parts (places on p) (not (places dc p)) want).0 in
      absurd (false≢true (ap (has n.0) (sym none') ∙ s.on_candidates.all n.0 p in_region n.1))

  pub no_row_within_dc : (region : Cube) (np non ndc : List ℕ) (rows : List (List ℕ)) → list_any (contains_region dc region) ndc ≡ true → HasRowsFor primes on dc (holds region) rows
  no_row_within_dc region np non ndc rows some p in_region want =
      let w = list_any_witness (contains_region dc region) ndc some in
      absurd (both_ways (places dc p) (not-true (places dc p) (and_parts (places on p) (not (places dc p)) want).1) (places_at dc w.0 p (spans_holds dc region w.0 w.2 p in_region)))

  -- ---- a row that asks for more

  pub common_primes_spanning : (region : Cube) (np non ndc kept : List ℕ) → IsIntersecting primes on dc region np non ndc → kept ≡ filter (contains_region primes region) np
      → RisesFrom 0 kept × ((i : ℕ) (p : Place) → has i kept ≡ true → holds region p ≡ true → wants p ≡ true → holds_at primes i p ≡ true)
  common_primes_spanning region np non ndc kept t e = (
    subst (RisesFrom 0) (sym e) (filter_rises (contains_region primes region) 0 np t.split.primes_candidates.rises),
    λ i p h in_region want. spans_holds primes region i (filter_parts (contains_region primes region) i np (ap (has i) (sym e) ∙ h)).1 p in_region,
  )

  pub no_row_by_known : (region : Cube) (common_primes : List ℕ) (rows : List (List ℕ))
      → ((i : ℕ) (p : Place) → has i common_primes ≡ true → holds region p ≡ true → wants p ≡ true → holds_at primes i p ≡ true)
      → list_any (λ row. holds_all common_primes row) rows ≡ true → HasRowsFor primes on dc (holds region) rows
  no_row_by_known region common_primes rows hold some p in_region want =
      let w = known rows some in
      (w.0, w.1, λ i h. hold i p (w.2 i h) in_region want)
    where
      every : (row : List ℕ) → holds_all common_primes row ≡ true → (i : ℕ) → has i row ≡ true → has i common_primes ≡ true
      every row all i h = list_all_at (λ n. has n common_primes) row i all (has_member i row h)

      known : (rows : List (List ℕ)) → list_any (λ row. holds_all common_primes row) rows ≡ true → (row : List ℕ) × HasRow row rows × ((i : ℕ) → has i row ≡ true → has i common_primes ≡ true)
      known [] some = absurd (false≢true some)
      known (row ∷ rows) some = elim (or_cases (holds_all common_primes row) (list_any (λ r. holds_all common_primes r) rows) some) [
        | inl here ↦ (row, inl refl, every row here)
        | inr later ↦ (let w = known rows later in (w.0, inr w.1, w.2))
      ]

  -- ---- the row of a region

  -- some place of an open region is wanted
  some_care_on : (region : Cube) (np non ndc : List ℕ) → IsIntersecting primes on dc region np non ndc → non ≢ [] → ((p : Place) → holds region p ≡ true → places dc p ≡ false)
      → ((p : Place) → holds region p ≡ true → wants p ≡ true → ⊥) → ⊥
  some_care_on region np [] ndc t some no_dc none' = some refl
  some_care_on region np (i ∷ rest) ndc t some no_dc none' =
      false≢true (sym (not-true _ (t.on_intersect i (member_has i (i ∷ rest) (0, omega arith, refl))))
      ∙ is_disjoint-from_fact (size_of region) (holds (cube_at on i)) (holds region) (λ p in_on in_region.
      none' p in_region (and_from (places on p) (not (places dc p)) (places_at on i p in_on) (not_from_false (places dc p) (no_dc p in_region)))))

  pub demand : (region : Cube) (np non ndc : List ℕ) → IsIntersecting primes on dc region np non ndc → non ≢ [] → IsSettled primes on dc region np → IsDemand primes on dc np
  demand region np non ndc t some settled = record {
    some = λ e. some_care_on region np non ndc t some settled.no_dc (λ p in_region want.
        let k = t.split.enough p want in
        false≢true (ap (has k.0) (sym e) ∙ t.split.primes_candidates.all k.0 p in_region k.1));
    rises = t.split.primes_candidates.rises;
    below = λ i h. has_all (λ k. k < length primes) i np t.split.primes_candidates.below h;
    met = λ s holding. elim (cases_Bool (meets s np)) [
      | inl met ↦ met
      | inr out ↦ absurd (some_care_on region np non ndc t some settled.no_dc (λ p in_region want.
          let k = holding p want in
          both_ways (meets s np) out (meets_from k.0 s np k.1 (t.split.primes_candidates.all k.0 p in_region k.2))))
    ];
  }

  -- ---- when a region is settled

  -- a prime that is alone near the region holds each wanted place of it
  pub alone_holds : (region : Cube) (np non ndc : List ℕ) → IsIntersecting primes on dc region np non ndc → length np ≡ 1
      → (i : ℕ) (p : Place) → has i np ≡ true → holds region p ≡ true → wants p ≡ true → holds_at primes i p ≡ true
  alone_holds region np non ndc t one i p h in_region want =
      let k = t.split.enough p want in
      subst (λ n. holds_at primes n p ≡ true) (only np one k.0 i (t.split.primes_candidates.all k.0 p in_region k.1) h) k.1
    where
      sole : (a x : ℕ) → has a (x ∷ []) ≡ true → eqb a x ≡ true
      sole a x h = elim (or_cases (eqb a x) false h) [ inl e ↦ e | inr e ↦ absurd (false≢true e) ]

      only : (xs : List ℕ) → length xs ≡ 1 → (a b : ℕ) → has a xs ≡ true → has b xs ≡ true → a ≡ b
      only [] e a b h k = absurd (false≢true h)
      only (x ∷ []) e a b h k = eqb-true a x (sole a x h) ∙ sym (eqb-true b x (sole b x k))
      only (x ∷ y ∷ xs) e a b h k = absurd (omega arith)

  pub settled_alone : (region : Cube) (np non ndc : List ℕ) → IsIntersecting primes on dc region np non ndc → length np ≡ 1 → ndc ≡ [] → IsSettled primes on dc region np
  settled_alone region np non ndc t one none' = record {
    no_dc = λ p in_region. elim (cases_Bool (places dc p)) [
      | inl there ↦ (let n = numbered dc p there in absurd (false≢true (ap (has n.0) (sym none') ∙ t.split.dc_candidates.all n.0 p in_region n.1)))
      | inr out ↦ out
    ];
    hold = λ p in_region want i h. alone_holds region np non ndc t one i p h in_region want;
  }

  pub settled_inside : (region : Cube) (np non ndc : List ℕ) → IsIntersecting primes on dc region np non ndc → list_any (contains_region dc region) ndc ≡ false
      → ((i : ℕ) → has i np ≡ true → HasNoneInside (cube_at primes i) region) → ((i : ℕ) → has i ndc ≡ true → HasNoneInside (cube_at dc i) region) → IsSettled primes on dc region np
  settled_inside region np non ndc t none_contains outside dc_outside = record {
    no_dc = λ p in_region. elim (cases_Bool (places dc p)) [
      | inl there ↦ (
          let n = numbered dc p there in
          let candidates = t.split.dc_candidates.all n.0 p in_region n.1 in
          let size = cube_at-all (λ d. SameSize d region) dc n.0 (holds_at-below dc n.0 p n.1) t.split.dc_size in
          let whole = spans_from_outside dc region n.0 t.split.one size (t.dc_intersect n.0 candidates) (dc_outside n.0 candidates) in
          absurd (false≢true (sym none_contains ∙ list_any_from (contains_region dc region) ndc n.0 (has_member n.0 ndc candidates)
          (is_subset-from_fact (size_of region) (holds region) (holds (cube_at dc n.0)) whole))))
      | inr out ↦ out
    ];
    hold = λ p in_region want i h.
        let size = cube_at-all (λ d. SameSize d region) primes i (has_all (λ k. k < length primes) i np t.split.primes_candidates.below h) t.split.primes_size in
        spans_from_outside primes region i t.split.one size (t.primes_intersect i h) (outside i h) p in_region;
  }

  -- ---- an answer of each question

  pub open_from : (region : Cube) (non ndc : List ℕ) (blank : Bool) (some : Bool) → blank ≡ is_blank non → blank ≡ false → some ≡ list_any (contains_region dc region) ndc → some ≡ false
      → IsOpen dc region non ndc
  open_from region non ndc blank some e off f none_contains = record {
    some_on = λ none'. false≢true (sym off ∙ e ∙ ap is_blank none');
    none_contains = sym f ∙ none_contains;
  }

  pub blank_from : (xs : List ℕ) (blank : Bool) → blank ≡ is_blank xs → blank ≡ true → xs ≡ []
  blank_from [] blank e on = refl
  blank_from (x ∷ xs) blank e on = absurd (let f = eqb-true (suc (length xs)) 0 (sym e ∙ on) in omega arith)

  -- ---- filling

  pub adds_nothing : (region : Place → Bool) (rows : List (List ℕ)) → HasRowsFor primes on dc region rows → AddsRows primes on dc region rows rows
  adds_nothing region rows has_rows = record { kept = λ row h. h; demands = λ h. h; has_rows = has_rows }

  row_kept : (row : List ℕ) (rows more : List (List ℕ)) → HasRow row rows → HasRow row (rows ++ more)
  row_kept row [] more h = absurd h
  row_kept row (r ∷ rows) more (inl e) = inl e
  row_kept row (r ∷ rows) more (inr h) = inr (row_kept row rows more h)

  row_last : (row : List ℕ) (rows : List (List ℕ)) → HasRow row (rows ++ row ∷ [])
  row_last row [] = inl refl
  row_last row (r ∷ rows) = inr (row_last row rows)

  demands_last : (row : List ℕ) (rows : List (List ℕ)) → IsDemand primes on dc row → AllByRecursion (IsDemand primes on dc) rows → AllByRecursion (IsDemand primes on dc) (rows ++ row ∷ [])
  demands_last row [] d h = (d, tt)
  demands_last row (r ∷ rows) d h = (h.0, demands_last row rows d h.1)

  pub adds_row : (region : Cube) (np non ndc : List ℕ) (rows new : List (List ℕ)) → IsIntersecting primes on dc region np non ndc → non ≢ [] → IsSettled primes on dc region np
      → new ≡ rows ++ np ∷ [] → AddsRows primes on dc (holds region) rows new
  adds_row region np non ndc rows new t some settled e = subst (AddsRows primes on dc (holds region) rows) (sym e) (record {
    kept = λ row h. row_kept row rows (np ∷ []) h;
    demands = λ h. demands_last np rows (demand region np non ndc t some settled) h;
    has_rows = λ p in_region want. (np, row_last np rows, settled.hold p in_region want);
  })

  -- a half of the region
  pub split_half : (region half : Cube) (np non ndc : List ℕ) (i : ℕ) (s : Symbol) → IsIntersecting primes on dc region np non ndc → slice_get region.symbols i ≡ Some Dash → half ≡ with_symbol region i s
      → IsSplit primes on dc half np non ndc
  split_half region half np non ndc i s t dash e = subst (λ c. IsSplit primes on dc c np non ndc) (sym e) (
      let lt = slice_get_within region.symbols i Dash dash in
      let free = get_or_from_slice_get region.symbols i Dash Dash dash in
      let within = narrowed region i s lt free in
      let size : (d : Cube) → SameSize d region → SameSize d (with_symbol region i s) = λ d h. (h.0 ∙ sym (length-set region.symbols i s), h.1) in
      record {
        one = t.split.one;
        enough = t.split.enough;
        primes_size = λ k d lt. size (get_or primes k d) (t.split.primes_size k d lt);
        on_size = λ k d lt. size (get_or on k d) (t.split.on_size k d lt);
        dc_size = λ k d lt. size (get_or dc k d) (t.split.dc_size k d lt);
        primes_candidates = record { rises = t.split.primes_candidates.rises; below = t.split.primes_candidates.below; all = λ k p h. t.split.primes_candidates.all k p (within p h) };
        on_candidates = record { rises = t.split.on_candidates.rises; below = t.split.on_candidates.below; all = λ k p h. t.split.on_candidates.all k p (within p h) };
        dc_candidates = record { rises = t.split.dc_candidates.rises; below = t.split.dc_candidates.below; all = λ k p h. t.split.dc_candidates.all k p (within p h) };
      })

  pub adds_halves : (region low high : Cube) (i : ℕ) (old mid new : List (List ℕ)) → slice_get region.symbols i ≡ Some Dash → low ≡ with_symbol region i Zero → high ≡ with_symbol region i One
      → AddsRows primes on dc (holds low) old mid → AddsRows primes on dc (holds high) mid new → AddsRows primes on dc (holds region) old new
  adds_halves region low high i old mid new dash is_low is_high one two =
      let lt = slice_get_within region.symbols i Dash dash in
      record {
        kept = λ row h. two.kept row (one.kept row h);
        demands = λ h. two.demands (one.demands h);
        has_rows = λ p in_region want. elim (cases_Bool (get_or p.point i false)) [
          | inl on ↦ two.has_rows p (ap (λ c. holds c p) is_high ∙ narrowed_at region i One lt p in_region on) want
          | inr off ↦ (
              let r = one.has_rows p (ap (λ c. holds c p) is_low ∙ narrowed_at region i Zero lt p in_region (not_from_false (get_or p.point i false) off)) want in
              (r.0, two.kept r.0 r.1, r.2))
        ];
      }

-- what a question says where its answer is no
pub match_true : (P Q : Type 0) (b : Bool) → b ≡ true → MatchBool b P Q → P
match_true P Q true e h = h
match_true P Q false e h = absurd (false≢true e)

pub match_false : (P Q : Type 0) (b : Bool) → b ≡ false → MatchBool b P Q → Q
match_false P Q true e h = absurd (false≢true (sym e))
match_false P Q false e h = h
