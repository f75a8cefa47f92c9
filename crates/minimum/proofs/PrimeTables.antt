-- The table of the primes has the covers by primes.
use Rattle.std.proofs.Common.{◌≡◌, ℕ, ◌+◌, ◌<◌, ◌≤◌, true, false, not, ◌&&◌, ◌||◌, List, [], ◌∷◌, length, get_or, set, replicate, slice_get, Option, Some, None, refl, ap, sym, subst, ◌∙◌, arith, inl, inr}
use Rattle.std.specs.List.{Contains, AllByRecursion, list_any, cons_option, range_with_len}
use Rattle.std.specs.Option.{unwrap_or}
use Rattle.std.proofs.lemmas.Bool.{cases_Bool, cases_lt, false≢true, and_parts, and_from, or_left, ltb-true, lt-ltb}
use Rattle.std.proofs.lemmas.List.{length-set, get_or-set_same, length-replicate}
use Rattle.std.proofs.lemmas.Option.{unwrap_or-slice_get}
use Rattle.cube.specs.Size.{Size}
use Rattle.cube.specs.declared.symbol.Symbol.TheVariants.{Dash}
use Rattle.cube.specs.Pattern.{matches}
use Rattle.cube.specs.Cube.{Cube, Place, IsPlace, holds, difference, SameSize, IsCube}
use Rattle.cube.specs.Sum.{complete_sum}
use Rattle.cube.proofs.SumLemmas.{IsPlace-from_holds, implied_at, is_subset-from_fact, complete_sum-over}
use Rattle.cover.specs.Cubes.{AreCubes}
use Rattle.cover.specs.Places.{places}
use Rattle.cover.specs.Marks.{cube_at}
use Rattle.cover.proofs.Lists.{list_any_from, list_any_witness, all_members}
use Rattle.cover.proofs.ContainmentLemmas.{All-range}
use Rattle.cover.proofs.Everywhere.{holds_universal}
use Rattle.pla.specs.Sets.{SetLists}
use Rattle.covering.specs.Table.{has, RisesFrom, AreRows, fresh}
use Rattle.covering.specs.Cover.{meets, IsCover}
use Rattle.covering.specs.Steps.{HasRow}
use Rattle.minimum.specs.Primes.{primes_of, care_on, chosen, is_prime_cover}
use Rattle.minimum.specs.PrimeTable.{HasPrimeCovers, IsPrimeCover}
use Rattle.minimum.specs.PrimeRows.{holds_at, AreCandidates, AreEnough, IsSplit, IsHolding, IsDemand, AddsRows, AreRowsOf, RowsSoFar}
use Rattle.covering.proofs.Sets.{meets_at}
use Rattle.covering.proofs.Rising.{range_rises, range_has, range_below}
use Rattle.growth.proofs.GrowthSteps.{set_one}
use Rattle.minimum.proofs.Numbers.{has_member, member_has, numbered, holds_at-below}

-- ---- the primes are enough

care_on_parts : (on dc : List Cube) (p : Place) → difference (places on) (places dc) p ≡ true → (places on p ≡ true) × (not (places dc p) ≡ true)
care_on_parts on dc p want = and_parts (places on p) (not (places dc p)) want

pub enough : (size : Size) (primes on dc : List Cube) → primes ≡ complete_sum size (λ p. places on p || places dc p) → AreCubes size on → AreEnough primes on dc
enough size primes on dc e are p want =
    let w = list_any_witness (λ c. holds c p) on (care_on_parts on dc p want).0 in
    let over = complete_sum-over size (λ q. places on q || places dc q) w.0 (all_members (IsCube size) on are w.0 w.1)
    (λ q h. or_left (places on q) (places dc q) (list_any_from (λ c. holds c q) on w.0 w.1 h)) in
    numbered primes p (list_any_from (λ c. holds c p) primes over.0 (subst (λ l. Contains l over.0) (sym e) over.1) (over.2 p w.2))

-- ---- the places of chosen cubes

pub places_chosen : (cubes : List Cube) (s : List ℕ) (p : Place) → places (chosen cubes s) p ≡ list_any (λ i. holds_at cubes i p) s
places_chosen cubes [] p = refl
places_chosen cubes (i ∷ s) p = go (slice_get cubes i) (unwrap_or-slice_get cubes i (record { symbols = []; outputs = [] })) (places_chosen cubes s p)
  where
    lacks : (q : Place) → holds (record { symbols = []; outputs = [] }) q ≡ false
    lacks q = elim (cases_Bool (matches [] q.point)) [ inl e ↦ ap (λ b. b && false) e | inr e ↦ ap (λ b. b && false) e ]

    go : (o : Option Cube) → unwrap_or o (record { symbols = []; outputs = [] }) ≡ cube_at cubes i → places (chosen cubes s) p ≡ list_any (λ k. holds_at cubes k p) s
        → places (cons_option o (chosen cubes s)) p ≡ (holds_at cubes i p || list_any (λ k. holds_at cubes k p) s)
    go None e rest = rest ∙ ap (λ b. b || list_any (λ k. holds_at cubes k p) s) (sym (lacks p) ∙ ap (λ c. holds c p) e)
    go (Some c) e rest = ap (λ b. holds c p || b) rest ∙ ap (λ d. holds d p || list_any (λ k. holds_at cubes k p) s) e

-- ---- covers

module _ (sets : SetLists) (on_cubes : AreCubes sets.size sets.on) where
  place_of : (p : Place) → care_on sets p ≡ true → IsPlace sets.size p
  place_of p want =
      let w = list_any_witness (λ c. holds c p) sets.on (care_on_parts sets.on sets.dc p want).0 in
      IsPlace-from_holds sets.size w.0 p (all_members (IsCube sets.size) sets.on on_cubes w.0 w.1).has_size w.2

  pub holding_from : (s : List ℕ) → is_prime_cover sets s ≡ true → IsHolding (primes_of sets) sets.on sets.dc s
  holding_from s test p want =
      let held = implied_at sets.size (care_on sets) (places (chosen (primes_of sets) s)) test p (place_of p want) want in
      let w = list_any_witness (λ i. holds_at (primes_of sets) i p) s (sym (places_chosen (primes_of sets) s p) ∙ held) in
      (w.0, member_has w.0 s w.1, w.2)

  holding_to : (s : List ℕ) → IsHolding (primes_of sets) sets.on sets.dc s → is_prime_cover sets s ≡ true
  holding_to s h = is_subset-from_fact sets.size (care_on sets) (places (chosen (primes_of sets) s)) (λ p want.
      let k = h p want in
      places_chosen (primes_of sets) s p ∙ list_any_from (λ i. holds_at (primes_of sets) i p) s k.0 (has_member k.0 s k.1) k.2)

  met_row : (s row : List ℕ) (rows : List (List ℕ)) → AllByRecursion (λ r. meets s r ≡ true) rows → HasRow row rows → meets s row ≡ true
  met_row s row [] met h = absurd h
  met_row s row (r ∷ rows) met (inl e) = ap (meets s) e ∙ met.0
  met_row s row (r ∷ rows) met (inr h) = met_row s row rows met.1 h

  all_met : (s : List ℕ) (rows : List (List ℕ)) → IsHolding (primes_of sets) sets.on sets.dc s → AllByRecursion (IsDemand (primes_of sets) sets.on sets.dc) rows → AllByRecursion (λ r. meets s r ≡ true) rows
  all_met s [] holding d = tt
  all_met s (r ∷ rows) holding d = (d.0.met s holding, all_met s rows holding d.1)

  -- each cover by primes meets rows that are demands
  pub demands_met : (rows : List (List ℕ)) (weights : List ℕ) → length weights ≡ length (primes_of sets) → AllByRecursion (IsDemand (primes_of sets) sets.on sets.dc) rows → (s : List ℕ) → IsPrimeCover sets s → IsCover (fresh rows weights) s
  demands_met rows weights long demands s cover = record {
    rises = cover.rises;
    taken = λ n h. absurd (false≢true h);
    only = λ n h. range_has n 0 (length weights) (omega arith) (let k = subst (λ k. n < k) (sym long) (cover.below n h) in omega arith);
    rows = all_met s rows (holding_from s cover.holds) demands;
  }

  pub same_covers : (rows : List (List ℕ)) (weights : List ℕ) → length weights ≡ length (primes_of sets) → AreRowsOf (primes_of sets) sets.on sets.dc rows → HasPrimeCovers sets (fresh rows weights)
  same_covers rows weights long of s = (
    λ cover. record {
      rises = cover.rises;
      below = λ n h. subst (λ k. n < k) long (let k = range_below n 0 (length weights) (cover.only n h) in omega arith);
      holds = holding_to s (λ p want.
          let r = of.has_rows p refl want in
          let m = meets_at s r.0 (met_row s r.0 rows cover.rows r.1) in
          (m.0, m.1, r.2 m.0 m.2));
    },
    demands_met rows weights long of.demands s,
  )

  pub are_rows : (rows : List (List ℕ)) (n : ℕ) → n ≡ length (primes_of sets) → AllByRecursion (IsDemand (primes_of sets) sets.on sets.dc) rows → AreRows n rows
  are_rows [] n long d = tt
  are_rows (r ∷ rows) n long d = ((d.0.some, d.0.rises, λ c h. subst (λ k. c < k) (sym long) (d.0.below c h)), are_rows rows n long d.1)

-- ---- output by output

pub rows_none : (primes on dc : List Cube) → RowsSoFar primes on dc 0 []
rows_none primes on dc = record { demands = tt; has_rows = λ p low _. absurd (let l = ltb-true p.output 0 low in omega arith) }

module _ (size : Size) (primes on dc : List Cube) (primes_are : AreCubes size primes) (on_are : AreCubes size on) (dc_are : AreCubes size dc) (are_enough : AreEnough primes on dc) where
  abbrev region_of : ℕ → Cube
  region_of j = record { symbols = replicate size.inputs Dash; outputs = set (replicate size.outputs false) j true }

  region_size : (j : ℕ) (d : Cube) → IsCube size d → SameSize d (region_of j)
  region_size j d cube = (cube.has_size.0 ∙ sym (length-replicate size.inputs Dash), cube.has_size.1 ∙ sym (length-set (replicate size.outputs false) j true ∙ length-replicate size.outputs false))

  all_candidates : (cubes : List Cube) (region : Cube) (all : List ℕ) → all ≡ range_with_len 0 (length cubes) → AreCandidates cubes region all
  all_candidates cubes region all e = record {
    rises = subst (RisesFrom 0) (sym e) (range_rises 0 (length cubes));
    below = All-range (length cubes) all e;
    all = λ i p _ held. ap (has i) e ∙ range_has i 0 (length cubes) (omega arith) (let k = holds_at-below cubes i p held in omega arith);
  }

  pub region_split : (j : ℕ) (region : Cube) (np non ndc : List ℕ) → region ≡ region_of j → np ≡ range_with_len 0 (length primes) → non ≡ range_with_len 0 (length on) → ndc ≡ range_with_len 0 (length dc)
      → IsSplit primes on dc region np non ndc
  region_split j region np non ndc e a b c = subst (λ r. IsSplit primes on dc r np non ndc) (sym e) (record {
    one = λ k l on_k on_l. set_one size.outputs j k on_k ∙ sym (set_one size.outputs j l on_l);
    enough = are_enough;
    primes_size = λ k d lt. region_size j (get_or primes k d) (primes_are k d lt);
    on_size = λ k d lt. region_size j (get_or on k d) (on_are k d lt);
    dc_size = λ k d lt. region_size j (get_or dc k d) (dc_are k d lt);
    primes_candidates = all_candidates primes (region_of j) np a;
    on_candidates = all_candidates on (region_of j) non b;
    dc_candidates = all_candidates dc (region_of j) ndc c;
  })

  pub rows_more : (j : ℕ) (region : Cube) (old new : List (List ℕ)) → j < size.outputs → region ≡ region_of j → RowsSoFar primes on dc j old → AddsRows primes on dc (holds region) old new → RowsSoFar primes on dc (j + 1) new
  rows_more j region old new lt e before adds = record {
    demands = adds.demands before.demands;
    has_rows = λ p low want. elim (cases_lt p.output j) [
      | inl less ↦ (let r = before.has_rows p (lt-ltb p.output j less) want in (r.0, adds.kept r.0 r.1, r.2))
      | inr more ↦ (
          let same : p.output ≡ j = (let l = ltb-true p.output (j + 1) low in omega arith) in
          let w = list_any_witness (λ c. holds c p) on (care_on_parts on dc p want).0 in
          let place = IsPlace-from_holds size w.0 p (all_members (IsCube size) on on_are w.0 w.1).has_size w.2 in
          adds.has_rows p (ap (λ c. holds c p) e ∙ and_from (matches (replicate size.inputs Dash) p.point) (get_or (set (replicate size.outputs false) j true) p.output false)
          (and_parts (matches (replicate size.inputs Dash) p.point) (get_or (replicate size.outputs true) p.output false) (holds_universal size p place.0 place.1)).0
          (ap (λ k. get_or (set (replicate size.outputs false) j true) k false) same ∙ get_or-set_same (replicate size.outputs false) j true false (omega (arith, length-replicate size.outputs false)))) want)
    ];
  }

  pub rows_all : (j : ℕ) (rows : List (List ℕ)) → size.outputs ≤ j → RowsSoFar primes on dc j rows → AreRowsOf primes on dc rows
  rows_all j rows past so = record {
    demands = so.demands;
    has_rows = λ p _ want.
        let w = list_any_witness (λ c. holds c p) on (care_on_parts on dc p want).0 in
        let place = IsPlace-from_holds size w.0 p (all_members (IsCube size) on on_are w.0 w.1).has_size w.2 in
        so.has_rows p (lt-ltb p.output j (omega (arith, place.1))) want;
  }
