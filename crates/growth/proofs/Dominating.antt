-- Columns that dominate the cubes that contain a cube.
use Rattle.std.proofs.Common.{◌≡◌, ℕ, ◌+◌, ◌-◌, ◌<◌, ◌≤◌, ◌⊎◌, inl, inr, true, not, List, [], ◌∷◌, ◌++◌, length, take, drop, get_or, refl, ap, sym, subst, ◌∙◌, arith}
use Rattle.std.specs.List.{Contains, range_with_len}
use Rattle.std.proofs.Math.Seq.{take-append-add}
use Rattle.std.proofs.lemmas.Bool.{cases_Bool, both_ways}
use Rattle.std.proofs.lemmas.List.{get_or_default, take_more, take-append-drop}
use Rattle.std.proofs.lemmas.List.FromFn.{get_or-range_with_len, length-range_with_len}
use Rattle.std.proofs.lemmas.List.Elements.{All-contains, Contains-append_left, Contains-append_right, Contains-append_cases, Contains-get_or, Contains-push_cases}
use Rattle.cube.specs.Cube.{Cube, holds, IsCube, IsSubset, size_of}
use Rattle.cube.specs.Join.{supercube}
use Rattle.cube.specs.Sum.{is_subset, IsMaximal}
use Rattle.cube.proofs.Members.{Contains-here}
use Rattle.cube.proofs.SumLemmas.{Contains-complete_sum, is_subset-from_fact, IsSubset-from_test}
use Rattle.cover.specs.Cubes.{Cubes}
use Rattle.cover.specs.Places.{places}
use Rattle.cover.specs.Marks.{cube_at}
use Rattle.covering.specs.declared.choice.Choice.{Choice}
use Rattle.growth.specs.declared.prime.Side.TheVariants.{Outside}
use Rattle.growth.specs.declared.columns.open_points.OpenPoints.{OpenPoints}
use Rattle.growth.specs.Growth.{on_side}
use Rattle.growth.specs.Dominating.{IsDominated, primes_outside, HoldsOneOf, IsOpen, AreServed, AreCandidates, AddsColumns, IsBest, AreSorted}
use Rattle.growth.proofs.Joins.{wide_over, wide_with_point, least}

pub prime_parts : (off : Cubes) (c : Cube) → Contains (primes_outside off) c → IsMaximal off.size (on_side Outside off.cubes) c
prime_parts off c member = (Contains-complete_sum off.size (λ p. not (places off.cubes p)) c).0 member

-- ---- columns that are added

pub adds_none : (off : Cubes) (old : List Cube) → AddsColumns off old old
adds_none off old = record { kept = λ c h. h; primes = λ own c h. own c h }

pub adds_both : (off : Cubes) (old mid new : List Cube) → AddsColumns off old mid → AddsColumns off mid new → AddsColumns off old new
adds_both off old mid new one two = record { kept = λ c h. two.kept c (one.kept c h); primes = λ own. two.primes (one.primes own) }

pub adds_one : (off : Cubes) (old new : List Cube) (prime : Cube) → new ≡ old ++ prime ∷ [] → Contains (primes_outside off) prime → AddsColumns off old new
adds_one off old new prime e is = record {
  kept = λ c h. subst (λ l. Contains l c) (sym e) (Contains-append_left old (prime ∷ []) c h);
  primes = λ own c h. elim (Contains-push_cases old prime c (subst (λ l. Contains l c) e h)) [
    | inl k ↦ own c k
    | inr same ↦ subst (Contains (primes_outside off)) same is
  ];
}

pub last_member : (old new : List Cube) (prime : Cube) → new ≡ old ++ prime ∷ [] → Contains new prime
last_member old new prime e = subst (λ l. Contains l prime) (sym e) (Contains-append_right old (prime ∷ []) prime (Contains-here prime []))

-- ---- points by their numbers

pub cube_at-is : (points : List Cube) (k : ℕ) (x : Cube) → k < length points → x ≡ get_or points k x → cube_at points k ≡ x
cube_at-is points k x lt e = get_or_default points k (record { symbols = []; outputs = [] }) x lt ∙ sym e

-- the point with this number
pub cube_at-member : (points : List Cube) (x : Cube) (there : Contains points x) → cube_at points there.0 ≡ x
cube_at-member points x there = get_or_default points there.0 (record { symbols = []; outputs = [] }) x there.1 ∙ there.2

-- ---- numbers before and behind

pub next_taken : (xs : List ℕ) (at : ℕ) → at < length xs → (j : ℕ) → Contains (take (at + 1) xs) j → Contains (take at xs) j ⊎ (get_or xs at 0 ≡ j)
next_taken xs at lt j h = Contains-push_cases (take at xs) (get_or xs at 0) j (subst (λ l. Contains l j) (take_more xs at 0 lt) h)

pub around_number : (xs : List ℕ) (at : ℕ) → at < length xs → (j : ℕ) → Contains xs j → Contains (take at xs) j ⊎ ((get_or xs at 0 ≡ j) ⊎ Contains (drop (at + 1) xs) j)
around_number xs at lt j h = elim (Contains-append_cases (take (at + 1) xs) (drop (at + 1) xs) j (subst (λ l. Contains l j) (sym (take-append-drop (at + 1) xs)) h)) [
  | inl before ↦ elim (next_taken xs at lt j before) [ inl low ↦ inl low | inr here ↦ inr (inl here) ]
  | inr after ↦ inr (inr after)
]

-- what holds of the numbers before one and of it holds of those up to it
pub rest_more : (P : ℕ → Type 0) (xs : List ℕ) (at x : ℕ) → at < length xs → get_or xs at 0 ≡ x → ((j : ℕ) → Contains (take at xs) j → P j) → P x → (j : ℕ) → Contains (take (at + 1) xs) j → P j
rest_more P xs at x lt e before here j h = elim (next_taken xs at lt j h) [ inl low ↦ before j low | inr same ↦ subst P (sym e ∙ same) here ]

-- what a list begins with is taken with more of it
pub start_taken : (start xs : List ℕ) (at : ℕ) → take (length start) xs ≡ start → length start ≤ at → (j : ℕ) → Contains start j → Contains (take at xs) j
start_taken start xs at e le j h =
    let n = length start in
    let rest = drop n xs in
    let whole : start ++ rest ≡ xs = ap (λ l. l ++ rest) (sym e) ∙ take-append-drop n xs in
    let split : n + (at - n) ≡ at = omega (arith, le) in
    subst (λ l. Contains l j) (sym (take-append-add start rest (at - n)) ∙ ap (λ k. take k (start ++ rest)) split ∙ ap (take at) whole) (Contains-append_left start (take (at - n) rest) j h)

-- ---- what is settled so far

-- of some implicants each is dominated, or contains none of the points with these numbers
pub record AreSettled (choice : Choice) (points : List Cube) (asked : Cube → Type 0) (passed : List ℕ) (columns : List Cube) : Type 0 where
  pub each : (c : Cube) → asked c → IsDominated choice points columns c ⊎ (HoldsOneOf points passed c → ⊥)

pub dominated_more : (choice : Choice) (off : Cubes) (points old new : List Cube) (c : Cube) → AddsColumns off old new → IsDominated choice points old c → IsDominated choice points new c
dominated_more choice off points old new c adds d = record { column = d.column; member = adds.kept d.column d.member; dominates = d.dominates }

-- one number more, whose point's implicants are dominated
pub settled_more : (choice : Choice) (off : Cubes) (points : List Cube) (asked : Cube → Type 0) (passed next : List ℕ) (old new : List Cube) (k : ℕ) → AddsColumns off old new
    → ((j : ℕ) → Contains next j → Contains passed j ⊎ (k ≡ j))
    → ((c : Cube) → asked c → (HoldsOneOf points passed c → ⊥) → IsSubset (holds (cube_at points k)) (holds c) → IsDominated choice points new c)
    → AreSettled choice points asked passed old → AreSettled choice points asked next new
settled_more choice off points asked passed next old new k adds cases served so = record {
  each = λ c o. elim (so.each c o) [
    | inl d ↦ inl (dominated_more choice off points old new c adds d)
    | inr none ↦ (
        let x = cube_at points k in
        elim (cases_Bool (is_subset (size_of x) (holds x) (holds c))) [
          | inl e ↦ inl (served c o none (IsSubset-from_test (size_of x) x (holds c) (refl, refl) e))
          | inr e ↦ inr (λ h. elim (cases h.number h.member) [
            | inl low ↦ none (record { number = h.number; member = low; inside = h.inside })
            | inr here ↦ both_ways _ e (is_subset-from_fact (size_of x) (holds x) (holds c) (subst (λ n. IsSubset (holds (cube_at points n)) (holds c)) (sym here) h.inside))
          ])
        ])
  ];
}

-- ---- around a cube

pub none_open : (choice : Choice) (off : Cubes) (points : List Cube) (excluded : List ℕ) (cube : Cube) (columns : List Cube) → HoldsOneOf points excluded cube → AreServed choice off points excluded cube columns
none_open choice off points excluded cube columns h c o = absurd (o.none (record { number = h.number; member = h.member; inside = λ p k. o.over p (h.inside p k) }))

module _ (choice : Choice) (off : Cubes) (points : List Cube) (excluded candidates : List ℕ) (cube best : Cube) (order : OpenPoints) (sorted : AreSorted off points excluded candidates cube best order) where
  abbrev numbers : List ℕ
  numbers = order.numbers.items

  pub around_start : (columns : List Cube) → AreSettled choice points (IsOpen off points excluded cube) (take (length excluded) numbers) columns
  around_start columns = record { each = λ c o. inr (subst (λ l. HoldsOneOf points l c → ⊥) (sym sorted.start) o.none) }

  -- a point of an open implicant has a number, or lies in the cube
  known : AreCandidates off points excluded candidates cube → (c : Cube) → IsOpen off points excluded cube c → (k : ℕ) → k < length points → IsSubset (holds (cube_at points k)) (holds c)
      → Contains numbers k ⊎ IsSubset (holds (cube_at points k)) (holds cube)
  known all c o k lt sub = elim (all c o k lt sub) [
    | inr inside ↦ inr inside
    | inl member ↦ elim (sorted.rest k member) [
      | inl has ↦ inl has
      | inr none ↦ inr (none c o.is_cube o.within o.over sub)
    ]
  ]

  module _ (at : ℕ) (from : length excluded ≤ at) (lt : at < order.held) (cube_is : IsCube off.size cube) (point : Cube) (point_is : IsCube off.size point) (is_point : cube_at points (get_or numbers at 0) ≡ point) (wide : Cube) (is : wide ≡ supercube cube point) where
    within : at < length numbers
    within = let h = sorted.within in omega (arith, lt, h)

    -- what is open for the join is open for the cube
    opened : (c : Cube) → IsOpen off points (take at numbers) wide c → IsOpen off points excluded cube c
    opened c o = record {
      is_cube = o.is_cube;
      within = o.within;
      over = λ p h. o.over p (wide_over off cube point wide cube_is point_is is p h);
      none = λ h. o.none (record { number = h.number; member = start_taken excluded numbers at sorted.start from h.number h.member; inside = h.inside });
    }

    pub join_candidates : AreCandidates off points excluded candidates cube → AreCandidates off points (take at numbers) (drop (at + 1) numbers) wide
    join_candidates all c o k below sub = elim (known all c (opened c o) k below sub) [
      | inr inside ↦ inr (λ p h. wide_over off cube point wide cube_is point_is is p (inside p h))
      | inl has ↦ elim (around_number numbers at within k has) [
        | inl before ↦ absurd (o.none (record { number = k; member = before; inside = sub }))
        | inr (inl here) ↦ inr (λ p h. wide_with_point off cube point wide cube_is point_is is p (subst (λ z. holds z p ≡ true) (ap (cube_at points) (sym here) ∙ is_point) h))
        | inr (inr after) ↦ inl after
      ]
    ]

    pub join_served : (old new : List Cube) → AddsColumns off old new → AreServed choice off points (take at numbers) wide new → AreSettled choice points (IsOpen off points excluded cube) (take at numbers) old
        → AreSettled choice points (IsOpen off points excluded cube) (take (at + 1) numbers) new
    join_served old new adds served = settled_more choice off points (IsOpen off points excluded cube) (take at numbers) (take (at + 1) numbers) old new (get_or numbers at 0) adds (next_taken numbers at within)
        (λ c o none sub. served c (record {
          is_cube = o.is_cube;
          within = o.within;
          over = least off cube point wide cube_is point_is is c o.is_cube o.over (subst (λ z. IsSubset (holds z) (holds c)) is_point sub);
          none = none;
        }))

  pub around_end : (columns : List Cube) (at : ℕ) → at ≡ order.held → AreCandidates off points excluded candidates cube → IsBest choice off cube best → Contains columns best → AreSettled choice points (IsOpen off points excluded cube) (take at numbers) columns
      → AreServed choice off points excluded cube columns
  around_end columns at e all is_best member so c o = elim (so.each c o) [
    | inl d ↦ d
    | inr none ↦ record {
      column = best;
      member = member;
      dominates = record {
        over = λ x there sub.
            let k = there.0 in
            let same : cube_at points k ≡ x = cube_at-member points x there in
            let inside : IsSubset (holds (cube_at points k)) (holds c) = subst (λ z. IsSubset (holds z) (holds c)) (sym same) sub in
            subst (λ z. IsSubset (holds z) (holds best)) same (elim (known all c o k there.1 inside) [
              | inr own ↦ λ p h. is_best.over p (own p h)
              | inl has ↦ elim (Contains-append_cases (take at numbers) (drop at numbers) k (subst (λ l. Contains l k) (sym (take-append-drop at numbers)) has)) [
                | inl before ↦ absurd (none (record { number = k; member = before; inside = inside }))
                | inr after ↦ All-contains (λ j. IsSubset (holds (cube_at points j)) (holds best)) (drop order.held numbers) k sorted.inside (subst (λ n. Contains (drop n numbers) k) e after)
              ]
            ]);
        good = is_best.good c o.is_cube o.within o.over;
      };
    }
  ]

-- ---- a point, with all of the others

range_has : (n k : ℕ) → k < n → Contains (range_with_len 0 n) k
range_has n k lt = subst (Contains (range_with_len 0 n)) (get_or-range_with_len 0 n k 0 lt ∙ (omega arith)) (Contains-get_or (range_with_len 0 n) k 0 (let e = length-range_with_len 0 n in omega (arith, lt, e)))

pub all_candidates : (off : Cubes) (points : List Cube) (excluded candidates : List ℕ) (cube : Cube) → candidates ≡ range_with_len 0 (length points) → AreCandidates off points excluded candidates cube
all_candidates off points excluded candidates cube e c o k lt sub = inl (subst (λ l. Contains l k) (sym e) (range_has (length points) k lt))
