-- A prime is essential if it has a wanted place from which no step out of it leads to an implicant.
use Rattle.std.proofs.Common.{◌≡◌, ◌≢◌, ℕ, ◌+◌, ◌<◌, ◌⊎◌, inl, inr, Bool, true, false, not, ◌&&◌, ◌||◌, List, [], ◌∷◌, ◌++◌, length, map, take, replicate, get_or, set, refl, ap, ap₂, sym, subst, ◌∙◌, arith, Result, Ok, Err, IfOk}
use Rattle.std.specs.List.{Contains, filter, list_all}
use Rattle.std.specs.List.Sorted.{IsStrictlySortedBy}
use Rattle.std.specs.Ordering.{is_eq}
use Rattle.std.proofs.lemmas.Bool.{cases_Bool, cases_eq, cases_lt, false≢true, and_parts, and_from, or_cases, or_left, or_parts, not-true, not_from_false}
use Rattle.std.proofs.lemmas.List.{get_or-set_same, get_or-set_other, get_or_past, set-get_or, set-set, length-set, length-map, length-replicate}
use Rattle.std.proofs.lemmas.List.Elements.{All-append, All-cons, All-nil, Contains-append_cases, Contains-append_left, Contains-append_right}
use Rattle.std.proofs.lemmas.List.Kept.{IsStrictlySortedBy-filter}
use Rattle.std.proofs.lemmas.Cmp.{tied_itself}
use Rattle.cube.specs.declared.symbol.Symbol.{Symbol}
use Rattle.cube.specs.declared.symbol.Symbol.TheVariants.{Dash, Zero, One}
use Rattle.cube.specs.Size.{Size}
use Rattle.cube.specs.Pattern.{agrees, matches}
use Rattle.cube.specs.Cube.{Cube, Place, holds, intersection, IsCube, IsPlace, IsSubset}
use Rattle.cube.specs.Order.{row_cmp}
use Rattle.cube.specs.Sum.{complete_sum, is_subset, all_places, IsMaximal}
use Rattle.cube.proofs.HoldsLemmas.{agrees_at-matches, matches-set, IsSubset-from_Covers}
use Rattle.cube.proofs.Members.{Contains-here, Contains-nil, Contains-cases, Contains-filter, Contains-filter_cases, same_from_members}
use Rattle.cube.proofs.SharpLemmas.{true_some, same_from_places}
use Rattle.cube.proofs.SumLemmas.{IsPlace-from_holds, IsSubset-from_test, is_subset-from_fact, implied_at, row_total, row_asymmetric, Contains-complete_sum, complete_sum-over, sorted-complete_sum}
use Rattle.cover.specs.Complete.{literal}
use Rattle.cover.specs.Cubes.{AreCubes}
use Rattle.cover.specs.Places.{places}
use Rattle.cover.specs.Reduced.{HasSameCubes}
use Rattle.cover.proofs.Inputs.{matches-set_bit, matches-own}
use Rattle.cover.proofs.Lists.{list_any_from, list_any_witness, members_all}
use Rattle.cover.proofs.SumMeets.{places-append}
use Rattle.pla.specs.Sets.{SetLists}
use Rattle.minimum.specs.Primes.{primes_of, care_on, others, essential_of}
use Rattle.minimum.specs.declared.essential_by_neighbours.grown_primes.GrownPrimes.{GrownPrimes}
use Rattle.minimum.specs.Neighbours.{flip, under, IsAlone, AreNeighbours, has_own, essential_in, IsOwn, HaveSize, AddsPrime, AreGrown, AreFoundIn, AddsEssential}
use Rattle.growth.specs.Growth.{LiesInOneOf}
use Rattle.minimum.proofs.BothLists.{primes-together}
use Rattle.minimum.proofs.EssentialPrimes.{equal_from}
use Rattle.growth.proofs.MorePlaces.{more_places}
use Rattle.growth.proofs.GrowthSteps.{none_set, same_sizes}

-- ---- two places as a cube

agrees_own : (b : Bool) → agrees (literal b) b ≡ true
agrees_own false = refl
agrees_own true = refl

agrees_only : (b x : Bool) → agrees (literal b) x ≡ true → x ≡ b
agrees_only false x e = not-true x e
agrees_only true x e = e

matches_own : (bits : List Bool) → matches (map literal bits) bits ≡ true
matches_own [] = refl
matches_own (b ∷ bits) = and_from (agrees (literal b) b) (matches (map literal bits) bits) (agrees_own b) (matches_own bits)

matches_only : (bits point : List Bool) → matches (map literal bits) point ≡ true → point ≡ bits
matches_only [] [] e = refl
matches_only [] (x ∷ point) e = absurd (false≢true e)
matches_only (b ∷ bits) [] e = absurd (false≢true e)
matches_only (b ∷ bits) (x ∷ point) e =
    let parts = and_parts (agrees (literal b) x) (matches (map literal bits) point) e in
    ap₂ (λ y ys. y ∷ ys) (agrees_only b x parts.0) (matches_only bits point parts.1)

set_only : (bs : List Bool) (j k : ℕ) → get_or (set bs j true) k false ≡ true → (k ≡ j) ⊎ (get_or bs k false ≡ true)
set_only bs j k h = elim (cases_eq k j) [
  | inl e ↦ inl e
  | inr ne ↦ inr (sym (get_or-set_other bs j k true false ne) ∙ h)
]

same_or_not : (x y : Bool) → (x ≡ y) ⊎ (x ≡ not y)
same_or_not true true = inl refl
same_or_not true false = inr refl
same_or_not false true = inr refl
same_or_not false false = inl refl

dash_or : (t : Symbol) → (t ≡ Dash) ⊎ (t ≢ Dash)
dash_or Dash = inl refl
dash_or Zero = inr (λ e. cc e)
dash_or One = inr (λ e. cc e)

both_bits : (t : Symbol) (bit : Bool) → t ≢ Dash → agrees t bit ≡ true → agrees t (not bit) ≡ true → ⊥
both_bits Dash bit lit a b = lit refl
both_bits Zero true lit a b = false≢true a
both_bits Zero false lit a b = false≢true b
both_bits One true lit a b = false≢true b
both_bits One false lit a b = false≢true a

module _ (size : Size) (s : Place → Bool) (p : Place) (place : IsPlace size p) (in_s : s p ≡ true) where
  abbrev own_outputs : List Bool
  own_outputs = set (replicate size.outputs false) p.output true

  own_long : length own_outputs ≡ size.outputs
  own_long = length-set (replicate size.outputs false) p.output true ∙ length-replicate size.outputs false

  own_output : get_or own_outputs p.output false ≡ true
  own_output = get_or-set_same (replicate size.outputs false) p.output true false (omega (arith, length-replicate size.outputs false, place.1))

  own_only : (k : ℕ) → get_or own_outputs k false ≡ true → k ≡ p.output
  own_only k h = elim (set_only (replicate size.outputs false) p.output k h) [ inl e ↦ e | inr on ↦ absurd (false≢true (sym (none_set size.outputs k) ∙ on)) ]

  -- some prime holds the place and the one across an input
  pub prime_across : (i : ℕ) → i < size.inputs → s (flip i p) ≡ true → (d : Cube) × Contains (complete_sum size s) d × (holds d p ≡ true) × (holds d (flip i p) ≡ true)
  prime_across i lt on =
      let own = map literal p.point in
      let long : length own ≡ size.inputs = length-map p.point literal ∙ place.0 in
      let inside : i < length own = omega (arith, long, lt) in
      let pair : Cube = record { symbols = set own i Dash; outputs = own_outputs } in
      let cube : IsCube size pair = record { has_size = (length-set own i Dash ∙ long, own_long); some_output = true_some own_outputs p.output own_output } in
      let here : matches (set own i Dash) p.point ≡ true = (and_parts (agrees (get_or own i Dash) (get_or p.point i false)) (matches (set own i Dash) p.point)
      (sym (matches-own own p.point i inside) ∙ matches_own p.point)).1 in
      let within : IsSubset (holds pair) s = λ q h.
      let parts = and_parts (matches (set own i Dash) q.point) (get_or own_outputs q.output false) h in
      let bit = get_or q.point i false in
      let back : set q.point i (get_or p.point i false) ≡ p.point = matches_only p.point (set q.point i (get_or p.point i false))
      (matches-set_bit own q.point i (get_or p.point i false) inside ∙ and_from (agrees (get_or own i Dash) (get_or p.point i false)) (matches (set own i Dash) q.point)
      (agrees_at-matches own p.point i (matches_own p.point) inside) parts.0) in
      let point : q.point ≡ set p.point i bit = sym (set-get_or q.point i false) ∙ sym (set-set q.point i (get_or p.point i false) bit) ∙ ap (λ z. set z i bit) back in
      let at : q ≡ record { point = set p.point i bit; output = p.output } = λ n. record { point = point n; output = own_only q.output parts.1 n } in
      elim (same_or_not bit (get_or p.point i false)) [
        | inl same ↦ ap s at ∙ ap (λ b. s (record { point = set p.point i b; output = p.output })) same ∙ ap (λ z. s (record { point = z; output = p.output })) (set-get_or p.point i false) ∙ in_s
        | inr other ↦ ap s at ∙ ap (λ b. s (record { point = set p.point i b; output = p.output })) other ∙ on
      ] in
      let r = complete_sum-over size s pair cube within in (
        r.0,
        r.1,
        r.2 p (and_from (matches (set own i Dash) p.point) (get_or own_outputs p.output false) here own_output),
        r.2 (flip i p) (and_from (matches (set own i Dash) (set p.point i (not (get_or p.point i false)))) (get_or own_outputs p.output false)
            (matches-set (set own i Dash) p.point i (not (get_or p.point i false)) here (ap (λ t. agrees t (not (get_or p.point i false))) (get_or-set_same own i Dash Dash inside))) own_output),
      )

  -- some prime holds the place and that under another output
  pub prime_under : (j : ℕ) → j < size.outputs → s (under j p) ≡ true → (d : Cube) × Contains (complete_sum size s) d × (holds d p ≡ true) × (holds d (under j p) ≡ true)
  prime_under j lt on =
      let own = map literal p.point in
      let outputs = set own_outputs j true in
      let inside : j < length own_outputs = omega (arith, own_long, lt) in
      let new : get_or outputs j false ≡ true = get_or-set_same own_outputs j true false inside in
      let old : get_or outputs p.output false ≡ true = elim (cases_eq p.output j) [
        | inl e ↦ ap (λ k. get_or outputs k false) e ∙ new
        | inr ne ↦ get_or-set_other own_outputs j p.output true false ne ∙ own_output
      ] in
      let pair : Cube = record { symbols = own; outputs = outputs } in
      let cube : IsCube size pair = record { has_size = (length-map p.point literal ∙ place.0, length-set own_outputs j true ∙ own_long); some_output = true_some outputs p.output old } in
      let within : IsSubset (holds pair) s = λ q h.
      let parts = and_parts (matches own q.point) (get_or outputs q.output false) h in
      let point : q.point ≡ p.point = matches_only p.point q.point parts.0 in
      elim (set_only own_outputs j q.output parts.1) [
        | inl e ↦ (let at : q ≡ under j p = λ n. record { point = point n; output = e n } in ap s at ∙ on)
        | inr e ↦ (let at : q ≡ p = λ n. record { point = point n; output = own_only q.output e n } in ap s at ∙ in_s)
      ] in
      let r = complete_sum-over size s pair cube within in (
        r.0,
        r.1,
        r.2 p (and_from (matches own p.point) (get_or outputs p.output false) (matches_own p.point) old),
        r.2 (under j p) (and_from (matches own p.point) (get_or outputs j false) (matches_own p.point) new),
      )

-- ---- a place that one prime alone holds

module _ (size : Size) (s : Place → Bool) (c : Cube) (prime : IsMaximal size s c) (p : Place) (in_c : holds c p ≡ true) where
  point_in : matches c.symbols p.point ≡ true
  point_in = (and_parts (matches c.symbols p.point) (get_or c.outputs p.output false) in_c).0

  long_inputs : length c.symbols ≡ size.inputs
  long_inputs = prime.is_cube.has_size.0

  long_outputs : length c.outputs ≡ size.outputs
  long_outputs = prime.is_cube.has_size.1

  own_agrees : (k : ℕ) → k < length c.symbols → agrees (get_or c.symbols k Dash) (get_or p.point k false) ≡ true
  own_agrees k lt = agrees_at-matches c.symbols p.point k point_in lt

  -- the other implicants with the place lie within the prime
  within_alone : IsAlone s c p → (d : Cube) → IsCube size d → IsSubset (holds d) s → holds d p ≡ true → IsSubset (holds d) (holds c)
  within_alone alone d cube within in_d =
      let parts = and_parts (matches d.symbols p.point) (get_or d.outputs p.output false) in_d in
      IsSubset-from_Covers c d (same_sizes size d c cube prime.is_cube) (record {
        inputs = λ k bit ok. elim (dash_or (get_or c.symbols k Dash)) [
          | inl dash ↦ ap (λ t. agrees t bit) dash
          | inr lit ↦ elim (cases_lt k (length c.symbols)) [
            | inr past ↦ absurd (lit (get_or_past c.symbols k Dash past))
            | inl lt ↦ elim (same_or_not bit (get_or p.point k false)) [
              | inl same ↦ ap (λ b. agrees (get_or c.symbols k Dash) b) same ∙ own_agrees k lt
              | inr other ↦ absurd (false≢true (sym (alone.inputs k lit) ∙ within (flip k p)
                  (and_from (matches d.symbols (set p.point k (not (get_or p.point k false)))) (get_or d.outputs p.output false)
                  (matches-set d.symbols p.point k (not (get_or p.point k false)) parts.0 (ap (λ b. agrees (get_or d.symbols k Dash) b) (sym other) ∙ ok)) parts.1)))
            ]
          ]
        ];
        outputs = λ j on. elim (cases_Bool (get_or c.outputs j false)) [
          | inl has ↦ has
          | inr lacks ↦ elim (cases_lt j (length c.outputs)) [
            | inr past ↦ absurd (false≢true (sym (get_or_past d.outputs j false (omega (arith, past, long_outputs, cube.has_size.1))) ∙ on))
            | inl lt ↦ absurd (false≢true (sym (alone.outputs j lt lacks) ∙ within (under j p) (and_from (matches d.symbols p.point) (get_or d.outputs j false) parts.0 on)))
          ]
        ];
      })

  pub only_from_alone : IsAlone s c p → (d : Cube) → Contains (complete_sum size s) d → holds d p ≡ true → d ≡ c
  only_from_alone alone d member in_d =
      let other = (Contains-complete_sum size s d).0 member in
      let below = within_alone alone d other.is_cube other.within in_d in
      same_from_places size d c other.is_cube prime.is_cube below (other.largest c prime.is_cube prime.within below)

  pub alone_from_only : ((d : Cube) → Contains (complete_sum size s) d → holds d p ≡ true → d ≡ c) → IsAlone s c p
  alone_from_only only =
      let place = IsPlace-from_holds size c p prime.is_cube.has_size in_c in
      record {
        inputs = λ k lit. elim (cases_Bool (s (flip k p))) [
          | inr off ↦ off
          | inl on ↦ elim (cases_lt k (length c.symbols)) [
            | inr past ↦ absurd (lit (get_or_past c.symbols k Dash past))
            | inl lt ↦ absurd (
                let r = prime_across size s p place (prime.within p in_c) k (omega (arith, lt, long_inputs)) on in
                let across : holds c (flip k p) ≡ true = ap (λ d. holds d (flip k p)) (sym (only r.0 r.1 r.2)) ∙ r.3 in
                let bits = set p.point k (not (get_or p.point k false)) in
                let long : length p.point ≡ size.inputs = place.0 in
                let at = agrees_at-matches c.symbols bits k (and_parts (matches c.symbols bits) (get_or c.outputs p.output false) across).0 lt in
                both_bits (get_or c.symbols k Dash) (get_or p.point k false) lit (own_agrees k lt)
                (ap (λ b. agrees (get_or c.symbols k Dash) b) (sym (get_or-set_same p.point k (not (get_or p.point k false)) false (omega (arith, lt, long, long_inputs)))) ∙ at))
          ]
        ];
        outputs = λ j lt lacks. elim (cases_Bool (s (under j p))) [
          | inr off ↦ off
          | inl on ↦ absurd (
              let r = prime_under size s p place (prime.within p in_c) j (omega (arith, lt, long_outputs)) on in
              let across : holds c (under j p) ≡ true = ap (λ d. holds d (under j p)) (sym (only r.0 r.1 r.2)) ∙ r.3 in
              false≢true (sym lacks ∙ (and_parts (matches c.symbols p.point) (get_or c.outputs j false) across).1))
        ];
      }

-- ---- primes with a place of their own

module _ (size : Size) (s wanted : Place → Bool) (c : Cube) where
  abbrev primes : List Cube
  primes = complete_sum size s

  in_others : (d : Cube) (p : Place) → Contains primes d → holds d p ≡ true → (places (others c primes) p ≡ true) ⊎ (d ≡ c)
  in_others d p member h = elim (cases_Bool (is_eq (row_cmp d c))) [
    | inl same ↦ inr (equal_from c d same)
    | inr apart ↦ inl (list_any_from (λ e. holds e p) (others c primes) d
        (Contains-filter (λ e. not (is_eq (row_cmp e c))) primes d member (not_from_false (is_eq (row_cmp d c)) apart)) h)
  ]

  pub has_own_from : (cube : IsCube size c) (p : Place) → holds c p ≡ true → wanted p ≡ true → ((d : Cube) → Contains primes d → holds d p ≡ true → d ≡ c) → has_own size wanted primes c ≡ true
  has_own_from cube p in_c want only = elim (cases_Bool (is_subset size (intersection wanted (holds c)) (places (others c primes)))) [
    | inr off ↦ not_from_false (is_subset size (intersection wanted (holds c)) (places (others c primes))) off
    | inl test ↦ absurd (
        let held = implied_at size (intersection wanted (holds c)) (places (others c primes)) test p (IsPlace-from_holds size c p cube.has_size in_c) (and_from (wanted p) (holds c p) want in_c) in
        let w = list_any_witness (λ e. holds e p) (others c primes) held in
        let parts = Contains-filter_cases (λ e. not (is_eq (row_cmp e c))) primes w.0 w.1 in
        let same = only w.0 parts.0 w.2 in
        false≢true (sym (not-true (is_eq (row_cmp w.0 c)) parts.1) ∙ ap (λ e. is_eq (row_cmp e c)) same ∙ ap is_eq (tied_itself row_total c)))
  ]

  pub no_own_from : ((p : Place) → holds c p ≡ true → wanted p ≡ true → ((d : Cube) → Contains primes d → holds d p ≡ true → d ≡ c) → ⊥) → has_own size wanted primes c ≡ false
  no_own_from none = ap not (is_subset-from_fact size (intersection wanted (holds c)) (places (others c primes)) (λ p h.
      let parts = and_parts (wanted p) (holds c p) h in
      elim (cases_Bool (places (others c primes) p)) [
        | inl held ↦ held
        | inr out ↦ absurd (none p parts.1 parts.0 (λ d member in_d. elim (in_others d p member in_d) [
          | inl held ↦ absurd (false≢true (sym out ∙ held))
          | inr same ↦ same
        ]))
      ]))

  not_all : {X : Type 0} (t : X → Bool) (xs : List X) → list_all t xs ≡ false → (x : X) × (t x ≡ false)
  not_all t [] h = absurd (false≢true (sym h))
  not_all t (x ∷ xs) h = elim (cases_Bool (t x)) [
    | inr off ↦ (x, off)
    | inl on ↦ not_all t xs (sym (ap (λ b. b && list_all t xs) on) ∙ h)
  ]

  implied_not : (x y : Bool) → (not x || y) ≡ false → (x ≡ true) × (y ≡ false)
  implied_not true y h = (refl, h)
  implied_not false y h = absurd (false≢true (sym h))

  pub own_of : Contains (essential_in size s wanted) c → (p : Place) × IsOwn size s wanted c p
  own_of member =
      let kept = Contains-filter_cases (has_own size wanted primes) primes c member in
      let test = not-true (is_subset size (intersection wanted (holds c)) (places (others c primes))) kept.1 in
      let w = not_all (λ p. not (intersection wanted (holds c) p) || places (others c primes) p) (all_places size) test in
      let parts = implied_not (intersection wanted (holds c) w.0) (places (others c primes) w.0) w.1 in
      let inner = and_parts (wanted w.0) (holds c w.0) parts.0 in (
        w.0,
        record {
          prime = kept.0;
          held = inner.1;
          want = inner.0;
          alone = λ d member in_d. elim (in_others d w.0 member in_d) [
            | inl held ↦ absurd (false≢true (sym parts.1 ∙ held))
            | inr same ↦ same
          ];
        },
      )

-- ---- one more ON cube

module _ (size : Size) (s wanted : Place → Bool) where
  abbrev own : Cube → Bool
  own = has_own size wanted (complete_sum size s)

  -- a prime without a place of its own has none in the cube either
  not_own : (m : Cube) → Contains (complete_sum size s) m → own m ≡ false → (c : Cube) (p : Place) → IsOwn size s wanted c p → holds m p ≡ true → ⊥
  not_own m member not_essential c p alone in_m =
      let same = alone.alone m member in_m in
      let cube = ((Contains-complete_sum size s m).0 member).is_cube in
      false≢true (sym not_essential ∙ has_own_from size s wanted m cube p (ap (λ d. holds d p) same ∙ alone.held) alone.want (λ d k h. alone.alone d k h ∙ sym same))

  module _ (cube : Cube) (old : GrownPrimes) where
    -- it lies in a prime that was grown
    pub adds_none_found : LiesInOneOf old.essential.items cube ⊎ LiesInOneOf old.others.items cube → AddsEssential size s wanted cube old old
    adds_none_found lies = record {
      kept = λ c h. h;
      grown = λ so. so;
      all = λ so c p alone held. elim lies [
        | inl w ↦ (
            let prime = (Contains-filter_cases own (complete_sum size s) w.0 (so.essential w.0 w.1)).0 in
            subst (Contains old.essential.items) (alone.alone w.0 prime (w.2 p held)) w.1)
        | inr w ↦ (let other = so.others w.0 w.1 in absurd (not_own w.0 other.0 other.1 c p alone (w.2 p held)))
      ];
    }

    module _ (m : Cube) (prime : IsMaximal size s m) (sub : IsSubset (holds cube) (holds m)) where
      member : Contains (complete_sum size s) m
      member = (Contains-complete_sum size s m).1 prime

      pub adds_prime : (new : GrownPrimes) (essential : Bool) → essential ≡ own m → AddsPrime old new m essential → AddsEssential size s wanted cube old new
      adds_prime new true is adds = record {
        kept = λ c h. subst (λ l. Contains l c) (sym adds.0) (Contains-append_left old.essential.items (m ∷ []) c h);
        grown = λ so. record {
          essential = λ c h. elim (Contains-append_cases old.essential.items (m ∷ []) c (subst (λ l. Contains l c) adds.0 h)) [
            | inl was ↦ so.essential c was
            | inr here ↦ elim (Contains-cases m [] c here) [
              | inl same ↦ subst (Contains (essential_in size s wanted)) same (Contains-filter own (complete_sum size s) m member (sym is))
              | inr none ↦ absurd (Contains-nil c none)
            ]
          ];
          others = λ c h. so.others c (subst (λ l. Contains l c) adds.1 h);
        };
        all = λ _ c p alone held. subst (λ l. Contains l c) (sym adds.0)
            (Contains-append_right old.essential.items (m ∷ []) c (subst (Contains (m ∷ [])) (alone.alone m member (sub p held)) (Contains-here m [])));
      }
      adds_prime new false is adds = record {
        kept = λ c h. subst (λ l. Contains l c) (sym adds.0) h;
        grown = λ so. record {
          essential = λ c h. so.essential c (subst (λ l. Contains l c) adds.0 h);
          others = λ c h. elim (Contains-append_cases old.others.items (m ∷ []) c (subst (λ l. Contains l c) adds.1 h)) [
            | inl was ↦ so.others c was
            | inr here ↦ elim (Contains-cases m [] c here) [
              | inl same ↦ subst (λ d. Contains (complete_sum size s) d × (own d ≡ false)) same (member, sym is)
              | inr none ↦ absurd (Contains-nil c none)
            ]
          ];
        };
        all = λ _ c p alone held. absurd (not_own m member (sym is) c p alone (sub p held));
      }

pub sized_next : (size : Size) (old new : GrownPrimes) (m : Cube) (essential : Bool) → HaveSize size old → IsCube size m → AddsPrime old new m essential → HaveSize size new
sized_next size old new m true so cube adds = record {
  essential = subst (AreCubes size) (sym adds.0) (All-append (IsCube size) old.essential.items (m ∷ []) so.essential (All-cons (IsCube size) m [] cube (All-nil (IsCube size))));
  others = subst (AreCubes size) (sym adds.1) so.others;
}
sized_next size old new m false so cube adds = record {
  essential = subst (AreCubes size) (sym adds.0) so.essential;
  others = subst (AreCubes size) (sym adds.1) (All-append (IsCube size) old.others.items (m ∷ []) so.others (All-cons (IsCube size) m [] cube (All-nil (IsCube size))));
}

-- ---- all ON cubes

module _ (size : Size) (s wanted : Place → Bool) where
  pub found_none : (found : GrownPrimes) → found.essential.items ≡ [] → found.others.items ≡ [] → AreFoundIn size s wanted (places []) found
  found_none found essential others = record {
    grown = record {
      essential = λ c h. absurd (Contains-nil c (subst (λ l. Contains l c) essential h));
      others = λ c h. absurd (Contains-nil c (subst (λ l. Contains l c) others h));
    };
    all = λ c p alone h. absurd (false≢true h);
  }

  pub found_next : (on : List Cube) (i : ℕ) (cube : Cube) (old new : GrownPrimes) → i < length on → cube ≡ get_or on i cube → AreFoundIn size s wanted (places (take i on)) old
      → AddsEssential size s wanted cube old new → AreFoundIn size s wanted (places (take (i + 1) on)) new
  found_next on i cube old new lt at so adds = record {
    grown = adds.grown so.grown;
    all = λ c p own h.
        elim (or_cases (places (take i on) p) (holds cube p) (sym (more_places on i cube lt at p) ∙ h)) [
          | inl was ↦ adds.kept c (so.all c p own was)
          | inr here ↦ adds.all so.grown c p own here
        ];
  }

  pub found_all : (region : Place → Bool) (found : GrownPrimes) (sorted : List Cube) → ((p : Place) → wanted p ≡ true → region p ≡ true) → AreFoundIn size s wanted region found
      → IsStrictlySortedBy row_cmp sorted → HasSameCubes found.essential.items sorted → sorted ≡ essential_in size s wanted
  found_all region found sorted covered so rising same =
      same_from_members row_cmp row_asymmetric sorted (essential_in size s wanted) rising
      (IsStrictlySortedBy-filter row_cmp (has_own size wanted (complete_sum size s)) (complete_sum size s) (sorted-complete_sum size s))
      (λ c h. so.grown.essential c ((same c).1 h))
      (λ c h. let w = own_of size s wanted c h in (same c).0 (so.all c w.0 w.1 (covered w.0 w.1.want)))

  pub sized_found : (found : GrownPrimes) → AreGrown size s wanted found → HaveSize size found
  sized_found found so = record {
    essential = members_all (IsCube size) found.essential.items (λ c h.
        ((Contains-complete_sum size s c).0 (Contains-filter_cases (has_own size wanted (complete_sum size s)) (complete_sum size s) c (so.essential c h)).0).is_cube);
    others = members_all (IsCube size) found.others.items (λ c h. ((Contains-complete_sum size s c).0 (so.others c h).0).is_cube);
  }

-- ---- the answer of the question

module _ (sets : SetLists) (rows : List Cube) (is : rows ≡ sets.on ++ sets.dc) (c : Cube) (prime : IsMaximal sets.size (places rows) c) where
  abbrev all : List Cube
  all = complete_sum sets.size (places rows)

  pub essential_answer : (near rest : List Cube) (held : Bool) → AreNeighbours c rows near → rest ≡ sets.dc ++ near → held ≡ is_subset sets.size (holds c) (places rest)
      → not held ≡ has_own sets.size (care_on sets) all c
  essential_answer near rest held neighbours joined answer = elim (cases_Bool held) [
    | inl on ↦ (
        let sub = IsSubset-from_test sets.size c (places rest) prime.is_cube.has_size (sym answer ∙ on) in
        ap not on ∙ sym (no_own_from sets.size (places rows) (care_on sets) c (λ p in_c want only.
        let alone = alone_from_only sets.size (places rows) c prime p in_c only in
        let no_dc = not-true (places sets.dc p) (and_parts (places sets.on p) (not (places sets.dc p)) want).1 in
        elim (or_cases (places sets.dc p) (places near p) (sym (places-append sets.dc near p) ∙ ap (λ l. places l p) (sym joined) ∙ sub p in_c)) [
          | inl free ↦ false≢true (sym no_dc ∙ free)
          | inr beside ↦ neighbours.some p in_c beside alone
        ])))
    | inr off ↦ ap not off ∙ sym (own_there near rest held neighbours joined answer off)
  ]
    where
      own_there : (near rest : List Cube) (held : Bool) → AreNeighbours c rows near → rest ≡ sets.dc ++ near → held ≡ is_subset sets.size (holds c) (places rest) → held ≡ false
          → has_own sets.size (care_on sets) all c ≡ true
      own_there near rest held neighbours joined answer off = elim (cases_Bool (has_own sets.size (care_on sets) all c)) [
        | inl own ↦ own
        | inr none ↦ absurd (false≢true (sym off ∙ answer ∙ is_subset-from_fact sets.size (holds c) (places rest) (λ p in_c. elim (cases_Bool (places rest p)) [
          | inl there ↦ there
          | inr out ↦ absurd (
              let parts = or_parts (places sets.dc p) (places near p) (sym (places-append sets.dc near p) ∙ ap (λ l. places l p) (sym joined) ∙ out) in
              let alone = neighbours.none p in_c parts.1 in
              let on : places sets.on p ≡ true = elim (or_cases (places sets.on p) (places sets.dc p) (sym (places-append sets.on sets.dc p) ∙ ap (λ l. places l p) (sym is) ∙ prime.within p in_c)) [
                | inl e ↦ e
                | inr e ↦ absurd (false≢true (sym parts.0 ∙ e))
              ] in
              false≢true (sym none ∙ has_own_from sets.size (places rows) (care_on sets) c prime.is_cube p in_c
              (and_from (places sets.on p) (not (places sets.dc p)) on (not_from_false (places sets.dc p) parts.0))
              (only_from_alone sets.size (places rows) c prime p in_c alone)))
        ])))
      ]

pub in_rows : (sets : SetLists) (rows : List Cube) → rows ≡ sets.on ++ sets.dc → (cube : Cube) → Contains sets.on cube → IsSubset (holds cube) (places rows)
in_rows sets rows is cube member p h =
    ap (λ l. places l p) is ∙ places-append sets.on sets.dc p ∙ or_left (places sets.on p) (places sets.dc p) (list_any_from (λ d. holds d p) sets.on cube member h)

pub same_essential : (sets : SetLists) (rows : List Cube) → rows ≡ sets.on ++ sets.dc → essential_in sets.size (places rows) (care_on sets) ≡ essential_of sets (primes_of sets)
same_essential sets rows is = ap (λ ps. filter (has_own sets.size (care_on sets) ps) ps) (primes-together sets rows is)

-- ---- the answer

pub if_ok_three : {X Y : Type 0} (r : Result X Y) (P Q R S : X → Type 0) → ((x : X) → P x → Q x → R x → S x) → IfOk r P → IfOk r Q → IfOk r R → IfOk r S
if_ok_three (Ok x) P Q R S f p q r = f x p q r
if_ok_three (Err e) P Q R S f p q r = tt
