-- The blocking lists of a prime, and the essential primes of a sampled function.
use Rattle.std.proofs.Common.{◌≡◌, ◌≢◌, ℕ, ◌+◌, ◌<◌, ◌≤◌, inl, inr, Bool, true, false, not, ◌&&◌, ◌||◌, List, [], ◌∷◌, ◌++◌, length, take, get_or, set, refl, ap, sym, subst, ◌∙◌, arith, Option, Some, None, IfSome, IfNone, All}
use Rattle.std.specs.List.{Contains, filter}
use Rattle.std.specs.List.Sorted.{IsPermutation}
use Rattle.std.proofs.Math.Bool.{not-not}
use Rattle.std.proofs.lemmas.Bool.{cases_Bool, cases_lt, false≢true, and_parts, and_from, not-false, or_left}
use Rattle.std.proofs.lemmas.List.{get_or_default, get_or_past, get_or-set_same, length-set, set-set, take_all}
use Rattle.std.proofs.lemmas.List.Elements.{All-nil, All-cons, All-append, Contains-append_cases, Contains-append_left, Contains-append_right}
use Rattle.std.proofs.lemmas.List.Kept.{IsStrictlySortedBy-filter}
use Rattle.std.proofs.lemmas.List.Sorted.{Contains-permutation, IsPermutation-sym}
use Rattle.cube.specs.declared.symbol.Symbol.{Symbol}
use Rattle.cube.specs.declared.symbol.Symbol.TheVariants.{Dash, Zero, One}
use Rattle.cube.specs.Size.{Size}
use Rattle.cube.specs.Pattern.{agrees, matches}
use Rattle.cube.specs.Cube.{Cube, Place, holds, with_symbol, intersection, IsCube, IsPlace, IsSubset, IsDisjoint, HasSize, SameSize, size_of}
use Rattle.cube.specs.Order.{row_cmp}
use Rattle.cube.specs.Sum.{complete_sum, is_subset, IsMaximal}
use Rattle.cube.proofs.HoldsLemmas.{agrees_at-matches}
use Rattle.cube.proofs.Members.{Contains-here, Contains-nil, Contains-cases, Contains-filter, Contains-filter_cases, same_from_members}
use Rattle.cube.proofs.SumLemmas.{IsPlace-from_holds, is_subset-from_fact, implied_at, row_asymmetric, Contains-complete_sum, complete_sum-from_members, sorted-complete_sum}
use Rattle.cover.specs.Cubes.{Cubes, AreCubes}
use Rattle.cover.specs.Places.{places}
use Rattle.cover.specs.Marks.{is_symbol}
use Rattle.cover.proofs.Everywhere.{same_test}
use Rattle.cover.proofs.Inputs.{matches-set_bit, matches-own}
use Rattle.cover.proofs.Lists.{list_any_witness, all_members}
use Rattle.cover.proofs.OverRegion.{size_of-is}
use Rattle.pla.specs.Sets.{SetLists}
use Rattle.growth.specs.declared.prime.Side.TheVariants.{Outside}
use Rattle.minimum.specs.Primes.{primes_of, care_on, others, essential_of}
use Rattle.growth.specs.Growth.{on_side}
use Rattle.minimum.specs.Neighbours.{flip, under, held_by, IsAlone, IsAloneByInputs, has_own, essential_in}
use Rattle.minimum.specs.Blocking.{IsSampled, flip_in, under_in, Blocks, AreBlocking, HasCommon}
use Rattle.growth.proofs.MorePlaces.{places_pushed, row_added, row_left}
use Rattle.minimum.proofs.EssentialByNeighbours.{has_own_from, no_own_from, only_from_alone, alone_from_only}

-- symbols that do not compare as equal differ
pub symbols_apart : (s t : Symbol) → is_symbol s t ≡ false → s ≡ t → ⊥
symbols_apart s t off e = false≢true (sym off ∙ ap (is_symbol s) (sym e) ∙ own s)
  where
    own : (s : Symbol) → is_symbol s s ≡ true
    own Dash = refl
    own Zero = refl
    own One = refl

-- ---- a row put back by one step

other_agrees : (own t : Symbol) (bit : Bool) → own ≢ Dash → agrees own bit ≡ true → (t ≡ own → ⊥) → agrees t (not bit) ≡ true
other_agrees Dash t bit lit a ne = absurd (lit refl)
other_agrees Zero Dash bit lit a ne = refl
other_agrees Zero Zero bit lit a ne = absurd (ne refl)
other_agrees Zero One bit lit a ne = a
other_agrees One Dash bit lit a ne = refl
other_agrees One Zero true lit a ne = refl
other_agrees One Zero false lit a ne = absurd (false≢true a)
other_agrees One One bit lit a ne = absurd (ne refl)

own_disagrees : (own : Symbol) (bit : Bool) → own ≢ Dash → agrees own bit ≡ true → agrees own (not bit) ≡ false
own_disagrees Dash bit lit a = absurd (lit refl)
own_disagrees Zero true lit a = absurd (false≢true a)
own_disagrees Zero false lit a = refl
own_disagrees One true lit a = refl
own_disagrees One false lit a = absurd (false≢true a)

module _ (c d : Cube) (size : SameSize d c) (i : ℕ) (literal : get_or c.symbols i Dash ≢ Dash) (p : Place) (in_c : holds c p ≡ true) where
  in_inputs : i < length c.symbols
  in_inputs = elim (cases_lt i (length c.symbols)) [ inl lt ↦ lt | inr past ↦ absurd (literal (get_or_past c.symbols i Dash past)) ]

  own : agrees (get_or c.symbols i Dash) (get_or p.point i false) ≡ true
  own = agrees_at-matches c.symbols p.point i (and_parts (matches c.symbols p.point) (get_or c.outputs p.output false) in_c).0 in_inputs

  flipped : holds d (flip i p) ≡ ((agrees (get_or d.symbols i Dash) (not (get_or p.point i false)) && matches (set d.symbols i Dash) p.point) && get_or d.outputs p.output false)
  flipped = ap (λ m. m && get_or d.outputs p.output false) (matches-set_bit d.symbols p.point i (not (get_or p.point i false)) (let lt = in_inputs in omega (arith, size.0, lt)))

  pub freed_row : (get_or d.symbols i Dash ≡ get_or c.symbols i Dash → ⊥) → (e : Cube) → e ≡ with_symbol d i Dash → holds e p ≡ holds d (flip i p)
  freed_row ne e is =
      ap (λ k. holds k p) is
      ∙ sym (flipped ∙ ap (λ a. (a && matches (set d.symbols i Dash) p.point) && get_or d.outputs p.output false)
      (other_agrees (get_or c.symbols i Dash) (get_or d.symbols i Dash) (get_or p.point i false) literal own ne))

  pub same_row : get_or d.symbols i Dash ≡ get_or c.symbols i Dash → holds d (flip i p) ≡ false
  same_row e =
      flipped ∙ ap (λ a. (a && matches (set d.symbols i Dash) p.point) && get_or d.outputs p.output false)
      (ap (λ t. agrees t (not (get_or p.point i false))) e ∙ own_disagrees (get_or c.symbols i Dash) (get_or p.point i false) literal own)

  -- the step stays in what the prime has without its literal
  in_freed : holds (with_symbol c i Dash) (flip i p) ≡ true
  in_freed =
      let parts = and_parts (matches c.symbols p.point) (get_or c.outputs p.output false) in_c in
      let bit = not (get_or p.point i false) in
      let rest = (and_parts (agrees (get_or c.symbols i Dash) (get_or p.point i false)) (matches (set c.symbols i Dash) p.point) (sym (matches-own c.symbols p.point i in_inputs) ∙ parts.0)).1 in
      and_from (matches (set c.symbols i Dash) (set p.point i bit)) (get_or c.outputs p.output false)
      (matches-set_bit (set c.symbols i Dash) p.point i bit (let lt = in_inputs in omega (arith, length-set c.symbols i Dash, lt))
      ∙ and_from (agrees (get_or (set c.symbols i Dash) i Dash) bit) (matches (set (set c.symbols i Dash) i Dash) p.point)
      (ap (λ s. agrees s bit) (get_or-set_same c.symbols i Dash Dash in_inputs))
      (ap (λ l. matches l p.point) (set-set c.symbols i Dash Dash) ∙ rest)) parts.1

  pub apart_row : (e : Cube) → e ≡ with_symbol c i Dash → IsDisjoint (holds d) (holds e) → holds d (flip i p) ≡ false
  apart_row e is apart = elim (cases_Bool (holds d (flip i p))) [
    | inr off ↦ off
    | inl on ↦ absurd (apart (flip i p) on (ap (λ k. holds k (flip i p)) is ∙ in_freed))
  ]

pub stacked_row : (c d : Cube) (j : ℕ) (p : Place) → holds c p ≡ true → get_or d.outputs j false ≡ true → (found : Option Cube)
    → IfNone found ((point : List Bool) → matches d.symbols point ≡ true → matches c.symbols point ≡ true → ⊥)
    → IfSome found (λ e. (q : Place) → holds e q ≡ ((matches d.symbols q.point && matches c.symbols q.point) && (get_or d.outputs q.output false || get_or c.outputs q.output false)))
    → held_by found p ≡ holds d (under j p)
stacked_row c d j p in_c on None apart stacked = elim (cases_Bool (matches d.symbols p.point)) [
  | inl m ↦ absurd (apart p.point m (and_parts (matches c.symbols p.point) (get_or c.outputs p.output false) in_c).0)
  | inr off ↦ sym (ap (λ m. m && get_or d.outputs j false) off)
]
stacked_row c d j p in_c on (Some e) apart stacked =
    let parts = and_parts (matches c.symbols p.point) (get_or c.outputs p.output false) in_c in
    stacked p ∙ go (matches d.symbols p.point) (matches c.symbols p.point) (get_or d.outputs p.output false) (get_or c.outputs p.output false) (get_or d.outputs j false) parts.0 parts.1 on
  where
    go : (m n a b x : Bool) → n ≡ true → b ≡ true → x ≡ true → ((m && n) && (a || b)) ≡ (m && x)
    go true true true true true e f g = refl
    go true true false true true e f g = refl
    go false true a true true e f g = refl
    go m false a b x e f g = absurd (false≢true e)
    go m n a false x e f g = absurd (false≢true f)
    go m n a b false e f g = absurd (false≢true g)

pub other_output : (d : Cube) (j : ℕ) (p : Place) → get_or d.outputs j false ≡ false → holds d (under j p) ≡ false
other_output d j p off = elim (cases_Bool (holds d (under j p))) [
  | inr out ↦ out
  | inl on ↦ absurd (false≢true (sym off ∙ (and_parts (matches d.symbols p.point) (get_or d.outputs j false) on).1))
]

-- ---- the blocking list of one step

-- the list has the places of the cube from which the step leads into the rows
pub record LeadsInto (c : Cube) (step : Place → Place) (rows list : List Cube) : Type 0 where
  pub cubes : AreCubes (size_of c) list
  pub same : (p : Place) → holds c p ≡ true → places list p ≡ places rows (step p)

pub leads_none : (c : Cube) (step : Place → Place) (list : List Cube) → list ≡ [] → LeadsInto c step [] list
leads_none c step list none = subst (LeadsInto c step []) (sym none) (record { cubes = All-nil (IsCube (size_of c)); same = λ p in_c. refl })

module _ (c : Cube) (step : Place → Place) (rows : List Cube) (i : ℕ) (row : Cube) (lt : i < length rows) (at : row ≡ get_or rows i row) (old : List Cube) (so : LeadsInto c step (take i rows) old) where
  -- what is added has the places from which the step leads into the row
  pub leads_more : (new : List Cube) (held : Place → Bool) → AreCubes (size_of c) new → ((p : Place) → holds c p ≡ true → held p ≡ holds row (step p))
      → ((p : Place) → holds c p ≡ true → places new p ≡ (places old p || held p)) → LeadsInto c step (take (i + 1) rows) new
  leads_more new held are is more = record { cubes = are; same = λ p in_c. row_added rows i row lt at p (step p) old new (so.same p in_c) (held p) (is p in_c) (more p in_c) }

  pub leads_pushed : (new : List Cube) (e : Cube) → IsCube (size_of c) e → ((p : Place) → holds c p ≡ true → holds e p ≡ holds row (step p)) → new ≡ old ++ e ∷ [] → LeadsInto c step (take (i + 1) rows) new
  leads_pushed new e cube is added = subst (LeadsInto c step (take (i + 1) rows)) (sym added)
      (leads_more (old ++ e ∷ []) (holds e) (All-append (IsCube (size_of c)) old (e ∷ []) so.cubes (All-cons (IsCube (size_of c)) e [] cube (All-nil (IsCube (size_of c))))) is
      (λ p in_c. places_pushed old e p))

  -- from no place does it lead into the row
  pub leads_on : (new : List Cube) → ((p : Place) → holds c p ≡ true → holds row (step p) ≡ false) → new ≡ old → LeadsInto c step (take (i + 1) rows) new
  leads_on new off same = subst (LeadsInto c step (take (i + 1) rows)) (sym same)
      (record { cubes = so.cubes; same = λ p in_c. row_left rows i row lt at p (step p) old old (so.same p in_c) (off p in_c) })

pub leads_all : (n : Size) (c : Cube) → IsCube n c → (step : Place → Place) (rows : List Cube) (i : ℕ) (list : List Cube) → length rows ≤ i → LeadsInto c step (take i rows) list → (off : List Cube) → rows ≡ off
    → (size : Size) → HasSize c size → (made : Cubes) → made ≡ record { size = size; cubes = list } → Blocks n c (λ p. places off (step p)) made
leads_all n c cube step rows i list past so off is size own made e = record {
  size = ap (λ l. l.size) e ∙ sym (size_of-is c size own) ∙ size_of-is c n cube.has_size;
  same = λ p in_c. ap (λ l. places l.cubes p) e ∙ so.same p in_c ∙ ap (λ l. places l (step p)) (take_all i rows past ∙ is);
}

-- ---- all blocking lists

module _ (size : Size) (c : Cube) (lists : List Cubes) (fact more : Place → Type 0) (so : AreBlocking size c lists fact) where
  pub blocking_same : ((p : Place) → fact p → more p) → ((p : Place) → more p → fact p) → AreBlocking size c lists more
  blocking_same to back = record { sizes = so.sizes; to = λ p in_c all. to p (so.to p in_c all); back = λ p in_c h. so.back p in_c (back p h) }

  pub blocking_next : (l : Cubes) (new : List Cubes) (test : Place → Bool) → Blocks size c test l → new ≡ lists ++ l ∷ []
      → ((p : Place) → fact p → test p ≡ true → more p) → ((p : Place) → more p → fact p) → ((p : Place) → more p → test p ≡ true) → AreBlocking size c new more
  blocking_next l new test blocks is to back tested = subst (λ z. AreBlocking size c z more) (sym is) (record {
    sizes = λ k h. elim (Contains-append_cases lists (l ∷ []) k h) [
      | inl was ↦ so.sizes k was
      | inr here ↦ elim (Contains-cases l [] k here) [ inl same ↦ ap (λ z. z.size) (sym same) ∙ blocks.size | inr none ↦ absurd (Contains-nil k none) ]
    ];
    to = λ p in_c all.
        to p (so.to p in_c (λ k h. all k (Contains-append_left lists (l ∷ []) k h)))
        (sym (blocks.same p in_c) ∙ all l (Contains-append_right lists (l ∷ []) l (Contains-here l [])));
    back = λ p in_c h k member. elim (Contains-append_cases lists (l ∷ []) k member) [
      | inl was ↦ so.back p in_c (back p h) k was
      | inr here ↦ elim (Contains-cases l [] k here) [
        | inl same ↦ ap (λ z. places z.cubes p) (sym same) ∙ blocks.same p in_c ∙ tested p h
        | inr none ↦ absurd (Contains-nil k none)
      ]
    ];
  })

pub blocking_sorted : (size : Size) (c : Cube) (lists sorted : List Cubes) (fact : Place → Type 0) → AreBlocking size c lists fact → IsPermutation lists sorted → AreBlocking size c sorted fact
blocking_sorted size c lists sorted fact so moved =
    let here : (l : Cubes) → Contains sorted l → Contains lists l = λ l. Contains-permutation sorted lists l (IsPermutation-sym lists sorted moved) in
    record {
      sizes = λ l member. so.sizes l (here l member);
      to = λ p in_c all. so.to p in_c (λ l member. all l (Contains-permutation lists sorted l moved member));
      back = λ p in_c h l member. so.back p in_c h l (here l member);
    }

-- the steps at the first literals
abbrev pub AloneSoFar : List Cube → Cube → ℕ → Place → Type 0
AloneSoFar off c i p = (k : ℕ) → k < i → get_or c.symbols k Dash ≢ Dash → on_side Outside off (flip k p) ≡ false

-- the steps at all literals and to the first outputs
abbrev pub OutputsSoFar : List Cube → Cube → ℕ → Place → Type 0
OutputsSoFar off c j p = IsAloneByInputs (on_side Outside off) c p × ((k : ℕ) → k < j → get_or c.outputs k false ≡ false → on_side Outside off (under k p) ≡ false)

module _ (size : Size) (off : List Cube) (c : Cube) (cube : IsCube size c) (lists : List Cubes) where
  pub inputs_next : (i : ℕ) (l : Cubes) (new : List Cubes) → AreBlocking size c lists (AloneSoFar off c i) → get_or c.symbols i Dash ≢ Dash → Blocks size c (flip_in off i) l → new ≡ lists ++ l ∷ []
      → AreBlocking size c new (AloneSoFar off c (i + 1))
  inputs_next i l new so literal blocks is = blocking_next size c lists (AloneSoFar off c i) (AloneSoFar off c (i + 1)) so l new (flip_in off i) blocks is
      (λ p a test k lt lit. elim (cases_lt k i) [
        | inl low ↦ a k low lit
        | inr high ↦ (let at : i ≡ k = omega (arith, lt, high) in subst (λ n. on_side Outside off (flip n p) ≡ false) at (ap not test))
      ])
      (λ p a k lt lit. a k (omega (arith, lt)) lit)
      (λ p a. not-false (flip_in off i p) (a i (omega arith) literal))

  pub inputs_skipped : (i : ℕ) → AreBlocking size c lists (AloneSoFar off c i) → get_or c.symbols i Dash ≡ Dash → AreBlocking size c lists (AloneSoFar off c (i + 1))
  inputs_skipped i so dash = blocking_same size c lists (AloneSoFar off c i) (AloneSoFar off c (i + 1)) so
      (λ p a k lt lit. elim (cases_lt k i) [
        | inl low ↦ a k low lit
        | inr high ↦ (let at : k ≡ i = omega (arith, lt, high) in absurd (lit (ap (λ n. get_or c.symbols n Dash) at ∙ dash)))
      ])
      (λ p a k lt lit. a k (omega (arith, lt)) lit)

  pub inputs_all : (i : ℕ) → size.inputs ≤ i → AreBlocking size c lists (AloneSoFar off c i) → AreBlocking size c lists (IsAloneByInputs (on_side Outside off) c)
  inputs_all i past so = blocking_same size c lists (AloneSoFar off c i) (IsAloneByInputs (on_side Outside off) c) so
      (λ p a k lit. elim (cases_lt k (length c.symbols)) [
        | inl lt ↦ a k (omega (arith, cube.has_size.0, lt, past)) lit
        | inr out ↦ absurd (lit (get_or_past c.symbols k Dash out))
      ])
      (λ p a k _ lit. a k lit)

  pub outputs_next : (j : ℕ) (l : Cubes) (new : List Cubes) → AreBlocking size c lists (OutputsSoFar off c j) → get_or c.outputs j false ≡ false → Blocks size c (under_in off j) l → new ≡ lists ++ l ∷ []
      → AreBlocking size c new (OutputsSoFar off c (j + 1))
  outputs_next j l new so lacks blocks is = blocking_next size c lists (OutputsSoFar off c j) (OutputsSoFar off c (j + 1)) so l new (under_in off j) blocks is
      (λ p a test. (
        a.0,
        λ k lt lack. elim (cases_lt k j) [
          | inl low ↦ a.1 k low lack
          | inr high ↦ (let at : j ≡ k = omega (arith, lt, high) in subst (λ n. on_side Outside off (under n p) ≡ false) at (ap not test))
        ],
      ))
      (λ p a. (a.0, λ k lt lack. a.1 k (omega (arith, lt)) lack))
      (λ p a. not-false (under_in off j p) (a.1 j (omega arith) lacks))

  pub outputs_skipped : (j : ℕ) → AreBlocking size c lists (OutputsSoFar off c j) → get_or c.outputs j false ≡ true → AreBlocking size c lists (OutputsSoFar off c (j + 1))
  outputs_skipped j so has = blocking_same size c lists (OutputsSoFar off c j) (OutputsSoFar off c (j + 1)) so
      (λ p a. (
        a.0,
        λ k lt lack. elim (cases_lt k j) [
          | inl low ↦ a.1 k low lack
          | inr high ↦ (let at : k ≡ j = omega (arith, lt, high) in absurd (false≢true (sym lack ∙ ap (λ n. get_or c.outputs n false) at ∙ has)))
        ],
      ))
      (λ p a. (a.0, λ k lt lack. a.1 k (omega (arith, lt)) lack))

  pub outputs_all : (j : ℕ) → size.outputs ≡ j → AreBlocking size c lists (OutputsSoFar off c j) → AreBlocking size c lists (IsAlone (on_side Outside off) c)
  outputs_all j end so = blocking_same size c lists (OutputsSoFar off c j) (IsAlone (on_side Outside off) c) so
      (λ p a. record { inputs = a.0; outputs = λ k lt lacks. a.1 k (omega (arith, cube.has_size.1, lt, end)) lacks })
      (λ p a. (a.inputs, λ k lt lacks. a.outputs k (omega (arith, cube.has_size.1, lt, end)) lacks))

-- ---- a place in all lists

module _ (size : Size) (c cube region : Cube) (lists : List Cubes) (fact : Place → Type 0) (blocking : AreBlocking size c lists fact) (both : (p : Place) → holds region p ≡ intersection (holds c) (holds cube) p) where
  pub own_from_common : HasCommon region lists 0 → (p : Place) × (holds c p ≡ true) × (holds cube p ≡ true) × fact p
  own_from_common h =
      let parts = and_parts (holds c h.place) (holds cube h.place) (sym (both h.place) ∙ h.held) in
      (h.place, parts.0, parts.1, blocking.to h.place parts.0 (λ l member. ap (λ z. places z.cubes h.place) (sym member.2) ∙ h.each member.0 l (omega arith) member.1))

  pub common_from_own : (p : Place) → holds c p ≡ true → holds cube p ≡ true → fact p → HasCommon region lists 0
  common_from_own p in_c in_cube a = record {
    place = p;
    held = both p ∙ and_from (holds c p) (holds cube p) in_c in_cube;
    each = λ k d _ lt. blocking.back p in_c a (get_or lists k d) (k, lt, get_or_default lists k (get_or lists k d) d lt);
  }

pub lists_fit : (size : Size) (c : Cube) (lists : List Cubes) (fact : Place → Type 0) → AreBlocking size c lists fact → IsCube size c → (region : Cube) → SameSize region c → (lent : List Cubes) → lent ≡ lists
    → All (λ l. HasSize region l.size) lent
lists_fit size c lists fact blocking cube region same lent e k d lt =
    let is : (get_or lent k d).size ≡ size = blocking.sizes (get_or lent k d) (subst (λ z. Contains z (get_or lent k d)) e (k, lt, get_or_default lent k (get_or lent k d) d lt)) in
    (same.0 ∙ cube.has_size.0 ∙ ap (λ z. z.inputs) (sym is), same.1 ∙ cube.has_size.1 ∙ ap (λ z. z.outputs) (sym is))

-- ---- essential by such a place

module _ (size : Size) (s wanted : Place → Bool) (c : Cube) (prime : IsMaximal size s c) where
  own_place : (p : Place) × (holds c p ≡ true) × (wanted p ≡ true) × IsAlone s c p → has_own size wanted (complete_sum size s) c ≡ true
  own_place w = has_own_from size s wanted c prime.is_cube w.0 w.1 w.2 (only_from_alone size s c prime w.0 w.1 w.3)

  no_own_place : ((p : Place) → holds c p ≡ true → wanted p ≡ true → IsAlone s c p → ⊥) → has_own size wanted (complete_sum size s) c ≡ false
  no_own_place none = no_own_from size s wanted c (λ p in_c want only. none p in_c want (alone_from_only size s c prime p in_c only))

  pub own_answer : (b : Bool) → (b ≡ true → (p : Place) × (holds c p ≡ true) × (wanted p ≡ true) × IsAlone s c p)
      → (b ≡ false → (p : Place) → holds c p ≡ true → wanted p ≡ true → IsAlone s c p → ⊥) → b ≡ has_own size wanted (complete_sum size s) c
  own_answer true some none = sym (own_place (some refl))
  own_answer false some none = sym (no_own_place (none refl))

-- ---- the same function by other lists

pub complete_sum-same_at : (size : Size) (s t : Place → Bool) → ((p : Place) → IsPlace size p → s p ≡ t p) → complete_sum size s ≡ complete_sum size t
complete_sum-same_at size s t same =
    complete_sum-from_members size t (complete_sum size s) (sorted-complete_sum size s)
    (λ c member. turned s t same c ((Contains-complete_sum size s c).0 member))
    (λ c h. (Contains-complete_sum size s c).1 (turned t s (λ p place. sym (same p place)) c h))
  where
    turned : (a b : Place → Bool) → ((p : Place) → IsPlace size p → a p ≡ b p) → (c : Cube) → IsMaximal size a c → IsMaximal size b c
    turned a b e c h = record {
      is_cube = h.is_cube;
      within = λ p in_c. sym (e p (IsPlace-from_holds size c p h.is_cube.has_size in_c)) ∙ h.within p in_c;
      largest = λ d d_cube in_b above. h.largest d d_cube (λ p in_d. e p (IsPlace-from_holds size d p d_cube.has_size in_d) ∙ in_b p in_d) above;
    }

pub has_own-same_at : (size : Size) (one other : Place → Bool) (primes : List Cube) (c : Cube) → IsCube size c → ((p : Place) → IsPlace size p → one p ≡ other p) → has_own size one primes c ≡ has_own size other primes c
has_own-same_at size one other primes c cube same =
    ap not (same_test (is_subset size (intersection one (holds c)) (places (others c primes))) (is_subset size (intersection other (holds c)) (places (others c primes)))
    (turned one other same, turned other one (λ p place. sym (same p place))) ((λ h. h), (λ h. h)))
  where
    turned : (a b : Place → Bool) → ((p : Place) → IsPlace size p → a p ≡ b p) → is_subset size (intersection a (holds c)) (places (others c primes)) ≡ true → is_subset size (intersection b (holds c)) (places (others c primes)) ≡ true
    turned a b e test = is_subset-from_fact size (intersection b (holds c)) (places (others c primes)) (λ p h.
        let parts = and_parts (b p) (holds c p) h in
        let place = IsPlace-from_holds size c p cube.has_size parts.1 in
        implied_at size (intersection a (holds c)) (places (others c primes)) test p place (and_from (a p) (holds c p) (e p place ∙ parts.0) parts.1))

module _ (sets : SetLists) (on off : Cubes) (fits : IsSampled sets on off) where
  pub sampled_apart : AreCubes on.size on.cubes → IsSubset (places on.cubes) (on_side Outside off.cubes)
  sampled_apart are p h =
      let w = list_any_witness (λ d. holds d p) on.cubes h in
      let cube = subst (λ z. IsCube z w.0) fits.size (all_members (IsCube on.size) on.cubes are w.0 w.1) in
      let place = IsPlace-from_holds sets.size w.0 p cube.has_size w.2 in
      let want = and_parts (places sets.on p) (not (places sets.dc p)) (sym (fits.wanted p place) ∙ h) in
      ap not (fits.outside p place ∙ ap not (or_left (places sets.on p) (places sets.dc p) want.0))

  pub sampled_essential : essential_in on.size (on_side Outside off.cubes) (places on.cubes) ≡ essential_of sets (primes_of sets)
  sampled_essential =
      let ps = primes_of sets in
      let both = λ (p : Place). places sets.on p || places sets.dc p in
      let member_cube : (c : Cube) → Contains ps c → IsCube sets.size c = λ c h. ((Contains-complete_sum sets.size both c).0 h).is_cube in
      ap (λ z. essential_in z (on_side Outside off.cubes) (places on.cubes)) fits.size
      ∙ ap (λ l. filter (has_own sets.size (places on.cubes) l) l) (complete_sum-same_at sets.size (on_side Outside off.cubes) both (λ p place. ap not (fits.outside p place) ∙ not-not (both p)))
      ∙ same_from_members row_cmp row_asymmetric (filter (has_own sets.size (places on.cubes) ps) ps) (essential_of sets ps)
      (IsStrictlySortedBy-filter row_cmp (has_own sets.size (places on.cubes) ps) ps (sorted-complete_sum sets.size both))
      (IsStrictlySortedBy-filter row_cmp (has_own sets.size (care_on sets) ps) ps (sorted-complete_sum sets.size both))
      (λ c h. let kept = Contains-filter_cases (has_own sets.size (places on.cubes) ps) ps c h in
      Contains-filter (has_own sets.size (care_on sets) ps) ps c kept.0 (sym (has_own-same_at sets.size (places on.cubes) (care_on sets) ps c (member_cube c kept.0) fits.wanted) ∙ kept.1))
      (λ c h. let kept = Contains-filter_cases (has_own sets.size (care_on sets) ps) ps c h in
      Contains-filter (has_own sets.size (places on.cubes) ps) ps c kept.0 (has_own-same_at sets.size (places on.cubes) (care_on sets) ps c (member_cube c kept.0) fits.wanted ∙ kept.1))
