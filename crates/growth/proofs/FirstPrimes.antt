-- A cube freed of its literals in order is the first of those that contain it and meet no cube of a list.
use Rattle.std.proofs.Common.{◌≡◌, ℕ, Bool, zero, suc, ◌≢◌, ◌+◌, ◌<◌, ◌⊎◌, inl, inr, true, false, not, List, [], ◌∷◌, length, get_or, refl, ap, ap₂, sym, subst, ◌∙◌, arith, count_by, slice_get, Option, None, Some, is_some, IfNone}
use Rattle.std.specs.List.{Contains}
use Rattle.std.specs.Ordering.{ordering_then}
use Rattle.std.specs.Cmp.Lexicographic.{slice_cmp}
use Rattle.std.specs.declared.cmp.Ordering.TheVariants.{Less, Equal, Greater}
use Rattle.std.proofs.lemmas.Bool.{cases_eq, cases_lt, false≢true, and_parts, and_from, not-true}
use Rattle.std.proofs.lemmas.List.Elements.{Contains-get_or}
use Rattle.std.proofs.lemmas.Option.{get_or_from_slice_get, slice_get_within}
use Rattle.std.proofs.lemmas.List.{get_or-set_same, get_or-set_other, get_or_past}
use Rattle.cube.specs.declared.symbol.Symbol.{Symbol}
use Rattle.cube.specs.declared.symbol.Symbol.TheVariants.{Dash, Zero, One}
use Rattle.cube.specs.Size.{Size}
use Rattle.cube.specs.Pattern.{agrees, matches, is_literal}
use Rattle.cube.specs.Cube.{Cube, Place, holds, literals, with_symbol, IsCube, IsSubset, IsDisjoint}
use Rattle.cube.specs.Literals.{are_opposite, is_opposite}
use Rattle.cube.specs.Order.{symbol_cmp}
use Rattle.cube.specs.Sharp.{opposite}
use Rattle.cube.proofs.HoldsLemmas.{IsSubset-from_Covers}
use Rattle.cube.proofs.SharpLemmas.{some_true}
use Rattle.cube.proofs.SumLemmas.{Contains-complete_sum, slice_same, symbol_same}
use Rattle.cover.specs.Cubes.{Cubes}
use Rattle.cover.specs.Places.{places}
use Rattle.cover.proofs.Lists.{list_any_from}
use Rattle.covering.specs.declared.choice.Choice.{Choice}
use Rattle.covering.specs.declared.choice.Choice.TheVariants.{First, Literals}
use Rattle.growth.specs.declared.prime.Side.TheVariants.{Outside}
use Rattle.growth.specs.Growth.{on_side, Grows, IsSettledUpTo, IsSettledInput, IsSettledOutput, IsFreedAt, IsFirstInput, IsFreed, AreFirst}
use Rattle.growth.specs.Dominating.{IsUpTo, IsAsGood, IsImplicant, IsBest, IsBestFreed}
use Rattle.growth.proofs.GrowthSteps.{same_sizes, covering, settled_input_more, grows_none, freed_grows, refused_settles, settled_maximal}

-- ---- one literal after the other

module _ (size : Size) (s : Place → Bool) (old mid new : Cube) (i : ℕ) (old_cube : IsCube size old) (mid_cube : IsCube size mid) (lt : i < size.inputs) (so : IsFreed size s old mid i) (step : IsFreedAt i mid new) (settled : IsSettledInput size s new i) where
  elsewhere : (k : ℕ) → (k ≡ i → ⊥) → get_or new.symbols k Dash ≡ get_or mid.symbols k Dash
  elsewhere k apart = elim step [
    | inl e ↦ ap (λ c. get_or c.symbols k Dash) e
    | inr e ↦ ap (λ c. get_or c.symbols k Dash) e ∙ get_or-set_other mid.symbols i k Dash Dash apart
  ]

  same_outputs : new.outputs ≡ mid.outputs
  same_outputs = elim step [ inl e ↦ ap (λ c. c.outputs) e | inr e ↦ ap (λ c. c.outputs) e ]

  -- a cube with the same symbols so far contains the cube
  inside : (d : Cube) → IsCube size d → IsSubset (holds old) (holds d) → ((k : ℕ) → k < i → get_or d.symbols k Dash ≡ get_or new.symbols k Dash) → IsSubset (holds mid) (holds d)
  inside d d_cube above same =
      let over = covering size old d old_cube d_cube above in
      IsSubset-from_Covers d mid (same_sizes size mid d mid_cube d_cube) (record {
        inputs = λ k bit ok. elim (cases_lt k i) [
          | inl low ↦ ap (λ t. agrees t bit) (same k low ∙ elsewhere k (λ e. absurd (omega (arith, e, low)))) ∙ ok
          | inr high ↦ over.inputs k bit (ap (λ t. agrees t bit) (sym (so.rest k (omega (arith, high)))) ∙ ok)
        ];
        outputs = λ k on. over.outputs k (ap (λ l. get_or l k false) (sym so.outputs) ∙ on);
      })

  first_here : IsFirstInput size s old new.symbols i
  first_here d d_cube above within same dash = elim step [
    | inl e ↦ settled d d_cube (subst (λ c. IsSubset (holds c) (holds d)) (sym e) (inside d d_cube above same)) within dash
    | inr e ↦ ap (λ c. get_or c.symbols i Dash) e ∙ get_or-set_same mid.symbols i Dash Dash (let long = mid_cube.has_size.0 in omega (arith, long, lt))
  ]

  pub freed_more : IsFreed size s old new (i + 1)
  freed_more = record {
    first = λ k below. elim (cases_eq k i) [
      | inl e ↦ subst (IsFirstInput size s old new.symbols) (sym e) first_here
      | inr ne ↦ λ d d_cube above within same dash. elsewhere k ne
          ∙ so.first k (let low = not_last k below ne in low) d d_cube above within (λ j low. same j low ∙ elsewhere j (λ e. absurd (let l = not_last k below ne in omega (arith, e, low, l)))) dash
    ];
    rest = λ k above. elsewhere k (λ e. absurd (omega (arith, e, above))) ∙ so.rest k (omega (arith, above));
    outputs = same_outputs ∙ so.outputs;
  }
    where
      not_last : (k : ℕ) → k < i + 1 → (k ≡ i → ⊥) → k < i
      not_last k below ne = elim (cases_lt k i) [ inl low ↦ low | inr high ↦ absurd (ne (omega (arith, below, high))) ]

pub freed_none : (size : Size) (s : Place → Bool) (c : Cube) → IsFreed size s c c 0
freed_none size s c = record { first = λ k lt. absurd (omega (arith, lt)); rest = λ k _. refl; outputs = refl }

-- ---- the first of all

-- two symbols of cubes that contain a third are equal, or one is a dash
pub both_over : (e q c : Symbol) → ((bit : Bool) → agrees e bit ≡ true → agrees q bit ≡ true) → ((bit : Bool) → agrees e bit ≡ true → agrees c bit ≡ true) → (q ≡ c) ⊎ ((q ≡ Dash) ⊎ (c ≡ Dash))
both_over e Dash c f g = inr (inl refl)
both_over e q Dash f g = inr (inr refl)
both_over e Zero Zero f g = inl refl
both_over e One One f g = inl refl
both_over Dash Zero One f g = absurd (false≢true (f true refl))
both_over Zero Zero One f g = absurd (false≢true (g false refl))
both_over One Zero One f g = absurd (false≢true (f true refl))
both_over Dash One Zero f g = absurd (false≢true (f false refl))
both_over Zero One Zero f g = absurd (false≢true (f false refl))
both_over One One Zero f g = absurd (false≢true (g true refl))

dash_before : (c : Symbol) (qs cs : List Symbol) → (Dash ≡ c) ⊎ (slice_cmp symbol_cmp (Dash ∷ qs) (c ∷ cs) ≡ Less)
dash_before Dash qs cs = inl refl
dash_before Zero qs cs = inr refl
dash_before One qs cs = inr refl

symbols_first : (qs cs : List Symbol) → length qs ≡ length cs → ((k : ℕ) → ((j : ℕ) → j < k → get_or cs j Dash ≡ get_or qs j Dash) → get_or cs k Dash ≡ Dash → get_or qs k Dash ≡ Dash)
    → ((k : ℕ) → (get_or qs k Dash ≡ get_or cs k Dash) ⊎ ((get_or qs k Dash ≡ Dash) ⊎ (get_or cs k Dash ≡ Dash))) → (qs ≡ cs) ⊎ (slice_cmp symbol_cmp qs cs ≡ Less)
symbols_first [] [] e f g = inl refl
symbols_first [] (c ∷ cs) e f g = absurd (omega (arith, e))
symbols_first (q ∷ qs) [] e f g = absurd (omega (arith, e))
symbols_first (q ∷ qs) (c ∷ cs) e f g = go (λ same. symbols_first qs cs (omega (arith, e)) (λ k before. f (suc k) (prefix same k before)) (λ k. g (suc k)))
  where
    prefix : q ≡ c → (k : ℕ) → ((j : ℕ) → j < k → get_or cs j Dash ≡ get_or qs j Dash) → (j : ℕ) → j < suc k → get_or (c ∷ cs) j Dash ≡ get_or (q ∷ qs) j Dash
    prefix same k before zero lt = sym same
    prefix same k before (suc j) lt = before j (omega (arith, lt))

    equal : (q ≡ c → (qs ≡ cs) ⊎ (slice_cmp symbol_cmp qs cs ≡ Less)) → q ≡ c → (q ∷ qs ≡ c ∷ cs) ⊎ (slice_cmp symbol_cmp (q ∷ qs) (c ∷ cs) ≡ Less)
    equal more same = elim (more same) [
      | inl e ↦ inl (ap₂ (λ z zs. z ∷ zs) same e)
      | inr less ↦ inr (ap (λ z. ordering_then (symbol_cmp z c) (slice_cmp symbol_cmp qs cs)) same ∙ ap (λ o. ordering_then o (slice_cmp symbol_cmp qs cs)) (symbol_same c) ∙ less)
    ]

    go : (q ≡ c → (qs ≡ cs) ⊎ (slice_cmp symbol_cmp qs cs ≡ Less)) → (q ∷ qs ≡ c ∷ cs) ⊎ (slice_cmp symbol_cmp (q ∷ qs) (c ∷ cs) ≡ Less)
    go more = elim (g 0) [
      | inl same ↦ equal more same
      | inr (inl dash) ↦ elim (dash_before c qs cs) [
        | inl same ↦ equal more (dash ∙ same)
        | inr less ↦ inr (ap (λ z. slice_cmp symbol_cmp (z ∷ qs) (c ∷ cs)) dash ∙ less)
      ]
      | inr (inr dash) ↦ equal more (f 0 (λ j lt. absurd (omega (arith, lt))) dash ∙ sym dash)
    ]

-- of the cubes within s that contain a cube none has literals that come earlier
pub first_of_all : (size : Size) (s : Place → Bool) (e q c : Cube) → IsCube size e → IsCube size q → IsSubset (holds e) (holds q) → AreFirst size s e q.symbols → IsCube size c → IsSubset (holds c) s → IsSubset (holds e) (holds c) → IsUpTo c q
first_of_all size s e q c cube q_cube over first c_cube within above =
    let over_q = covering size e q cube q_cube over in
    let over_c = covering size e c cube c_cube above in
    elim (symbols_first q.symbols c.symbols (q_cube.has_size.0 ∙ sym c_cube.has_size.0)
    (λ k before dash. elim (cases_lt k size.inputs) [
      | inl lt ↦ first k lt c c_cube above within before dash
      | inr past ↦ get_or_past q.symbols k Dash (let long = q_cube.has_size.0 in omega (arith, long, past))
    ])
    (λ k. both_over (get_or e.symbols k Dash) (get_or q.symbols k Dash) (get_or c.symbols k Dash) (over_q.inputs k) (over_c.inputs k))) [
      | inl same ↦ λ after. (let equal : slice_cmp symbol_cmp q.symbols c.symbols ≡ Equal = ap (λ l. slice_cmp symbol_cmp l c.symbols) same ∙ slice_same symbol_cmp symbol_same c.symbols in cc)
      | inr less ↦ λ after. cc
    ]

pub freed_grows_all : (size : Size) (mid new : Cube) (i : ℕ) → IsCube size mid → i < size.inputs → IsFreedAt i mid new → Grows size (λ p. true) mid new
freed_grows_all size mid new i cube lt step = elim step [
  | inl e ↦ subst (Grows size (λ p. true) mid) (sym e) (grows_none size (λ p. true) mid cube)
  | inr e ↦ freed_grows size (λ p. true) mid cube i (let long = cube.has_size.0 in omega (arith, long, lt)) new (with_symbol mid i (opposite (get_or mid.symbols i Dash))) e refl (λ p h. refl)
]

-- ---- rows that refuse a step

-- what a number gives is in the list
pub member_at : {X : Type 0} (xs : List X) (i : ℕ) (x : X) → slice_get xs i ≡ Some x → Contains xs x
member_at xs i x e = subst (Contains xs) (get_or_from_slice_get xs i x x e) (Contains-get_or xs i x (slice_get_within xs i x e))

-- what holds if there is nothing
pub from_none : {X : Type 0} (o : Option X) (P : Type 0) → IfNone o P → is_some o ≡ false → P
from_none None P h e = h
from_none (Some x) P h e = absurd (false≢true (sym e))

-- a cube that meets no row meets this one neither
pub within_apart : (off : Cubes) (row c : Cube) → Contains off.cubes row → IsImplicant off c → IsDisjoint (holds row) (holds c)
within_apart off row c member within p in_row in_c = false≢true (sym (not-true (places off.cubes p) (within p in_c)) ∙ list_any_from (λ d. holds d p) off.cubes row member in_row)

-- a row that meets the part with the other literal refuses to free the literal
pub input_refused : (off : Cubes) (cube row rest : Cube) (i : ℕ) → IsCube off.size cube → i < off.size.inputs → Contains off.cubes row → rest ≡ with_symbol cube i (opposite (get_or cube.symbols i Dash)) → (IsDisjoint (holds row) (holds rest) → ⊥)
    → IsSettledInput off.size (on_side Outside off.cubes) cube i
input_refused off cube row rest i is_cube lt member e meets =
    refused_settles off.size (on_side Outside off.cubes) cube is_cube i (let long = is_cube.has_size.0 in omega (arith, long, lt)) rest e (λ within. meets (within_apart off row rest member within))

-- a point of two rows of symbols
abbrev common_bit : Symbol → Symbol → Bool
common_bit Dash Dash = false
common_bit Dash Zero = false
common_bit Dash One = true
common_bit Zero t = false
common_bit One t = true

abbrev pub common_point : List Symbol → List Symbol → List Bool
common_point [] ts = []
common_point (s ∷ ss) [] = []
common_point (s ∷ ss) (t ∷ ts) = common_bit s t ∷ common_point ss ts

common_agrees : (s t : Symbol) → are_opposite s t ≡ false → (agrees s (common_bit s t) ≡ true) × (agrees t (common_bit s t) ≡ true)
common_agrees Dash Dash h = (refl, refl)
common_agrees Dash Zero h = (refl, refl)
common_agrees Dash One h = (refl, refl)
common_agrees Zero Dash h = (refl, refl)
common_agrees Zero Zero h = (refl, refl)
common_agrees Zero One h = absurd (false≢true (sym h))
common_agrees One Dash h = (refl, refl)
common_agrees One Zero h = absurd (false≢true (sym h))
common_agrees One One h = (refl, refl)

pub common_matches : (ss ts : List Symbol) → length ss ≡ length ts → ((k : ℕ) → are_opposite (get_or ss k Dash) (get_or ts k Dash) ≡ false) → (matches ss (common_point ss ts) ≡ true) × (matches ts (common_point ss ts) ≡ true)
common_matches [] [] e h = (refl, refl)
common_matches [] (t ∷ ts) e h = absurd (omega (arith, e))
common_matches (s ∷ ss) [] e h = absurd (omega (arith, e))
common_matches (s ∷ ss) (t ∷ ts) e h =
    let here = common_agrees s t (h 0) in
    let more = common_matches ss ts (omega (arith, e)) (λ k. h (suc k)) in (
      and_from (agrees s (common_bit s t)) (matches ss (common_point ss ts)) here.0 more.0,
      and_from (agrees t (common_bit s t)) (matches ts (common_point ss ts)) here.1 more.1,
    )

-- a row that has the output, and a point in common with the cube, refuses the output
pub output_refused : (off : Cubes) (cube row : Cube) (j : ℕ) → IsCube off.size cube → IsCube off.size row → Contains off.cubes row → get_or row.outputs j false ≡ true → ((k : ℕ) → is_opposite cube row k ≡ false)
    → IsSettledOutput off.size (on_side Outside off.cubes) cube j
output_refused off cube row j is_cube row_cube member on none d d_cube above within has =
    let common = common_matches cube.symbols row.symbols (is_cube.has_size.0 ∙ sym row_cube.has_size.0) none in
    let point = common_point cube.symbols row.symbols in
    let some = some_true cube.outputs is_cube.some_output in
    let q : Place = record { point = point; output = some.0 } in
    let p : Place = record { point = point; output = j } in
    let in_d = and_parts (matches d.symbols point) (get_or d.outputs some.0 false) (above q (and_from (matches cube.symbols point) (get_or cube.outputs some.0 false) common.0 some.1)) in
    absurd (within_apart off row d member within p (and_from (matches row.symbols point) (get_or row.outputs j false) common.1 on) (and_from (matches d.symbols point) (get_or d.outputs j false) in_d.0 has))

-- ---- the best cube

pub as_good_by_symbols : (choice : Choice) (c d e : Cube) → e.symbols ≡ d.symbols → IsAsGood choice c d → IsAsGood choice c e
as_good_by_symbols First c d e same good = subst (λ l. slice_cmp symbol_cmp l c.symbols ≢ Greater) (sym same) good
as_good_by_symbols Literals c d e same good = subst (λ l. (count_by is_literal l < literals c) ⊎ ((count_by is_literal l ≡ literals c) × (slice_cmp symbol_cmp l c.symbols ≢ Greater))) (sym same) good

pub first_freed : (off : Cubes) (cube freed : Cube) → IsCube off.size cube → IsSettledUpTo off.size (on_side Outside off.cubes) cube freed off.size.inputs 0 → AreFirst off.size (on_side Outside off.cubes) cube freed.symbols → IsBestFreed First off cube freed
first_freed off cube freed is_cube settled first = record {
  settled = settled;
  good = λ c c_cube within above. first_of_all off.size (on_side Outside off.cubes) cube freed c is_cube settled.is_cube settled.over first c_cube within above;
}

pub best_of_freed : (choice : Choice) (off : Cubes) (cube freed grown : Cube) → IsBestFreed choice off cube freed
    → IsSettledUpTo off.size (on_side Outside off.cubes) freed grown 0 off.size.outputs → grown.symbols ≡ freed.symbols → IsImplicant off grown → IsBest choice off cube grown
best_of_freed choice off cube freed grown best outputs same within =
    let s = on_side Outside off.cubes in
    let inputs = best.settled in
    let over : IsSubset (holds cube) (holds grown) = λ p h. outputs.over p (inputs.over p h) in
    record {
      is_cube = outputs.is_cube;
      prime = (Contains-complete_sum off.size (λ p. not (places off.cubes p)) grown).1 (settled_maximal off.size s cube grown (record {
        is_cube = outputs.is_cube;
        over = over;
        inputs = λ k lt. settled_input_more off.size s freed grown inputs.is_cube outputs.is_cube outputs.over k (inputs.inputs k lt);
        outputs = outputs.outputs;
      }) within);
      over = over;
      good = λ c c_cube c_within above. as_good_by_symbols choice c freed grown same (best.good c c_cube c_within above);
    }
