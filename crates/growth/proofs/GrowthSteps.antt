-- Steps of a cube's growth, and that the grown cube is one of the largest.
use Rattle.std.proofs.Common.{◌≡◌, ℕ, zero, suc, ◌+◌, ◌<◌, ◌⊎◌, inl, inr, Bool, true, false, not, ◌&&◌, ◌||◌, List, length, map, replicate, get_or, set, refl, ap, sym, subst, ◌∙◌, arith, ◌↔◌, IsTrue}
use Rattle.std.specs.List.{list_any}
use Rattle.std.proofs.lemmas.Bool.{cases_Bool, cases_eq, cases_lt, false≢true, and_parts, and_from, or_cases, or_left, or_right, not_from_false}
use Rattle.std.proofs.lemmas.List.{get_or-set_same, get_or-set_other, get_or_past, set-get_or, get_or-replicate, length-replicate}
use Rattle.cube.specs.declared.symbol.Symbol.{Symbol}
use Rattle.cube.specs.declared.symbol.Symbol.TheVariants.{Dash, Zero, One}
use Rattle.cube.specs.Size.{Size}
use Rattle.cube.specs.Pattern.{agrees, matches}
use Rattle.cube.specs.Cube.{Cube, Place, holds, with_symbol, HasSize, SameSize, IsCube, IsSubset}
use Rattle.cube.specs.Sharp.{opposite, minus, rest_row}
use Rattle.cube.specs.Sum.{is_subset, IsMaximal}
use Rattle.cube.proofs.HoldsLemmas.{Covers, Covers-from_IsSubset, IsSubset-from_Covers, pick, length-matches, matches-map_pick}
use Rattle.cube.proofs.SharpLemmas.{some_true, true_some, get_or-minus}
use Rattle.cover.specs.Places.{places}
use Rattle.cover.proofs.Everywhere.{is_subset-iff, holds_universal}
use Rattle.cover.proofs.Found.{output_of_place}
use Rattle.cover.proofs.Inputs.{matches-set_symbol, matches-own}
use Rattle.cover.proofs.SumApart.{dash_above}
use Rattle.cover.proofs.SumSplit.{IsCube-with_symbol, same_cube}
use Rattle.growth.specs.declared.prime.Side.{Side}
use Rattle.growth.specs.declared.prime.Side.TheVariants.{Inside}
use Rattle.growth.specs.Growth.{on_side, Grows, IsGrown, IsSettledUpTo, IsSettledInput, IsSettledOutput, IsBeside}

-- ---- cubes that contain each other

pub same_sizes : (size : Size) (c d : Cube) → IsCube size c → IsCube size d → SameSize d c
same_sizes size c d one other = (other.has_size.0 ∙ sym one.has_size.0, other.has_size.1 ∙ sym one.has_size.1)

pub covering : (size : Size) (c d : Cube) → IsCube size c → IsCube size d → IsSubset (holds c) (holds d) → Covers d c
covering size c d one other sub = let w = some_true c.outputs one.some_output in Covers-from_IsSubset d c (same_sizes size c d one other) w.0 w.1 sub

-- ---- what was settled stays so

module _ (size : Size) (s : Place → Bool) (c d : Cube) (one : IsCube size c) (other : IsCube size d) (sub : IsSubset (holds c) (holds d)) where
  pub settled_input_more : (k : ℕ) → IsSettledInput size s c k → IsSettledInput size s d k
  settled_input_more k settled e e_cube above within dash =
      let was : get_or c.symbols k Dash ≡ Dash = settled e e_cube (λ p h. above p (sub p h)) within dash in
      dash_above (get_or d.symbols k Dash) (λ bit. (covering size c d one other sub).inputs k bit (ap (λ t. agrees t bit) was))

  pub settled_output_more : (k : ℕ) → IsSettledOutput size s c k → IsSettledOutput size s d k
  settled_output_more k settled e e_cube above within on = (covering size c d one other sub).outputs k (settled e e_cube (λ p h. above p (sub p h)) within on)

-- ---- a literal less

opposite_agrees : (t : Symbol) (bit : Bool) → agrees t bit ≡ false → agrees (opposite t) bit ≡ true
opposite_agrees Dash bit e = absurd (false≢true (sym e))
opposite_agrees Zero true e = refl
opposite_agrees Zero false e = absurd (false≢true (sym e))
opposite_agrees One true e = absurd (false≢true (sym e))
opposite_agrees One false e = refl

module _ (size : Size) (s : Place → Bool) (c : Cube) (cube : IsCube size c) (i : ℕ) (lt : i < length c.symbols) where
  abbrev free : Cube
  free = with_symbol c i Dash

  abbrev half : Cube
  half = with_symbol c i (opposite (get_or c.symbols i Dash))

  in_free : (p : Place) → holds c p ≡ true → holds free p ≡ true
  in_free p h =
      let parts = and_parts (matches c.symbols p.point) (get_or c.outputs p.output false) h in
      and_from (matches (set c.symbols i Dash) p.point) (get_or c.outputs p.output false)
      (and_parts (agrees (get_or c.symbols i Dash) (get_or p.point i false)) (matches (set c.symbols i Dash) p.point) (sym (matches-own c.symbols p.point i lt) ∙ parts.0)).1
      parts.1

  free_cases : (p : Place) → holds free p ≡ true → (holds c p ≡ true) ⊎ (holds half p ≡ true)
  free_cases p h =
      let parts = and_parts (matches (set c.symbols i Dash) p.point) (get_or c.outputs p.output false) h in
      let own = get_or c.symbols i Dash in
      let bit = get_or p.point i false in
      elim (cases_Bool (agrees own bit)) [
        | inl fits ↦ inl (and_from (matches c.symbols p.point) (get_or c.outputs p.output false)
            (matches-own c.symbols p.point i lt ∙ and_from (agrees own bit) (matches (set c.symbols i Dash) p.point) fits parts.0) parts.1)
        | inr off ↦ inr (and_from (matches (set c.symbols i (opposite own)) p.point) (get_or c.outputs p.output false)
            (matches-set_symbol c.symbols p.point i (opposite own) lt
            ∙ and_from (agrees (opposite own) bit) (matches (set c.symbols i Dash) p.point) (opposite_agrees own bit off) parts.0) parts.1)
      ]

  pub freed_grows : (new rest : Cube) → new ≡ with_symbol c i Dash → rest ≡ with_symbol c i (opposite (get_or c.symbols i Dash)) → IsSubset (holds rest) s → Grows size s c new
  freed_grows new rest e f part = subst (Grows size s c) (sym e) (record {
    is_cube = IsCube-with_symbol size c i Dash cube;
    over = in_free;
    within = λ own p h. elim (free_cases p h) [
      | inl old ↦ own p old
      | inr more ↦ part p (subst (λ d. holds d p ≡ true) (sym f) more)
    ];
  })

  pub freed_settles : (new : Cube) → new ≡ with_symbol c i Dash → IsSettledInput size s new i
  freed_settles new e d _ _ _ _ = ap (λ k. get_or k.symbols i Dash) e ∙ get_or-set_same c.symbols i Dash Dash lt

  pub refused_settles : (rest : Cube) → rest ≡ with_symbol c i (opposite (get_or c.symbols i Dash)) → (IsSubset (holds rest) s → ⊥) → IsSettledInput size s c i
  refused_settles rest f refused d d_cube above within dash =
      let over = covering size c d cube d_cube above in
      let own = opposite (get_or c.symbols i Dash) in
      let more : IsSubset (holds half) (holds d) = IsSubset-from_Covers d half (same_sizes size half d (IsCube-with_symbol size c i own cube) d_cube) (record {
        inputs = λ k bit ok. elim (cases_eq k i) [
          | inl e ↦ ap (λ x. agrees (get_or d.symbols x Dash) bit) e ∙ ap (λ t. agrees t bit) dash
          | inr ne ↦ over.inputs k bit (ap (λ t. agrees t bit) (sym (get_or-set_other c.symbols i k own Dash ne)) ∙ ok)
        ];
        outputs = over.outputs;
      }) in
      absurd (refused (λ p h. within p (more p (subst (λ k. holds k p ≡ true) f h))))

-- ---- an output more

pub none_set : (m k : ℕ) → get_or (replicate m false) k false ≡ false
none_set m k = elim (cases_lt k m) [ inl lt ↦ get_or-replicate m k false false lt | inr past ↦ get_or_past (replicate m false) k false (omega (arith, length-replicate m false)) ]

pub set_one : (m j k : ℕ) → get_or (set (replicate m false) j true) k false ≡ true → k ≡ j
set_one zero j k h = absurd (false≢true h)
set_one (suc m) zero zero h = refl
set_one (suc m) zero (suc k) h = absurd (false≢true (sym (none_set m k) ∙ h))
set_one (suc m) (suc j) zero h = absurd (false≢true h)
set_one (suc m) (suc j) (suc k) h = ap suc (set_one m j k h)

-- the cube of all places that have the output
abbrev pub all_with : Size → ℕ → Cube
all_with size j = record { symbols = replicate size.inputs Dash; outputs = set (replicate size.outputs false) j true }

module _ (size : Size) (c : Cube) (cube : IsCube size c) (j : ℕ) (lt : j < size.outputs) (u : Cube) (is : u ≡ all_with size j) where
  u_matches : (point : List Bool) → matches c.symbols point ≡ true → matches u.symbols point ≡ true
  u_matches point h =
      let p : Place = record { point = point; output = j } in
      ap (λ k. matches k.symbols point) is
      ∙ (and_parts (matches (replicate size.inputs Dash) point) (get_or (replicate size.outputs true) j false) (holds_universal size p (length-matches c.symbols point h ∙ cube.has_size.0) lt)).0

  u_output : get_or u.outputs j false ≡ true
  u_output = ap (λ k. get_or k.outputs j false) is ∙ get_or-set_same (replicate size.outputs false) j true false (omega (arith, length-replicate size.outputs false))

  pub not_apart : ((point : List Bool) → matches c.symbols point ≡ true → matches u.symbols point ≡ true → ⊥) → ⊥
  not_apart h = h (map pick c.symbols) (matches-map_pick c.symbols) (u_matches (map pick c.symbols) (matches-map_pick c.symbols))

  -- the cube with the output has a place there
  pub stacked_cube : (wide : Cube) → SameSize wide c → ((p : Place) → holds wide p ≡ ((matches c.symbols p.point && matches u.symbols p.point)
      && (get_or c.outputs p.output false || get_or u.outputs p.output false))) → IsCube size wide
  stacked_cube wide same stacked =
      let m = matches-map_pick c.symbols in
      let p : Place = record { point = map pick c.symbols; output = j } in
      record {
        has_size = (same.0 ∙ cube.has_size.0, same.1 ∙ cube.has_size.1);
        some_output = output_of_place wide p (stacked p ∙ and_from (matches c.symbols p.point && matches u.symbols p.point) (get_or c.outputs p.output false || get_or u.outputs p.output false)
            (and_from (matches c.symbols p.point) (matches u.symbols p.point) m (u_matches p.point m)) (or_right (get_or c.outputs j false) (get_or u.outputs j false) u_output));
      }

-- a cube put together with the cube of all places that have an output
pub record HasOutputAdded (size : Size) (c : Cube) (j : ℕ) (u wide : Cube) : Type 0 where
  pub cube : IsCube size c
  pub below : j < size.outputs
  pub output : u ≡ all_with size j
  pub same : SameSize wide c
  pub stacked : (p : Place) → holds wide p ≡ ((matches c.symbols p.point && matches u.symbols p.point)
      && (get_or c.outputs p.output false || get_or u.outputs p.output false))

module _ {size : Size} {c : Cube} {j : ℕ} {u wide : Cube} (w : HasOutputAdded size c j u wide) where
  wide_cube : IsCube size wide
  wide_cube = stacked_cube size c w.cube j w.below u w.output wide w.same w.stacked

  wide_from : (p : Place) → matches c.symbols p.point ≡ true → (get_or c.outputs p.output false || get_or u.outputs p.output false) ≡ true → holds wide p ≡ true
  wide_from p m o = w.stacked p ∙ and_from (matches c.symbols p.point && matches u.symbols p.point) (get_or c.outputs p.output false || get_or u.outputs p.output false)
      (and_from (matches c.symbols p.point) (matches u.symbols p.point) m (u_matches size c w.cube j w.below u w.output p.point m)) o

  pub wide_output : get_or wide.outputs j false ≡ true
  wide_output =
      let p : Place = record { point = map pick c.symbols; output = j } in
      (and_parts (matches wide.symbols p.point) (get_or wide.outputs j false) (wide_from p (matches-map_pick c.symbols) (or_right (get_or c.outputs j false) (get_or u.outputs j false) (u_output size c w.cube j w.below u w.output)))).1

  pub widened_settles : {s : Place → Bool} → IsSettledOutput size s wide j
  widened_settles d _ _ _ _ = wide_output

  pub in_wide : (p : Place) → holds c p ≡ true → holds wide p ≡ true
  in_wide p h =
      let parts = and_parts (matches c.symbols p.point) (get_or c.outputs p.output false) h in
      wide_from p parts.0 (or_left (get_or c.outputs p.output false) (get_or u.outputs p.output false) parts.1)

  wide_parts : (p : Place) → holds wide p ≡ true → (matches c.symbols p.point ≡ true) × ((get_or c.outputs p.output false || get_or u.outputs p.output false) ≡ true)
  wide_parts p h =
      let parts = and_parts (matches c.symbols p.point && matches u.symbols p.point) (get_or c.outputs p.output false || get_or u.outputs p.output false) (sym (w.stacked p) ∙ h) in
      ((and_parts (matches c.symbols p.point) (matches u.symbols p.point) parts.0).0, parts.1)

  beside_point : (p : Place) → matches c.symbols p.point ≡ true → (i : ℕ) (bit : Bool) (q : Place) → q.point ≡ set p.point i bit → IsBeside c q
  beside_point p m i bit q same =
      let some = some_true c.outputs w.cube.some_output in
      record { place = record { point = p.point; output = some.0 }; held = and_from (matches c.symbols p.point) (get_or c.outputs some.0 false) m some.1; input = i; bit = bit; same = same }

  pub beside_wide : (p : Place) → IsBeside wide p → IsBeside c p
  beside_wide p beside = beside_point beside.place (wide_parts beside.place beside.held).0 beside.input beside.bit p beside.same

  -- the cube has its symbols still
  pub widened_symbols : wide.symbols ≡ c.symbols
  widened_symbols =
      let mixed : Cube = record { symbols = c.symbols; outputs = wide.outputs } in
      let mixed_cube : IsCube size mixed = record { has_size = (w.cube.has_size.0, wide_cube.has_size.1); some_output = wide_cube.some_output } in
      ap (λ k. k.symbols) (same_cube size wide mixed wide_cube mixed_cube
      (λ p h. and_from (matches c.symbols p.point) (get_or wide.outputs p.output false) (wide_parts p h).0 (and_parts (matches wide.symbols p.point) (get_or wide.outputs p.output false) h).1)
      (λ p h.
      let parts = and_parts (matches c.symbols p.point) (get_or wide.outputs p.output false) h in
      let q : Place = record { point = map pick wide.symbols; output = p.output } in
      let held : holds wide q ≡ true = and_from (matches wide.symbols q.point) (get_or wide.outputs q.output false) (matches-map_pick wide.symbols) parts.1 in
      wide_from p parts.0 (wide_parts q held).1))

  long : length wide.outputs ≡ length c.outputs
  long = w.same.1

  pub rest_output : get_or c.outputs j false ≡ false → list_any (λ b. b) (minus wide.outputs c.outputs) ≡ true
  rest_output lacks = true_some (minus wide.outputs c.outputs) j (get_or-minus wide.outputs c.outputs j long
      ∙ and_from (get_or wide.outputs j false) (not (get_or c.outputs j false)) wide_output (not_from_false (get_or c.outputs j false) lacks))

  module _ (rest : Cube) (left : rest ≡ rest_row wide c) where
    rest_in : (p : Place) → holds rest p ≡ true → holds wide p ≡ true
    rest_in p h =
        let parts = and_parts (matches wide.symbols p.point) (get_or (minus wide.outputs c.outputs) p.output false) (ap (λ k. holds k p) (sym left) ∙ h) in
        and_from (matches wide.symbols p.point) (get_or wide.outputs p.output false) parts.0
        (and_parts (get_or wide.outputs p.output false) (not (get_or c.outputs p.output false)) (sym (get_or-minus wide.outputs c.outputs p.output long) ∙ parts.1)).0

    pub beside_rest : (p : Place) → holds rest p ≡ true → IsBeside c p
    beside_rest p h = beside_point p (wide_parts p (rest_in p h)).0 0 (get_or p.point 0 false) p (sym (set-get_or p.point 0 false))

    wide_cases : (p : Place) → holds wide p ≡ true → (holds c p ≡ true) ⊎ (holds rest p ≡ true)
    wide_cases p h = elim (cases_Bool (get_or c.outputs p.output false)) [
      | inl on ↦ inl (and_from (matches c.symbols p.point) (get_or c.outputs p.output false) (wide_parts p h).0 on)
      | inr off ↦ inr (
          let parts = and_parts (matches wide.symbols p.point) (get_or wide.outputs p.output false) h in
          ap (λ k. holds k p) left ∙ and_from (matches wide.symbols p.point) (get_or (minus wide.outputs c.outputs) p.output false) parts.0
          (get_or-minus wide.outputs c.outputs p.output long
          ∙ and_from (get_or wide.outputs p.output false) (not (get_or c.outputs p.output false)) parts.1 (not_from_false (get_or c.outputs p.output false) off)))
    ]

    pub widened_grows : {s : Place → Bool} → IsSubset (holds rest) s → Grows size s c wide
    widened_grows part = record {
      is_cube = wide_cube;
      over = in_wide;
      within = λ own p h. elim (wide_cases p h) [ inl old ↦ own p old | inr more ↦ part p more ];
    }

    pub unwidened_settles : {s : Place → Bool} → (IsSubset (holds rest) s → ⊥) → IsSettledOutput size s c j
    unwidened_settles refused d d_cube above within on =
        let some = some_true c.outputs w.cube.some_output in
        absurd (refused (λ p h.
        let parts = wide_parts p (rest_in p h) in
        let q : Place = record { point = p.point; output = some.0 } in
        let point = (and_parts (matches d.symbols p.point) (get_or d.outputs some.0 false) (above q (and_from (matches c.symbols p.point) (get_or c.outputs some.0 false) parts.0 some.1))).0 in
        within p (elim (or_cases (get_or c.outputs p.output false) (get_or u.outputs p.output false) parts.1) [
          | inl own ↦ above p (and_from (matches c.symbols p.point) (get_or c.outputs p.output false) parts.0 own)
          | inr new ↦ (
              let at : p.output ≡ j = set_one size.outputs j p.output (ap (λ k. get_or k.outputs p.output false) (sym w.output) ∙ new) in
              and_from (matches d.symbols p.point) (get_or d.outputs p.output false) point (ap (λ k. get_or d.outputs k false) at ∙ on))
        ])))

-- ---- what is asked

pub inside_answer : (side : Side) (size : Size) (rows : List Cube) (c : Cube) (b : Bool) → HasSize c size → side ≡ Inside → b ≡ is_subset size (holds c) (places rows)
    → IsTrue b ↔ IsSubset (holds c) (on_side side rows)
inside_answer side size rows c b long e f =
    subst (λ z. IsTrue b ↔ IsSubset (holds c) (on_side z rows)) (sym e) (subst (λ z. IsTrue z ↔ IsSubset (holds c) (places rows)) (sym f) (is_subset-iff size c (places rows) long))

-- ---- one after the other

pub grows_none : (size : Size) (s : Place → Bool) (c : Cube) → IsCube size c → Grows size s c c
grows_none size s c cube = record { is_cube = cube; over = λ p h. h; within = λ h. h }

pub grows_both : (size : Size) (s : Place → Bool) (old mid new : Cube) → Grows size s old mid → Grows size s mid new → Grows size s old new
grows_both size s old mid new so step = record {
  is_cube = step.is_cube;
  over = λ p h. step.over p (so.over p h);
  within = λ h. step.within (so.within h);
}

pub settled_none : (size : Size) (s : Place → Bool) (c : Cube) → IsCube size c → IsSettledUpTo size s c c 0 0
settled_none size s c cube = record {
  is_cube = cube;
  over = λ p h. h;
  inputs = λ k lt. absurd (omega (arith, lt));
  outputs = λ k lt. absurd (omega (arith, lt));
}

module _ (size : Size) (s : Place → Bool) (old mid new : Cube) (n m : ℕ) (so : IsSettledUpTo size s old mid n m) (cube : IsCube size new) (over : IsSubset (holds mid) (holds new)) where
  pub settled_input : IsSettledInput size s new n → IsSettledUpTo size s old new (n + 1) m
  settled_input here = record {
    is_cube = cube;
    over = λ p h. over p (so.over p h);
    inputs = λ k lt. elim (cases_lt k n) [
      | inl low ↦ settled_input_more size s mid new so.is_cube cube over k (so.inputs k low)
      | inr high ↦ (let at : n ≡ k = omega (arith, lt, high) in subst (IsSettledInput size s new) at here)
    ];
    outputs = λ k lt. settled_output_more size s mid new so.is_cube cube over k (so.outputs k lt);
  }

  pub settled_output : IsSettledOutput size s new m → IsSettledUpTo size s old new n (m + 1)
  settled_output here = record {
    is_cube = cube;
    over = λ p h. over p (so.over p h);
    inputs = λ k lt. settled_input_more size s mid new so.is_cube cube over k (so.inputs k lt);
    outputs = λ k lt. elim (cases_lt k m) [
      | inl low ↦ settled_output_more size s mid new so.is_cube cube over k (so.outputs k low)
      | inr high ↦ (let at : m ≡ k = omega (arith, lt, high) in subst (IsSettledOutput size s new) at here)
    ];
  }

module _ (size : Size) (s : Place → Bool) (old mid new : Cube) (n m : ℕ) (so : IsGrown size s old mid n m) (step : Grows size s mid new) where
  pub grown_input : IsSettledInput size s new n → IsGrown size s old new (n + 1) m
  grown_input here = record { settled = settled_input size s old mid new n m so.settled step.is_cube step.over here; within = λ h. step.within (so.within h) }

  pub grown_output : IsSettledOutput size s new m → IsGrown size s old new n (m + 1)
  grown_output here = record { settled = settled_output size s old mid new n m so.settled step.is_cube step.over here; within = λ h. step.within (so.within h) }

-- ---- the cube that is settled everywhere

same_literal : (inner outer : Symbol) (bit : Bool) → ((b : Bool) → agrees inner b ≡ true → agrees outer b ≡ true) → (outer ≡ Dash → inner ≡ Dash) → agrees outer bit ≡ true → agrees inner bit ≡ true
same_literal Dash outer bit below none ok = refl
same_literal inner Dash bit below none ok = ap (λ t. agrees t bit) (none refl)
same_literal Zero Zero bit below none ok = ok
same_literal Zero One bit below none ok = absurd (false≢true (below false refl))
same_literal One Zero bit below none ok = absurd (false≢true (below true refl))
same_literal One One bit below none ok = ok

pub settled_maximal : (size : Size) (s : Place → Bool) (old new : Cube) → IsSettledUpTo size s old new size.inputs size.outputs → IsSubset (holds new) s → IsMaximal size s new
settled_maximal size s old new settled within =
    let cube = settled.is_cube in
    record {
      is_cube = cube;
      within = within;
      largest = λ d d_cube in_s above.
          let over = covering size new d cube d_cube above in
          IsSubset-from_Covers new d (same_sizes size d new d_cube cube) (record {
            inputs = λ k bit ok. elim (cases_lt k size.inputs) [
              | inl lt ↦ same_literal (get_or new.symbols k Dash) (get_or d.symbols k Dash) bit (over.inputs k) (settled.inputs k lt d d_cube above in_s) ok
              | inr past ↦ ap (λ t. agrees t bit) (get_or_past new.symbols k Dash (omega (arith, cube.has_size.0, past)))
            ];
            outputs = λ k on. elim (cases_lt k size.outputs) [
              | inl lt ↦ settled.outputs k lt d d_cube above in_s on
              | inr past ↦ absurd (false≢true (sym (get_or_past d.outputs k false (omega (arith, d_cube.has_size.1, past))) ∙ on))
            ];
          });
    }
