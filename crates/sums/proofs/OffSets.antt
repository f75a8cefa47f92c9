-- The places outside a list, region by region.
use Rattle.std.proofs.Common.{◌≡◌, ℕ, ◌+◌, ◌<◌, ◌≤◌, Bool, true, false, not, ◌&&◌, ◌||◌, ltb, List, [], ◌∷◌, ◌++◌, length, take, drop, get_or, All, slice_get, Some, refl, ap, sym, subst, ◌∙◌, arith, inl, inr, ◌⊎◌}
use Rattle.std.specs.Prelude.{Option, None, MatchOption}
use Rattle.std.specs.List.{Contains}
use Rattle.std.specs.Bool.{if◌then◌else◌}
use Rattle.std.specs.Cmp.{both_ways as same_bool}
use Rattle.std.proofs.lemmas.Bool.{cases_Bool, cases_lt, false≢true, not_from_false, and_from, or_cases, or_left, or_right, ltb-true, lt-ltb}
use Rattle.std.proofs.lemmas.List.{take_more, take-append-drop}
use Rattle.std.proofs.lemmas.List.Elements.{Contains-append_left, Contains-append_right, Contains-append_cases}
use Rattle.std.proofs.lemmas.Option.{slice_get_within, get_or_from_slice_get}
use Rattle.cube.specs.Size.{Size}
use Rattle.cube.specs.declared.symbol.Symbol.TheVariants.{Dash, Zero, One}
use Rattle.cube.specs.Cube.{Cube, Place, holds, difference, with_symbol, IsCube, IsPlace, IsSubset, IsDisjoint}
use Rattle.cube.specs.Sum.{complete_sum}
use Rattle.cube.proofs.Members.{Contains-here, Contains-nil, Contains-cases}
use Rattle.cube.proofs.SumLemmas.{IsPlace-from_holds, implied_at}
use Rattle.rows.specs.Cubes.{AreCubes}
use Rattle.rows.specs.Places.{places, is_disjoint, share_place}
use Rattle.rows.specs.Reduced.{HasSameCubes}
use Rattle.sums.specs.Outside.{AreNear, IsRest, Extends}
use Rattle.rows.proofs.Lists.{all_members, members_all, list_any_from, list_any_witness}
use Rattle.rows.proofs.OneOutput.{region_of, held_at, held_only}
use Rattle.rows.proofs.Regions.{narrowed, narrowed_at}
use Rattle.rows.proofs.SumMeets.{places-append}
use Rattle.rows.proofs.SumSorted.{AreCubes-same}
use Rattle.sums.proofs.SumPlaces.{places-within, places-of_sum}

-- ---- the rows that meet a region

Contains-one : (x y : Cube) → Contains (x ∷ []) y → x ≡ y
Contains-one x y h = elim (Contains-cases x [] y h) [ inl e ↦ e | inr none' ↦ absurd (Contains-nil y none') ]

pub near-none : (size : Size) (s : Place → Bool) → AreNear size s [] []
near-none size s = record {
  are_cubes = members_all (IsCube size) [] (λ c h. absurd (Contains-nil c h));
  within = λ c h. h;
  all = λ c h. inr h;
}

module _ (size : Size) (s : Place → Bool) (rows : List Cube) (i : ℕ) (row : Cube) (near : List Cube) (are : AreCubes size rows) (lt : i < length rows) (at : row ≡ get_or rows i row)
    (so_far : AreNear size s (take i rows) near) where
  more : take (i + 1) rows ≡ take i rows ++ row ∷ []
  more = take_more rows i row lt ∙ ap (λ c. take i rows ++ c ∷ []) (sym at)

  is_cube : IsCube size row
  is_cube = subst (IsCube size) (sym at) (are i row lt)

  before : (c : Cube) → Contains (take i rows) c → Contains (take (i + 1) rows) c
  before c h = subst (λ l. Contains l c) (sym more) (Contains-append_left (take i rows) (row ∷ []) c h)

  cases : (c : Cube) → Contains (take (i + 1) rows) c → Contains (take i rows) c ⊎ (row ≡ c)
  cases c h = elim (Contains-append_cases (take i rows) (row ∷ []) c (subst (λ l. Contains l c) more h)) [
    | inl k ↦ inl k
    | inr k ↦ inr (Contains-one row c k)
  ]

  pub near-kept : (new : List Cube) → new ≡ near ++ row ∷ [] → AreNear size s (take (i + 1) rows) new
  near-kept new e = subst (AreNear size s (take (i + 1) rows)) (sym e) (record {
    are_cubes = members_all (IsCube size) (near ++ row ∷ []) (λ c h. elim (Contains-append_cases near (row ∷ []) c h) [
      | inl k ↦ all_members (IsCube size) near so_far.are_cubes c k
      | inr k ↦ subst (IsCube size) (Contains-one row c k) is_cube
    ]);
    within = λ c h. elim (Contains-append_cases near (row ∷ []) c h) [
      | inl k ↦ before c (so_far.within c k)
      | inr k ↦ subst (λ l. Contains l c) (sym more) (Contains-append_right (take i rows) (row ∷ []) c k)
    ];
    all = λ c h. elim (cases c h) [
      | inl k ↦ elim (so_far.all c k) [ inl d ↦ inl d | inr m ↦ inr (Contains-append_left near (row ∷ []) c m) ]
      | inr k ↦ inr (Contains-append_right near (row ∷ []) c (subst (Contains (row ∷ [])) k (Contains-here row [])))
    ];
  })

  pub near-left : IsDisjoint (holds row) s → AreNear size s (take (i + 1) rows) near
  near-left apart = record {
    are_cubes = so_far.are_cubes;
    within = λ c h. before c (so_far.within c h);
    all = λ c h. elim (cases c h) [
      | inl k ↦ so_far.all c k
      | inr k ↦ inl (subst (λ d. IsDisjoint (holds d) s) k apart)
    ];
  }

pub places-near : (size : Size) (s : Place → Bool) (rows near : List Cube) → AreNear size s rows near → (p : Place) → s p ≡ true → places near p ≡ places rows p
places-near size s rows near h p inside =
    same_bool (places near p) (places rows p)
    (λ e. let w = list_any_witness (λ c. holds c p) near e in list_any_from (λ c. holds c p) rows w.0 (h.within w.0 w.1) w.2)
    (λ e.
    let w = list_any_witness (λ c. holds c p) rows e in
    elim (h.all w.0 w.1) [
      | inl apart ↦ absurd (apart p w.2 inside)
      | inr m ↦ list_any_from (λ c. holds c p) near w.0 m w.2
    ])

-- ---- what is left of a region

pub places-sum : (size : Size) (s : Place → Bool) (p : Place) → IsPlace size p → places (complete_sum size s) p ≡ s p
places-sum size s p place = same_bool (places (complete_sum size s) p) (s p) (places-within size s p) (places-of_sum size p place s)

or_false : (a b : Bool) → ((a || false) && b) ≡ (a && b)
or_false true b = refl
or_false false b = refl

pub places-rest : (size : Size) (region : Cube) (own rows left : List Cube) → own ≡ region ∷ [] → left ≡ complete_sum size (difference (places own) (places rows)) → (p : Place) → IsPlace size p
    → places left p ≡ (holds region p && not (places rows p))
places-rest size region own rows left e f p place =
    ap (λ l. places l p) f ∙ places-sum size (difference (places own) (places rows)) p place
    ∙ ap (λ l. places l p && not (places rows p)) e ∙ or_false (holds region p) (not (places rows p))

-- ---- parts that are joined

and_or : (a b d : Bool) → ((a && d) || (b && d)) ≡ ((a || b) && d)
and_or true true true = refl
and_or true false true = refl
and_or true true false = refl
and_or true false false = refl
and_or false b d = refl

pub AreCubes-append : (size : Size) (cs ds : List Cube) → AreCubes size cs → AreCubes size ds → AreCubes size (cs ++ ds)
AreCubes-append size cs ds one two = members_all (IsCube size) (cs ++ ds) (λ c k. elim (Contains-append_cases cs ds c k) [
  | inl m ↦ all_members (IsCube size) cs one c m
  | inr m ↦ all_members (IsCube size) ds two c m
])

-- a list, or with others behind it
pub AreCubes-grown : (size : Size) (b : Bool) (cs ds grown : List Cube) → grown ≡ (if b then cs ++ ds else cs) → AreCubes size cs → AreCubes size ds → AreCubes size grown
AreCubes-grown size true cs ds grown is one two = subst (AreCubes size) (sym is) (AreCubes-append size cs ds one two)
AreCubes-grown size false cs ds grown is one two = subst (AreCubes size) (sym is) one

pub AreCubes-one : (size : Size) (c : Cube) → IsCube size c → AreCubes size (c ∷ [])
AreCubes-one size c h = members_all (IsCube size) (c ∷ []) (λ d k. subst (IsCube size) (Contains-one c d k) h)

module _ (size : Size) (rows : List Cube) where
  pub IsRest-none : IsRest size (λ p. false) rows []
  IsRest-none = record {
    are_cubes = members_all (IsCube size) [] (λ c h. absurd (Contains-nil c h));
    places = λ p place. refl;
  }

  pub IsRest-both : (s t : Place → Bool) (a b new : List Cube) → new ≡ a ++ b → IsRest size s rows a → IsRest size t rows b → IsRest size (λ p. s p || t p) rows new
  IsRest-both s t a b new e one two = subst (IsRest size (λ p. s p || t p) rows) (sym e) (record {
    are_cubes = AreCubes-append size a b one.are_cubes two.are_cubes;
    places = λ p place. places-append a b p ∙ ap (λ x. x || places b p) (one.places p place)
        ∙ ap (λ x. (s p && not (places rows p)) || x) (two.places p place) ∙ and_or (s p) (t p) (not (places rows p));
  })

  pub IsRest-same : (s t : Place → Bool) (left : List Cube) → ((p : Place) → IsPlace size p → s p ≡ t p) → IsRest size s rows left → IsRest size t rows left
  IsRest-same s t left same h = record {
    are_cubes = h.are_cubes;
    places = λ p place. h.places p place ∙ ap (λ b. b && not (places rows p)) (same p place);
  }

  -- cubes that are larger and still outside
  pub IsRest-larger : (s : Place → Bool) (left larger : List Cube) → IsRest size s rows left → AreCubes size larger → Extends (difference s (places rows)) (places left) (places larger)
      → IsRest size s rows larger
  IsRest-larger s left larger h are e = record {
    are_cubes = are;
    places = λ p place. same_bool (places larger p) (s p && not (places rows p))
        (λ k. e.within (λ q held. sym (h.places q (place_of left h.are_cubes q held)) ∙ held) p k)
        (λ k. e.over p (h.places p place ∙ k));
  }
    where
      place_of : (cs : List Cube) → AreCubes size cs → (q : Place) → places cs q ≡ true → IsPlace size q
      place_of cs of q held = let w = list_any_witness (λ c. holds c q) cs held in IsPlace-from_holds size w.0 q (all_members (IsCube size) cs of w.0 w.1).has_size w.2

-- the whole region, where there are no rows
pub IsRest-whole : (size : Size) (region : Cube) (rows own : List Cube) → IsCube size region → rows ≡ [] → own ≡ region ∷ [] → IsRest size (holds region) rows own
IsRest-whole size region rows own is_cube none e =
    subst (λ l. IsRest size (holds region) l own) (sym none) (subst (IsRest size (holds region) []) (sym e) (record { are_cubes = AreCubes-one size region is_cube; places = λ p place. whole (holds region p) }))
  where
    whole : (b : Bool) → (b || false) ≡ (b && true)
    whole true = refl
    whole false = refl

-- the same cubes
pub IsRest-sorted : (size : Size) (rows : List Cube) (s : Place → Bool) (left sorted : List Cube) → HasSameCubes left sorted → IsRest size s rows left → IsRest size s rows sorted
IsRest-sorted size rows s left sorted same h = record {
  are_cubes = AreCubes-same size left sorted same h.are_cubes;
  places = λ p place. same_bool (places sorted p) (places left p)
      (λ k. let w = list_any_witness (λ c. holds c p) sorted k in list_any_from (λ c. holds c p) left w.0 ((same w.0).1 w.1) w.2)
      (λ k. let w = list_any_witness (λ c. holds c p) left k in list_any_from (λ c. holds c p) sorted w.0 ((same w.0).0 w.1) w.2)
      ∙ h.places p place;
}

-- the rows near the region stand for all
pub IsRest-near : (size : Size) (region : Cube) (rows near left : List Cube) → AreNear size (holds region) rows near → IsRest size (holds region) near left → IsRest size (holds region) rows left
IsRest-near size region rows near left h r = record {
  are_cubes = r.are_cubes;
  places = λ p place. r.places p place ∙ elim (cases_Bool (holds region p)) [
    | inl on ↦ ap (λ b. holds region p && not b) (places-near size (holds region) rows near h p on)
    | inr off ↦ ap (λ b. b && not (places near p)) off ∙ ap (λ b. b && not (places rows p)) (sym off)
  ];
}

pub IsRest-near_found : {V : Type 0} (size : Size) (region : Cube) (rows near : List Cube) (items : V → List Cube) (P : Type 0) (o : Option V) → AreNear size (holds region) rows near
    → MatchOption o P (λ v. IsRest size (holds region) near (items v)) → MatchOption o P (λ v. IsRest size (holds region) rows (items v))
IsRest-near_found size region rows near items P None h r = r
IsRest-near_found size region rows near items P (Some v) h r = IsRest-near size region rows near (items v) h r

-- both halves
pub IsRest-halves : (size : Size) (region low high : Cube) (i : ℕ) (rows a b new : List Cube) → slice_get region.symbols i ≡ Some Dash → low ≡ with_symbol region i Zero → high ≡ with_symbol region i One
    → new ≡ a ++ b → IsRest size (holds low) rows a → IsRest size (holds high) rows b → IsRest size (holds region) rows new
IsRest-halves size region low high i rows a b new dash is_low is_high e one two =
    IsRest-same size rows (λ p. holds low p || holds high p) (holds region) new (λ p place. sym (in_half p))
    (IsRest-both size rows (holds low) (holds high) a b new e one two)
  where
    lt : i < length region.symbols
    lt = slice_get_within region.symbols i Dash dash

    own : get_or region.symbols i Dash ≡ Dash
    own = get_or_from_slice_get region.symbols i Dash Dash dash

    in_half : (p : Place) → holds region p ≡ (holds low p || holds high p)
    in_half p = same_bool (holds region p) (holds low p || holds high p)
        (λ e. elim (cases_Bool (get_or p.point i false)) [
          | inl on ↦ or_right (holds low p) (holds high p) (ap (λ c. holds c p) is_high ∙ narrowed_at region i One lt p e on)
          | inr off ↦ or_left (holds low p) (holds high p) (ap (λ c. holds c p) is_low ∙ narrowed_at region i Zero lt p e (ap not off))
        ])
        (λ e. elim (or_cases (holds low p) (holds high p) e) [
          | inl l ↦ narrowed region i Zero lt own p (ap (λ c. holds c p) (sym is_low) ∙ l)
          | inr r ↦ narrowed region i One lt own p (ap (λ c. holds c p) (sym is_high) ∙ r)
        ])

-- ---- larger cubes

pub Extends-none : (s : Place → Bool) → Extends s (places []) (places [])
Extends-none s = record { over = λ p h. h; within = λ h. h }

pub Extends-self : (s t : Place → Bool) → Extends s t t
Extends-self s t = record { over = λ p h. h; within = λ h. h }

-- a cube more
pub Extends-more : (s : Place → Bool) (cubes : List Cube) (i : ℕ) (cube larger : Cube) (done new : List Cube) → i < length cubes → cube ≡ get_or cubes i cube → new ≡ done ++ larger ∷ []
    → Extends s (places (take i cubes)) (places done) → Extends s (holds cube) (holds larger) → Extends s (places (take (i + 1) cubes)) (places new)
Extends-more s cubes i cube larger done new lt at e all one = record {
  over = λ p h. elim (or_cases (places (take i cubes) p) (holds cube p) (sym (before p) ∙ h)) [
    | inl l ↦ after p ∙ or_left (places done p) (holds larger p) (all.over p l)
    | inr r ↦ after p ∙ or_right (places done p) (holds larger p) (one.over p r)
  ];
  within = λ h p k. elim (or_cases (places done p) (holds larger p) (sym (after p) ∙ k)) [
    | inl l ↦ all.within (λ q m. h q (before q ∙ or_left (places (take i cubes) q) (holds cube q) m)) p l
    | inr r ↦ one.within (λ q m. h q (before q ∙ or_right (places (take i cubes) q) (holds cube q) m)) p r
  ];
}
  where
    or_none : (b : Bool) → (b || false) ≡ b
    or_none true = refl
    or_none false = refl

    before : (p : Place) → places (take (i + 1) cubes) p ≡ (places (take i cubes) p || holds cube p)
    before p = ap (λ l. places l p) (take_more cubes i cube lt ∙ ap (λ c. take i cubes ++ c ∷ []) (sym at)) ∙ places-append (take i cubes) (cube ∷ []) p ∙ ap (λ b. places (take i cubes) p || b) (or_none (holds cube p))

    after : (p : Place) → places new p ≡ (places done p || holds larger p)
    after p = ap (λ l. places l p) e ∙ places-append done (larger ∷ []) p ∙ ap (λ b. places done p || b) (or_none (holds larger p))

-- a cube without its literal
pub holds-expand_at : (c : Cube) (i : ℕ) → i < length c.symbols → IsSubset (holds c) (holds (with_symbol c i Dash))
holds-expand_at c i lt p h = narrowed_at c i Dash lt p h refl

-- a cube that meets no row
pub outside_rows : (s : Place → Bool) (rows : List Cube) (c : Cube) → IsSubset (holds c) s → All (λ d. IsDisjoint (holds d) (holds c)) rows → IsSubset (holds c) (difference s (places rows))
outside_rows s rows c h apart p held =
    and_from (s p) (not (places rows p)) (h p held)
    (elim (cases_Bool (places rows p)) [
      | inl on ↦ (let w = list_any_witness (λ d. holds d p) rows on in absurd (all_members (λ d. IsDisjoint (holds d) (holds c)) rows apart w.0 w.1 p w.2 held))
      | inr off ↦ not_from_false (places rows p) off
    ])

-- ---- row by row

module _ (size : Size) (list rows : List Cube) where
  pub rows-more : (i : ℕ) (row : Cube) (left more new : List Cube) → i < length list → row ≡ get_or list i row → new ≡ left ++ more
      → IsRest size (places (take i list)) rows left → IsRest size (holds row) rows more → IsRest size (places (take (i + 1) list)) rows new
  rows-more i row left more new lt at e one two =
      IsRest-same size rows (λ p. places (take i list) p || holds row p) (places (take (i + 1) list)) new (λ p place. sym (next p))
      (IsRest-both size rows (places (take i list)) (holds row) left more new e one two)
    where
      or_none : (b : Bool) → (b || false) ≡ b
      or_none true = refl
      or_none false = refl

      next : (p : Place) → places (take (i + 1) list) p ≡ (places (take i list) p || holds row p)
      next p = ap (λ l. places l p) (take_more list i row lt ∙ ap (λ c. take i list ++ c ∷ []) (sym at)) ∙ places-append (take i list) (row ∷ []) p ∙ ap (λ b. places (take i list) p || b) (or_none (holds row p))

  -- rows that have no place of the others
  pub IsRest-apart : (copy : List Cube) → AreCubes size list → copy ≡ list → IsDisjoint (places list) (places rows) → IsRest size (places list) rows copy
  IsRest-apart copy are e apart = subst (IsRest size (places list) rows) (sym e) (record {
    are_cubes = are;
    places = λ p place. elim (cases_Bool (places list p)) [
      | inl on ↦ on ∙ sym (and_from (places list p) (not (places rows p)) on (not_from_false (places rows p) (none p on)))
      | inr off ↦ off ∙ ap (λ b. b && not (places rows p)) (sym off)
    ];
  })
    where
      none : (p : Place) → places list p ≡ true → places rows p ≡ false
      none p on = elim (cases_Bool (places rows p)) [ inl held ↦ absurd (apart p on held) | inr free ↦ free ]

  -- the rows in two parts
  pub IsRest-parts : (front back : List Cube) (n : ℕ) (a b new : List Cube) → front ≡ take n list → back ≡ drop n list → new ≡ a ++ b
      → IsRest size (places front) rows a → IsRest size (places back) rows b → IsRest size (places list) rows new
  IsRest-parts front back n a b new is_front is_back e one two =
      IsRest-same size rows (λ p. places front p || places back p) (places list) new (λ p place. sym (at p))
      (IsRest-both size rows (places front) (places back) a b new e one two)
    where
      at : (p : Place) → places list p ≡ (places front p || places back p)
      at p =
          ap (λ l. places l p) (sym (take-append-drop n list)) ∙ places-append (take n list) (drop n list) p
          ∙ ap (λ l. places l p || places (drop n list) p) (sym is_front) ∙ ap (λ l. places front p || places l p) (sym is_back)

  -- lists that do not meet
  pub rest-apart : share_place size (places list) (places rows) ≡ false → (p : Place) → IsPlace size p → places list p ≡ (places list p && not (places rows p))
  rest-apart e p place = elim (cases_Bool (places list p)) [
    | inl on ↦ on ∙ sym (and_from (places list p) (not (places rows p)) on (implied_at size (places list) (λ q. not (places rows q)) (false_not (is_disjoint size (places list) (places rows)) e) p place on))
    | inr off ↦ off ∙ ap (λ b. b && not (places rows p)) (sym off)
  ]
    where
      false_not : (b : Bool) → not b ≡ false → b ≡ true
      false_not true h = refl
      false_not false h = absurd (false≢true (sym h))

-- ---- output by output

module _ (size : Size) (rows : List Cube) where
  abbrev SoFar : ℕ → List Cube → Type 0
  SoFar j off = IsRest size (λ p. ltb p.output j) rows off

  pub outside-none : SoFar 0 []
  outside-none = IsRest-same size rows (λ p. false) (λ p. ltb p.output 0) [] (λ p place. sym (not_below p.output)) (IsRest-none size rows)
    where
      not_below : (n : ℕ) → ltb n 0 ≡ false
      not_below n = elim (cases_Bool (ltb n 0)) [ inl on ↦ absurd (let l = ltb-true n 0 on in omega arith) | inr off ↦ off ]

  pub outside-more : (j : ℕ) (region : Cube) (old more new : List Cube) → j < size.outputs → region ≡ region_of size rows j → new ≡ old ++ more → SoFar j old → IsRest size (holds region) rows more → SoFar (j + 1) new
  outside-more j region old more new lt e is before adds =
      IsRest-same size rows (λ p. ltb p.output j || holds region p) (λ p. ltb p.output (j + 1)) new (λ p place. sym (next p place))
      (IsRest-both size rows (λ p. ltb p.output j) (holds region) old more new is before adds)
    where
      next : (p : Place) → IsPlace size p → ltb p.output (j + 1) ≡ (ltb p.output j || holds region p)
      next p place = same_bool (ltb p.output (j + 1)) (ltb p.output j || holds region p)
          (λ h. elim (cases_lt p.output j) [
            | inl less ↦ or_left (ltb p.output j) (holds region p) (lt-ltb p.output j less)
            | inr up ↦ or_right (ltb p.output j) (holds region p) (ap (λ c. holds c p) e ∙ held_at size rows j p lt place (let l = ltb-true p.output (j + 1) h in omega arith))
          ])
          (λ h. elim (or_cases (ltb p.output j) (holds region p) h) [
            | inl less ↦ lt-ltb p.output (j + 1) (let l = ltb-true p.output j less in omega arith)
            | inr own ↦ lt-ltb p.output (j + 1) (let s = held_only size rows j p (ap (λ c. holds c p) (sym e) ∙ own) in omega arith)
          ])

  pub outside-all : (j : ℕ) (off : List Cube) → size.outputs ≤ j → SoFar j off → (p : Place) → IsPlace size p → places off p ≡ not (places rows p)
  outside-all j off past so p place = so.places p place ∙ ap (λ b. b && not (places rows p)) (lt-ltb p.output j (omega (arith, place.1)))
