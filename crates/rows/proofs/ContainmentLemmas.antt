-- Which cubes of a list lie in others of it, by their indices.
use Rattle.std.proofs.Common.{◌≡◌, ℕ, zero, suc, ◌+◌, ◌<◌, ◌≤◌, Bool, true, false, not, ◌&&◌, ◌||◌, cond, nat_lt, nat_eq, List, [], ◌∷◌, ◌++◌, length, take, drop, get_or, set, All, refl, ap, sym, subst, ◌∙◌, arith, add-one, add-zero, zero-add, ◌-◌, replicate, append_assoc, inl, inr, ◌↔◌, IsTrue, filter}
use Rattle.std.specs.List.{Contains, list_any, range_with_len}
use Rattle.std.proofs.lemmas.Bool.{cases_Bool, eqb-true, eq-eqb, ltb-true, lt-ltb, false≢true, and_parts, and_from, or_cases, or_left, or_right}
use Rattle.std.proofs.lemmas.List.{length-set, get_or-set_same, get_or-set_other, get_or_default, take_more, length-take, length-drop, get_or-take, get_or-drop, length-replicate, get_or-replicate}
use Rattle.std.specs.Cmp.{both_ways}
use Rattle.std.proofs.lemmas.List.Folds.{list_any-append}
use Rattle.std.proofs.lemmas.List.FromFn.{length-range_with_len, get_or-range_with_len}
use Rattle.std.proofs.lemmas.List.Elements.{Contains-append_cases, All-filter, All-take, All-drop}
use Rattle.std.proofs.lemmas.Map.Views.{any-filter_same}
use Rattle.std.proofs.Math.Bool.{and-false, or-false, or-true}
use Rattle.std.proofs.Math.Seq.{drop-cons, take-append_seam}
use Rattle.cube.specs.declared.symbol.Symbol.{Symbol}
use Rattle.cube.specs.declared.symbol.Symbol.TheVariants.{Dash, Zero, One}
use Rattle.cube.specs.Size.{Size}
use Rattle.cube.specs.Pattern.{agrees}
use Rattle.cube.specs.Cube.{Cube, holds, IsCube, IsSubset}
use Rattle.rows.specs.Cubes.{AreCubes}
use Rattle.rows.specs.Contained.{is_within, is_contained, contained_after, contained}
use Rattle.rows.specs.Marks.{cube_at, is_contained_at, is_absorbed_by, symbol_at, is_symbol, is_over, Marks, MarksPart}
use Rattle.cube.proofs.Members.{Contains-here, Contains-there, Contains-nil, Contains-cases}
use Rattle.cube.proofs.HoldsLemmas.{Covers-from_IsSubset}
use Rattle.cube.proofs.SumLemmas.{IsSubset-from_test}
use Rattle.cube.proofs.SharpLemmas.{some_true}
use Rattle.rows.proofs.Lists.{all_members, members_all, list_any_from, list_any_witness}
use Rattle.rows.proofs.Everywhere.{same_test, is_subset-iff}

pub cube_at-is : (cubes : List Cube) (k : ℕ) (c : Cube) → k < length cubes → c ≡ get_or cubes k c → c ≡ cube_at cubes k
cube_at-is cubes k c lt e = e ∙ get_or_default cubes k c (record { symbols = []; outputs = [] }) lt

pub lies_from_answer : (size : Size) (cubes : List Cube) → AreCubes size cubes → (k j : ℕ) → k < length cubes → j < length cubes
    → (inner outer : Cube) → inner ≡ get_or cubes k inner → outer ≡ get_or cubes j outer
    → (r : Bool) → (IsTrue r ↔ IsSubset (holds inner) (holds outer)) → r ≡ is_within size (cube_at cubes k) (cube_at cubes j)
lies_from_answer size cubes are k j k_lt j_lt inner outer ek ej r answer =
    let e_inner = cube_at-is cubes k inner k_lt ek in
    let e_outer = cube_at-is cubes j outer j_lt ej in
    let k_cube = subst (IsCube size) (sym ek) (are k inner k_lt) in
    same_test r (is_within size inner outer) answer (is_subset-iff size inner (holds outer) k_cube.has_size)
    ∙ ap (λ x. is_within size x outer) e_inner ∙ ap (is_within size (cube_at cubes k)) e_outer

-- ---- the cubes that have a symbol at an input

-- where one cube lies in another, the symbols at each input agree
is_over-from_is_within : (size : Size) (cubes : List Cube) → AreCubes size cubes → (i k j : ℕ) → k < length cubes → j < length cubes
    → is_within size (cube_at cubes k) (cube_at cubes j) ≡ true → is_over (symbol_at cubes i j) (symbol_at cubes i k) ≡ true
is_over-from_is_within size cubes are i k j k_lt j_lt h =
    let kc = are k (record { symbols = []; outputs = [] }) k_lt in
    let jc = are j (record { symbols = []; outputs = [] }) j_lt in
    let some' = some_true (cube_at cubes k).outputs kc.some_output in
    let covers = Covers-from_IsSubset (cube_at cubes j) (cube_at cubes k) (jc.has_size.0 ∙ sym kc.has_size.0, jc.has_size.1 ∙ sym kc.has_size.1)
    some'.0 some'.1 (IsSubset-from_test size (cube_at cubes k) (holds (cube_at cubes j)) kc.has_size h) in
    over (symbol_at cubes i j) (symbol_at cubes i k) (covers.inputs i)
  where
    over : (outer inner : Symbol) → ((bit : Bool) → agrees inner bit ≡ true → agrees outer bit ≡ true) → is_over outer inner ≡ true
    over Dash t h = refl
    over Zero Dash h = absurd (false≢true (h true refl))
    over Zero Zero h = refl
    over Zero One h = absurd (false≢true (h true refl))
    over One Dash h = absurd (false≢true (h false refl))
    over One Zero h = absurd (false≢true (h false refl))
    over One One h = refl

pub is_symbol-same : (s t : Symbol) → is_symbol s t ≡ true → s ≡ t
is_symbol-same Dash Dash h = refl
is_symbol-same Zero Zero h = refl
is_symbol-same One One h = refl
is_symbol-same Dash Zero h = absurd (false≢true h)
is_symbol-same Dash One h = absurd (false≢true h)
is_symbol-same Zero Dash h = absurd (false≢true h)
is_symbol-same Zero One h = absurd (false≢true h)
is_symbol-same One Dash h = absurd (false≢true h)
is_symbol-same One Zero h = absurd (false≢true h)

-- what is absorbed by a cube has its symbol under that cube's
stays : (size : Size) (cubes : List Cube) → AreCubes size cubes → (i k j : ℕ) (s : Symbol) → k < length cubes → j < length cubes → symbol_at cubes i k ≡ s
    → is_over (symbol_at cubes i j) s ≡ false → is_absorbed_by size cubes k j ≡ false
stays size cubes are i k j s k_lt j_lt e off = elim (cases_Bool (is_absorbed_by size cubes k j)) [
  | inr stay ↦ stay
  | inl on ↦
      let is_within = (and_parts (is_within size (cube_at cubes k) (cube_at cubes j))
      (nat_lt j k || (nat_lt k j && not (is_within size (cube_at cubes j) (cube_at cubes k)))) on).0 in
      absurd (false≢true (sym off ∙ ap (is_over (symbol_at cubes i j)) (sym e) ∙ is_over-from_is_within size cubes are i k j k_lt j_lt is_within))
]

-- those that leave for one of `outer` leave for one whose symbol is over theirs
outer-same : (size : Size) (cubes : List Cube) → AreCubes size cubes → (i k : ℕ) (s : Symbol) → k < length cubes → symbol_at cubes i k ≡ s
    → (outer : List ℕ) → ((j : ℕ) → Contains outer j → j < length cubes)
    → list_any (is_absorbed_by size cubes k) (filter (λ j. is_over (symbol_at cubes i j) s) outer) ≡ list_any (is_absorbed_by size cubes k) outer
outer-same size cubes are i k s k_lt e [] all = refl
outer-same size cubes are i k s k_lt e (j ∷ js) all =
    let over : ℕ → Bool = λ x. is_over (symbol_at cubes i x) s in
    let rest = outer-same size cubes are i k s k_lt e js (λ x h. all x (Contains-there j js x h)) in
    elim (cases_Bool (is_over (symbol_at cubes i j) s)) [
      | inl on ↦
          ap (λ b. list_any (is_absorbed_by size cubes k) (cond b (j ∷ filter over js) (filter over js))) on
          ∙ ap (λ b. is_absorbed_by size cubes k j || b) rest
      | inr off ↦
          ap (λ b. list_any (is_absorbed_by size cubes k) (cond b (j ∷ filter over js) (filter over js))) off
          ∙ rest
          ∙ ap (λ b. b || list_any (is_absorbed_by size cubes k) js) (sym (stays size cubes are i k j s k_lt (all j (Contains-here j js)) e off))
    ]

pub All-having : (p : ℕ → Bool) (cubes : List Cube) (indices kept : List ℕ) → kept ≡ filter p indices
    → All (λ k. k < length cubes) indices → All (λ k. k < length cubes) kept
All-having p cubes indices kept e all =
    subst (All (λ k. k < length cubes)) (sym e) (All-filter p (λ k. k < length cubes) indices all)

pub MarksPart-from_Marks : (size : Size) (cubes : List Cube) → AreCubes size cubes → (i : ℕ) (s : Symbol) (inner outer near far : List ℕ) (old new : List Bool)
    → length old ≡ length cubes → All (λ j. j < length cubes) outer
    → near ≡ filter (λ k. is_symbol (symbol_at cubes i k) s) inner → far ≡ filter (λ k. is_over (symbol_at cubes i k) s) outer
    → Marks size cubes near far old new → MarksPart size cubes i s inner outer old new
MarksPart-from_Marks size cubes are i s inner outer near far old new long all e_near e_far h = record {
  len = h.len;
  each = λ k lt.
      h.each k lt
      ∙ ap (λ b. get_or old k false || b)
      (ap (λ l. list_any (λ x. nat_eq x k) l && list_any (is_absorbed_by size cubes k) far) e_near
      ∙ ap (λ b. b && list_any (is_absorbed_by size cubes k) far)
      (any-filter_same (λ x. nat_eq x k) (λ x. is_symbol (symbol_at cubes i x) s) (is_symbol (symbol_at cubes i k) s)
      (λ x same. ap (λ y. is_symbol (symbol_at cubes i y) s) (eqb-true x k same)) inner)
      ∙ ap (λ l. (is_symbol (symbol_at cubes i k) s && list_any (λ x. nat_eq x k) inner) && list_any (is_absorbed_by size cubes k) l) e_far
      ∙ far_same k (is_symbol (symbol_at cubes i k) s) refl lt);
}
  where
    far_same : (k : ℕ) (b : Bool) → is_symbol (symbol_at cubes i k) s ≡ b → k < length old
        → ((b && list_any (λ x. nat_eq x k) inner) && list_any (is_absorbed_by size cubes k) (filter (λ j. is_over (symbol_at cubes i j) s) outer))
        ≡ ((b && list_any (λ x. nat_eq x k) inner) && list_any (is_absorbed_by size cubes k) outer)
    far_same k true e lt =
        ap (λ b. list_any (λ x. nat_eq x k) inner && b)
        (outer-same size cubes are i k s (omega (arith, long)) (is_symbol-same (symbol_at cubes i k) s e) outer (all_members (λ j. j < length cubes) outer all))
    far_same k false e lt = refl

-- ---- splits at the inputs of a list, one after the other

-- the inputs behind the first
abbrev pub behind_first : List ℕ → List ℕ
behind_first order = take (length order - 1) (drop 1 order)

pub length-behind_first : (order : List ℕ) → 1 ≤ length order → length (behind_first order) + 1 ≡ length order
length-behind_first order some = omega (arith, some, length-take (length order - 1) (drop 1 order), length-drop 1 order)

-- what a split at the first of the inputs asks
pub split_asks : (size : Size) (cubes : List Cube) (order inner outer : List ℕ) (marks : List Bool) → 1 ≤ length order → AreCubes size cubes
    → All (λ i. i < size.inputs) order → All (λ k. k < length cubes) inner → All (λ k. k < length cubes) outer → length marks ≡ length cubes
    → AreCubes size cubes × (All (λ i. i < size.inputs) (behind_first order) × ((get_or order 0 0 < size.inputs) × (All (λ k. k < length cubes) inner
    × (All (λ k. k < length cubes) outer × (length marks ≡ length cubes)))))
split_asks size cubes order inner outer marks some are inputs mine theirs long =
    (are, (All-take (λ i. i < size.inputs) (length order - 1) (drop 1 order) (All-drop (λ i. i < size.inputs) 1 order inputs), (inputs 0 0 some, (mine, (theirs, long)))))

-- ---- one more index

module _ (size : Size) (cubes : List Cube) (inner outer : List ℕ) (i : ℕ) (lt : i < length inner) (old new : List Bool) (b : Bool)
    (is : b ≡ list_any (is_absorbed_by size cubes (get_or inner i 0)) outer) (so_far : Marks size cubes (take i inner) outer old new) where
  any_one_more : (k : ℕ) → list_any (λ x. nat_eq x k) (take (i + 1) inner) ≡ (list_any (λ x. nat_eq x k) (take i inner) || (nat_eq (get_or inner i 0) k || false))
  any_one_more k = ap (list_any (λ x. nat_eq x k)) (take_more inner i 0 lt) ∙ list_any-append (λ x. nat_eq x k) (take i inner) (get_or inner i 0 ∷ [])

  -- the marks stay as they are, if its cube is not absorbed
  pub Marks-left : b ≡ false → Marks size cubes (take (i + 1) inner) outer old new
  Marks-left off = record {
    len = so_far.len;
    each = λ k k_lt. so_far.each k k_lt ∙ ap (λ t. get_or old k false || t) (same k (nat_eq (get_or inner i 0) k) refl);
  }
    where
      same : (k : ℕ) (t : Bool) → nat_eq (get_or inner i 0) k ≡ t
          → (list_any (λ x. nat_eq x k) (take i inner) && list_any (is_absorbed_by size cubes k) outer)
          ≡ (list_any (λ x. nat_eq x k) (take (i + 1) inner) && list_any (is_absorbed_by size cubes k) outer)
      same k true e =
          let none' : list_any (is_absorbed_by size cubes k) outer ≡ false =
          ap (λ j. list_any (is_absorbed_by size cubes j) outer) (sym (eqb-true (get_or inner i 0) k e)) ∙ sym is ∙ off in
          ap (λ a. list_any (λ x. nat_eq x k) (take i inner) && a) none' ∙ and-false (list_any (λ x. nat_eq x k) (take i inner))
          ∙ sym (ap (λ a. list_any (λ x. nat_eq x k) (take (i + 1) inner) && a) none' ∙ and-false (list_any (λ x. nat_eq x k) (take (i + 1) inner)))
      same k false e =
          ap (λ a. a && list_any (is_absorbed_by size cubes k) outer)
          (sym (any_one_more k ∙ ap (λ t. list_any (λ x. nat_eq x k) (take i inner) || (t || false)) e ∙ or-false (list_any (λ x. nat_eq x k) (take i inner))))

  -- its mark is set, if its cube is absorbed
  pub Marks-marked : b ≡ true → get_or inner i 0 < length new → Marks size cubes (take (i + 1) inner) outer old (set new (get_or inner i 0) true)
  Marks-marked on within = record {
    len = length-set new (get_or inner i 0) true ∙ so_far.len;
    each = λ k k_lt. each k k_lt (nat_eq (get_or inner i 0) k) refl;
  }
    where
      each : (k : ℕ) → k < length old → (t : Bool) → nat_eq (get_or inner i 0) k ≡ t
          → get_or (set new (get_or inner i 0) true) k false
          ≡ (get_or old k false || (list_any (λ x. nat_eq x k) (take (i + 1) inner) && list_any (is_absorbed_by size cubes k) outer))
      each k k_lt true e =
          let here = eqb-true (get_or inner i 0) k e in
          let some : list_any (is_absorbed_by size cubes k) outer ≡ true = ap (λ j. list_any (is_absorbed_by size cubes j) outer) (sym here) ∙ sym is ∙ on in
          let member : list_any (λ x. nat_eq x k) (take (i + 1) inner) ≡ true =
          any_one_more k ∙ ap (λ t. list_any (λ x. nat_eq x k) (take i inner) || (t || false)) e ∙ or-true (list_any (λ x. nat_eq x k) (take i inner)) in
          ap (λ j. get_or (set new (get_or inner i 0) true) j false) (sym here) ∙ get_or-set_same new (get_or inner i 0) true false within
          ∙ sym (ap (λ a. get_or old k false || (a && list_any (is_absorbed_by size cubes k) outer)) member ∙ ap (λ a. get_or old k false || a) some ∙ or-true (get_or old k false))
      each k k_lt false e =
          get_or-set_other new (get_or inner i 0) k true false (λ h. false≢true (sym e ∙ eq-eqb (get_or inner i 0) k (sym h)))
          ∙ so_far.each k k_lt
          ∙ ap (λ a. get_or old k false || (a && list_any (is_absorbed_by size cubes k) outer))
          (sym (any_one_more k ∙ ap (λ t. list_any (λ x. nat_eq x k) (take i inner) || (t || false)) e ∙ or-false (list_any (λ x. nat_eq x k) (take i inner))))

-- ---- all indices

pub range-more : (a n : ℕ) → range_with_len a (n + 1) ≡ range_with_len a n ++ (a + n) ∷ []
range-more a zero = ap (λ x. x ∷ []) (sym (add-zero a))
range-more a (suc n) =
    ap (λ m. range_with_len a m) (add-one (suc n))
    ∙ ap (λ l. a ∷ l) (ap (range_with_len (a + 1)) (sym (add-one n)) ∙ range-more (a + 1) n)
    ∙ ap (λ x. a ∷ (range_with_len (a + 1) n ++ x ∷ [])) (omega arith)

range_member : (n k : ℕ) → k < n → Contains (range_with_len 0 n) k
range_member n k lt = (k, omega (arith, length-range_with_len 0 n), get_or-range_with_len 0 n k k lt ∙ zero-add k)

range_bound : (n k : ℕ) → Contains (range_with_len 0 n) k → k < n
range_bound n k h =
    let lt : h.0 < n = omega (arith, h.1, length-range_with_len 0 n) in
    omega (arith, h.2, get_or-range_with_len 0 n h.0 k lt)

pub All-range : (n : ℕ) (all : List ℕ) → all ≡ range_with_len 0 n → All (λ k. k < n) all
All-range n all e = members_all (λ k. k < n) all (λ k h. range_bound n k (subst (λ l. Contains l k) e h))

module _ (size : Size) (cubes : List Cube) (k : ℕ) (lt : k < length cubes) where
  earlier_member : (j : ℕ) → j < k → Contains (take k cubes) (cube_at cubes j)
  earlier_member j less = (
    j,
    omega (arith, length-take k cubes),
    get_or-take k cubes j (cube_at cubes j) less ∙ get_or_default cubes j (cube_at cubes j) (record { symbols = []; outputs = [] }) (omega arith),
  )

  later_member : (j : ℕ) → k < j → j < length cubes → Contains (drop (k + 1) cubes) (cube_at cubes j)
  later_member j more inside =
      let at : (k + 1) + (j - (k + 1)) ≡ j = omega arith in (
        j - (k + 1),
        omega (arith, length-drop (k + 1) cubes),
        get_or-drop (k + 1) cubes (j - (k + 1)) (cube_at cubes j) ∙ ap (λ n. get_or cubes n (cube_at cubes j)) at
            ∙ get_or_default cubes j (cube_at cubes j) (record { symbols = []; outputs = [] }) inside,
      )

  earlier_index : (d : Cube) → Contains (take k cubes) d → (j : ℕ) × (j < k) × (cube_at cubes j ≡ d)
  earlier_index d h =
      let less : h.0 < k = omega (arith, h.1, length-take k cubes) in
      (h.0, less, get_or_default cubes h.0 (record { symbols = []; outputs = [] }) d (omega arith) ∙ sym (get_or-take k cubes h.0 d less) ∙ h.2)

  later_index : (d : Cube) → Contains (drop (k + 1) cubes) d → (j : ℕ) × (k < j) × (j < length cubes) × (cube_at cubes j ≡ d)
  later_index d h =
      let inside : (k + 1) + h.0 < length cubes = omega (arith, h.1, length-drop (k + 1) cubes) in (
        (k + 1) + h.0,
        omega arith,
        inside,
        get_or_default cubes ((k + 1) + h.0) (record { symbols = []; outputs = [] }) d inside ∙ sym (get_or-drop (k + 1) cubes h.0 d) ∙ h.2,
      )

  contained-from_is_absorbed : list_any (is_absorbed_by size cubes k) (range_with_len 0 (length cubes)) ≡ true → is_contained_at size cubes k ≡ true
  contained-from_is_absorbed h =
      let w = list_any_witness (is_absorbed_by size cubes k) (range_with_len 0 (length cubes)) h in
      let j = w.0 in
      let j_lt = range_bound (length cubes) j w.1 in
      let back = is_within size (cube_at cubes j) (cube_at cubes k) in
      let parts = and_parts (is_within size (cube_at cubes k) (cube_at cubes j)) (nat_lt j k || (nat_lt k j && not back)) w.2 in
      let left = list_any (is_within size (cube_at cubes k)) (take k cubes) in
      let right = list_any (λ d. is_within size (cube_at cubes k) d && not (is_within size d (cube_at cubes k))) (drop (k + 1) cubes) in
      elim (or_cases (nat_lt j k) (nat_lt k j && not back) parts.1) [
        | inl early ↦
            or_left left right (list_any_from (is_within size (cube_at cubes k)) (take k cubes) (cube_at cubes j) (earlier_member j (ltb-true j k early)) parts.0)
        | inr late ↦
            let more = and_parts (nat_lt k j) (not back) late in
            or_right left right (list_any_from (λ d. is_within size (cube_at cubes k) d && not (is_within size d (cube_at cubes k))) (drop (k + 1) cubes) (cube_at cubes j)
            (later_member j (ltb-true k j more.0) j_lt) (and_from (is_within size (cube_at cubes k) (cube_at cubes j)) (not back) parts.0 more.1))
      ]

  is_absorbed-from_contained : is_contained_at size cubes k ≡ true → list_any (is_absorbed_by size cubes k) (range_with_len 0 (length cubes)) ≡ true
  is_absorbed-from_contained h =
      let left = list_any (is_within size (cube_at cubes k)) (take k cubes) in
      let right = list_any (λ d. is_within size (cube_at cubes k) d && not (is_within size d (cube_at cubes k))) (drop (k + 1) cubes) in
      elim (or_cases left right h) [
        | inl early ↦
            let w = list_any_witness (is_within size (cube_at cubes k)) (take k cubes) early in
            let j = earlier_index w.0 w.1 in
            let back = is_within size (cube_at cubes j.0) (cube_at cubes k) in
            list_any_from (is_absorbed_by size cubes k) (range_with_len 0 (length cubes)) j.0 (range_member (length cubes) j.0 (omega (arith, j.1)))
            (and_from (is_within size (cube_at cubes k) (cube_at cubes j.0)) (nat_lt j.0 k || (nat_lt k j.0 && not back))
            (ap (is_within size (cube_at cubes k)) j.2 ∙ w.2) (or_left (nat_lt j.0 k) (nat_lt k j.0 && not back) (lt-ltb j.0 k j.1)))
        | inr late ↦
            let w = list_any_witness (λ d. is_within size (cube_at cubes k) d && not (is_within size d (cube_at cubes k))) (drop (k + 1) cubes) late in
            let j = later_index w.0 w.1 in
            let back = is_within size (cube_at cubes j.0) (cube_at cubes k) in
            let parts = and_parts (is_within size (cube_at cubes k) w.0) (not (is_within size w.0 (cube_at cubes k))) w.2 in
            list_any_from (is_absorbed_by size cubes k) (range_with_len 0 (length cubes)) j.0 (range_member (length cubes) j.0 j.2)
            (and_from (is_within size (cube_at cubes k) (cube_at cubes j.0)) (nat_lt j.0 k || (nat_lt k j.0 && not back))
            (ap (is_within size (cube_at cubes k)) j.3 ∙ parts.0)
            (or_right (nat_lt j.0 k) (nat_lt k j.0 && not back)
            (and_from (nat_lt k j.0) (not back) (lt-ltb k j.0 j.1) (ap (λ d. not (is_within size d (cube_at cubes k))) j.3 ∙ parts.1))))
      ]

-- a front as long as the list in front
pub take_front : {A : Type 0} (n : ℕ) (xs ys zs : List A) → zs ≡ take n (xs ++ ys) → length xs ≡ n → zs ≡ xs
take_front n xs ys zs e len = e ∙ ap (λ m. take m (xs ++ ys)) (sym len) ∙ take-append_seam xs ys

-- the marks of all indices among all
pub marks_contained : (size : Size) (cubes : List Cube) (all : List ℕ) (old new : List Bool) → all ≡ range_with_len 0 (length cubes)
    → old ≡ replicate (length cubes) false → Marks size cubes all all old new
    → (k : ℕ) → k < length cubes → get_or new k false ≡ is_contained_at size cubes k
marks_contained size cubes all old new e none' h k lt =
    let old_len : length old ≡ length cubes = ap length none' ∙ length-replicate (length cubes) false in
    let clear : get_or old k false ≡ false = ap (λ l. get_or l k false) none' ∙ get_or-replicate (length cubes) k false false lt in
    let found : list_any (λ x. nat_eq x k) all ≡ true =
    ap (list_any (λ x. nat_eq x k)) e ∙ list_any_from (λ x. nat_eq x k) (range_with_len 0 (length cubes)) k (range_member (length cubes) k lt) (eq-eqb k k refl) in
    h.each k (omega (arith, old_len))
    ∙ ap (λ b. b || (list_any (λ x. nat_eq x k) all && list_any (is_absorbed_by size cubes k) all)) clear
    ∙ ap (λ b. b && list_any (is_absorbed_by size cubes k) all) found
    ∙ ap (list_any (is_absorbed_by size cubes k)) e
    ∙ both_ways (list_any (is_absorbed_by size cubes k) (range_with_len 0 (length cubes))) (is_contained_at size cubes k)
    (contained-from_is_absorbed size cubes k lt) (is_absorbed-from_contained size cubes k lt)

-- ---- the list that is left

-- the cubes that are kept so far, and those of the rest that aren't contained
pub record KeepsUnmarked (size : Size) (cubes : List Cube) (k : ℕ) (kept : List Cube) : Type 0 where
  pub are : AreCubes size kept
  pub rest : kept ++ contained_after size (take k cubes) (drop k cubes) ≡ contained size cubes

module _ (size : Size) (cubes : List Cube) (k : ℕ) (c : Cube) (lt : k < length cubes) (at : c ≡ get_or cubes k c) where
  contained-next : contained_after size (take k cubes) (drop k cubes)
      ≡ cond (is_contained_at size cubes k) (contained_after size (take (k + 1) cubes) (drop (k + 1) cubes))
      (c ∷ contained_after size (take (k + 1) cubes) (drop (k + 1) cubes))
  contained-next =
      let e : drop k cubes ≡ c ∷ drop (k + 1) cubes =
      drop-cons cubes k c lt ∙ ap (λ x. x ∷ drop (suc k) cubes) (sym at) ∙ ap (λ n. c ∷ drop n cubes) (sym (add-one k)) in
      let t : take k cubes ++ c ∷ [] ≡ take (k + 1) cubes = ap (λ x. take k cubes ++ x ∷ []) at ∙ sym (take_more cubes k c lt) in
      let m : is_contained size (take k cubes) c (drop (k + 1) cubes) ≡ is_contained_at size cubes k =
      ap (λ x. is_contained size (take k cubes) x (drop (k + 1) cubes)) (cube_at-is cubes k c lt at) in
      ap (contained_after size (take k cubes)) e
      ∙ ap (λ b. cond b (contained_after size (take k cubes ++ c ∷ []) (drop (k + 1) cubes)) (c ∷ contained_after size (take k cubes ++ c ∷ []) (drop (k + 1) cubes))) m
      ∙ ap (λ l. cond (is_contained_at size cubes k) (contained_after size l (drop (k + 1) cubes)) (c ∷ contained_after size l (drop (k + 1) cubes))) t

  pub KeepsUnmarked-skip : (kept : List Cube) → KeepsUnmarked size cubes k kept → is_contained_at size cubes k ≡ true → KeepsUnmarked size cubes (k + 1) kept
  KeepsUnmarked-skip kept h on = record {
    are = h.are;
    rest =
        ap (λ l. kept ++ l)
        (sym (contained-next ∙ ap (λ b. cond b (contained_after size (take (k + 1) cubes) (drop (k + 1) cubes))
        (c ∷ contained_after size (take (k + 1) cubes) (drop (k + 1) cubes))) on)) ∙ h.rest;
  }

  pub KeepsUnmarked-keep : (kept : List Cube) → AreCubes size cubes → KeepsUnmarked size cubes k kept → is_contained_at size cubes k ≡ false
      → KeepsUnmarked size cubes (k + 1) (kept ++ c ∷ [])
  KeepsUnmarked-keep kept are h off = record {
    are = All-append-one kept h.are;
    rest =
        append_assoc kept (c ∷ []) (contained_after size (take (k + 1) cubes) (drop (k + 1) cubes))
        ∙ ap (λ l. kept ++ l)
        (sym (contained-next ∙ ap (λ b. cond b (contained_after size (take (k + 1) cubes) (drop (k + 1) cubes))
        (c ∷ contained_after size (take (k + 1) cubes) (drop (k + 1) cubes))) off)) ∙ h.rest;
  }
    where
      All-append-one : (kept : List Cube) → AreCubes size kept → AreCubes size (kept ++ c ∷ [])
      All-append-one kept h =
          members_all (IsCube size) (kept ++ c ∷ []) (λ d member. elim (Contains-append_cases kept (c ∷ []) d member) [
            | inl before ↦ all_members (IsCube size) kept h d before
            | inr last ↦ elim (Contains-cases c [] d last) [
              | inl e ↦ subst (IsCube size) (sym at ∙ e) (are k c lt)
              | inr none' ↦ absurd (Contains-nil d none')
            ]
          ])

pub cube_at-self : (cubes : List Cube) (k : ℕ) → k < length cubes → cube_at cubes k ≡ get_or cubes k (cube_at cubes k)
cube_at-self cubes k lt = get_or_default cubes k (record { symbols = []; outputs = [] }) (cube_at cubes k) lt
