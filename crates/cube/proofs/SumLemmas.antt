-- The complete sum: its members, its order, and that it is the only such list.
use Rattle.std.proofs.Common.{◌≡◌, ℕ, zero, suc, Bool, true, false, not, ◌&&◌, ◌||◌, List, [], ◌∷◌, length, map, get_or, refl, ap, sym, subst, ◌∙◌, arith, inl, inr, ◌↔◌}
use Rattle.std.specs.List.{Contains, filter, list_any, range_with_len}
use Rattle.std.specs.List.Sorted.{IsStrictlySortedBy}
use Rattle.std.specs.Ordering.{ordering_then, bool_cmp, ordering_reverse}
use Rattle.std.specs.Cmp.{IsTotalOrder, bool_cmp_total}
use Rattle.std.specs.Cmp.Lexicographic.{slice_cmp}
use Rattle.std.specs.declared.cmp.Ordering.{Ordering}
use Rattle.std.specs.declared.cmp.Ordering.TheVariants.{Less, Equal, Greater}
use Rattle.std.proofs.lemmas.Bool.{cases_Bool, cases_lt, false≢true, and_parts, and_from, not-true, not_from_false}
use Rattle.std.proofs.lemmas.Cmp.{then_total, on_total, lists_total, nat_cmp_total}
use Rattle.std.proofs.lemmas.List.{get_or_past}
use Rattle.std.proofs.lemmas.List.FromFn.{length-range_with_len, get_or-range_with_len}
use Rattle.std.proofs.lemmas.List.Kept.{IsStrictlySortedBy-filter}
use Rattle.cube.specs.declared.symbol.Symbol.{Symbol}
use Rattle.cube.specs.declared.symbol.Symbol.TheVariants.{Dash, Zero, One}
use Rattle.cube.specs.Size.{Size}
use Rattle.cube.specs.Pattern.{matches}
use Rattle.cube.specs.Cube.{Cube, Place, IsPlace, holds, HasSize, IsCube, IsSubset}
use Rattle.cube.specs.Order.{rank, symbol_cmp, row_cmp}
use Rattle.cube.specs.Sum.{lists_of, all_places, all_cubes, is_subset, is_maximal, complete_sum, IsMaximal}
use Rattle.cube.proofs.HoldsLemmas.{length-matches}
use Rattle.cube.proofs.Members.{Contains-here, Contains-there, Contains-nil, Contains-cases, Contains-map, Contains-map_cases, Contains-flat_map, Contains-flat_map_cases, Contains-filter, Contains-filter_cases, list_all_at, list_all_from, list_any_none, list_any_false, sorted_map, sorted_flat_map, same_from_members}

-- ---- the lists of n choices

Contains-lists_of : {A : Type 0} (choices : List A) → ((x : A) → Contains choices x) → (xs : List A) → Contains (lists_of choices (length xs)) xs
Contains-lists_of choices all [] = Contains-here [] []
Contains-lists_of choices all (x ∷ xs) =
    Contains-flat_map (λ y. map (λ rest. y ∷ rest) (lists_of choices (length xs))) choices x (x ∷ xs) (all x)
    (Contains-map (λ rest. x ∷ rest) (lists_of choices (length xs)) xs (Contains-lists_of choices all xs))

length-lists_of : {A : Type 0} (choices : List A) (n : ℕ) (xs : List A) → Contains (lists_of choices n) xs → length xs ≡ n
length-lists_of choices zero xs h = elim (Contains-cases [] [] xs h) [
  | inl e ↦ ap length (sym e)
  | inr none' ↦ absurd (Contains-nil xs none')
]
length-lists_of choices (suc n) xs h =
    let r = Contains-flat_map_cases (λ y. map (λ rest. y ∷ rest) (lists_of choices n)) choices xs h in
    let q = Contains-map_cases (λ rest. r.0 ∷ rest) (lists_of choices n) xs r.2 in
    ap length (sym q.2) ∙ ap suc (length-lists_of choices n q.0 q.1)

sorted-lists_of : {A : Type 0} (c : A → A → Ordering) → ((x : A) → c x x ≡ Equal) → (choices : List A) → IsStrictlySortedBy c choices
    → (n : ℕ) → IsStrictlySortedBy (slice_cmp c) (lists_of choices n)
unfolding IsStrictlySortedBy
sorted-lists_of c same choices s zero = (tt, tt)
sorted-lists_of c same choices s (suc n) =
    sorted_flat_map c (slice_cmp c) (λ y. map (λ rest. y ∷ rest) (lists_of choices n))
    (λ x. sorted_map (slice_cmp c) (slice_cmp c) (λ rest. x ∷ rest)
    (λ u v less. ap (λ o. ordering_then o (slice_cmp c u v)) (same x) ∙ less)
    (lists_of choices n) (sorted-lists_of c same choices s n))
    (λ x y u v less in_x in_y.
    let p = Contains-map_cases (λ rest. x ∷ rest) (lists_of choices n) u in_x in
    let q = Contains-map_cases (λ rest. y ∷ rest) (lists_of choices n) v in_y in
    ap (λ l. slice_cmp c l v) (sym p.2) ∙ ap (λ l. slice_cmp c (x ∷ p.0) l) (sym q.2)
    ∙ ap (λ o. ordering_then o (slice_cmp c p.0 q.0)) less)
    choices s

bools : (b : Bool) → Contains (false ∷ true ∷ []) b
bools false = (0, omega arith, refl)
bools true = (1, omega arith, refl)

symbols : (s : Symbol) → Contains (Dash ∷ Zero ∷ One ∷ []) s
symbols Dash = (0, omega arith, refl)
symbols Zero = (1, omega arith, refl)
symbols One = (2, omega arith, refl)

-- ---- all places

Contains-all_places : (size : Size) (p : Place) → IsPlace size p → Contains (all_places size) p
Contains-all_places size p h =
    let f = λ (point : List Bool). map (λ j. let q : Place = record { point = point; output = j } in q) (range_with_len 0 size.outputs) in
    let index : Contains (range_with_len 0 size.outputs) p.output = (
      p.output,
      omega (arith, length-range_with_len 0 size.outputs, h.1),
      get_or-range_with_len 0 size.outputs p.output p.output h.1 ∙ omega arith,
    ) in
    let point : Contains (lists_of (false ∷ true ∷ []) size.inputs) p.point =
    subst (λ n. Contains (lists_of (false ∷ true ∷ []) n) p.point) h.0 (Contains-lists_of (false ∷ true ∷ []) bools p.point) in
    Contains-flat_map f (lists_of (false ∷ true ∷ []) size.inputs) p.point p point
    (Contains-map (λ j. let q : Place = record { point = p.point; output = j } in q) (range_with_len 0 size.outputs) p.output index)

pub IsPlace-from_holds : (size : Size) (c : Cube) (p : Place) → HasSize c size → holds c p ≡ true → IsPlace size p
IsPlace-from_holds size c p h held =
    let parts = and_parts (matches c.symbols p.point) (get_or c.outputs p.output false) held in (
      length-matches c.symbols p.point parts.0 ∙ h.0,
      elim (cases_lt p.output (length c.outputs)) [
        | inl lt ↦ omega (arith, h.1)
        | inr past ↦ absurd (false≢true (sym (get_or_past c.outputs p.output false past) ∙ parts.1))
      ],
    )

implied : (x y : Bool) → (not x || y) ≡ true → x ≡ true → y ≡ true
implied true y h e = h
implied false y h e = absurd (false≢true e)

implies_from : (x y : Bool) → (x ≡ true → y ≡ true) → (not x || y) ≡ true
implies_from true y h = h refl
implies_from false y h = refl

pub IsSubset-from_test : (size : Size) (c : Cube) (t : Place → Bool) → HasSize c size → is_subset size (holds c) t ≡ true → IsSubset (holds c) t
IsSubset-from_test size c t h test p held =
    implied (holds c p) (t p)
    (list_all_at (λ q. not (holds c q) || t q) (all_places size) p test
    (Contains-all_places size p (IsPlace-from_holds size c p h held)))
    held

pub is_subset-from_fact : (size : Size) (s t : Place → Bool) → IsSubset s t → is_subset size s t ≡ true
is_subset-from_fact size s t h = list_all_from (λ q. not (s q) || t q) (all_places size) (λ p _. implies_from (s p) (t p) (h p))

-- the same at a place of the size, for any two sets
pub implied_at : (size : Size) (s t : Place → Bool) → is_subset size s t ≡ true → (p : Place) → IsPlace size p → s p ≡ true → t p ≡ true
implied_at size s t test p place h =
    implied (s p) (t p) (list_all_at (λ q. not (s q) || t q) (all_places size) p test (Contains-all_places size p place)) h

-- ---- all cubes

abbrev row : List Symbol → List Bool → Cube
row ss os = record { symbols = ss; outputs = os }

Contains-all_cubes : (size : Size) (c : Cube) → IsCube size c → Contains (all_cubes size) c
Contains-all_cubes size c h =
    let outputs = filter (list_any (λ b. b)) (lists_of (false ∷ true ∷ []) size.outputs) in
    let in_symbols : Contains (lists_of (Dash ∷ Zero ∷ One ∷ []) size.inputs) c.symbols =
    subst (λ n. Contains (lists_of (Dash ∷ Zero ∷ One ∷ []) n) c.symbols) h.has_size.0 (Contains-lists_of (Dash ∷ Zero ∷ One ∷ []) symbols c.symbols) in
    let in_outputs : Contains (lists_of (false ∷ true ∷ []) size.outputs) c.outputs =
    subst (λ n. Contains (lists_of (false ∷ true ∷ []) n) c.outputs) h.has_size.1 (Contains-lists_of (false ∷ true ∷ []) bools c.outputs) in
    Contains-flat_map (λ ss. map (λ os. row ss os) outputs) (lists_of (Dash ∷ Zero ∷ One ∷ []) size.inputs) c.symbols c in_symbols
    (Contains-map (λ os. row c.symbols os) outputs c.outputs
    (Contains-filter (list_any (λ b. b)) (lists_of (false ∷ true ∷ []) size.outputs) c.outputs in_outputs h.some_output))

IsCube-all_cubes : (size : Size) (c : Cube) → Contains (all_cubes size) c → IsCube size c
IsCube-all_cubes size c h =
    let outputs = filter (list_any (λ b. b)) (lists_of (false ∷ true ∷ []) size.outputs) in
    let r = Contains-flat_map_cases (λ ss. map (λ os. row ss os) outputs) (lists_of (Dash ∷ Zero ∷ One ∷ []) size.inputs) c h in
    let q = Contains-map_cases (λ os. row r.0 os) outputs c r.2 in
    let k = Contains-filter_cases (list_any (λ b. b)) (lists_of (false ∷ true ∷ []) size.outputs) q.0 q.1 in
    let e_symbols : r.0 ≡ c.symbols = ap (λ x. x.symbols) q.2 in
    let e_outputs : q.0 ≡ c.outputs = ap (λ x. x.outputs) q.2 in
    record {
      has_size = (
        ap length (sym e_symbols) ∙ length-lists_of (Dash ∷ Zero ∷ One ∷ []) size.inputs r.0 r.1,
        ap length (sym e_outputs) ∙ length-lists_of (false ∷ true ∷ []) size.outputs q.0 k.0,
      );
      some_output = ap (list_any (λ b. b)) (sym e_outputs) ∙ k.1;
    }

pub symbol_same : (s : Symbol) → symbol_cmp s s ≡ Equal
symbol_same Dash = refl
symbol_same Zero = refl
symbol_same One = refl

pub bool_same : (b : Bool) → bool_cmp b b ≡ Equal
bool_same true = refl
bool_same false = refl

pub slice_same : {A : Type 0} (c : A → A → Ordering) → ((x : A) → c x x ≡ Equal) → (xs : List A) → slice_cmp c xs xs ≡ Equal
slice_same c same [] = refl
slice_same c same (x ∷ xs) = ap (λ o. ordering_then o (slice_cmp c xs xs)) (same x) ∙ slice_same c same xs

pub sorted-all_cubes : (size : Size) → IsStrictlySortedBy row_cmp (all_cubes size)
unfolding IsStrictlySortedBy
sorted-all_cubes size =
    let outputs = filter (list_any (λ b. b)) (lists_of (false ∷ true ∷ []) size.outputs) in
    let sorted_bools : IsStrictlySortedBy bool_cmp (false ∷ true ∷ []) = ((refl, tt), (tt, tt)) in
    let sorted_symbols : IsStrictlySortedBy symbol_cmp (Dash ∷ Zero ∷ One ∷ []) = ((refl, (refl, tt)), ((refl, tt), (tt, tt))) in
    let sorted_outputs = IsStrictlySortedBy-filter (slice_cmp bool_cmp) (list_any (λ b. b)) (lists_of (false ∷ true ∷ []) size.outputs)
    (sorted-lists_of bool_cmp bool_same (false ∷ true ∷ []) sorted_bools size.outputs) in
    sorted_flat_map (slice_cmp symbol_cmp) row_cmp (λ ss. map (λ os. row ss os) outputs)
    (λ ss. sorted_map (slice_cmp bool_cmp) row_cmp (λ os. row ss os)
    (λ u v less. ap (λ o. ordering_then o (slice_cmp bool_cmp u v)) (slice_same symbol_cmp symbol_same ss) ∙ less)
    outputs sorted_outputs)
    (λ ss ts u v less in_s in_t.
    let p = Contains-map_cases (λ os. row ss os) outputs u in_s in
    let q = Contains-map_cases (λ os. row ts os) outputs v in_t in
    ap (λ x. row_cmp x v) (sym p.2) ∙ ap (λ x. row_cmp (row ss p.0) x) (sym q.2)
    ∙ ap (λ o. ordering_then o (slice_cmp bool_cmp p.0 q.0)) less)
    (lists_of (Dash ∷ Zero ∷ One ∷ []) size.inputs)
    (sorted-lists_of symbol_cmp symbol_same (Dash ∷ Zero ∷ One ∷ []) sorted_symbols size.inputs)

-- ---- the complete sum

pub row_total : IsTotalOrder row_cmp
row_total = then_total (on_total (λ c. c.symbols) (lists_total (on_total rank nat_cmp_total))) (on_total (λ c. c.outputs) (lists_total bool_cmp_total))

pub row_asymmetric : (c d : Cube) → row_cmp c d ≡ Less → row_cmp d c ≡ Less → ⊥
row_asymmetric c d less back =
    let turned : Less ≡ Greater = sym less ∙ row_total.antisymm c d ∙ ap ordering_reverse back in cc turned

pub IsMaximal-from_test : (size : Size) (s : Place → Bool) (c : Cube) → IsCube size c → is_maximal size s c ≡ true → IsMaximal size s c
IsMaximal-from_test size s c cube test =
    let larger = λ (d : Cube). is_subset size (holds d) s && is_subset size (holds c) (holds d) && not (is_subset size (holds d) (holds c)) in
    let parts = and_parts (is_subset size (holds c) s) (not (list_any larger (all_cubes size))) test in
    record {
      is_cube = cube;
      within = IsSubset-from_test size c s cube.has_size parts.0;
      largest = λ d d_cube in_s above.
          elim (cases_Bool (is_subset size (holds d) (holds c))) [
            | inl below ↦ IsSubset-from_test size d (holds c) d_cube.has_size below
            | inr apart ↦
                absurd (list_any_none larger (all_cubes size) d (not-true (list_any larger (all_cubes size)) parts.1)
                (Contains-all_cubes size d d_cube)
                (and_from (is_subset size (holds d) s && is_subset size (holds c) (holds d)) (not (is_subset size (holds d) (holds c)))
                (and_from (is_subset size (holds d) s) (is_subset size (holds c) (holds d))
                (is_subset-from_fact size (holds d) s in_s) (is_subset-from_fact size (holds c) (holds d) above))
                (not_from_false (is_subset size (holds d) (holds c)) apart)))
          ];
    }

pub is_maximal-from_fact : (size : Size) (s : Place → Bool) (c : Cube) → IsMaximal size s c → is_maximal size s c ≡ true
is_maximal-from_fact size s c h =
    let larger = λ (d : Cube). is_subset size (holds d) s && is_subset size (holds c) (holds d) && not (is_subset size (holds d) (holds c)) in
    and_from (is_subset size (holds c) s) (not (list_any larger (all_cubes size)))
    (is_subset-from_fact size (holds c) s h.within)
    (not_from_false (list_any larger (all_cubes size)) (list_any_false larger (all_cubes size) (λ d member t.
    let d_cube = IsCube-all_cubes size d member in
    let outer = and_parts (is_subset size (holds d) s && is_subset size (holds c) (holds d)) (not (is_subset size (holds d) (holds c))) t in
    let inner = and_parts (is_subset size (holds d) s) (is_subset size (holds c) (holds d)) outer.0 in
    false≢true (sym (not-true (is_subset size (holds d) (holds c)) outer.1)
    ∙ is_subset-from_fact size (holds d) (holds c)
    (h.largest d d_cube (IsSubset-from_test size d s d_cube.has_size inner.0)
    (IsSubset-from_test size c (holds d) h.is_cube.has_size inner.1))))))

-- the members
pub Contains-complete_sum : (size : Size) (s : Place → Bool) (c : Cube) → Contains (complete_sum size s) c ↔ IsMaximal size s c
Contains-complete_sum size s c = (
  λ member.
      let kept = Contains-filter_cases (is_maximal size s) (all_cubes size) c member in
      IsMaximal-from_test size s c (IsCube-all_cubes size c kept.0) kept.1,
  λ h. Contains-filter (is_maximal size s) (all_cubes size) c (Contains-all_cubes size c h.is_cube) (is_maximal-from_fact size s c h),
)

-- a cube within s grows along a list until no cube of the list within s is larger
grown : (size : Size) (s : Place → Bool) (xs : List Cube) → ((e : Cube) → Contains xs e → IsCube size e) → (c : Cube) → IsCube size c → IsSubset (holds c) s
    → (d : Cube) × IsCube size d × IsSubset (holds d) s × IsSubset (holds c) (holds d)
    × ((e : Cube) → Contains xs e → IsSubset (holds e) s → IsSubset (holds d) (holds e) → IsSubset (holds e) (holds d))
grown size s [] cubes c cube within = (c, cube, within, λ p h. h, λ e h. absurd (Contains-nil e h))
grown size s (x ∷ xs) cubes c cube within = elim (cases_Bool (is_subset size (holds x) s && is_subset size (holds c) (holds x))) [
  | inl on ↦ (
      let own = cubes x (Contains-here x xs) in
      let parts = and_parts (is_subset size (holds x) s) (is_subset size (holds c) (holds x)) on in
      let above = IsSubset-from_test size c (holds x) cube.has_size parts.1 in
      let r = grown size s xs (λ e h. cubes e (Contains-there x xs e h)) x own (IsSubset-from_test size x s own.has_size parts.0) in (
        r.0,
        r.1,
        r.2,
        λ p h. r.3 p (above p h),
        λ e h in_s larger. elim (Contains-cases x xs e h) [
          | inl same ↦ subst (λ y. IsSubset (holds y) (holds r.0)) same r.3
          | inr there ↦ r.4 e there in_s larger
        ],
      ))
  | inr off ↦ (
      let r = grown size s xs (λ e h. cubes e (Contains-there x xs e h)) c cube within in (
        r.0,
        r.1,
        r.2,
        r.3,
        λ e h in_s larger. elim (Contains-cases x xs e h) [
          | inl same ↦ absurd (false≢true (sym off ∙ and_from (is_subset size (holds x) s) (is_subset size (holds c) (holds x))
              (is_subset-from_fact size (holds x) s (λ p k. in_s p (subst (λ y. holds y p ≡ true) same k)))
              (is_subset-from_fact size (holds c) (holds x) (λ p k. subst (λ y. holds y p ≡ true) (sym same) (larger p (r.3 p k))))))
          | inr there ↦ r.4 e there in_s larger
        ],
      ))
]

-- each cube within s lies in one of the complete sum
pub complete_sum-over : (size : Size) (s : Place → Bool) (c : Cube) → IsCube size c → IsSubset (holds c) s
    → (d : Cube) × Contains (complete_sum size s) d × IsSubset (holds c) (holds d)
complete_sum-over size s c cube within =
    let r = grown size s (all_cubes size) (IsCube-all_cubes size) c cube within in (
      r.0,
      (Contains-complete_sum size s r.0).1 (record {
        is_cube = r.1;
        within = r.2;
        largest = λ e e_cube in_s larger. r.4 e (Contains-all_cubes size e e_cube) in_s larger;
      }),
      r.3,
    )

-- the order
pub sorted-complete_sum : (size : Size) (s : Place → Bool) → IsStrictlySortedBy row_cmp (complete_sum size s)
sorted-complete_sum size s = IsStrictlySortedBy-filter row_cmp (is_maximal size s) (all_cubes size) (sorted-all_cubes size)

-- no other list rises strictly and has these members
pub complete_sum-from_members : (size : Size) (s : Place → Bool) (xs : List Cube) → IsStrictlySortedBy row_cmp xs
    → ((c : Cube) → Contains xs c → IsMaximal size s c) → ((c : Cube) → IsMaximal size s c → Contains xs c) → xs ≡ complete_sum size s
complete_sum-from_members size s xs sorted to from =
    same_from_members row_cmp row_asymmetric xs (complete_sum size s) sorted (sorted-complete_sum size s)
    (λ c member. (Contains-complete_sum size s c).1 (to c member))
    (λ c member. from c ((Contains-complete_sum size s c).0 member))

-- equal sets have equal sums
pub complete_sum-same : (size : Size) (s t : Place → Bool) → ((p : Place) → s p ≡ t p) → complete_sum size s ≡ complete_sum size t
complete_sum-same size s t same =
    complete_sum-from_members size t (complete_sum size s) (sorted-complete_sum size s)
    (λ c member.
    let h = (Contains-complete_sum size s c).0 member in
    record {
      is_cube = h.is_cube;
      within = λ p held. sym (same p) ∙ h.within p held;
      largest = λ d d_cube in_t above. h.largest d d_cube (λ p held. same p ∙ in_t p held) above;
    })
    (λ c h. (Contains-complete_sum size s c).1 (record {
      is_cube = h.is_cube;
      within = λ p held. same p ∙ h.within p held;
      largest = λ d d_cube in_s above. h.largest d d_cube (λ p held. sym (same p) ∙ in_s p held) above;
    }))
