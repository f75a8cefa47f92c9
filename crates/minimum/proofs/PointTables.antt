-- The table of some points gives the least cover by primes.
use Rattle.std.proofs.Common.{◌≡◌, ◌≢◌, ℕ, zero, suc, ◌<◌, ◌≤◌, Bool, true, false, not, ◌||◌, List, [], ◌∷◌, ◌++◌, length, map, slice_index_or, slice_get, Option, Some, None, refl, ap, sym, subst, ◌∙◌, arith, inl, inr, ◌⊎◌}
use Rattle.std.specs.Prelude.{filter}
use Rattle.std.specs.List.{Contains, AllByRecursion, list_any, cons_option, range_with_len}
use Rattle.std.specs.List.Sorted.{IsStrictlySortedBy}
use Rattle.std.specs.Ordering.{is_eq}
use Rattle.std.specs.Cmp.Lexicographic.{slice_cmp}
use Rattle.std.specs.declared.cmp.Ordering.TheVariants.{Less}
use Rattle.std.proofs.lemmas.Bool.{cases_Bool, cases_lt, cases_order, and_parts, both_ways, true≢false}
use Rattle.std.proofs.lemmas.Cmp.{tied_itself}
use Rattle.std.proofs.lemmas.List.{length-map}
use Rattle.std.proofs.lemmas.List.Elements.{Contains-append_left, Contains-append_cases}
use Rattle.std.proofs.lemmas.Option.{slice_get-get_or, slice_get_within, get_or_from_slice_get}
use Rattle.cube.specs.Cube.{Cube, holds, literals, intersection, IsSubset, size_of}
use Rattle.cube.specs.Order.{symbol_cmp, row_cmp}
use Rattle.cube.proofs.Members.{Contains-here, Contains-there, Contains-nil, Contains-cases, Contains-map, Contains-map_cases, Contains-filter, Contains-filter_cases, list_any_none}
use Rattle.cube.proofs.SumLemmas.{is_subset-from_fact, row_asymmetric, row_total, sorted-complete_sum}
use Rattle.cube.proofs.SymbolOrder.{symbols_asymmetric, symbols_irreflexive, symbols_less, symbols_before, symbols_behind, row_by_symbols, same_symbols_in_sum}
use Rattle.cover.specs.Cubes.{AreCubes}
use Rattle.cover.specs.Places.{places}
use Rattle.cover.specs.Marks.{cube_at}
use Rattle.cover.specs.Reduced.{HasSameCubes}
use Rattle.cover.proofs.Lists.{list_any_from, list_any_witness}
use Rattle.cover.proofs.SumOrder.{row_irreflexive, rising-cons, rising-head, rising-tail, rising-nil}
use Rattle.pla.specs.Sets.{SetLists}
use Rattle.covering.specs.declared.choice.Choice.{Choice}
use Rattle.covering.specs.declared.choice.Choice.TheVariants.{First, Literals}
use Rattle.covering.specs.Table.{has, RisesFrom, AreRows}
use Rattle.covering.specs.Cover.{meets, IsCover, IsLeast, Precedes, counted}
use Rattle.covering.specs.Steps.{put}
use Rattle.covering.proofs.Sets.{has_here, has_later, has_cases, rises_above, filter_parts, filter_keeps, filter_rises, put_has, put_keeps, put_only, put_rises, meets_from}
use Rattle.covering.proofs.Subsets.{same_list}
use Rattle.covering.proofs.Rising.{range_rises, range_has, range_below}
use Rattle.covering.proofs.Renumbered.{map_only}
use Rattle.covering.proofs.Compared.{ArePaired, IsNotAfter, not_longer, not_after_put, precedes_other, by_rests, same_or_shorter}
use Rattle.minimum.specs.Primes.{primes_of, care_on, chosen, others, is_essential, essential_of, exact_of}
use Rattle.minimum.specs.PrimeRows.{contains_region}
use Rattle.minimum.specs.PrimeTable.{IsPrimeCover}
use Rattle.minimum.specs.Points.{Function, function_of, IsWantedPoint, AreDominating, IsLeastOfPoints, holders, point_table, PointsAreEnough}
use Rattle.growth.specs.Dominating.{IsUpTo, IsAsGood}
use Rattle.growth.proofs.Dominating.{cube_at-member as member_at}
use Rattle.minimum.proofs.Numbers.{has_member, member_has, holds_at-below, cube_at-member}
use Rattle.minimum.proofs.PrimeRows.{spans_holds}
use Rattle.minimum.proofs.EssentialPrimes.{equal_from}
use Rattle.minimum.proofs.PrimeTables.{enough, holding_from}
use Rattle.minimum.proofs.LeastPrimes.{least_by_first}

-- ---- a part of a list that rises, by the numbers of its cubes

rises_suc : (l : ℕ) (xs : List ℕ) → RisesFrom l xs → RisesFrom (suc l) (map suc xs)
rises_suc l [] h = tt
rises_suc l (x ∷ xs) h = (omega (arith, h.0), rises_suc (suc x) xs h.1)

suc_at : (d : Cube) (ds : List Cube) (xs : List ℕ) → map (cube_at (d ∷ ds)) (map suc xs) ≡ map (cube_at ds) xs
suc_at d ds [] = refl
suc_at d ds (x ∷ xs) = ap (λ cs. cube_at ds x ∷ cs) (suc_at d ds xs)

suc_below : (n m : ℕ) (xs : List ℕ) → ((k : ℕ) → has k xs ≡ true → k < m) → has n (map suc xs) ≡ true → n < suc m
suc_below n m xs h k = let p = map_only suc n xs k in let l = h p.0 p.1 in let e = p.2 in omega arith

pub record ByNumbers (cs ds : List Cube) (live : List ℕ) : Type 0 where
  pub rises : RisesFrom 0 live
  pub below : (n : ℕ) → has n live ≡ true → n < length ds
  pub cubes : map (cube_at ds) live ≡ cs

by_numbers : (ds cs : List Cube) → IsStrictlySortedBy row_cmp ds → IsStrictlySortedBy row_cmp cs → ((c : Cube) → Contains cs c → Contains ds c) → (live : List ℕ) × ByNumbers cs ds live
by_numbers [] [] r q sub = ([], record { rises = tt; below = λ n h. absurd (true≢false (sym h)); cubes = refl })
by_numbers [] (c ∷ cs) r q sub = absurd (Contains-nil c (sub c (Contains-here c cs)))
by_numbers (d ∷ ds) [] r q sub = ([], record { rises = tt; below = λ n h. absurd (true≢false (sym h)); cubes = refl })
by_numbers (d ∷ ds) (c ∷ cs) r q sub = elim (Contains-cases d ds c (sub c (Contains-here c cs))) [
  | inl e ↦ (
      let rest = by_numbers ds cs (rising-tail d ds r) (rising-tail c cs q) (λ x h. elim (Contains-cases d ds x (sub x (Contains-there c cs x h))) [
        | inl f ↦ absurd (row_irreflexive c (subst (λ y. row_cmp c y ≡ Less) (sym f ∙ e) (rising-head c cs x q h)))
        | inr m ↦ m
      ]) in (
        0 ∷ map suc rest.0,
        record {
          rises = (omega arith, rises_suc 0 rest.0 rest.1.rises);
          below = λ n h. elim (has_cases n 0 (map suc rest.0) h) [ inl f ↦ omega arith | inr f ↦ suc_below n (length ds) rest.0 rest.1.below f ];
          cubes = ap (λ x. x ∷ map (cube_at (d ∷ ds)) (map suc rest.0)) e ∙ ap (λ l. c ∷ l) (suc_at d ds rest.0 ∙ rest.1.cubes);
        },
      ))
  | inr there ↦ (
      let less = rising-head d ds c r there in
      let rest = by_numbers ds (c ∷ cs) (rising-tail d ds r) q (λ x h. elim (Contains-cases d ds x (sub x h)) [
        | inl f ↦ absurd (elim (Contains-cases c cs x h) [
          | inl g ↦ row_irreflexive d (subst (λ y. row_cmp d y ≡ Less) (g ∙ sym f) less)
          | inr g ↦ row_asymmetric d c less (subst (λ y. row_cmp c y ≡ Less) (sym f) (rising-head c cs x q g))
        ])
        | inr m ↦ m
      ]) in (
        map suc rest.0,
        record {
          rises = rises_from_zero (map suc rest.0) (rises_suc 0 rest.0 rest.1.rises);
          below = λ n h. suc_below n (length ds) rest.0 rest.1.below h;
          cubes = suc_at d ds rest.0 ∙ rest.1.cubes;
        },
      ))
]
  where
    rises_from_zero : (xs : List ℕ) → RisesFrom 1 xs → RisesFrom 0 xs
    rises_from_zero [] h = tt
    rises_from_zero (x ∷ xs) h = (omega arith, h.1)

-- a cube of such a list has one number
one_number : (ds : List Cube) (i j : ℕ) → IsStrictlySortedBy row_cmp ds → i < length ds → j < length ds → cube_at ds i ≡ cube_at ds j → i ≡ j
one_number [] i j r h k e = absurd (omega arith)
one_number (d ∷ ds) zero zero r h k e = refl
one_number (d ∷ ds) zero (suc j) r h k e = absurd (row_irreflexive d (subst (λ y. row_cmp d y ≡ Less) (sym e) (rising-head d ds (cube_at ds j) r (cube_at-member ds j (omega arith)))))
one_number (d ∷ ds) (suc i) zero r h k e = absurd (row_irreflexive d (subst (λ y. row_cmp d y ≡ Less) e (rising-head d ds (cube_at ds i) r (cube_at-member ds i (omega arith)))))
one_number (d ∷ ds) (suc i) (suc j) r h k e = ap suc (one_number ds i j (rising-tail d ds r) (omega arith) (omega arith) e)

-- ---- cubes by their numbers

literals_at : (cs : List Cube) (n : ℕ) → literals (cube_at cs n) ≡ slice_index_or (map literals cs) n 0
literals_at [] n = refl
literals_at (c ∷ cs) zero = refl
literals_at (c ∷ cs) (suc n) = literals_at cs n

all_mapped : (Q : List ℕ → Type 0) (f : Cube → List ℕ) (xs : List Cube) → ((x : Cube) → Contains xs x → Q (f x)) → AllByRecursion Q (map f xs)
all_mapped Q f [] h = tt
all_mapped Q f (x ∷ xs) h = (h x (Contains-here x xs), all_mapped Q f xs (λ y k. h y (Contains-there x xs y k)))

chosen_cubes : (cs : List Cube) (xs : List ℕ) → ((n : ℕ) → has n xs ≡ true → n < length cs) → chosen cs xs ≡ map (cube_at cs) xs
chosen_cubes cs [] h = refl
chosen_cubes cs (x ∷ xs) h =
    ap (λ o. cons_option o (chosen cs xs)) (slice_get-get_or cs x (record { symbols = []; outputs = [] }) (h x (has_here x x xs refl)))
    ∙ ap (λ l. cube_at cs x ∷ l) (chosen_cubes cs xs (λ n k. h n (has_later n x xs k)))

pub chosen_member : (cs : List Cube) (xs : List ℕ) (c : Cube) → Contains (chosen cs xs) c → Contains cs c
chosen_member cs [] c h = absurd (Contains-nil c h)
chosen_member cs (x ∷ xs) c h = go (slice_get cs x) refl h (chosen_member cs xs c)
  where
    go : (o : Option Cube) → slice_get cs x ≡ o → Contains (cons_option o (chosen cs xs)) c → (Contains (chosen cs xs) c → Contains cs c) → Contains cs c
    go None e k more = more k
    go (Some d) e k more = elim (Contains-cases d (chosen cs xs) c k) [
      | inl f ↦ subst (Contains cs) f (x, slice_get_within cs x d e, get_or_from_slice_get cs x d d e)
      | inr later ↦ more later
    ]

numbers_rise : (ds : List Cube) (i j : ℕ) → IsStrictlySortedBy row_cmp ds → i < j → j < length ds → row_cmp (cube_at ds i) (cube_at ds j) ≡ Less
numbers_rise [] i j r h k = absurd (omega arith)
numbers_rise (d ∷ ds) i zero r h k = absurd (omega arith)
numbers_rise (d ∷ ds) zero (suc j) r h k = rising-head d ds (cube_at ds j) r (cube_at-member ds j (omega arith))
numbers_rise (d ∷ ds) (suc i) (suc j) r h k = numbers_rise ds i j (rising-tail d ds r) (omega arith) (omega arith)

numbers_sorted : (ds : List Cube) (l : ℕ) (xs : List ℕ) → IsStrictlySortedBy row_cmp ds → RisesFrom l xs → ((n : ℕ) → has n xs ≡ true → n < length ds) → IsStrictlySortedBy row_cmp (map (cube_at ds) xs)
numbers_sorted ds l [] r q below = rising-nil
numbers_sorted ds l (x ∷ xs) r q below =
    rising-cons (cube_at ds x) (map (cube_at ds) xs)
    (λ d k.
    let m = Contains-map_cases (cube_at ds) xs d k in
    let there = member_has m.0 xs m.1 in
    subst (λ z. row_cmp (cube_at ds x) z ≡ Less) m.2 (numbers_rise ds x m.0 r (rises_above m.0 (suc x) xs q.1 there) (below m.0 (has_later m.0 x xs there))))
    (numbers_sorted ds (suc x) xs r q.1 (λ n k. below n (has_later n x xs k)))

-- a cube of a part by its number in the list
module _ (cs ds : List Cube) (rising : IsStrictlySortedBy row_cmp ds) (live : List ℕ) (is : ByNumbers cs ds live) where
  number_member : (n : ℕ) → has n live ≡ true → Contains cs (cube_at ds n)
  number_member n h = subst (λ l. Contains l (cube_at ds n)) is.cubes (Contains-map (cube_at ds) live n (has_member n live h))

  member_number : (n : ℕ) → n < length ds → Contains cs (cube_at ds n) → has n live ≡ true
  member_number n lt h =
      let m = Contains-map_cases (cube_at ds) live (cube_at ds n) (subst (λ l. Contains l (cube_at ds n)) (sym is.cubes) h) in
      let there = member_has m.0 live m.1 in
      subst (λ k. has k live ≡ true) (one_number ds m.0 n rising (is.below m.0 there) lt m.2) there

-- ---- numbers and literals

-- no two have the same literals
abbrev AreApart : List Cube → Type 0
AreApart cs = (c d : Cube) → Contains cs c → Contains cs d → c.symbols ≡ d.symbols → c ≡ d

symbols_rise : (ds : List Cube) (i j : ℕ) → IsStrictlySortedBy row_cmp ds → AreApart ds → i < j → j < length ds → slice_cmp symbol_cmp (cube_at ds i).symbols (cube_at ds j).symbols ≡ Less
symbols_rise ds i j r apart lt lj =
    let less = numbers_rise ds i j r lt lj in
    let c = cube_at ds i in
    let d = cube_at ds j in
    elim (row_by_symbols c d less) [
      | inl same ↦ absurd (row_irreflexive c (subst (λ z. row_cmp c z ≡ Less) (sym (apart c d (cube_at-member ds i (omega arith)) (cube_at-member ds j lj) same)) less))
      | inr e ↦ e
    ]

good_number : (choice : Choice) (cs ds : List Cube) (b a : ℕ) → IsAsGood choice (cube_at ds a) (cube_at cs b)
    → (counted choice (map literals cs) b < counted choice (map literals ds) a) ⊎ ((counted choice (map literals cs) b ≡ counted choice (map literals ds) a) × IsUpTo (cube_at ds a) (cube_at cs b))
good_number First cs ds b a good = inr (refl, good)
good_number Literals cs ds b a (inl less) = let l = literals_at ds a in let m = literals_at cs b in inl (omega arith)
good_number Literals cs ds b a (inr good) = inr (sym (literals_at cs b) ∙ good.0 ∙ literals_at ds a, good.1)

counts_same : (choice : Choice) (cs ds : List Cube) (s n : ℕ) → cube_at cs s ≡ cube_at ds n → counted choice (map literals cs) s ≡ counted choice (map literals ds) n
counts_same First cs ds s n e = refl
counts_same Literals cs ds s n e = sym (literals_at cs s) ∙ ap literals e ∙ literals_at ds n

-- the cube b of the one list has no later literals than the cube x of the other, and the two are equal
abbrev IsEarly : List Cube → List Cube → ℕ → ℕ → Type 0
IsEarly cs ds b x = (b < length cs) × (x < length ds → IsUpTo (cube_at ds x) (cube_at cs b))

abbrev IsSame : List Cube → List Cube → ℕ → ℕ → Type 0
IsSame cs ds s n = (s < length cs) × ((n < length ds) × (cube_at cs s ≡ cube_at ds n))

module _ (cs ds : List Cube) (cs_rise : IsStrictlySortedBy row_cmp cs) (ds_rise : IsStrictlySortedBy row_cmp ds) (cs_apart : AreApart cs) (ds_apart : AreApart ds) where
  early_down : (a b x : ℕ) → a < b → IsEarly cs ds b x → IsEarly cs ds a x
  early_down a b x lt e = (
    (let l = e.0 in omega arith),
    λ lx. symbols_less (cube_at cs a).symbols (cube_at ds x).symbols
        (symbols_before (cube_at cs a).symbols (cube_at cs b).symbols (cube_at ds x).symbols (symbols_rise cs a b cs_rise cs_apart lt e.0) (e.1 lx)),
  )

  early_up : (b x y : ℕ) → x < y → IsEarly cs ds b x → IsEarly cs ds b y
  early_up b x y lt e = (
    e.0,
    λ ly. symbols_less (cube_at cs b).symbols (cube_at ds y).symbols
        (symbols_behind (cube_at cs b).symbols (cube_at ds x).symbols (cube_at ds y).symbols (e.1 (omega arith)) (symbols_rise ds x y ds_rise ds_apart lt ly)),
  )

  same_less : (s n y x : ℕ) → IsSame cs ds s n → s < y → IsEarly cs ds y x → n < x
  same_less s n y x is lt e = elim (cases_lt x (length ds)) [
    | inr past ↦ (let l = is.1.0 in omega arith)
    | inl lx ↦ (
        let less : slice_cmp symbol_cmp (cube_at ds n).symbols (cube_at ds x).symbols ≡ Less =
        ap (λ c. slice_cmp symbol_cmp c.symbols (cube_at ds x).symbols) (sym is.1.1)
        ∙ symbols_before (cube_at cs s).symbols (cube_at cs y).symbols (cube_at ds x).symbols (symbols_rise cs s y cs_rise cs_apart lt e.0) (e.1 lx) in
        elim (cases_order n x) [
          | inl f ↦ absurd (symbols_irreflexive (cube_at ds n).symbols (cube_at ds x).symbols (ap (λ k. (cube_at ds k).symbols) f) less)
          | inr (inl f) ↦ f
          | inr (inr f) ↦ absurd (symbols_asymmetric (cube_at ds n).symbols (cube_at ds x).symbols less (symbols_rise ds x n ds_rise ds_apart f is.1.0))
        ])
  ]

  same_no_more : (s n x : ℕ) → IsSame cs ds s n → IsEarly cs ds s x → n ≤ x
  same_no_more s n x is e = elim (cases_lt x n) [
    | inr le ↦ le
    | inl lt ↦ (
        let lx : x < length ds = (let l = is.1.0 in omega arith) in
        let up : IsUpTo (cube_at ds x) (cube_at ds n) = subst (IsUpTo (cube_at ds x)) is.1.1 (e.1 lx) in
        absurd (symbols_irreflexive (cube_at ds n).symbols (cube_at ds n).symbols refl
        (symbols_behind (cube_at ds n).symbols (cube_at ds x).symbols (cube_at ds n).symbols up (symbols_rise ds x n ds_rise ds_apart lt is.1.0))))
  ]

abbrev list_head : List Cube → Cube
list_head [] = record { symbols = []; outputs = [] }
list_head (c ∷ cs) = c

abbrev list_tail : List Cube → List Cube
list_tail [] = []
list_tail (c ∷ cs) = cs

paired : (cs ds : List Cube) (ss ns : List ℕ) → ((n : ℕ) → has n ss ≡ true → n < length cs) → ((n : ℕ) → has n ns ≡ true → n < length ds) → map (cube_at cs) ss ≡ map (cube_at ds) ns → ArePaired (IsSame cs ds) ss ns
paired cs ds [] [] h k e = tt
paired cs ds [] (n ∷ ns) h k e = cc
paired cs ds (s ∷ ss) [] h k e = cc
paired cs ds (s ∷ ss) (n ∷ ns) h k e = (
  (h s (has_here s s ss refl), (k n (has_here n n ns refl), ap list_head e)),
  paired cs ds ss ns (λ m f. h m (has_later m s ss f)) (λ m f. k m (has_later m n ns f)) (ap list_tail e),
)

-- ---- the table of the points

-- numbers of columns that contain what primes contain, and are not after these
pub record IsFollowed (choice : Choice) (primes points columns : List Cube) (xs ys : List ℕ) : Type 0 where
  pub rises : RisesFrom 0 ys
  pub below : (n : ℕ) → has n ys ≡ true → n < length columns
  pub over : (x : Cube) → Contains points x → (a : ℕ) → has a xs ≡ true → IsSubset (holds x) (holds (cube_at primes a)) → (b : ℕ) × (has b ys ≡ true) × IsSubset (holds x) (holds (cube_at columns b))
  pub first : IsNotAfter (IsEarly columns primes) (counted choice (map literals columns)) (counted choice (map literals primes)) ys xs

module _ (choice : Choice) (sets : SetLists) (points columns : List Cube) (on_cubes : AreCubes sets.size sets.on) (rising : IsStrictlySortedBy row_cmp columns)
    (h : AreDominating choice (function_of sets) points columns) where
  abbrev primes : List Cube
  primes = primes_of sets

  primes_rise : IsStrictlySortedBy row_cmp primes
  primes_rise = sorted-complete_sum sets.size (λ p. places sets.on p || places sets.dc p)

  primes_apart : AreApart primes
  primes_apart = same_symbols_in_sum sets.size (λ p. places sets.on p || places sets.dc p)

  -- ---- the row of a point

  row_parts : (x : Cube) (k : ℕ) → has k (holders columns x) ≡ true → (k < length columns) × IsSubset (holds x) (holds (cube_at columns k))
  row_parts x k e =
      let f = filter_parts (contains_region columns x) k (range_with_len 0 (length columns)) e in
      ((let l = range_below k 0 (length columns) f.0 in omega arith), spans_holds columns x k f.1)

  in_row : (x : Cube) (k : ℕ) → k < length columns → IsSubset (holds x) (holds (cube_at columns k)) → has k (holders columns x) ≡ true
  in_row x k lt sub = filter_keeps (contains_region columns x) k (range_with_len 0 (length columns)) (range_has k 0 (length columns) (omega arith) (omega arith)) (is_subset-from_fact (size_of x) (holds x) (holds (cube_at columns k)) sub)

  contained : (x c : Cube) (w : IsWantedPoint (function_of sets) x) → holds c w.place ≡ true → IsSubset (holds x) (holds c)
  contained x c w held q e = ap (holds c) (w.at.alone q e) ∙ held

  some_holder : (x : Cube) → Contains points x → holders columns x ≢ []
  some_holder x there e =
      let w = h.wanted x there in
      let i = enough sets.size primes sets.on sets.dc refl on_cubes w.place w.wanted in
      let c = cube_at primes i.0 in
      let sub = contained x c w i.1 in
      let d = h.dominated x c there (cube_at-member primes i.0 (holds_at-below primes i.0 w.place i.1)) sub in
      let at = member_at columns d.column d.member in
      true≢false (sym (in_row x d.member.0 d.member.1 (λ q k. ap (λ z. holds z q) at ∙ d.dominates.over x there sub q k)) ∙ ap (has d.member.0) e)

  row_rises : (x : Cube) → RisesFrom 0 (holders columns x)
  row_rises x = filter_rises (contains_region columns x) 0 (range_with_len 0 (length columns)) (range_rises 0 (length columns))

  pub are_point_rows : AreRows (length (map literals columns)) (map (holders columns) points)
  are_point_rows = all_mapped (λ row. (row ≢ []) × RisesFrom 0 row × ((c : ℕ) → has c row ≡ true → c < length (map literals columns))) (holders columns) points
      (λ x there. (some_holder x there, row_rises x, λ c e. let l = (row_parts x c e).0 in let m = length-map columns literals in omega arith))

  -- ---- for each prime its column

  abbrev one : ℕ → ℕ
  one = counted choice (map literals columns)

  abbrev two : ℕ → ℕ
  two = counted choice (map literals primes)

  abbrev Follows : List ℕ → List ℕ → Type 0
  Follows xs ys = IsFollowed choice primes points columns xs ys

  nothing : Follows [] []
  nothing = record { rises = tt; below = λ n e. absurd (true≢false (sym e)); over = λ x there a e. absurd (true≢false (sym e)); first = inr (refl, inr (refl, tt)) }

  -- a prime that contains no point leaves
  dropped : (a : ℕ) (xs ys : List ℕ) → list_any (λ x. contains_region primes x a) points ≡ false → Follows xs ys → Follows (a ∷ xs) ys
  dropped a xs ys none' f = record {
    rises = f.rises;
    below = f.below;
    over = λ x there n e sub. elim (has_cases n a xs e) [
      | inl g ↦ absurd (list_any_none (λ z. contains_region primes z a) points x none' there (is_subset-from_fact (size_of x) (holds x) (holds (cube_at primes a)) (subst (λ m. IsSubset (holds x) (holds (cube_at primes m))) g sub)))
      | inr g ↦ f.over x there n g sub
    ];
    first = inl (let l = not_longer (IsEarly columns primes) one two ys xs f.first in omega arith);
  }

  -- the column of a prime that contains one is put
  added : (a : ℕ) (xs ys : List ℕ) → RisesFrom (suc a) xs → a < length primes → list_any (λ x. contains_region primes x a) points ≡ true → Follows xs ys → (zs : List ℕ) × Follows (a ∷ xs) zs
  added a xs ys r la some f =
      let x = list_any_witness (λ z. contains_region primes z a) points some in
      let d = h.dominated x.0 (cube_at primes a) x.1 (cube_at-member primes a la) (spans_holds primes x.0 a x.2) in
      let b = d.member.0 in
      let at : cube_at columns b ≡ d.column = member_at columns d.column d.member in
      let good = good_number choice columns primes b a (subst (IsAsGood choice (cube_at primes a)) (sym at) d.dominates.good) in
      let early : (one b < two a) ⊎ ((one b ≡ two a) × IsEarly columns primes b a) = elim good [ inl g ↦ inl g | inr g ↦ inr (g.0, (d.member.1, λ _. g.1)) ] in (
        put b ys,
        record {
          rises = put_rises b 0 ys (omega arith) f.rises;
          below = λ n e. elim (put_only n b ys e) [ inl g ↦ (let l = d.member.1 in omega (arith, g)) | inr g ↦ f.below n g ];
          over = λ y there n e sub. elim (has_cases n a xs e) [
            | inl g ↦ (b, put_has b ys, λ q k. ap (λ z. holds z q) at ∙ d.dominates.over y there (subst (λ m. IsSubset (holds y) (holds (cube_at primes m))) g sub) q k)
            | inr g ↦ (let o = f.over y there n g sub in (o.0, put_keeps o.0 b ys o.1, o.2))
          ];
          first = not_after_put (IsEarly columns primes) (early_down columns primes rising primes_rise h.apart primes_apart) (early_up columns primes rising primes_rise h.apart primes_apart) one two b a ys xs f.rises r early f.first;
        },
      )

  followed : (l : ℕ) (xs : List ℕ) → RisesFrom l xs → ((n : ℕ) → has n xs ≡ true → n < length primes) → (ys : List ℕ) × Follows xs ys
  followed l [] r within = ([], nothing)
  followed l (a ∷ xs) r within =
      let more = followed (suc a) xs r.1 (λ n e. within n (has_later n a xs e)) in
      elim (cases_Bool (list_any (λ x. contains_region primes x a) points)) [
        | inr e ↦ (more.0, dropped a xs more.0 e more.1)
        | inl e ↦ added a xs more.0 r.1 (within a (has_here a a xs refl)) e more.1
      ]

  -- the columns for primes that hold all points are a cover
  follows_cover : (xs ys : List ℕ) → Follows xs ys → ((x : Cube) → Contains points x → (i : ℕ) × (has i xs ≡ true) × IsSubset (holds x) (holds (cube_at primes i))) → IsCover (point_table points columns) ys
  follows_cover xs ys f hit = record {
    rises = f.rises;
    taken = λ n e. absurd (true≢false (sym e));
    only = λ n e. range_has n 0 (length (map literals columns)) (omega arith) (let l = f.below n e in let m = length-map columns literals in omega arith);
    rows = all_mapped (λ row. meets ys row ≡ true) (holders columns) points (λ x there.
        let i = hit x there in
        let o = f.over x there i.0 i.1 i.2 in
        meets_from o.0 ys (holders columns x) o.1 (in_row x o.0 (f.below o.0 o.1) o.2));
  }

  -- numbers of primes that are the cubes of a least cover precede all primes that hold the points
  least_first : (s ns xs : List ℕ) → IsLeast choice (point_table points columns) s → ArePaired (IsSame columns primes) s ns → RisesFrom 0 xs → ((n : ℕ) → has n xs ≡ true → n < length primes)
      → ((x : Cube) → Contains points x → (i : ℕ) × (has i xs ≡ true) × IsSubset (holds x) (holds (cube_at primes i))) → (ns ≡ xs) ⊎ Precedes two ns xs
  least_first s ns xs least same r within hit =
      let f = followed 0 xs r within in
      precedes_other (IsEarly columns primes) one two (IsSame columns primes) (same_less columns primes rising primes_rise h.apart primes_apart) (same_no_more columns primes rising primes_rise h.apart primes_apart)
      (λ a b is. counts_same choice columns primes a b is.1.1) s ns f.0 xs same (least.first f.0 (follows_cover xs f.0 f.1 hit)) f.1.first

-- ---- essential primes

-- each essential prime is in every cover by primes
module _ (sets : SetLists) (on_cubes : AreCubes sets.size sets.on) (x : List ℕ) (cover : IsPrimeCover sets x) where
  pub essential_there : (n : ℕ) → n < length (primes_of sets) → is_essential sets (primes_of sets) (cube_at (primes_of sets) n) ≡ true → has n x ≡ true
  essential_there n lt essential = elim (cases_Bool (has n x)) [
    | inl e ↦ e
    | inr e ↦ (
        let primes = primes_of sets in
        let c = cube_at primes n in
        let beside : IsSubset (intersection (care_on sets) (holds c)) (places (others c primes)) = λ p k. (
        let i = holding_from sets on_cubes x cover.holds p (and_parts (care_on sets p) (holds c p) k).0 in
        let li = cover.below i.0 i.1 in
        let differs : not (is_eq (row_cmp (cube_at primes i.0) c)) ≡ true = elim (cases_Bool (is_eq (row_cmp (cube_at primes i.0) c))) [
          | inr f ↦ ap not f
          | inl f ↦ (
              let same = one_number primes i.0 n (sorted-complete_sum sets.size (λ q. places sets.on q || places sets.dc q)) li lt (equal_from c (cube_at primes i.0) f) in
              absurd (both_ways _ e (subst (λ m. has m x ≡ true) same i.1)))
        ] in
        list_any_from (λ d. holds d p) (others c primes) (cube_at primes i.0) (Contains-filter (λ d. not (is_eq (row_cmp d c))) primes (cube_at primes i.0) (cube_at-member primes i.0 li) differs) i.2) in
        absurd (true≢false (sym essential ∙ ap not (is_subset-from_fact sets.size (intersection (care_on sets) (holds c)) (places (others c primes)) beside))))
  ]

-- ---- the least cover of a table that holds all wanted places

-- the list rises, as the numbers of its cubes do
module _ (choice : Choice) (sets : SetLists) (essential points list : List Cube) (least : IsLeastOfPoints choice (function_of sets) essential points list) where
  pub least_below : (n : ℕ) → has n least.numbers ≡ true → n < length least.columns
  least_below n e = let l = range_below n 0 (length (map literals least.columns)) (least.least.cover.only n e) in let m = length-map least.columns literals in omega arith

  pub least_cubes : list ≡ map (cube_at least.columns) least.numbers
  least_cubes = least.cubes ∙ chosen_cubes least.columns least.numbers least_below

  pub least_rising : IsStrictlySortedBy row_cmp list
  least_rising = subst (IsStrictlySortedBy row_cmp) (sym least_cubes) (numbers_sorted least.columns 0 least.numbers least.rising least.least.cover.rises least_below)

module _ (choice : Choice) (sets : SetLists) (essential points list answer : List Cube) (on_cubes : AreCubes sets.size sets.on)
    (are_essential : (c : Cube) → Contains essential c → Contains (essential_of sets (primes_of sets)) c) (least : IsLeastOfPoints choice (function_of sets) essential points list)
    (are_primes : (c : Cube) → Contains list c → Contains (primes_of sets) c) (held : IsSubset (care_on sets) (places (essential ++ list)))
    (sorted : IsStrictlySortedBy row_cmp answer) (same : HasSameCubes (essential ++ list) answer) where
  abbrev all_primes : List Cube
  all_primes = primes_of sets

  all_rise : IsStrictlySortedBy row_cmp all_primes
  all_rise = sorted-complete_sum sets.size (λ p. places sets.on p || places sets.dc p)

  abbrev count : ℕ → ℕ
  count = counted choice (map literals all_primes)

  -- ---- numbers of the list, and of the answer

  of_list : (live : List ℕ) × ByNumbers list all_primes live
  of_list = by_numbers all_primes list all_rise (least_rising choice sets essential points list least) are_primes

  answer_prime : (c : Cube) → Contains answer c → Contains all_primes c
  answer_prime c h = elim (Contains-append_cases essential list c ((same c).1 h)) [
    | inl k ↦ (Contains-filter_cases (is_essential sets all_primes) all_primes c (are_essential c k)).0
    | inr k ↦ are_primes c k
  ]

  of_answer : (live : List ℕ) × ByNumbers answer all_primes live
  of_answer = by_numbers all_primes answer all_rise sorted answer_prime

  same_numbers : ArePaired (IsSame least.columns all_primes) least.numbers of_list.0
  same_numbers = paired least.columns all_primes least.numbers of_list.0 (least_below choice sets essential points list least) of_list.1.below (sym (least_cubes choice sets essential points list least) ∙ sym of_list.1.cubes)

  abbrev in_essential : ℕ → Bool
  in_essential n = list_any (λ c. is_eq (row_cmp c (cube_at all_primes n))) essential

  essential_from : (n : ℕ) → in_essential n ≡ true → Contains essential (cube_at all_primes n)
  essential_from n e =
      let w = list_any_witness (λ c. is_eq (row_cmp c (cube_at all_primes n))) essential e in
      subst (Contains essential) (equal_from (cube_at all_primes n) w.0 w.2) w.1

  essential_to : (n : ℕ) → Contains essential (cube_at all_primes n) → in_essential n ≡ true
  essential_to n h = list_any_from (λ c. is_eq (row_cmp c (cube_at all_primes n))) essential (cube_at all_primes n) h (ap is_eq (tied_itself row_total (cube_at all_primes n)))

  abbrev rest : List ℕ → List ℕ
  rest xs = filter (λ n. not (in_essential n)) xs

  -- no other prime of the answer is missing from the list
  rest_within : (n : ℕ) → has n (rest of_answer.0) ≡ true → has n of_list.0 ≡ true
  rest_within n h =
      let f = filter_parts (λ m. not (in_essential m)) n of_answer.0 h in
      let c = cube_at all_primes n in
      elim (Contains-append_cases essential list c ((same c).1 (number_member answer all_primes all_rise of_answer.0 of_answer.1 n f.0))) [
        | inl k ↦ absurd (true≢false (sym f.1 ∙ ap not (essential_to n k)))
        | inr k ↦ member_number list all_primes all_rise of_list.0 of_list.1 n (of_answer.1.below n f.0) k
      ]

  answer_cover : IsPrimeCover sets of_answer.0
  answer_cover = record {
    rises = of_answer.1.rises;
    below = of_answer.1.below;
    holds = is_subset-from_fact sets.size (care_on sets) (places (chosen all_primes of_answer.0)) (λ p want.
        let w = list_any_witness (λ c. holds c p) (essential ++ list) (held p want) in
        list_any_from (λ c. holds c p) (chosen all_primes of_answer.0) w.0
        (subst (λ l. Contains l w.0) (sym (chosen_cubes all_primes of_answer.0 of_answer.1.below ∙ of_answer.1.cubes)) ((same w.0).0 w.1)) w.2);
  }

  -- ---- beside another cover by primes

  module _ (x : List ℕ) (cover : IsPrimeCover sets x) where
    same_part : filter in_essential of_answer.0 ≡ filter in_essential x
    same_part = same_list 0 (filter in_essential of_answer.0) (filter in_essential x) (filter_rises in_essential 0 of_answer.0 of_answer.1.rises) (filter_rises in_essential 0 x cover.rises)
        (λ n h.
        let f = filter_parts in_essential n of_answer.0 h in
        let own = Contains-filter_cases (is_essential sets all_primes) all_primes (cube_at all_primes n) (are_essential (cube_at all_primes n) (essential_from n f.1)) in
        filter_keeps in_essential n x (essential_there sets on_cubes x cover n (of_answer.1.below n f.0) own.1) f.1)
        (λ n h.
        let f = filter_parts in_essential n x h in
        let there = (same (cube_at all_primes n)).0 (Contains-append_left essential list (cube_at all_primes n) (essential_from n f.1)) in
        filter_keeps in_essential n of_answer.0 (member_number answer all_primes all_rise of_answer.0 of_answer.1 n (cover.below n f.0) there) f.1)

    -- the others hold the points
    hit : (p : Cube) → Contains points p → (i : ℕ) × (has i (rest x) ≡ true) × IsSubset (holds p) (holds (cube_at all_primes i))
    hit p there =
        let w = least.are_dominating.wanted p there in
        let i = holding_from sets on_cubes x cover.holds w.place w.wanted in
        let sub : IsSubset (holds p) (holds (cube_at all_primes i.0)) = λ q e. ap (holds (cube_at all_primes i.0)) (w.at.alone q e) ∙ i.2 in
        let out : in_essential i.0 ≡ false = elim (cases_Bool (in_essential i.0)) [ inr e ↦ e | inl e ↦ absurd (least.outside (cube_at all_primes i.0) p (essential_from i.0 e) there sub) ] in
        (i.0, filter_keeps (λ n. not (in_essential n)) i.0 x i.1 (ap not out), sub)

    list_first : (of_list.0 ≡ rest x) ⊎ Precedes count of_list.0 (rest x)
    list_first = least_first choice sets points least.columns on_cubes least.rising least.are_dominating least.numbers of_list.0 (rest x) least.least same_numbers
        (filter_rises (λ n. not (in_essential n)) 0 x cover.rises) (λ n e. cover.below n (filter_parts (λ m. not (in_essential m)) n x e).0) hit

    no_longer : length of_list.0 ≤ length (rest x)
    no_longer = elim list_first [ inl e ↦ omega (arith, ap length e) | inr (inl e) ↦ omega arith | inr (inr e) ↦ omega (arith, e.0) ]

    rests_first : (rest of_answer.0 ≡ rest x) ⊎ Precedes count (rest of_answer.0) (rest x)
    rests_first = elim (same_or_shorter (rest of_answer.0) of_list.0 (filter_rises (λ n. not (in_essential n)) 0 of_answer.0 of_answer.1.rises) of_list.1.rises rest_within) [
      | inl e ↦ subst (λ l. (l ≡ rest x) ⊎ Precedes count l (rest x)) (sym e) list_first
      | inr shorter ↦ inr (inl (let l = no_longer in omega arith))
    ]

    answer_first : (of_answer.0 ≡ x) ⊎ Precedes count of_answer.0 x
    answer_first = by_rests count in_essential of_answer.0 x of_answer.1.rises cover.rises same_part rests_first

  pub exact_from : answer ≡ exact_of choice sets
  exact_from = sym of_answer.1.cubes ∙ sym (chosen_cubes all_primes of_answer.0 of_answer.1.below) ∙ ap (chosen all_primes) (least_by_first choice sets of_answer.0 answer_cover answer_first)

-- essential primes with the least cover of a table of points, if they hold all wanted places
pub points_are_enough : PointsAreEnough
points_are_enough choice sets essential points list answer on_cubes are_essential least are_primes held sorted same =
    exact_from choice sets essential points list answer on_cubes are_essential least are_primes held sorted same

-- the same with no essential prime apart
pub points_alone : (choice : Choice) (sets : SetLists) (points list : List Cube) → AreCubes sets.size sets.on → IsLeastOfPoints choice (function_of sets) [] points list → ((c : Cube) → Contains list c → Contains (primes_of sets) c)
    → IsSubset (care_on sets) (places list) → list ≡ exact_of choice sets
points_alone choice sets points list on_cubes least are_primes held =
    points_are_enough choice sets [] points list list on_cubes (λ c h. absurd (Contains-nil c h)) least are_primes held (least_rising choice sets [] points list least) (λ c. (λ h. h, λ h. h))

-- the same beside other essential primes, none of which contains a point
pub least_beside : (choice : Choice) (f : Function) (essential points list : List Cube) → ((c x : Cube) → Contains essential c → Contains points x → IsSubset (holds x) (holds c) → ⊥) → IsLeastOfPoints choice f [] points list
    → IsLeastOfPoints choice f essential points list
least_beside choice f essential points list none' least = record {
  columns = least.columns;
  rising = least.rising;
  are_dominating = least.are_dominating;
  outside = none';
  numbers = least.numbers;
  least = least.least;
  cubes = least.cubes;
}
