-- The test of a row.
use Rattle.std.proofs.Common.{◌≡◌, ◌≢◌, ℕ, suc, ◌+◌, ◌<◌, ◌≤◌, inl, inr, true, false, ◌&&◌, List, [], ◌∷◌, length, zero, refl, sym, ap, subst, ◌∙◌, arith, ltb, leb, eqb, not, drop, drop-cons, slice_index_or, Vec}
use Rattle.std.specs.List.{AllByRecursion, list_all, range_with_len}
use Rattle.std.proofs.lemmas.Bool.{cases_eq, and_parts, and_from, both_ways, true≢false, lt-ltb, ltb-true, le-leb, leb-true, ne_eqb}
use Rattle.std.proofs.lemmas.List.{drop_all}
use Rattle.covering.specs.Table.{has, RisesFrom, IsWithin, IsTable, items_of, is_rising, is_row, AreRows, fresh}
use Rattle.covering.proofs.Sets.{has_here, has_later, has_cases}

pub range_rises : (a n : ℕ) → RisesFrom a (range_with_len a n)
range_rises a zero = tt
range_rises a (suc n) = (omega arith, (let e : a + 1 ≡ suc a = omega arith in subst (λ b. RisesFrom b (range_with_len (a + 1) n)) e (range_rises (a + 1) n)))

pub range_has : (c a n : ℕ) → a ≤ c → c < a + n → has c (range_with_len a n) ≡ true
range_has c a zero h k = absurd (omega arith)
range_has c a (suc n) h k = elim (cases_eq c a) [ inl e ↦ has_here c a _ e | inr e ↦ has_later c a _ (range_has c (a + 1) n (omega arith) (omega arith)) ]

pub range_below : (c a n : ℕ) → has c (range_with_len a n) ≡ true → c < a + n
range_below c a zero h = absurd (true≢false (sym h))
range_below c a (suc n) h = elim (has_cases c a _ h) [ inl e ↦ omega arith | inr e ↦ (let k = range_below c (a + 1) n e in omega arith) ]

rows_live : (n : ℕ) (rows : List (List ℕ)) → AreRows n rows → AllByRecursion (λ row. (row ≢ []) × RisesFrom 0 row × IsWithin row (range_with_len 0 n)) rows
rows_live n [] h = tt
rows_live n (row ∷ rows) h = ((h.0.0, h.0.1, λ c k. let l = h.0.2 c k in range_has c 0 n (omega arith) (omega arith)), rows_live n rows h.1)

pub fresh_table : (rows : List (List ℕ)) (weights : List ℕ) → AreRows (length weights) rows → IsTable (fresh rows weights)
fresh_table rows weights h = record {
  taken_rises = tt;
  live_rises = range_rises 0 (length weights);
  apart = λ n k. refl;
  within = λ n k. let l = range_below n 0 (length weights) k in omega arith;
  taken_within = λ n k. absurd (true≢false (sym k));
  rows = rows_live (length weights) rows h;
  weighed = refl;
}

pub rising_parts : (end low : ℕ) (xs : List ℕ) → is_rising end low xs ≡ true → RisesFrom low xs × ((c : ℕ) → has c xs ≡ true → c < end)
rising_parts end low [] h = (tt, λ c k. absurd (true≢false (sym k)))
rising_parts end low (x ∷ xs) h =
    let p = and_parts (leb low x && ltb x end) (is_rising end (x + 1) xs) h in
    let q = and_parts (leb low x) (ltb x end) p.0 in
    let r = rising_parts end (x + 1) xs p.1 in
    let e : x + 1 ≡ suc x = omega arith in
    ((leb-true low x q.0, subst (λ b. RisesFrom b xs) e r.0), λ c k. elim (has_cases c x xs k) [ inl f ↦ (let l = ltb-true x end q.1 in omega arith) | inr f ↦ r.1 c f ])

pub rising_from : (end low : ℕ) (xs : List ℕ) → RisesFrom low xs → ((c : ℕ) → has c xs ≡ true → c < end) → is_rising end low xs ≡ true
rising_from end low [] h k = refl
rising_from end low (x ∷ xs) h k =
    let e : suc x ≡ x + 1 = omega arith in
    and_from (leb low x && ltb x end) (is_rising end (x + 1) xs) (and_from (leb low x) (ltb x end) (le-leb low x h.0) (lt-ltb x end (k x (has_here x x xs refl))))
    (rising_from end (x + 1) xs (subst (λ b. RisesFrom b xs) e h.1) (λ c g. k c (has_later c x xs g)))

-- what is left to test after one more number
pub rising_next : (end low : ℕ) (xs : List ℕ) (i : ℕ) → i < length xs → is_rising end low (drop i xs) ≡ ((leb low (slice_index_or xs i 0) && ltb (slice_index_or xs i 0) end) && is_rising end (slice_index_or xs i 0 + 1) (drop (i + 1) xs))
rising_next end low xs i h = let e : suc i ≡ i + 1 = omega arith in ap (is_rising end low) (drop-cons xs i 0 h) ∙ ap (λ k. (leb low (slice_index_or xs i 0) && ltb (slice_index_or xs i 0) end) && is_rising end (slice_index_or xs i 0 + 1) (drop k xs)) e

not_empty : (row : List ℕ) → not (eqb (length row) 0) ≡ true → row ≢ []
not_empty [] h e = true≢false (sym h)
not_empty (c ∷ row) h e = cc

row_parts : (n : ℕ) (row : List ℕ) → is_row n row ≡ true → (row ≢ []) × RisesFrom 0 row × ((c : ℕ) → has c row ≡ true → c < n)
row_parts n row h =
    let p = and_parts (not (eqb (length row) 0)) (is_rising n 0 row) h in
    let r = rising_parts n 0 row p.1 in
    (not_empty row p.0, r.0, r.1)

row_from : (n : ℕ) (row : List ℕ) → (row ≢ []) × RisesFrom 0 row × ((c : ℕ) → has c row ≡ true → c < n) → is_row n row ≡ true
row_from n [] h = absurd (h.0 refl)
row_from n (c ∷ row) h = and_from (not (eqb (length (c ∷ row)) 0)) (is_rising n 0 (c ∷ row)) (ap not (ne_eqb (length (c ∷ row)) 0 (λ e. absurd (omega arith)))) (rising_from n 0 (c ∷ row) h.1 h.2)

pub rows_pass : {Z : Type 0} (n : ℕ) (rows : List (Vec ℕ Z)) → list_all (λ row. is_row n row.items) rows ≡ true → AreRows n (items_of rows)
rows_pass n [] h = tt
rows_pass n (row ∷ rows) h = let p = and_parts (is_row n row.items) (list_all (λ r. is_row n r.items) rows) h in (row_parts n row.items p.0, rows_pass n rows p.1)

pub rows_fail : {Z : Type 0} (n : ℕ) (rows : List (Vec ℕ Z)) → list_all (λ row. is_row n row.items) rows ≡ false → AreRows n (items_of rows) → ⊥
rows_fail n rows h k = both_ways _ h (all n rows k)
  where
    all : {Z : Type 0} (n : ℕ) (rows : List (Vec ℕ Z)) → AreRows n (items_of rows) → list_all (λ row. is_row n row.items) rows ≡ true
    all n [] k = refl
    all n (row ∷ rows) k = and_from (is_row n row.items) _ (row_from n row.items k.0) (all n rows k.1)

-- nothing is left to test at the end
pub rising_end : (end low : ℕ) (xs : List ℕ) (i : ℕ) → length xs ≤ i → is_rising end low (drop i xs) ≡ true
rising_end end low xs i h = ap (is_rising end low) (drop_all i xs h)

pub fresh_made : (n : ℕ) (taken live : List ℕ) (rows : List (List ℕ)) (weights : List ℕ) → n ≡ length weights → taken ≡ [] → live ≡ range_with_len 0 n
    → record { columns = n; taken = taken; live = live; rows = rows; weights = weights } ≡ fresh rows weights
fresh_made n taken live rows weights a b d =
    ap (λ xs. record { columns = n; taken = xs; live = live; rows = rows; weights = weights }) b
    ∙ ap (λ xs. record { columns = n; taken = []; live = xs; rows = rows; weights = weights }) d
    ∙ ap (λ k. record { columns = k; taken = []; live = range_with_len 0 k; rows = rows; weights = weights }) a
