-- What the passes of a reduction leave.
use Rattle.std.proofs.Common.{◌≡◌, ◌≢◌, ℕ, zero, suc, ◌+◌, ◌<◌, ◌≤◌, ◌⊎◌, inl, inr, Bool, true, false, ◌||◌, ◌&&◌, not, eqb, ltb, List, [], ◌∷◌, length, take, slice_index_or, refl, sym, ap, subst, ◌∙◌, arith}
use Rattle.std.specs.List.{list_any}
use Rattle.std.proofs.lemmas.Bool.{cases_eq, cases_lt, cases_Bool, or_cases, or_left, or_right, and_parts, and_from, eq-eqb, ne_eqb, eqb-true, ltb-true, lt-ltb, leb-true, le-leb, both_ways, true≢false, cond-true, cond-false}
use Rattle.std.proofs.lemmas.List.{take_more}
use Rattle.covering.specs.declared.column_dominance.Preference.{Preference}
use Rattle.covering.specs.declared.column_dominance.Preference.TheVariants.{Earlier, NoDearer}
use Rattle.covering.specs.Table.{has, RisesFrom, IsWithin}
use Rattle.covering.specs.Search.{marked}
use Rattle.covering.specs.Reduce.{row_at, IsTranspose, Unmarks, UnmarksDominatingRows, RowDominanceSoFar, LeavesNoDominatingRow, is_dominating_row, holds_all, prefers, is_preferred, dominates, AreDominatedByKept, ColumnDominanceSoFar, LeavesNoDominatedColumn}
use Rattle.std.specs.Prelude.{Result, Ok, Err, is_ok, MatchResult}
use Rattle.std.specs.List.Sorted.{IsBinarySearchResult}
use Rattle.std.specs.Ordering.{nat_cmp}
use Rattle.std.specs.Cmp.{both_ways as same_bool}
use Rattle.std.proofs.lemmas.List.Sorted.{searched}
use Rattle.covering.specs.Steps.{IsPreferred}
use Rattle.covering.proofs.Sets.{has_here, has_later, has_cases, rises_above}
use Rattle.covering.proofs.Subsets.{minus_length}
use Rattle.covering.proofs.TransposeSteps.{has_append}

pub within_from : (b a : List ℕ) → holds_all b a ≡ true → IsWithin a b
within_from b [] h n k = absurd (true≢false (sym k))
within_from b (x ∷ a) h n k =
    let p = and_parts (has x b) (holds_all b a) h in
    elim (has_cases n x a k) [ inl e ↦ subst (λ m. has m b ≡ true) (sym e) p.0 | inr e ↦ within_from b a p.1 n e ]

pub holds_from : (b a : List ℕ) → IsWithin a b → holds_all b a ≡ true
holds_from b [] h = refl
holds_from b (x ∷ a) h = and_from (has x b) (holds_all b a) (h x (has_here x x a refl)) (holds_from b a (λ n k. h n (has_later n x a k)))

pub longer_not_within : (b a : List ℕ) → RisesFrom 0 a → RisesFrom 0 b → length b < length a → false ≡ holds_all b a
longer_not_within b a ra rb l = elim (cases_Bool (holds_all b a)) [
  | inl h ↦ absurd (let m = minus_length 0 b a rb ra (within_from b a h) in omega arith)
  | inr h ↦ sym h
]

pub dominating_parts : (rows : List (List ℕ)) (at n : ℕ) → is_dominating_row rows at n ≡ true → (n ≢ at) × IsWithin (row_at rows at) (row_at rows n)
dominating_parts rows at n h =
    let p = and_parts (not (eqb n at)) (holds_all (row_at rows n) (row_at rows at)) h in
    ((λ e. true≢false (sym p.0 ∙ ap not (eq-eqb n at e))), within_from (row_at rows n) (row_at rows at) p.1)

dominating_from : (rows : List (List ℕ)) (at n : ℕ) → n ≢ at → IsWithin (row_at rows at) (row_at rows n) → is_dominating_row rows at n ≡ true
dominating_from rows at n d h = and_from (not (eqb n at)) (holds_all (row_at rows n) (row_at rows at)) (ap not (ne_eqb n at d)) (holds_from (row_at rows n) (row_at rows at) h)

module _ (rows : List (List ℕ)) (at i : ℕ) (among : List ℕ) (old mid new : List Bool) (l : i < length among) (h : UnmarksDominatingRows rows at (take i among) old mid) where
  one_more : (n : ℕ) → has n (take (i + 1) among) ≡ (has n (take i among) || eqb n (slice_index_or among i 0))
  one_more n = ap (has n) (take_more among i 0 l) ∙ has_append n (take i among) (slice_index_or among i 0)

  pub dominating_hit : is_dominating_row rows at (slice_index_or among i 0) ≡ true → Unmarks mid (slice_index_or among i 0) new → UnmarksDominatingRows rows at (take (i + 1) among) old new
  dominating_hit e u = record {
    falls = λ n k. h.falls n (kept n k);
    fell = λ n k m. elim (cases_eq n (slice_index_or among i 0)) [
      | inl f ↦ ap (is_dominating_row rows at) f ∙ e
      | inr f ↦ h.fell n k (sym (u.at n ∙ cond-false _ _ _ (ne_eqb n (slice_index_or among i 0) f)) ∙ m)
    ];
    struck = λ n k m. elim (cases_eq n (slice_index_or among i 0)) [
      | inl f ↦ u.at n ∙ cond-true _ _ _ (eq-eqb n (slice_index_or among i 0) f)
      | inr f ↦ u.at n ∙ cond-false _ _ _ (ne_eqb n (slice_index_or among i 0) f) ∙ h.struck n (elim (or_cases (has n (take i among)) (eqb n (slice_index_or among i 0)) (sym (one_more n) ∙ k)) [ inl g ↦ g | inr g ↦ absurd (f (eqb-true n _ g)) ]) m
    ];
    as_long = u.as_long ∙ h.as_long;
  }
    where
      kept : (n : ℕ) → marked new n ≡ true → marked mid n ≡ true
      kept n k = elim (cases_eq n (slice_index_or among i 0)) [
        | inl f ↦ absurd (true≢false (sym k ∙ u.at n ∙ cond-true _ _ _ (eq-eqb n (slice_index_or among i 0) f)))
        | inr f ↦ sym (u.at n ∙ cond-false _ _ _ (ne_eqb n (slice_index_or among i 0) f)) ∙ k
      ]

  pub dominating_miss : is_dominating_row rows at (slice_index_or among i 0) ≡ false → UnmarksDominatingRows rows at (take (i + 1) among) old mid
  dominating_miss e = record {
    falls = h.falls;
    fell = h.fell;
    struck = λ n k m. elim (or_cases (has n (take i among)) (eqb n (slice_index_or among i 0)) (sym (one_more n) ∙ k)) [
      | inl g ↦ h.struck n g m
      | inr g ↦ absurd (both_ways _ e (ap (is_dominating_row rows at) (sym (eqb-true n _ g)) ∙ m))
    ];
    as_long = h.as_long;
  }

module _ (rows : List (List ℕ)) (i : ℕ) (old : List Bool) (h : RowDominanceSoFar rows i old) where
  pub stay_next : (transpose : List (List ℕ)) (column : ℕ) (new : List Bool) → i < length rows → marked old i ≡ true → IsTranspose (length transpose) rows transpose → column < length transpose → has column (row_at rows i) ≡ true → UnmarksDominatingRows rows i (row_at transpose column) old new → RowDominanceSoFar rows (i + 1) new
  stay_next transpose column new l m x w c u = record {
    witnessed = λ n k e. elim (cases_Bool (marked old n)) [
      | inl f ↦ (i, l, self, (dominating_parts rows i n (u.fell n f e)).1)
      | inr f ↦ (let y = h.witnessed n k f in elim (cases_Bool (marked new y.0)) [
        | inl g ↦ (y.0, y.1, g, y.3)
        | inr g ↦ (i, l, self, λ d a. y.3 d ((dominating_parts rows i y.0 (u.fell y.0 y.2 g)).1 d a))
      ])
    ];
    struck = λ j k e n a d b. elim (cases_eq j i) [
      | inl f ↦ (
          let inside : IsWithin (row_at rows i) (row_at rows n) = subst (λ q. IsWithin (row_at rows q) (row_at rows n)) f b in
          u.struck n (x.same column n w ∙ inside column c) (dominating_from rows i n (λ g. d (g ∙ sym f)) inside))
      | inr f ↦ gone n (h.struck j (omega arith) (u.falls j e) n a d b)
    ];
    as_long = u.as_long ∙ h.as_long;
  }
    where
      self : marked new i ≡ true
      self = elim (cases_Bool (marked new i)) [ inl f ↦ f | inr f ↦ absurd ((dominating_parts rows i i (u.fell i m f)).0 refl) ]

      gone : (n : ℕ) → marked old n ≡ false → marked new n ≡ false
      gone n f = elim (cases_Bool (marked new n)) [ inl g ↦ absurd (both_ways _ f (u.falls n g)) | inr g ↦ g ]

  pub stay_skip : marked old i ≡ false → RowDominanceSoFar rows (i + 1) old
  stay_skip e = record {
    witnessed = h.witnessed;
    struck = λ j k m. elim (cases_eq j i) [ inl f ↦ absurd (both_ways _ e (ap (marked old) (sym f) ∙ m)) | inr f ↦ h.struck j (omega arith) m ];
    as_long = h.as_long;
  }

  pub stay_done : length rows ≤ i → LeavesNoDominatingRow rows old
  stay_done l = record {
    witnessed = h.witnessed;
    complete = λ all n j a b w. elim (cases_eq n j) [ inl e ↦ e | inr e ↦ absurd (both_ways _ (h.struck j (omega arith) (all j b) n a e w) (all n a)) ];
    as_long = h.as_long;
  }

-- ---- a binary search

pub has_index : (xs : List ℕ) (i : ℕ) → i < length xs → has (slice_index_or xs i 0) xs ≡ true
has_index [] i h = absurd (omega arith)
has_index (x ∷ xs) zero h = has_here x x xs refl
has_index (x ∷ xs) (suc i) h = has_later (slice_index_or xs i 0) x xs (has_index xs i (omega arith))

rises_index : (l : ℕ) (xs : List ℕ) (i j : ℕ) → RisesFrom l xs → i ≤ j → j < length xs → slice_index_or xs i 0 ≤ slice_index_or xs j 0
rises_index l [] i j r a b = absurd (omega arith)
rises_index l (x ∷ xs) zero zero r a b = omega arith
rises_index l (x ∷ xs) zero (suc j) r a b = let k = rises_above (slice_index_or xs j 0) (suc x) xs r.1 (has_index xs j (omega arith)) in omega arith
rises_index l (x ∷ xs) (suc i) zero r a b = absurd (omega arith)
rises_index l (x ∷ xs) (suc i) (suc j) r a b = rises_index (suc x) xs i j r.1 (omega arith) (omega arith)

index_of : (n : ℕ) (xs : List ℕ) → has n xs ≡ true → (i : ℕ) × (i < length xs) × (slice_index_or xs i 0 ≡ n)
index_of n [] h = absurd (true≢false (sym h))
index_of n (x ∷ xs) h = elim (has_cases n x xs h) [ inl e ↦ (0, omega arith, sym e) | inr e ↦ (let k = index_of n xs e in (suc k.0, omega (arith, k.1), k.2)) ]

pub found_at : (xs : List ℕ) (x : ℕ) (r : Result ℕ ℕ) → RisesFrom 0 xs → IsBinarySearchResult (λ y. nat_cmp y x) xs r
    → MatchResult r (λ i. (i < length xs) × (slice_index_or xs i 0 ≡ x)) (λ i. (i ≤ length xs) × ((k : ℕ) → k < i → slice_index_or xs k 0 < x) × ((k : ℕ) → i ≤ k → k < length xs → x < slice_index_or xs k 0))
found_at xs x r rises h = searched xs x r h (λ i j a b. rises_index 0 xs i j rises a b)

pub found_has : (xs : List ℕ) (x : ℕ) (r : Result ℕ ℕ) → RisesFrom 0 xs → IsBinarySearchResult (λ y. nat_cmp y x) xs r → is_ok r ≡ has x xs
found_has xs x r rises h = go r (found_at xs x r rises h)
  where
    go : (r : Result ℕ ℕ) → MatchResult r (λ i. (i < length xs) × (slice_index_or xs i 0 ≡ x)) (λ i. (i ≤ length xs) × ((k : ℕ) → k < i → slice_index_or xs k 0 < x) × ((k : ℕ) → i ≤ k → k < length xs → x < slice_index_or xs k 0)) → is_ok r ≡ has x xs
    go (Ok i) m = sym (subst (λ n. has n xs ≡ true) m.1 (has_index xs i m.0))
    go (Err i) m = elim (cases_Bool (has x xs)) [
      | inl e ↦ absurd (let k = index_of x xs e in elim (cases_lt k.0 i) [ inl l ↦ (let b = m.1 k.0 l in omega (arith, k.2)) | inr l ↦ (let b = m.2 k.0 l k.1 in omega (arith, k.2)) ])
      | inr e ↦ sym e
    ]

-- ---- columns

pub preferred_from : (count : ℕ → ℕ) (b a : ℕ) → prefers count b a ≡ true → IsPreferred count b a
preferred_from count b a h = elim (or_cases (ltb (count b) (count a)) (eqb (count b) (count a) && ltb b a) h) [
  | inl e ↦ inl (ltb-true (count b) (count a) e)
  | inr e ↦ (let p = and_parts (eqb (count b) (count a)) (ltb b a) e in inr (eqb-true (count b) (count a) p.0, ltb-true b a p.1))
]

pub prefers_from : (count : ℕ → ℕ) (b a : ℕ) → IsPreferred count b a → prefers count b a ≡ true
prefers_from count b a (inl h) = or_left (ltb (count b) (count a)) _ (lt-ltb (count b) (count a) h)
prefers_from count b a (inr h) = or_right (ltb (count b) (count a)) _ (and_from (eqb (count b) (count a)) (ltb b a) (eq-eqb (count b) (count a) h.0) (lt-ltb b a h.1))

preferred_trans : (count : ℕ → ℕ) (c b a : ℕ) → IsPreferred count c b → IsPreferred count b a → IsPreferred count c a
preferred_trans count c b a (inl h) (inl k) = inl (omega arith)
preferred_trans count c b a (inl h) (inr k) = inl (omega (arith, k.0))
preferred_trans count c b a (inr h) (inl k) = inl (omega (arith, h.0))
preferred_trans count c b a (inr h) (inr k) = inr (h.0 ∙ k.0, omega (arith, h.1, k.1))

not_true : (b : Bool) → not b ≡ true → b ≡ false
not_true true e = sym e
not_true false e = refl

-- what may stay in place of one that may stay in place of a third may stay in place of that
pub preferred_on : (preference : Preference) (count : ℕ → ℕ) (c b a : ℕ) → is_preferred preference count c b ≡ true → is_preferred preference count b a ≡ true → is_preferred preference count c a ≡ true
preferred_on Earlier count c b a h k = prefers_from count c a (preferred_trans count c b a (preferred_from count c b h) (preferred_from count b a k))
preferred_on NoDearer count c b a h k =
    let one = leb-true (count c) (count b) h in
    let two = leb-true (count b) (count a) k in
    le-leb (count c) (count a) (omega arith)

-- what a column over another is
pub record Dominates (preferred : ℕ → ℕ → Bool) (transpose : List (List ℕ)) (keep : List Bool) (a b : ℕ) : Type 0 where
  pub apart : b ≢ a
  pub kept : marked keep b ≡ true
  pub first : preferred b a ≡ true
  pub stands : IsWithin (row_at transpose a) (row_at transpose b)

pub dominates_parts : (preferred : ℕ → ℕ → Bool) (transpose : List (List ℕ)) (keep : List Bool) (a b : ℕ) → dominates preferred transpose keep a b ≡ true → Dominates preferred transpose keep a b
dominates_parts preferred transpose keep a b h =
    let d = and_parts (not (eqb a b)) (marked keep b && (preferred b a && holds_all (row_at transpose b) (row_at transpose a))) h in
    let p = and_parts (marked keep b) (preferred b a && holds_all (row_at transpose b) (row_at transpose a)) d.1 in
    let q = and_parts (preferred b a) (holds_all (row_at transpose b) (row_at transpose a)) p.1 in
    record { apart = λ e. both_ways (eqb a b) (not_true (eqb a b) d.0) (eq-eqb a b (sym e)); kept = p.0; first = q.0; stands = within_from (row_at transpose b) (row_at transpose a) q.1 }

pub dominates_from : (preferred : ℕ → ℕ → Bool) (transpose : List (List ℕ)) (keep : List Bool) (a b : ℕ) → Dominates preferred transpose keep a b → dominates preferred transpose keep a b ≡ true
dominates_from preferred transpose keep a b o = and_from (not (eqb a b)) _ (ap not (ne_eqb a b (λ e. o.apart (sym e)))) (and_from (marked keep b) _ o.kept (and_from (preferred b a) _ o.first (holds_from (row_at transpose b) (row_at transpose a) o.stands)))

pub any_at : (test : ℕ → Bool) (xs : List ℕ) → list_any test xs ≡ true → (n : ℕ) × (has n xs ≡ true) × (test n ≡ true)
any_at test [] h = absurd (true≢false (sym h))
any_at test (x ∷ xs) h = elim (or_cases (test x) (list_any test xs) h) [ inl e ↦ (x, has_here x x xs refl, e) | inr e ↦ (let k = any_at test xs e in (k.0, has_later k.0 x xs k.1, k.2)) ]

pub any_from : (test : ℕ → Bool) (xs : List ℕ) (n : ℕ) → has n xs ≡ true → test n ≡ true → list_any test xs ≡ true
any_from test [] n h k = absurd (true≢false (sym h))
any_from test (x ∷ xs) n h k = elim (has_cases n x xs h) [ inl e ↦ or_left (test x) _ (ap test (sym e) ∙ k) | inr e ↦ or_right (test x) _ (any_from test xs n e k) ]

-- a column over another is in each list of candidates
pub any_among : (test : ℕ → Bool) (xs ys : List ℕ) → ((n : ℕ) → has n xs ≡ true → has n ys ≡ true) → ((n : ℕ) → has n ys ≡ true → test n ≡ true → has n xs ≡ true) → list_any test xs ≡ list_any test ys
any_among test xs ys f g = same_bool (list_any test xs) (list_any test ys)
    (λ h. let k = any_at test xs h in any_from test ys k.0 (f k.0 k.1) k.2)
    (λ h. let k = any_at test ys h in any_from test xs k.0 (g k.0 k.1 k.2) k.2)

-- the candidates in a row of a are as good as all live columns
pub candidates : (preferred : ℕ → ℕ → Bool) (live : List ℕ) (rows transpose : List (List ℕ)) (keep : List Bool) (a i : ℕ) → IsTranspose (length transpose) rows transpose → ((i : ℕ) → IsWithin (row_at rows i) live) → ((c : ℕ) → has c live ≡ true → c < length transpose) → has i (row_at transpose a) ≡ true
    → list_any (dominates preferred transpose keep a) (row_at rows i) ≡ list_any (dominates preferred transpose keep a) live
candidates preferred live rows transpose keep a i x within below h = any_among (dominates preferred transpose keep a) (row_at rows i) live (within i)
    (λ n k o. sym (x.same n i (below n k)) ∙ (dominates_parts preferred transpose keep a n o).stands i h)

-- where a column that a kept one dominates leaves, that one dominates what it dominated
module _ (preferred : ℕ → ℕ → Bool) (trans : (c b a : ℕ) → preferred c b ≡ true → preferred b a ≡ true → preferred c a ≡ true) (live : List ℕ) (transpose : List (List ℕ)) (keep new : List Bool) (a b : ℕ) (h : AreDominatedByKept preferred live transpose keep) (lb : has b live ≡ true) (d : dominates preferred transpose keep a b ≡ true) (u : Unmarks keep a new) where
  over : Dominates preferred transpose keep a b
  over = dominates_parts preferred transpose keep a b d

  as_before : (n : ℕ) → n ≢ a → marked new n ≡ marked keep n
  as_before n k = u.at n ∙ cond-false (eqb n a) _ _ (ne_eqb n a k)

  still : (n c : ℕ) → Dominates preferred transpose keep n c → c ≢ a → dominates preferred transpose new n c ≡ true
  still n c o k = dominates_from preferred transpose new n c (record { apart = o.apart; kept = as_before c k ∙ o.kept; first = o.first; stands = o.stands })

  pub still_dominated : AreDominatedByKept preferred live transpose new
  still_dominated n k m = elim (cases_eq n a) [
    | inl e ↦ (b, lb, subst (λ q. dominates preferred transpose new q b ≡ true) (sym e) (still a b over over.apart))
    | inr e ↦ (
        let w = h n k (sym (as_before n e) ∙ m) in
        let o = dominates_parts preferred transpose keep n w.0 w.2 in
        elim (cases_eq w.0 a) [
          | inl f ↦ (
            b,
            lb,
            dominates_from preferred transpose new n b (record {
              apart = λ g. both_ways _ (sym (as_before n e) ∙ m) (ap (marked keep) (sym g) ∙ over.kept);
              kept = as_before b over.apart ∙ over.kept;
              first = trans b a n over.first (subst (λ q. preferred q n ≡ true) f o.first);
              stands = λ i g. over.stands i (subst (λ q. has i (row_at transpose q) ≡ true) f (o.stands i g));
            }),
          )
          | inr f ↦ (w.0, w.1, still n w.0 o f)
        ])
  ]

  pub falls_by_one : (n : ℕ) → marked new n ≡ true → marked keep n ≡ true
  falls_by_one n m = elim (cases_eq n a) [ inl e ↦ absurd (true≢false (sym m ∙ u.at n ∙ cond-true (eqb n a) _ _ (eq-eqb n a e))) | inr e ↦ sym (as_before n e) ∙ m ]

-- where all marked columns are live, so is the one that dominates it
pub one_leaves : (preferred : ℕ → ℕ → Bool) (trans : (c b a : ℕ) → preferred c b ≡ true → preferred b a ≡ true → preferred c a ≡ true) (live : List ℕ) (transpose : List (List ℕ)) (keep new : List Bool) (a : ℕ) (among : List ℕ)
    → (AreDominatedByKept preferred live transpose keep × ((b : ℕ) → marked keep b ≡ true → has b live ≡ true)) → list_any (dominates preferred transpose keep a) among ≡ true → Unmarks keep a new
    → AreDominatedByKept preferred live transpose new × ((b : ℕ) → marked new b ≡ true → has b live ≡ true)
one_leaves preferred trans live transpose keep new a among h some u =
    let b = any_at (dominates preferred transpose keep a) among some in
    let lb = h.1 b.0 (dominates_parts preferred transpose keep a b.0 b.2).kept in
    (still_dominated preferred trans live transpose keep new a b.0 h.0 lb b.2 u, λ n m. h.1 n (falls_by_one preferred trans live transpose keep new a b.0 h.0 lb b.2 u n m))

module _ (preferred : ℕ → ℕ → Bool) (trans : (c b a : ℕ) → preferred c b ≡ true → preferred b a ≡ true → preferred c a ≡ true) (live : List ℕ) (transpose : List (List ℕ)) (i : ℕ) (keep : List Bool) (l : i < length live) (h : ColumnDominanceSoFar preferred live transpose (take i live) keep) where
  abbrev pub a : ℕ
  a = slice_index_or live i 0

  asked_more : (n : ℕ) → has n (take (i + 1) live) ≡ true → (has n (take i live) ≡ true) ⊎ (n ≡ a)
  asked_more n k = elim (or_cases (has n (take i live)) (eqb n a) (sym (ap (has n) (take_more live i 0 l) ∙ has_append n (take i live) a) ∙ k)) [ inl e ↦ inl e | inr e ↦ inr (eqb-true n a e) ]

  pub keep_miss : list_any (dominates preferred transpose keep a) live ≡ false → ColumnDominanceSoFar preferred live transpose (take (i + 1) live) keep
  keep_miss none = record {
    witnessed = h.witnessed;
    free = λ n k m b p. elim (asked_more n k) [
      | inl e ↦ h.free n e m b p
      | inr e ↦ elim (cases_Bool (dominates preferred transpose keep n b)) [
        | inl f ↦ absurd (both_ways _ none (any_from (dominates preferred transpose keep a) live b p (subst (λ q. dominates preferred transpose keep q b ≡ true) e f)))
        | inr f ↦ f
      ]
    ];
  }

  pub keep_hit : (new : List Bool) → list_any (dominates preferred transpose keep a) live ≡ true → Unmarks keep a new → ColumnDominanceSoFar preferred live transpose (take (i + 1) live) new
  keep_hit new some u = record {
    witnessed = still_dominated preferred trans live transpose keep new a first.0 h.witnessed first.1 first.2 u;
    free = λ n k m b p. elim (asked_more n k) [
      | inl e ↦ elim (cases_Bool (dominates preferred transpose new n b)) [
        | inl f ↦ absurd (both_ways _ (h.free n e (falls n m) b p) (dominates_from preferred transpose keep n b (let o = dominates_parts preferred transpose new n b f in record { apart = o.apart; kept = falls b o.kept; first = o.first; stands = o.stands })))
        | inr f ↦ f
      ]
      | inr e ↦ absurd (true≢false (sym m ∙ u.at n ∙ cond-true (eqb n a) _ _ (eq-eqb n a e)))
    ];
  }
    where
      first : (b : ℕ) × (has b live ≡ true) × (dominates preferred transpose keep a b ≡ true)
      first = any_at (dominates preferred transpose keep a) live some

      falls : (n : ℕ) → marked new n ≡ true → marked keep n ≡ true
      falls = falls_by_one preferred trans live transpose keep new a first.0 h.witnessed first.1 first.2 u

pub keep_start : (preferred : ℕ → ℕ → Bool) (live : List ℕ) (transpose : List (List ℕ)) (keep : List Bool) → ((a : ℕ) → has a live ≡ true → marked keep a ≡ true) → ColumnDominanceSoFar preferred live transpose [] keep
keep_start preferred live transpose keep all = record { witnessed = λ a h m. absurd (both_ways _ m (all a h)); free = λ a h. absurd (true≢false (sym h)) }

pub keep_done : (preferred : ℕ → ℕ → Bool) (live : List ℕ) (transpose : List (List ℕ)) (keep : List Bool) → ColumnDominanceSoFar preferred live transpose live keep → LeavesNoDominatedColumn preferred live transpose keep
keep_done preferred live transpose keep h = record { witnessed = h.witnessed; complete = λ all a b p q. h.free a p (all a p) b q }
