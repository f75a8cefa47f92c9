-- A table in numbers of its own: its live columns, in their order.
use Rattle.std.proofs.Common.{◌≡◌, ℕ, zero, suc, ◌+◌, ◌<◌, ◌≤◌, ◌⊎◌, inl, inr, true, List, [], ◌∷◌, length, map, slice_index_or, refl, sym, ap, subst, ◌∙◌, arith}
use Rattle.std.specs.Prelude.{◌-◌, filter, Option, Some, None, MatchOption, IfSome}
use Rattle.std.specs.Option.{option_map}
use Rattle.std.specs.List.{AllByRecursion, range_with_len}
use Rattle.std.specs.Cmp.{both_ways as same_bool}
use Rattle.std.proofs.lemmas.Bool.{cases_order, cases_Bool, or_cases, or_left, or_right, both_ways, true≢false}
use Rattle.std.proofs.lemmas.List.{length-map}
use Rattle.std.proofs.lemmas.List.FromFn.{length-range_with_len}
use Rattle.covering.specs.declared.choice.Choice.{Choice}
use Rattle.covering.specs.declared.choice.Choice.TheVariants.{First, Literals}
use Rattle.covering.specs.Table.{Table, has, RisesFrom, IsTable, AreRows, fresh}
use Rattle.covering.specs.Cover.{meets, IsCover, counted, sum_over, Precedes, IsLeast}
use Rattle.covering.specs.Choices.{union_of}
use Rattle.covering.specs.Search.{Answers}
use Rattle.covering.specs.Parts.{IsRenumbered, pick, in_numbers_of}
use Rattle.covering.proofs.Sets.{has_here, has_later, has_cases, rises_above, filter_parts, filter_keeps, filter_rises, meets_at, meets_from, first_by_sets}
use Rattle.covering.proofs.Subsets.{same_list, minus, minus_only, minus_lacks, minus_keeps, minus_length, minus_sum, union_rises, union_left, union_right, union_only}
use Rattle.covering.proofs.Covers.{rows_mapped}
use Rattle.covering.proofs.Rising.{range_rises, range_has, range_below}
use Rattle.covering.proofs.BestChoice.{difference, union_length, union_sum, minus_rises}

-- ---- the numbers of a rising list

pub pick_has : (xs : List ℕ) (i : ℕ) → i < length xs → has (pick xs i) xs ≡ true
pick_has [] i h = absurd (omega arith)
pick_has (x ∷ xs) zero h = has_here x x xs refl
pick_has (x ∷ xs) (suc i) h = has_later (pick xs i) x xs (pick_has xs i (omega arith))

pub pick_rises : (l : ℕ) (xs : List ℕ) (i j : ℕ) → RisesFrom l xs → i < j → j < length xs → pick xs i < pick xs j
pick_rises l [] i j r h k = absurd (omega arith)
pick_rises l (x ∷ xs) i zero r h k = absurd (omega arith)
pick_rises l (x ∷ xs) zero (suc j) r h k = let up = rises_above (pick xs j) (suc x) xs r.1 (pick_has xs j (omega arith)) in omega arith
pick_rises l (x ∷ xs) (suc i) (suc j) r h k = pick_rises (suc x) xs i j r.1 (omega arith) (omega arith)

pub place_of : (n : ℕ) (xs : List ℕ) → has n xs ≡ true → (i : ℕ) × (i < length xs) × (pick xs i ≡ n)
place_of n [] h = absurd (true≢false (sym h))
place_of n (x ∷ xs) h = elim (has_cases n x xs h) [
  | inl e ↦ (0, omega arith, sym e)
  | inr e ↦ (let p = place_of n xs e in (suc p.0, (let l = p.1 in omega arith), p.2))
]

pick_map : (f : ℕ → ℕ) (xs : List ℕ) (i : ℕ) → i < length xs → slice_index_or (map f xs) i 0 ≡ f (pick xs i)
pick_map f [] i h = absurd (omega arith)
pick_map f (x ∷ xs) zero h = refl
pick_map f (x ∷ xs) (suc i) h = pick_map f xs i (omega arith)

pub map_keeps : (f : ℕ → ℕ) (i : ℕ) (xs : List ℕ) → has i xs ≡ true → has (f i) (map f xs) ≡ true
map_keeps f i [] h = absurd (true≢false (sym h))
map_keeps f i (x ∷ xs) h = elim (has_cases i x xs h) [ inl e ↦ has_here (f i) (f x) (map f xs) (ap f e) | inr e ↦ has_later (f i) (f x) (map f xs) (map_keeps f i xs e) ]

pub map_only : (f : ℕ → ℕ) (n : ℕ) (xs : List ℕ) → has n (map f xs) ≡ true → (i : ℕ) × (has i xs ≡ true) × (f i ≡ n)
map_only f n [] h = absurd (true≢false (sym h))
map_only f n (x ∷ xs) h = elim (has_cases n (f x) (map f xs) h) [
  | inl e ↦ (x, has_here x x xs refl, sym e)
  | inr e ↦ (let p = map_only f n xs e in (p.0, has_later p.0 x xs p.1, p.2))
]

pub map_rises : (live : List ℕ) (l b : ℕ) (xs : List ℕ) → RisesFrom 0 live → RisesFrom l xs → ((i : ℕ) → has i xs ≡ true → i < length live) → ((i : ℕ) → l ≤ i → i < length live → b ≤ pick live i) → RisesFrom b (map (pick live) xs)
map_rises live l b [] q r below up = tt
map_rises live l b (x ∷ xs) q r below up = (
  up x r.0 (below x (has_here x x xs refl)),
  map_rises live (suc x) (suc (pick live x)) xs q r.1 (λ i h. below i (has_later i x xs h)) (λ i h k. pick_rises 0 live x i q (omega arith) k),
)

sum_map : (count own : ℕ → ℕ) (f : ℕ → ℕ) (xs : List ℕ) → ((i : ℕ) → has i xs ≡ true → own i ≡ count (f i)) → sum_over count (map f xs) ≡ sum_over own xs
sum_map count own f [] e = refl
sum_map count own f (x ∷ xs) e = let k = sum_map count own f xs (λ i h. e i (has_later i x xs h)) in let one = e x (has_here x x xs refl) in omega arith

-- a cover has live columns beside the taken ones
pub rest_live : (t : Table) (x : List ℕ) → IsCover t x → (n : ℕ) → has n (minus x t.taken) ≡ true → has n t.live ≡ true
rest_live t x h n e = elim (or_cases (has n t.taken) (has n t.live) (h.only n (minus_only n x t.taken e))) [
  | inl f ↦ absurd (both_ways _ (minus_lacks n x t.taken h.rises e) f)
  | inr f ↦ f
]

-- ---- the tables

module _ (t : Table) (w : IsTable t) (rows : List (List ℕ)) (weights : List ℕ) (same_rows : map (map (pick t.live)) rows ≡ t.rows) (are : AreRows (length weights) rows) (same_weights : weights ≡ map (λ c. slice_index_or t.weights c 0) t.live) where
  long : length weights ≡ length t.live
  long = ap length same_weights ∙ length-map t.live (λ c. slice_index_or t.weights c 0)

  counts : (choice : Choice) (i : ℕ) → i < length t.live → counted choice weights i ≡ counted choice t.weights (pick t.live i)
  counts First i h = refl
  counts Literals i h = ap (λ ws. slice_index_or ws i 0) same_weights ∙ pick_map (λ c. slice_index_or t.weights c 0) t.live i h

  below : (s : List ℕ) → IsCover (fresh rows weights) s → (i : ℕ) → has i s ≡ true → i < length t.live
  below s h i e = let l = range_below i 0 (length weights) (h.only i e) in let m = long in omega arith

  -- the cover in the numbers of the first table
  abbrev back : List ℕ → List ℕ
  back s = map (pick t.live) s

  back_live : (s : List ℕ) → IsCover (fresh rows weights) s → (n : ℕ) → has n (back s) ≡ true → has n t.live ≡ true
  back_live s h n e = let p = map_only (pick t.live) n s e in subst (λ m. has m t.live ≡ true) p.2 (pick_has t.live p.0 (below s h p.0 p.1))

  back_rises : (s : List ℕ) → IsCover (fresh rows weights) s → RisesFrom 0 (back s)
  back_rises s h = map_rises t.live 0 0 s w.live_rises h.rises (below s h) (λ i l m. omega arith)

  back_cover : (s : List ℕ) → IsCover (fresh rows weights) s → IsCover t (union_of t.taken (back s))
  back_cover s h = record {
    rises = union_rises t.taken (back s) w.taken_rises;
    taken = λ n e. union_left n t.taken (back s) e;
    only = λ n e. elim (union_only n t.taken (back s) e) [ inl f ↦ or_left _ _ f | inr f ↦ or_right (has n t.taken) _ (back_live s h n f) ];
    rows = subst (AllByRecursion (λ row. meets (union_of t.taken (back s)) row ≡ true)) same_rows
        (rows_mapped (λ row. meets s row ≡ true) (λ row. meets (union_of t.taken (back s)) row ≡ true) (map (pick t.live)) rows
        (λ row e. let m = meets_at s row e in meets_from (pick t.live m.0) (union_of t.taken (back s)) (map (pick t.live) row) (union_right (pick t.live m.0) t.taken (back s) (map_keeps (pick t.live) m.0 s m.1)) (map_keeps (pick t.live) m.0 row m.2)) h.rows);
  }

  -- a cover of the first table in the numbers of the second
  abbrev forth : List ℕ → List ℕ
  forth x = filter (λ i. has (pick t.live i) x) (range_with_len 0 (length weights))

  forth_has : (x : List ℕ) (i : ℕ) → i < length t.live → has (pick t.live i) x ≡ true → has i (forth x) ≡ true
  forth_has x i l h = filter_keeps (λ j. has (pick t.live j) x) i (range_with_len 0 (length weights)) (range_has i 0 (length weights) (omega arith) (let m = long in omega arith)) h

  all_below : (rs : List (List ℕ)) → AreRows (length weights) rs → AllByRecursion (λ row. (i : ℕ) → has i row ≡ true → i < length t.live) rs
  all_below [] h = tt
  all_below (r ∷ rs) h = ((λ i e. let l = h.0.2 i e in let m = long in omega arith), all_below rs h.1)

  forth_rows : (x : List ℕ) (rs : List (List ℕ)) → AllByRecursion (λ row. (i : ℕ) → has i row ≡ true → i < length t.live) rs → AllByRecursion (λ row. meets x row ≡ true) (map (map (pick t.live)) rs) → AllByRecursion (λ row. meets (forth x) row ≡ true) rs
  forth_rows x [] b h = tt
  forth_rows x (r ∷ rs) b h =
      let m = meets_at x (map (pick t.live) r) h.0 in
      let p = map_only (pick t.live) m.0 r m.2 in (
        meets_from p.0 (forth x) r (forth_has x p.0 (b.0 p.0 p.1) (subst (λ n. has n x ≡ true) (sym p.2) m.1)) p.1,
        forth_rows x rs b.1 h.1,
      )

  forth_cover : (x : List ℕ) → IsCover t x → IsCover (fresh rows weights) (forth x)
  forth_cover x h = record {
    rises = filter_rises (λ i. has (pick t.live i) x) 0 (range_with_len 0 (length weights)) (range_rises 0 (length weights));
    taken = λ n e. absurd (true≢false (sym e));
    only = λ n e. (filter_parts (λ i. has (pick t.live i) x) n (range_with_len 0 (length weights)) e).0;
    rows = forth_rows x rows (all_below rows are) (subst (AllByRecursion (λ row. meets x row ≡ true)) (sym same_rows) h.rows);
  }

  -- the columns of a cover beside the taken ones
  rest_same : (x : List ℕ) → IsCover t x → minus x t.taken ≡ back (forth x)
  rest_same x h = same_list 0 (minus x t.taken) (back (forth x)) (minus_rises x t.taken h.rises) (back_rises (forth x) (forth_cover x h))
      (λ n e. let p = place_of n t.live (rest_live t x h n e) in
      subst (λ m. has m (back (forth x)) ≡ true) p.2 (map_keeps (pick t.live) p.0 (forth x) (forth_has x p.0 p.1 (subst (λ m. has m x ≡ true) (sym p.2) (minus_only n x t.taken e)))))
      (λ n e.
      let p = map_only (pick t.live) n (forth x) e in
      let f = filter_parts (λ i. has (pick t.live i) x) p.0 (range_with_len 0 (length weights)) p.1 in
      minus_keeps n x t.taken (subst (λ m. has m x ≡ true) p.2 f.1)
      (elim (cases_Bool (has n t.taken)) [ inr g ↦ g | inl g ↦ absurd (both_ways _ (w.apart n (back_live (forth x) (forth_cover x h) n e)) g) ]))

  module _ (choice : Choice) (s x : List ℕ) (hs : IsCover (fresh rows weights) s) (hx : IsCover t x) where
    abbrev count : ℕ → ℕ
    count = counted choice t.weights

    abbrev own : ℕ → ℕ
    own = counted choice weights

    long_s : length (union_of t.taken (back s)) ≡ length t.taken + length s
    long_s = union_length 0 t.taken (back s) (back_rises s hs) (λ n e. w.apart n (back_live s hs n e)) ∙ ap (λ n. length t.taken + n) (length-map s (pick t.live))

    sum_s : sum_over count (union_of t.taken (back s)) ≡ sum_over count t.taken + sum_over own s
    sum_s = union_sum count 0 t.taken (back s) (back_rises s hs) (λ n e. w.apart n (back_live s hs n e)) ∙ ap (λ n. sum_over count t.taken + n) (sum_map count own (pick t.live) s (λ i e. counts choice i (below s hs i e)))

    long_x : length x ≡ length t.taken + length (forth x)
    long_x = minus_length 0 x t.taken hx.rises w.taken_rises hx.taken ∙ ap (λ n. length t.taken + n) (ap length (rest_same x hx) ∙ length-map (forth x) (pick t.live))

    sum_x : sum_over count x ≡ sum_over count t.taken + sum_over own (forth x)
    sum_x = minus_sum count 0 x t.taken hx.rises w.taken_rises hx.taken ∙ ap (λ n. sum_over count t.taken + n) (ap (sum_over count) (rest_same x hx) ∙ sum_map count own (pick t.live) (forth x) (λ i e. counts choice i (below (forth x) (forth_cover x hx) i e)))

    agree : (m : ℕ) → ((i : ℕ) → i < length t.live → pick t.live i ≡ m → has i s ≡ has i (forth x)) → has m (union_of t.taken (back s)) ≡ has m x
    agree m e = same_bool (has m (union_of t.taken (back s))) (has m x)
        (λ h. elim (union_only m t.taken (back s) h) [
          | inl g ↦ hx.taken m g
          | inr g ↦ (let p = map_only (pick t.live) m s g in
              subst (λ n. has n x ≡ true) p.2 (filter_parts (λ i. has (pick t.live i) x) p.0 (range_with_len 0 (length weights)) (sym (e p.0 (below s hs p.0 p.1) p.2) ∙ p.1)).1)
        ])
        (λ h. elim (or_cases (has m t.taken) (has m t.live) (hx.only m h)) [
          | inl g ↦ union_left m t.taken (back s) g
          | inr g ↦ (let p = place_of m t.live g in
              union_right m t.taken (back s) (subst (λ n. has n (back s) ≡ true) p.2 (map_keeps (pick t.live) p.0 s (e p.0 p.1 p.2 ∙ forth_has x p.0 p.1 (subst (λ n. has n x ≡ true) (sym p.2) h)))))
        ])

    lower : (i c : ℕ) → i < length t.live → c < length t.live → pick t.live i < pick t.live c → i < c
    lower i c l k h = elim (cases_order i c) [
      | inl e ↦ absurd (let f = ap (pick t.live) e in omega arith)
      | inr (inl e) ↦ e
      | inr (inr e) ↦ absurd (let f = pick_rises 0 t.live c i w.live_rises e l in omega arith)
    ]

    back_first : (s ≡ forth x) ⊎ Precedes own s (forth x) → (union_of t.taken (back s) ≡ x) ⊎ Precedes count (union_of t.taken (back s)) x
    back_first (inl e) = inl (same_list 0 (union_of t.taken (back s)) x (union_rises t.taken (back s) w.taken_rises) hx.rises
        (λ n h. sym (agree n (λ i l k. ap (has i) e)) ∙ h)
        (λ n h. agree n (λ i l k. ap (has i) e) ∙ h))
    back_first (inr (inl l)) = let a = long_s in let b = long_x in inr (inl (omega arith))
    back_first (inr (inr h)) =
        let a = long_s in
        let b = long_x in
        let c = sum_s in
        let d = sum_x in
        let e : length (union_of t.taken (back s)) ≡ length x = omega (arith, h.0) in
        inr (inr (
          e,
          elim h.1 [
            | inl l ↦ inl (omega arith)
            | inr l ↦ inr (
              omega (arith, l.0),
              (
                  let f = difference 0 s (forth x) hs.rises (forth_cover x hx).rises h.0 l.1 in
                  let in_live = below s hs f.0 f.1 in
                  first_by_sets (pick t.live f.0) 0 (union_of t.taken (back s)) x (union_rises t.taken (back s) w.taken_rises) hx.rises e
                  (union_right (pick t.live f.0) t.taken (back s) (map_keeps (pick t.live) f.0 s f.1))
                  (elim (cases_Bool (has (pick t.live f.0) x)) [ inr g ↦ g | inl g ↦ absurd (both_ways _ f.2 (forth_has x f.0 in_live g)) ])
                  (λ m under. agree m (λ i g k. f.3 i (lower i f.0 g in_live (omega arith))))),
            )
          ],
        ))

  back_least : (choice : Choice) (s : List ℕ) → IsLeast choice (fresh rows weights) s → IsLeast choice t (union_of t.taken (back s))
  back_least choice s h = record { cover = back_cover s h.cover; first = λ x g. back_first choice s x h.cover g (h.first (forth x) (forth_cover x g)) }

  -- answers in the numbers of the second table are answers in those of the first
  back_answers : (choice : Choice) (k v : ℕ) (o : Option (List ℕ)) → length t.taken ≤ k → sum_over (counted choice t.weights) t.taken ≤ v
      → Answers choice (fresh rows weights) (k - length t.taken) (v - sum_over (counted choice t.weights) t.taken) o → Answers choice t k v (option_map (in_numbers_of t) o)
  back_answers choice k v None fits counts none = λ x h.
      let l = long_x choice (forth x) x (forth_cover x h) h in
      let m = sum_x choice (forth x) x (forth_cover x h) h in
      elim (none (forth x) (forth_cover x h)) [ inl a ↦ inl (omega arith) | inr a ↦ inr (omega arith) ]
  back_answers choice k v (Some s) fits counts a =
      let h = back_cover s a.cover in
      let l = long_s choice s (in_numbers_of t s) a.cover h in
      let m = sum_s choice s (in_numbers_of t s) a.cover h in
      let f = a.fits in
      let c = a.counts in
      record { cover = h; fits = omega arith; counts = omega arith }

pub renumbered : (t : Table) → IsTable t → (rows : List (List ℕ)) (weights : List ℕ) → map (map (pick t.live)) rows ≡ t.rows → weights ≡ map (λ c. slice_index_or t.weights c 0) t.live
    → (o : Option Table) → MatchOption o (AreRows (length weights) rows → ⊥) (λ u. AreRows (length weights) rows × (u ≡ fresh rows weights)) → IfSome o (IsRenumbered t)
renumbered t w rows weights same_rows same_weights None h = tt
renumbered t w rows weights same_rows same_weights (Some u) h = record {
  least = λ choice s l. back_least t w rows weights same_rows h.0 same_weights choice s (subst (λ g. IsLeast choice g s) h.1 l);
  answers = λ choice k v o fits counts a. back_answers t w rows weights same_rows h.0 same_weights choice k v o fits counts (subst (λ g. Answers choice g (k - length t.taken) (v - sum_over (counted choice t.weights) t.taken) o) h.1 a);
  as_many = ap (λ (g : Table). length g.rows) h.1 ∙ sym (length-map rows (map (pick t.live))) ∙ ap length same_rows;
  as_wide = ap (λ (g : Table). length g.live) h.1 ∙ length-range_with_len 0 (length weights) ∙ ap length same_weights ∙ length-map t.live (λ c. slice_index_or t.weights c 0);
}
