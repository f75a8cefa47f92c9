-- The least covers of two parts that share no column are, together, the least cover.
use Rattle.std.proofs.Common.{◌≡◌, ◌≢◌, ℕ, ◌+◌, ◌<◌, ◌≤◌, ◌⊎◌, inl, inr, Bool, true, false, cond, not, ◌||◌, List, [], ◌∷◌, length, refl, sym, ap, ◌∙◌, arith}
use Rattle.std.specs.Prelude.{filter}
use Rattle.std.specs.List.{AllByRecursion, list_all}
use Rattle.std.specs.Cmp.{both_ways as same_bool}
use Rattle.std.specs.Cmp.Lexicographic.{slice_cmp}
use Rattle.std.specs.Ordering.{nat_cmp}
use Rattle.std.specs.declared.cmp.Ordering.TheVariants.{Less}
use Rattle.std.proofs.lemmas.Bool.{cases_lt, cases_Bool, or_cases, or_left, or_right, or_from, and_parts, both_ways, true≢false, not-true, not_from_false}
use Rattle.std.proofs.lemmas.List.Filters.{length-filter_both}
use Rattle.covering.specs.declared.choice.Choice.{Choice}
use Rattle.covering.specs.Table.{Table, has, RisesFrom, IsWithin, IsTable}
use Rattle.covering.specs.Cover.{meets, IsCover, counted, sum_over, Precedes, IsLeast}
use Rattle.covering.specs.Choices.{union_of}
use Rattle.covering.specs.Parts.{part_of}
use Rattle.covering.proofs.Sets.{has_cases, filter_parts, filter_keeps, filter_rises, meets_at, meets_from, first_by_sets}
use Rattle.covering.proofs.Subsets.{same_list, union_rises, union_left, union_right, union_only, rows_within}
use Rattle.covering.proofs.Covers.{rows_weaker, rows_weaker2}
use Rattle.covering.proofs.BestChoice.{difference, union_length, union_sum}

-- ---- two lists

-- the least number in which they differ is in the first
abbrev Differs : List ℕ → List ℕ → Type 0
Differs s x = (c : ℕ) × (has c s ≡ true) × (has c x ≡ false) × ((m : ℕ) → m < c → has m s ≡ has m x)

-- the first is the second or comes before it
record IsFirst (count : ℕ → ℕ) (s x : List ℕ) : Type 0 where
  long : length s ≤ length x
  counts : length s ≡ length x → sum_over count s ≤ sum_over count x
  differs : length s ≡ length x → sum_over count s ≡ sum_over count x → (s ≡ x) ⊎ Differs s x

is_first : (count : ℕ → ℕ) (s x : List ℕ) → RisesFrom 0 s → RisesFrom 0 x → (s ≡ x) ⊎ Precedes count s x → IsFirst count s x
is_first count s x r q (inl e) = record {
  long = (let l = ap length e in omega arith);
  counts = λ l. (let k = ap (sum_over count) e in omega arith);
  differs = λ l k. inl e;
}
is_first count s x r q (inr (inl h)) = record { long = omega arith; counts = λ l. absurd (omega arith); differs = λ l k. absurd (omega arith) }
is_first count s x r q (inr (inr h)) = record {
  long = omega (arith, h.0);
  counts = λ l. elim h.1 [ inl k ↦ omega arith | inr k ↦ omega (arith, k.0) ];
  differs = λ l k. elim h.1 [ inl m ↦ absurd (omega arith) | inr m ↦ inr (difference 0 s x r q l m.1) ];
}

sum_filter_both : (count : ℕ → ℕ) (side : ℕ → Bool) (xs : List ℕ) → sum_over count (filter side xs) + sum_over count (filter (λ n. not (side n)) xs) ≡ sum_over count xs
sum_filter_both count side [] = omega arith
sum_filter_both count side (x ∷ xs) = go (side x) (sum_filter_both count side xs)
  where
    go : (b : Bool) → sum_over count (filter side xs) + sum_over count (filter (λ n. not (side n)) xs) ≡ sum_over count xs
        → sum_over count (cond b (x ∷ filter side xs) (filter side xs)) + sum_over count (cond (not b) (x ∷ filter (λ n. not (side n)) xs) (filter (λ n. not (side n)) xs)) ≡ count x + sum_over count xs
    go true e = omega arith
    go false e = omega arith

-- the parts of a list on two sides, and lists that come no later than these
module _ (count : ℕ → ℕ) (side : ℕ → Bool) (s r x : List ℕ) (rises_s : RisesFrom 0 s) (rises_r : RisesFrom 0 r) (rises_x : RisesFrom 0 x) (on : (n : ℕ) → has n s ≡ true → side n ≡ true) (off : (n : ℕ) → has n r ≡ true → side n ≡ false) where
  abbrev rest : ℕ → Bool
  rest n = not (side n)

  part_of_x : (n : ℕ) → has n x ≡ true → (has n (filter side x) ≡ true) ⊎ (has n (filter rest x) ≡ true)
  part_of_x n h = elim (cases_Bool (side n)) [ inl e ↦ inl (filter_keeps side n x h e) | inr e ↦ inr (filter_keeps rest n x h (not_from_false (side n) e)) ]

  agree : (m : ℕ) → has m s ≡ has m (filter side x) → has m r ≡ has m (filter rest x) → has m (union_of s r) ≡ has m x
  agree m e f = same_bool (has m (union_of s r)) (has m x)
      (λ h. elim (union_only m s r h) [ inl g ↦ (filter_parts side m x (sym e ∙ g)).0 | inr g ↦ (filter_parts rest m x (sym f ∙ g)).0 ])
      (λ h. elim (part_of_x m h) [ inl g ↦ union_left m s r (e ∙ g) | inr g ↦ union_right m s r (f ∙ g) ])

  less : length (union_of s r) ≡ length x → (c : ℕ) → has c (union_of s r) ≡ true → has c x ≡ false → ((m : ℕ) → m < c → has m s ≡ has m (filter side x)) → ((m : ℕ) → m < c → has m r ≡ has m (filter rest x)) → slice_cmp nat_cmp (union_of s r) x ≡ Less
  less long c h k e f = first_by_sets c 0 (union_of s r) x (union_rises s r rises_s) rises_x long h k (λ m l. agree m (e m l) (f m l))

  not_on : (c : ℕ) → has c s ≡ true → has c (filter side x) ≡ false → has c x ≡ false
  not_on c h k = elim (cases_Bool (has c x)) [ inr e ↦ e | inl e ↦ absurd (both_ways _ k (filter_keeps side c x e (on c h))) ]

  not_off : (c : ℕ) → has c r ≡ true → has c (filter rest x) ≡ false → has c x ≡ false
  not_off c h k = elim (cases_Bool (has c x)) [ inr e ↦ e | inl e ↦ absurd (both_ways _ k (filter_keeps rest c x e (not_from_false (side c) (off c h)))) ]

  tied : length (union_of s r) ≡ length x → (s ≡ filter side x) ⊎ Differs s (filter side x) → (r ≡ filter rest x) ⊎ Differs r (filter rest x) → (union_of s r ≡ x) ⊎ (slice_cmp nat_cmp (union_of s r) x ≡ Less)
  tied long (inl e) (inl f) = inl (same_list 0 (union_of s r) x (union_rises s r rises_s) rises_x
      (λ n h. sym (agree n (ap (has n) e) (ap (has n) f)) ∙ h)
      (λ n h. agree n (ap (has n) e) (ap (has n) f) ∙ h))
  tied long (inl e) (inr g) = inr (less long g.0 (union_right g.0 s r g.1) (not_off g.0 g.1 g.2) (λ m l. ap (has m) e) g.3)
  tied long (inr d) (inl f) = inr (less long d.0 (union_left d.0 s r d.1) (not_on d.0 d.1 d.2) d.3 (λ m l. ap (has m) f))
  tied long (inr d) (inr g) = inr (elim (cases_lt d.0 g.0) [
    | inl l ↦ less long d.0 (union_left d.0 s r d.1) (not_on d.0 d.1 d.2) d.3 (λ m k. g.3 m (omega arith))
    | inr l ↦ less long g.0 (union_right g.0 s r g.1) (not_off g.0 g.1 g.2) (λ m k. d.3 m (omega arith)) g.3
  ])

  pub both_first : (s ≡ filter side x) ⊎ Precedes count s (filter side x) → (r ≡ filter (λ n. not (side n)) x) ⊎ Precedes count r (filter (λ n. not (side n)) x) → (union_of s r ≡ x) ⊎ Precedes count (union_of s r) x
  both_first h k =
      let one = is_first count s (filter side x) rises_s (filter_rises side 0 x rises_x) h in
      let two = is_first count r (filter rest x) rises_r (filter_rises rest 0 x rises_x) k in
      let apart : (n : ℕ) → has n r ≡ true → has n s ≡ false = λ n e. elim (cases_Bool (has n s)) [ inr f ↦ f | inl f ↦ absurd (both_ways _ (off n e) (on n f)) ] in
      let long : length (union_of s r) ≡ length s + length r = union_length 0 s r rises_r apart in
      let sum : sum_over count (union_of s r) ≡ sum_over count s + sum_over count r = union_sum count 0 s r rises_r apart in
      let long_x : length (filter side x) + length (filter rest x) ≡ length x = length-filter_both side rest (λ n. refl) x in
      let sum_x : sum_over count (filter side x) + sum_over count (filter rest x) ≡ sum_over count x = sum_filter_both count side x in
      let long_one = one.long in
      let long_two = two.long in
      elim (cases_lt (length (union_of s r)) (length x)) [
        | inl l ↦ inr (inl l)
        | inr l ↦ (
            let same_one : length s ≡ length (filter side x) = omega arith in
            let same_two : length r ≡ length (filter rest x) = omega arith in
            let same : length (union_of s r) ≡ length x = omega arith in
            let counts_one = one.counts same_one in
            let counts_two = two.counts same_two in
            elim (cases_lt (sum_over count (union_of s r)) (sum_over count x)) [
              | inl m ↦ inr (inr (same, inl m))
              | inr m ↦ (
                  let even_one : sum_over count s ≡ sum_over count (filter side x) = omega arith in
                  let even_two : sum_over count r ≡ sum_over count (filter rest x) = omega arith in
                  let even : sum_over count (union_of s r) ≡ sum_over count x = omega arith in
                  elim (tied same (one.differs same_one even_one) (two.differs same_two even_two)) [ inl e ↦ inl e | inr e ↦ inr (inr (same, inr (even, e))) ])
            ])
      ]

-- ---- two tables

rows_passing : (P Q : List ℕ → Type 0) (test : List ℕ → Bool) (rows : List (List ℕ)) → ((row : List ℕ) → test row ≡ true → P row → Q row) → AllByRecursion P rows → AllByRecursion Q (filter test rows)
rows_passing P Q test [] f h = tt
rows_passing P Q test (row ∷ rows) f h = go (test row) refl (rows_passing P Q test rows f h.1)
  where
    go : (b : Bool) → test row ≡ b → AllByRecursion Q (filter test rows) → AllByRecursion Q (cond b (row ∷ filter test rows) (filter test rows))
    go true e k = (f row e h.0, k)
    go false e k = k

first_passing : (P : List ℕ → Type 0) (test : List ℕ → Bool) (row : List ℕ) (rows : List (List ℕ)) → AllByRecursion P (filter test (row ∷ rows)) → (test row ≡ true → P row) × AllByRecursion P (filter test rows)
first_passing P test row rows h = go (test row) refl h
  where
    go : (b : Bool) → test row ≡ b → AllByRecursion P (cond b (row ∷ filter test rows) (filter test rows)) → (test row ≡ true → P row) × AllByRecursion P (filter test rows)
    go true e k = ((λ f. k.0), k.1)
    go false e k = ((λ f. absurd (both_ways _ e f)), k)

rows_of_both : (P : List ℕ → Type 0) (a b : List ℕ → Bool) (rows : List (List ℕ)) → list_all (λ row. a row || b row) rows ≡ true → AllByRecursion P (filter a rows) → AllByRecursion P (filter b rows) → AllByRecursion P rows
rows_of_both P a b [] e h k = tt
rows_of_both P a b (row ∷ rows) e h k =
    let p = and_parts (a row || b row) (list_all (λ r. a r || b r) rows) e in
    let f = first_passing P a row rows h in
    let g = first_passing P b row rows k in (
      elim (or_cases (a row) (b row) p.0) [ inl i ↦ f.0 i | inr i ↦ g.0 i ],
      rows_of_both P a b rows p.1 f.1 g.1,
    )

pub all_has : (test : ℕ → Bool) (c : ℕ) (row : List ℕ) → list_all test row ≡ true → has c row ≡ true → test c ≡ true
all_has test c [] h k = absurd (true≢false (sym k))
all_has test c (d ∷ row) h k = let p = and_parts (test d) (list_all test row) h in elim (has_cases c d row k) [ inl e ↦ ap test e ∙ p.0 | inr e ↦ all_has test c row p.1 e ]

pub part_table : (test : ℕ → Bool) (taken : List ℕ) (t : Table) → IsTable t → RisesFrom 0 taken → IsWithin taken t.taken → IsTable (part_of test taken t)
part_table test taken t w rises within = record {
  taken_rises = rises;
  live_rises = filter_rises test 0 t.live w.live_rises;
  apart = λ n h. elim (cases_Bool (has n taken)) [ inr e ↦ e | inl e ↦ absurd (both_ways _ (w.apart n (filter_parts test n t.live h).0) (within n e)) ];
  within = λ n h. w.within n (filter_parts test n t.live h).0;
  taken_within = λ n h. w.taken_within n (within n h);
  rows = rows_passing (λ row. (row ≢ []) × RisesFrom 0 row × IsWithin row t.live) (λ row. (row ≢ []) × RisesFrom 0 row × IsWithin row (filter test t.live)) (list_all test) t.rows
      (λ row e h. (h.0, h.1, λ n k. filter_keeps test n t.live (h.2 n k) (all_has test n row e k))) w.rows;
  weighed = w.weighed;
}

module _ (t : Table) (p q : ℕ → Bool) (w : IsTable t) (other : (c : ℕ) → has c t.live ≡ true → q c ≡ not (p c)) (parted : list_all (λ row. list_all p row || list_all q row) t.rows ≡ true) where
  -- the columns of the first part, with all that are taken
  abbrev side : ℕ → Bool
  side n = has n t.taken || p n

  met : (x : List ℕ) → IsCover t x → AllByRecursion (λ row. (meets x row ≡ true) × IsWithin row t.live) t.rows
  met x h = rows_weaker2 (λ row. meets x row ≡ true) (λ row. IsWithin row t.live) (λ row. (meets x row ≡ true) × IsWithin row t.live) t.rows (λ row a b. (a, b)) h.rows (rows_within t t.rows w.rows)

  off_side : (n : ℕ) → has n t.live ≡ true → q n ≡ true → side n ≡ false
  off_side n l e = or_from (has n t.taken) (p n) (w.apart n l) (not-true (p n) (sym (other n l) ∙ e))

  cover_one : (x : List ℕ) → IsCover t x → IsCover (part_of p t.taken t) (filter side x)
  cover_one x h = record {
    rises = filter_rises side 0 x h.rises;
    taken = λ n e. filter_keeps side n x (h.taken n e) (or_left _ _ e);
    only = λ n e. let f = filter_parts side n x e in elim (or_cases (has n t.taken) (has n t.live) (h.only n f.0)) [
      | inl g ↦ or_left _ _ g
      | inr g ↦ or_right (has n t.taken) _ (filter_keeps p n t.live g (elim (or_cases (has n t.taken) (p n) f.1) [ inl i ↦ absurd (both_ways _ (w.apart n g) i) | inr i ↦ i ]))
    ];
    rows = rows_passing (λ row. (meets x row ≡ true) × IsWithin row t.live) (λ row. meets (filter side x) row ≡ true) (list_all p) t.rows
        (λ row e f. let m = meets_at x row f.0 in meets_from m.0 (filter side x) row (filter_keeps side m.0 x m.1 (or_right (has m.0 t.taken) _ (all_has p m.0 row e m.2))) m.2) (met x h);
  }

  cover_other : (x : List ℕ) → IsCover t x → IsCover (part_of q [] t) (filter (λ n. not (side n)) x)
  cover_other x h = record {
    rises = filter_rises (λ n. not (side n)) 0 x h.rises;
    taken = λ n e. absurd (true≢false (sym e));
    only = λ n e.
        let f = filter_parts (λ m. not (side m)) n x e in
        let off = not-true (side n) f.1 in
        elim (or_cases (has n t.taken) (has n t.live) (h.only n f.0)) [
          | inl g ↦ absurd (both_ways _ off (or_left _ _ g))
          | inr g ↦ filter_keeps q n t.live g (other n g ∙ not_from_false (p n) (elim (cases_Bool (p n)) [ inr i ↦ i | inl i ↦ absurd (both_ways _ off (or_right (has n t.taken) _ i)) ]))
        ];
    rows = rows_passing (λ row. (meets x row ≡ true) × IsWithin row t.live) (λ row. meets (filter (λ n. not (side n)) x) row ≡ true) (list_all q) t.rows
        (λ row e f. let m = meets_at x row f.0 in meets_from m.0 (filter (λ n. not (side n)) x) row (filter_keeps (λ n. not (side n)) m.0 x m.1 (not_from_false (side m.0) (off_side m.0 (f.1 m.0 m.2) (all_has q m.0 row e m.2)))) m.2) (met x h);
  }

  cover_both : (s x : List ℕ) → IsCover (part_of p t.taken t) s → IsCover (part_of q [] t) x → IsCover t (union_of s x)
  cover_both s x h k = record {
    rises = union_rises s x h.rises;
    taken = λ n e. union_left n s x (h.taken n e);
    only = λ n e. elim (union_only n s x e) [
      | inl f ↦ elim (or_cases (has n t.taken) (has n (filter p t.live)) (h.only n f)) [ inl g ↦ or_left _ _ g | inr g ↦ or_right (has n t.taken) _ (filter_parts p n t.live g).0 ]
      | inr f ↦ or_right (has n t.taken) _ (filter_parts q n t.live (k.only n f)).0
    ];
    rows = rows_of_both (λ row. meets (union_of s x) row ≡ true) (list_all p) (list_all q) t.rows parted
        (rows_weaker (λ row. meets s row ≡ true) (λ row. meets (union_of s x) row ≡ true) (filter (list_all p) t.rows) (λ row e. let m = meets_at s row e in meets_from m.0 (union_of s x) row (union_left m.0 s x m.1) m.2) h.rows)
        (rows_weaker (λ row. meets x row ≡ true) (λ row. meets (union_of s x) row ≡ true) (filter (list_all q) t.rows) (λ row e. let m = meets_at x row e in meets_from m.0 (union_of s x) row (union_right m.0 s x m.1) m.2) k.rows);
  }

  pub parts_least : (choice : Choice) (s x : List ℕ) → IsLeast choice (part_of p t.taken t) s → IsLeast choice (part_of q [] t) x → IsLeast choice t (union_of s x)
  parts_least choice s x h k = record {
    cover = cover_both s x h.cover k.cover;
    first = λ y g. both_first (counted choice t.weights) side s x y h.cover.rises k.cover.rises g.rises
        (λ n e. elim (or_cases (has n t.taken) (has n (filter p t.live)) (h.cover.only n e)) [ inl f ↦ or_left _ _ f | inr f ↦ or_right (has n t.taken) _ (filter_parts p n t.live f).1 ])
        (λ n e. let f = filter_parts q n t.live (k.cover.only n e) in off_side n f.0 f.1)
        (h.first (filter side y) (cover_one y g)) (k.first (filter (λ n. not (side n)) y) (cover_other y g));
  }
