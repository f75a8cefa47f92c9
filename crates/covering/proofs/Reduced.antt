-- The steps of each pass, and that no step is left.
use Rattle.std.proofs.Common.{◌≡◌, ◌≢◌, ℕ, zero, suc, ◌+◌, ◌<◌, ◌≤◌, ◌⊎◌, inl, inr, Bool, true, false, cond, ◌||◌, ◌&&◌, not, eqb, List, [], ◌∷◌, ◌++◌, length, map, refl, sym, ap, subst, ◌∙◌, arith, append_assoc}
use Rattle.std.specs.Prelude.{filter, MatchBool}
use Rattle.std.specs.List.{AllByRecursion, list_all, list_any, range_with_len}
use Rattle.std.proofs.lemmas.Bool.{cases_eq, cases_lt, cases_Bool, or_cases, or_left, or_right, or_from, and_parts, eq-eqb, ne_eqb, eqb-true, both_ways, true≢false, cond-true}
use Rattle.covering.specs.declared.choice.Choice.{Choice}
use Rattle.covering.specs.Table.{Table, has, RisesFrom, IsWithin, IsTable, table_of}
use Rattle.covering.specs.Cover.{meets, counted}
use Rattle.covering.specs.Steps.{without, take_column, drop_column, with_rows, HasRow, StandsWith, IsPreferred, Step, row_leaves, only_column, column_leaves, Steps, done, more, IsReduced}
use Rattle.covering.specs.Choices.{union_of}
use Rattle.covering.specs.Search.{IsWeaklyReduced, marked, keep_columns, IsPruned}
use Rattle.covering.specs.Reduce.{row_at, IsTranspose, MarksInessentialColumns, is_essential_column, rows_from, LeavesNoDominatingRow, HasNoDominatingRow, AreDominatedByKept, LeavesNoDominatedColumn, prefers, HasNoEssentialColumn, HasNoDominatedColumn, Shrinks, take_unmarked}
use Rattle.covering.proofs.Sets.{has_here, has_later, has_cases, lacks_below, filter_parts, filter_keeps, filter_rises, filter_length}
use Rattle.covering.proofs.Subsets.{same_list, union_rises, union_left, union_right, union_only}
use Rattle.covering.proofs.Keeps.{row_live, steps_keep, preferred_apart}
use Rattle.covering.proofs.Made.{table_same}
use Rattle.covering.proofs.Rising.{range_rises, range_has, range_below}
use Rattle.covering.proofs.TransposeSteps.{row_at_none}
use Rattle.covering.proofs.Dominance.{dominates_parts, dominates_from, preferred_from, prefers_from}

-- ---- filters

pub filter_same : {X : Type 0} (p q : X → Bool) (xs : List X) → AllByRecursion (λ x. p x ≡ q x) xs → filter p xs ≡ filter q xs
filter_same p q [] h = refl
filter_same p q (x ∷ xs) h = ap (λ b. cond b (x ∷ filter p xs) (filter p xs)) h.0 ∙ ap (λ ys. cond (q x) (x ∷ ys) ys) (filter_same p q xs h.1)

all_here : (p q : ℕ → Bool) (xs : List ℕ) → ((n : ℕ) → has n xs ≡ true → p n ≡ q n) → AllByRecursion (λ x. p x ≡ q x) xs
all_here p q [] h = tt
all_here p q (x ∷ xs) h = (h x (has_here x x xs refl), all_here p q xs (λ n k. h n (has_later n x xs k)))

pub filter_at : (p q : ℕ → Bool) (xs : List ℕ) → ((n : ℕ) → has n xs ≡ true → p n ≡ q n) → filter p xs ≡ filter q xs
filter_at p q xs h = filter_same p q xs (all_here p q xs h)

filter_twice : {X : Type 0} (p q : X → Bool) (xs : List X) → filter p (filter q xs) ≡ filter (λ x. q x && p x) xs
filter_twice p q [] = refl
filter_twice p q (x ∷ xs) = go (q x) (filter_twice p q xs)
  where
    go : (b : Bool) → filter p (filter q xs) ≡ filter (λ y. q y && p y) xs → filter p (cond b (x ∷ filter q xs) (filter q xs)) ≡ cond (b && p x) (x ∷ filter (λ y. q y && p y) xs) (filter (λ y. q y && p y) xs)
    go true e = ap (λ ys. cond (p x) (x ∷ ys) ys) e
    go false e = e

filter_all : {X : Type 0} (p : X → Bool) (xs : List X) → AllByRecursion (λ x. p x ≡ true) xs → filter p xs ≡ xs
filter_all p [] h = refl
filter_all p (x ∷ xs) h = cond-true (p x) _ _ h.0 ∙ ap (λ ys. x ∷ ys) (filter_all p xs h.1)

all_anywhere : {X : Type 0} (P : X → Type 0) (xs : List X) → ((x : X) → P x) → AllByRecursion P xs
all_anywhere P [] f = tt
all_anywhere P (x ∷ xs) f = (f x, all_anywhere P xs f)

map_same : (f g : List ℕ → List ℕ) (rows : List (List ℕ)) → AllByRecursion (λ row. f row ≡ g row) rows → map f rows ≡ map g rows
map_same f g [] h = refl
map_same f g (row ∷ rows) h = ap (λ r. r ∷ map f rows) h.0 ∙ ap (λ rs. g row ∷ rs) (map_same f g rows h.1)

map_twice : (f g : List ℕ → List ℕ) (rows : List (List ℕ)) → map f (map g rows) ≡ map (λ row. f (g row)) rows
map_twice f g [] = refl
map_twice f g (row ∷ rows) = ap (λ rs. f (g row) ∷ rs) (map_twice f g rows)

map_self : (f : List ℕ → List ℕ) (rows : List (List ℕ)) → ((row : List ℕ) → f row ≡ row) → map f rows ≡ rows
map_self f [] h = refl
map_self f (row ∷ rows) h = ap (λ r. r ∷ map f rows) (h row) ∙ ap (λ rs. row ∷ rs) (map_self f rows h)

pub filter_full : (p : ℕ → Bool) (xs : List ℕ) (n : ℕ) → length (filter p xs) ≡ length xs → has n xs ≡ true → p n ≡ true
filter_full p [] n e h = absurd (true≢false (sym h))
filter_full p (x ∷ xs) n e h = go (p x) refl e (has_cases n x xs h) (filter_full p xs n)
  where
    go : (b : Bool) → p x ≡ b → length (cond b (x ∷ filter p xs) (filter p xs)) ≡ suc (length xs) → (n ≡ x) ⊎ (has n xs ≡ true) → (length (filter p xs) ≡ length xs → has n xs ≡ true → p n ≡ true) → p n ≡ true
    go true f g (inl k) again = ap p k ∙ f
    go true f g (inr k) again = again (omega arith) k
    go false f g k again = absurd (let l = filter_length p xs in omega arith)

pub filter_length_all : (p : ℕ → Bool) (xs : List ℕ) → list_all p xs ≡ true → length (filter p xs) ≡ length xs
filter_length_all p [] h = refl
filter_length_all p (x ∷ xs) h = let k = and_parts (p x) (list_all p xs) h in ap length (cond-true (p x) (x ∷ filter p xs) (filter p xs) k.0) ∙ ap suc (filter_length_all p xs k.1)

pub list_all_from_full : (p : ℕ → Bool) (xs : List ℕ) → ((n : ℕ) → has n xs ≡ true → p n ≡ true) → list_all p xs ≡ true
list_all_from_full p [] h = refl
list_all_from_full p (x ∷ xs) h = ap (λ b. b && list_all p xs) (h x (has_here x x xs refl)) ∙ list_all_from_full p xs (λ n k. h n (has_later n x xs k))

-- where a test refuses one of the list, the filter has fewer
pub filter_not_full : (p : ℕ → Bool) (xs : List ℕ) → list_all p xs ≡ false → length (filter p xs) ≢ length xs
filter_not_full p xs h e = both_ways _ h (list_all_from_full p xs (λ n k. filter_full p xs n e k))

pub eqb_swap : (a b : ℕ) → eqb a b ≡ eqb b a
eqb_swap a b = elim (cases_eq a b) [ inl e ↦ eq-eqb a b e ∙ sym (eq-eqb b a (sym e)) | inr e ↦ ne_eqb a b e ∙ sym (ne_eqb b a (λ f. e (sym f))) ]

-- the list without some numbers
abbrev pub apart_of : List ℕ → ℕ → Bool
apart_of cs n = not (has n cs)

lacking_more : (c : ℕ) (cs xs : List ℕ) → filter (apart_of (c ∷ cs)) xs ≡ without c (filter (apart_of cs) xs)
lacking_more c cs xs = filter_same (apart_of (c ∷ cs)) (λ n. apart_of cs n && not (eqb c n)) xs (all_anywhere (λ n. apart_of (c ∷ cs) n ≡ (apart_of cs n && not (eqb c n))) xs (λ n. both (eqb n c) (has n cs) ∙ ap (λ b. not (has n cs) && not b) (eqb_swap n c))) ∙ sym (filter_twice (λ n. not (eqb c n)) (apart_of cs) xs)
  where
    both : (a b : Bool) → not (a || b) ≡ (not b && not a)
    both true true = refl
    both true false = refl
    both false true = refl
    both false false = refl

-- the numbers that a test refuses, and the test that they give
refused : (keep : List Bool) (xs : List ℕ) (n : ℕ) → has n xs ≡ true → marked keep n ≡ apart_of (filter (λ m. not (marked keep m)) xs) n
refused keep xs n h = go (marked keep n) refl
  where
    go : (b : Bool) → marked keep n ≡ b → b ≡ apart_of (filter (λ m. not (marked keep m)) xs) n
    go true e = elim (cases_Bool (has n (filter (λ m. not (marked keep m)) xs))) [
      | inl f ↦ absurd (true≢false (sym (filter_parts (λ m. not (marked keep m)) n xs f).1 ∙ ap not e))
      | inr f ↦ sym (ap not f)
    ]
    go false e = sym (ap not (filter_keeps (λ m. not (marked keep m)) n xs h (ap not e)))

-- ---- columns leave

keep_more : (t : Table) (c : ℕ) (cs : List ℕ) → keep_columns (apart_of (c ∷ cs)) t ≡ drop_column c (keep_columns (apart_of cs) t)
keep_more t c cs = table_same t.columns t.taken t.taken _ _ _ _ t.weights t.weights refl (lacking_more c cs t.live)
    (map_same (filter (apart_of (c ∷ cs))) (λ row. without c (filter (apart_of cs) row)) t.rows (all_anywhere (λ row. filter (apart_of (c ∷ cs)) row ≡ without c (filter (apart_of cs) row)) t.rows (lacking_more c cs)) ∙ sym (map_twice (without c) (filter (apart_of cs)) t.rows)) refl

keep_none : (t : Table) → keep_columns (apart_of []) t ≡ t
keep_none t = table_same t.columns t.taken t.taken _ _ _ _ t.weights t.weights refl (whole t.live) (map_self (filter (apart_of [])) t.rows whole) refl
  where
    whole : (xs : List ℕ) → filter (apart_of []) xs ≡ xs
    whole xs = filter_all (apart_of []) xs (all_anywhere (λ n. apart_of [] n ≡ true) xs (λ n. refl))

stands_kept : (test : ℕ → Bool) (a b : ℕ) (rows : List (List ℕ)) → test b ≡ true → AllByRecursion (λ row. has a row ≡ true → has b row ≡ true) rows → AllByRecursion (λ row. has a row ≡ true → has b row ≡ true) (map (filter test) rows)
stands_kept test a b [] k h = tt
stands_kept test a b (row ∷ rows) k h = ((λ e. filter_keeps test b row (h.0 (filter_parts test a row e).0) k), stands_kept test a b rows k h.1)

steps_columns : (choice : Choice) (t : Table) (all cs : List ℕ) (l : ℕ) → RisesFrom l cs → ((n : ℕ) → has n cs ≡ true → has n all ≡ true)
    → ((c : ℕ) → has c cs ≡ true → (has c t.live ≡ true) × ((b : ℕ) × (has b t.live ≡ true) × (has b all ≡ false) × IsPreferred (counted choice t.weights) b c × StandsWith t c b))
    → Steps choice t (keep_columns (apart_of cs) t)
steps_columns choice t all [] l r i f = subst (Steps choice t) (sym (keep_none t)) (done t)
steps_columns choice t all (c ∷ cs) l r i f =
    let rest = steps_columns choice t all cs (suc c) r.1 (λ n h. i n (has_later n c cs h)) (λ n h. f n (has_later n c cs h)) in
    let u = keep_columns (apart_of cs) t in
    let now = f c (has_here c c cs refl) in
    let b = now.1.0 in
    let c_stays : apart_of cs c ≡ true = ap not (lacks_below c (suc c) cs r.1 (omega arith)) in
    let b_stays : apart_of cs b ≡ true = elim (cases_Bool (has b cs)) [ inl e ↦ absurd (both_ways _ now.1.2 (i b (has_later b c cs e))) | inr e ↦ ap not e ] in
    let step : Step choice u (drop_column c u) = column_leaves u c b now.1.3 (filter_keeps (apart_of cs) c t.live now.0 c_stays) (filter_keeps (apart_of cs) b t.live now.1.1 b_stays) (stands_kept (apart_of cs) c b t.rows b_stays now.1.4) in
    subst (Steps choice t) (sym (keep_more t c cs)) (more t u (drop_column c u) rest step)

-- rows by their numbers
pub all_at : (P : List ℕ → Type 0) (rows : List (List ℕ)) → ((i : ℕ) → i < length rows → P (row_at rows i)) → AllByRecursion P rows
all_at P [] f = tt
all_at P (row ∷ rows) f = (f 0 (omega arith), all_at P rows (λ i h. f (suc i) (omega arith)))

pub at_all : (P : List ℕ → Type 0) (rows : List (List ℕ)) (i : ℕ) → i < length rows → AllByRecursion P rows → P (row_at rows i)
at_all P [] i h k = absurd (omega arith)
at_all P (row ∷ rows) zero h k = k.0
at_all P (row ∷ rows) (suc i) h k = at_all P rows i (omega arith) k.1

pub stands_from : (columns : ℕ) (rows transpose : List (List ℕ)) (a b : ℕ) → IsTranspose columns rows transpose → a < columns → b < columns → IsWithin (row_at transpose a) (row_at transpose b) → AllByRecursion (λ row. has a row ≡ true → has b row ≡ true) rows
stands_from columns rows transpose a b x la lb w = all_at (λ row. has a row ≡ true → has b row ≡ true) rows (λ i h e. sym (x.same b i lb) ∙ w i (x.same a i la ∙ e))

within_stands : (columns : ℕ) (rows transpose : List (List ℕ)) (a b : ℕ) → IsTranspose columns rows transpose → a < columns → b < columns → AllByRecursion (λ row. has a row ≡ true → has b row ≡ true) rows → IsWithin (row_at transpose a) (row_at transpose b)
within_stands columns rows transpose a b x la lb s i e = elim (cases_lt i (length rows)) [
  | inl l ↦ x.same b i lb ∙ at_all (λ row. has a row ≡ true → has b row ≡ true) rows i l s (sym (x.same a i la) ∙ e)
  | inr l ↦ absurd (true≢false (sym (sym (ap (has a) (row_at_none rows i l)) ∙ (sym (x.same a i la) ∙ e))))
]

rows_within_all : (keep : List Bool) (live : List ℕ) (rows : List (List ℕ)) → AllByRecursion (λ row. (row ≢ []) × RisesFrom 0 row × IsWithin row live) rows → AllByRecursion (λ row. filter (marked keep) row ≡ filter (apart_of (filter (λ m. not (marked keep m)) live)) row) rows
rows_within_all keep live [] h = tt
rows_within_all keep live (row ∷ rows) h = (filter_at (marked keep) (apart_of (filter (λ m. not (marked keep m)) live)) row (λ n k. refused keep live n (h.0.2 n k)), rows_within_all keep live rows h.1)

module _ (choice : Choice) (t : Table) (transpose : List (List ℕ)) (keep : List Bool) (wt : IsTable t) (x : IsTranspose t.columns t.rows transpose) (h : AreDominatedByKept (prefers (counted choice t.weights)) t.live transpose keep) where
  abbrev gone : List ℕ
  gone = filter (λ m. not (marked keep m)) t.live

  column_dominance_steps : Steps choice t (keep_columns (marked keep) t)
  column_dominance_steps = subst (Steps choice t) (sym same) (steps_columns choice t gone gone 0 (filter_rises (λ m. not (marked keep m)) 0 t.live wt.live_rises) (λ n k. k) each)
    where
      same : keep_columns (marked keep) t ≡ keep_columns (apart_of gone) t
      same = table_same t.columns t.taken t.taken _ _ _ _ t.weights t.weights refl (filter_at (marked keep) (apart_of gone) t.live (refused keep t.live)) (map_same (filter (marked keep)) (filter (apart_of gone)) t.rows (rows_within_all keep t.live t.rows wt.rows)) refl

      not_false : (b : Bool) → not b ≡ true → b ≡ false
      not_false true e = sym e
      not_false false e = refl

      each : (c : ℕ) → has c gone ≡ true → (has c t.live ≡ true) × ((b : ℕ) × (has b t.live ≡ true) × (has b gone ≡ false) × IsPreferred (counted choice t.weights) b c × StandsWith t c b)
      each c k =
          let p = filter_parts (λ m. not (marked keep m)) c t.live k in
          let y = h c p.0 (not_false (marked keep c) p.1) in
          let o = dominates_parts (prefers (counted choice t.weights)) transpose keep c y.0 y.2 in
          let stays : has y.0 gone ≡ false = elim (cases_Bool (has y.0 gone)) [ inl e ↦ absurd (true≢false (sym (filter_parts (λ m. not (marked keep m)) y.0 t.live e).1 ∙ ap not o.kept)) | inr e ↦ e ] in
          (p.0, (y.0, y.1, stays, preferred_from (counted choice t.weights) y.0 c o.first, stands_from t.columns t.rows transpose c y.0 x (wt.within c p.0) (wt.within y.0 y.1) o.stands))

  pub column_dominance_shrinks : length (filter (marked keep) t.live) ≢ length t.live → Shrinks choice t (keep_columns (marked keep) t)
  column_dominance_shrinks d = record { steps = column_dominance_steps; smaller = fewer (length (filter (marked keep) t.live)) (length t.live) d (filter_length (marked keep) t.live) (length_map t.rows) }
    where
      length_map : (rows : List (List ℕ)) → length (map (filter (marked keep)) rows) ≡ length rows
      length_map [] = refl
      length_map (row ∷ rows) = ap suc (length_map rows)

      fewer : (a b : ℕ) → a ≢ b → a ≤ b → length (map (filter (marked keep)) t.rows) ≡ length t.rows → a + length (map (filter (marked keep)) t.rows) < b + length t.rows
      fewer a b d l e = elim (cases_lt a b) [ inl m ↦ omega arith | inr m ↦ absurd (d (omega arith)) ]

module _ (choice : Choice) (t : Table) (transpose : List (List ℕ)) (keep : List Bool) (wt : IsTable t) (x : IsTranspose t.columns t.rows transpose) (h : LeavesNoDominatedColumn (prefers (counted choice t.weights)) t.live transpose keep) where
  pub none_dominated : length (filter (marked keep) t.live) ≡ length t.live → HasNoDominatedColumn choice t
  none_dominated e a b la lb p s = both_ways _ (h.complete (λ n k. filter_full (marked keep) t.live n e k) a b la lb) (dominates_from (prefers (counted choice t.weights)) transpose keep a b (record {
    apart = preferred_apart (counted choice t.weights) b a p;
    kept = filter_full (marked keep) t.live b e lb;
    first = prefers_from (counted choice t.weights) b a p;
    stands = within_stands t.columns t.rows transpose a b x (wt.within a la) (wt.within b lb) s;
  }))

-- ---- single columns are taken

abbrev take_list : List ℕ → Table → Table
take_list cs t = table_of t.columns (union_of t.taken cs) (filter (apart_of cs) t.live) (filter (λ row. not (meets cs row)) t.rows) t.weights

meets_none : (row : List ℕ) → meets [] row ≡ false
meets_none [] = refl
meets_none (c ∷ row) = meets_none row

meets_more : (c : ℕ) (cs row : List ℕ) → meets (c ∷ cs) row ≡ (meets cs row || has c row)
meets_more c cs [] = refl
meets_more c cs (d ∷ row) = ap (λ b. (eqb d c || has d cs) || b) (meets_more c cs row) ∙ ap (λ b. (b || has d cs) || (meets cs row || has c row)) (eqb_swap d c) ∙ swap (eqb c d) (has d cs) (meets cs row) (has c row)
  where
    swap : (p q r s : Bool) → ((p || q) || (r || s)) ≡ ((q || r) || (p || s))
    swap true true r s = refl
    swap true false true s = refl
    swap true false false s = refl
    swap false true r s = refl
    swap false false r s = refl

take_none : (t : Table) → take_list [] t ≡ t
take_none t = table_same t.columns _ _ _ _ _ _ t.weights t.weights refl
    (filter_all (apart_of []) t.live (all_anywhere (λ n. apart_of [] n ≡ true) t.live (λ n. refl)))
    (filter_all (λ row. not (meets [] row)) t.rows (all_anywhere (λ row. not (meets [] row) ≡ true) t.rows (λ row. ap not (meets_none row)))) refl

take_more_rows : (c : ℕ) (cs : List ℕ) (rows : List (List ℕ)) → filter (λ row. not (meets (c ∷ cs) row)) rows ≡ filter (λ row. not (has c row)) (filter (λ row. not (meets cs row)) rows)
take_more_rows c cs rows =
    filter_same (λ row. not (meets (c ∷ cs) row)) (λ row. not (meets cs row) && not (has c row)) rows (all_anywhere (λ row. not (meets (c ∷ cs) row) ≡ (not (meets cs row) && not (has c row))) rows (λ row. ap not (meets_more c cs row) ∙ both (meets cs row) (has c row)))
    ∙ sym (filter_twice (λ row. not (has c row)) (λ row. not (meets cs row)) rows)
  where
    both : (a b : Bool) → not (a || b) ≡ (not a && not b)
    both true b = refl
    both false b = refl

take_more_list : (t : Table) (c : ℕ) (cs : List ℕ) → take_list (c ∷ cs) t ≡ take_column c (take_list cs t)
take_more_list t c cs = table_same t.columns _ _ _ _ _ _ t.weights t.weights refl (lacking_more c cs t.live) (take_more_rows c cs t.rows) refl

row_kept : (test : List ℕ → Bool) (row : List ℕ) (rows : List (List ℕ)) → HasRow row rows → test row ≡ true → HasRow row (filter test rows)
row_kept test row [] h e = h
row_kept test row (r ∷ rows) h e = go (test r) refl h (row_kept test row rows)
  where
    go : (b : Bool) → test r ≡ b → HasRow row (r ∷ rows) → (HasRow row rows → test row ≡ true → HasRow row (filter test rows)) → HasRow row (cond b (r ∷ filter test rows) (filter test rows))
    go true f (inl k) again = inl k
    go true f (inr k) again = inr (again k e)
    go false f (inl k) again = absurd (both_ways _ f (ap test (sym k) ∙ e))
    go false f (inr k) again = again k e

steps_essentials : (choice : Choice) (t : Table) (cs : List ℕ) (l : ℕ) → RisesFrom l cs → ((c : ℕ) → has c cs ≡ true → HasRow (c ∷ []) t.rows) → Steps choice t (take_list cs t)
steps_essentials choice t [] l r f = subst (Steps choice t) (sym (take_none t)) (done t)
steps_essentials choice t (c ∷ cs) l r f =
    let rest = steps_essentials choice t cs (suc c) r.1 (λ n h. f n (has_later n c cs h)) in
    let u = take_list cs t in
    let lone : not (meets cs (c ∷ [])) ≡ true = ap not (or_from (has c cs) false (lacks_below c (suc c) cs r.1 (omega arith)) refl) in
    let step : Step choice u (take_column c u) = only_column u c (row_kept (λ row. not (meets cs row)) (c ∷ []) t.rows (f c (has_here c c cs refl)) lone) in
    subst (Steps choice t) (sym (take_more_list t c cs)) (more t u (take_column c u) rest step)

essential_row : (c : ℕ) (row : List ℕ) → is_essential_column c row ≡ true → row ≡ c ∷ []
essential_row c [] h = absurd (true≢false (sym h))
essential_row c (d ∷ []) h = let p = and_parts (eqb (length (d ∷ [])) 1) (has c (d ∷ [])) h in elim (has_cases c d [] p.1) [ inl e ↦ ap (λ n. n ∷ []) (sym e) | inr e ↦ absurd (true≢false (sym e)) ]
essential_row c (d ∷ e ∷ row) h = let p = and_parts (eqb (length (d ∷ e ∷ row)) 1) (has c (d ∷ e ∷ row)) h in absurd (let k = eqb-true (length (d ∷ e ∷ row)) 1 p.0 in omega arith)

pub essential_has : (c : ℕ) (rows : List (List ℕ)) → list_any (is_essential_column c) rows ≡ true → HasRow (c ∷ []) rows
essential_has c [] h = absurd (true≢false (sym h))
essential_has c (row ∷ rows) h = elim (or_cases (is_essential_column c row) (list_any (is_essential_column c) rows) h) [ inl e ↦ inl (sym (essential_row c row e)) | inr e ↦ inr (essential_has c rows e) ]

pub has_essential : (c : ℕ) (rows : List (List ℕ)) → HasRow (c ∷ []) rows → list_any (is_essential_column c) rows ≡ true
has_essential c [] h = absurd h
has_essential c (row ∷ rows) (inl e) = or_left (is_essential_column c row) _ (ap (is_essential_column c) (sym e) ∙ or_left (eqb c c) false (eq-eqb c c refl))
has_essential c (row ∷ rows) (inr e) = or_right (is_essential_column c row) _ (has_essential c rows e)

module _ (choice : Choice) (t : Table) (keep : List Bool) (wt : IsTable t) (h : MarksInessentialColumns t.columns t.rows keep) where
  abbrev essentials : List ℕ
  essentials = filter (λ m. not (marked keep m)) t.live

  essential_at : (c : ℕ) → c < t.columns → marked keep c ≡ false → HasRow (c ∷ []) t.rows
  essential_at c l e = essential_has c t.rows (not_true (list_any (is_essential_column c) t.rows) (sym (h.at c l) ∙ e))
    where
      not_true : (b : Bool) → not b ≡ false → b ≡ true
      not_true true f = refl
      not_true false f = sym f

  of_essentials : (c : ℕ) → has c essentials ≡ true → (has c t.live ≡ true) × (marked keep c ≡ false)
  of_essentials c k = let p = filter_parts (λ m. not (marked keep m)) c t.live k in (p.0, not_false (marked keep c) p.1)
    where
      not_false : (b : Bool) → not b ≡ true → b ≡ false
      not_false true e = sym e
      not_false false e = refl

  taken_same : filter (λ n. has n t.taken || not (marked keep n)) (range_with_len 0 t.columns) ≡ union_of t.taken essentials
  taken_same = same_list 0 (filter (λ n. has n t.taken || not (marked keep n)) (range_with_len 0 t.columns)) (union_of t.taken essentials) (filter_rises _ 0 _ (range_rises 0 t.columns)) (union_rises t.taken essentials wt.taken_rises)
      (λ n k. let p = filter_parts (λ m. has m t.taken || not (marked keep m)) n (range_with_len 0 t.columns) k in elim (or_cases (has n t.taken) (not (marked keep n)) p.1) [
        | inl e ↦ union_left n t.taken essentials e
        | inr e ↦ union_right n t.taken essentials (let b = range_below n 0 t.columns p.0 in filter_keeps (λ m. not (marked keep m)) n t.live (row_live t n wt (essential_at n (omega arith) (not_false (marked keep n) e))) e)
      ])
      (λ n k. elim (union_only n t.taken essentials k) [
        | inl e ↦ filter_keeps (λ m. has m t.taken || not (marked keep m)) n (range_with_len 0 t.columns) (range_has n 0 t.columns (omega arith) (let b = wt.taken_within n e in omega arith)) (or_left (has n t.taken) _ e)
        | inr e ↦ (let p = of_essentials n e in filter_keeps (λ m. has m t.taken || not (marked keep m)) n (range_with_len 0 t.columns) (range_has n 0 t.columns (omega arith) (let b = wt.within n p.0 in omega arith)) (or_right (has n t.taken) _ (ap not p.1)))
      ])
    where
      not_false : (b : Bool) → not b ≡ true → b ≡ false
      not_false true e = sym e
      not_false false e = refl

  rows_same : (rows : List (List ℕ)) → AllByRecursion (λ row. (row ≢ []) × RisesFrom 0 row × IsWithin row t.live) rows → AllByRecursion (λ row. list_all (marked keep) row ≡ not (meets essentials row)) rows
  rows_same [] a = tt
  rows_same (row ∷ rows) a = (one row a.0.2, rows_same rows a.1)
    where
      one : (row : List ℕ) → IsWithin row t.live → list_all (marked keep) row ≡ not (meets essentials row)
      one [] w = refl
      one (c ∷ row) w = ap (λ b. b && list_all (marked keep) row) (refused keep t.live c (w c (has_here c c row refl))) ∙ ap (λ b. apart_of essentials c && b) (one row (λ n k. w n (has_later n c row k))) ∙ join_not (has c essentials) (meets essentials row)
        where
          join_not : (a b : Bool) → (not a && not b) ≡ not (a || b)
          join_not true b = refl
          join_not false b = refl

  pub essentials_same : take_unmarked keep t ≡ take_list essentials t
  essentials_same = table_same t.columns _ _ _ _ _ _ t.weights t.weights taken_same (filter_at (marked keep) (apart_of essentials) t.live (refused keep t.live)) (filter_same (list_all (marked keep)) (λ row. not (meets essentials row)) t.rows (rows_same t.rows wt.rows)) refl

  essentials_steps : Steps choice t (take_unmarked keep t)
  essentials_steps = subst (Steps choice t) (sym essentials_same) (steps_essentials choice t essentials 0 (filter_rises (λ m. not (marked keep m)) 0 t.live wt.live_rises) (λ c k. let p = of_essentials c k in essential_at c (wt.within c p.0) p.1))

  pub essentials_shrink : length (filter (marked keep) t.live) ≢ length t.live → Shrinks choice t (take_unmarked keep t)
  essentials_shrink d = record { steps = essentials_steps; smaller = fewer (length (filter (marked keep) t.live)) (length t.live) d (filter_length (marked keep) t.live) (shorter t.rows) }
    where
      shorter : (rows : List (List ℕ)) → length (filter (list_all (marked keep)) rows) ≤ length rows
      shorter [] = omega arith
      shorter (row ∷ rows) = go (list_all (marked keep) row) (shorter rows)
        where
          go : (b : Bool) → length (filter (list_all (marked keep)) rows) ≤ length rows → length (cond b (row ∷ filter (list_all (marked keep)) rows) (filter (list_all (marked keep)) rows)) ≤ length (row ∷ rows)
          go true k = omega arith
          go false k = omega arith

      fewer : (a b : ℕ) → a ≢ b → a ≤ b → length (filter (list_all (marked keep)) t.rows) ≤ length t.rows → a + length (filter (list_all (marked keep)) t.rows) < b + length t.rows
      fewer a b d l e = elim (cases_lt a b) [ inl m ↦ omega arith | inr m ↦ absurd (d (omega arith)) ]

  pub none_essential : length (filter (marked keep) t.live) ≡ length t.live → HasNoEssentialColumn t
  none_essential e c k =
      let l = row_live t c wt k in
      true≢false (sym (filter_full (marked keep) t.live c e l) ∙ h.at c (wt.within c l) ∙ ap not (has_essential c t.rows k))

pub essentials_table : (choice : Choice) (t : Table) (keep : List Bool) → IsTable t → MarksInessentialColumns t.columns t.rows keep → IsTable (take_unmarked keep t)
essentials_table choice t keep wt h = (steps_keep choice t (take_unmarked keep t) wt (essentials_steps choice t keep wt h)).0

-- ---- rows leave

cons_step : (choice : Choice) (t u v : Table) → Step choice t u → Steps choice u v → Steps choice t v
cons_step choice t u _ s (done _) = more t t u (done t) s
cons_step choice t u _ s (more _ w v h k) = more t w v (cons_step choice t u w s h) k

row_in_left : (v : List ℕ) (xs ys : List (List ℕ)) → HasRow v xs → HasRow v (xs ++ ys)
row_in_left v [] ys h = absurd h
row_in_left v (x ∷ xs) ys (inl e) = inl e
row_in_left v (x ∷ xs) ys (inr e) = inr (row_in_left v xs ys e)

row_in_right : (v : List ℕ) (xs ys : List (List ℕ)) → HasRow v ys → HasRow v (xs ++ ys)
row_in_right v [] ys h = h
row_in_right v (x ∷ xs) ys h = inr (row_in_right v xs ys h)

row_in_split : (v : List ℕ) (xs ys : List (List ℕ)) → HasRow v (xs ++ ys) → HasRow v xs ⊎ HasRow v ys
row_in_split v [] ys h = inr h
row_in_split v (x ∷ xs) ys (inl e) = inl (inl e)
row_in_split v (x ∷ xs) ys (inr e) = elim (row_in_split v xs ys e) [ inl k ↦ inl (inr k) | inr k ↦ inr k ]

from_rows : (test : ℕ → Bool) (i : ℕ) (rows : List (List ℕ)) (v : List ℕ) → HasRow v (rows_from test i rows) → HasRow v rows
from_rows test i [] v h = h
from_rows test i (row ∷ rows) v h = go (test i) h (from_rows test (i + 1) rows v)
  where
    go : (b : Bool) → HasRow v (cond b (row ∷ rows_from test (i + 1) rows) (rows_from test (i + 1) rows)) → (HasRow v (rows_from test (i + 1) rows) → HasRow v rows) → HasRow v (row ∷ rows)
    go true (inl e) again = inl e
    go true (inr e) again = inr (again e)
    go false k again = inr (again k)

steps_rows : (choice : Choice) (t : Table) (test : ℕ → Bool) (i : ℕ) (front rows : List (List ℕ))
    → ((k : ℕ) → k < length rows → test (i + k) ≡ false → (other : List ℕ) × HasRow other (front ++ rows_from test i rows) × IsWithin other (row_at rows k))
    → Steps choice (with_rows t (front ++ rows)) (with_rows t (front ++ rows_from test i rows))
steps_rows choice t test i front [] f = done (with_rows t (front ++ []))
steps_rows choice t test i front (row ∷ rows) f = go (test i) refl f (λ new g. steps_rows choice t test (i + 1) new rows g)
  where
    go : (b : Bool) → test i ≡ b → ((k : ℕ) → k < length (row ∷ rows) → test (i + k) ≡ false → (other : List ℕ) × HasRow other (front ++ cond b (row ∷ rows_from test (i + 1) rows) (rows_from test (i + 1) rows)) × IsWithin other (row_at (row ∷ rows) k))
        → ((new : List (List ℕ)) → ((k : ℕ) → k < length rows → test (i + 1 + k) ≡ false → (other : List ℕ) × HasRow other (new ++ rows_from test (i + 1) rows) × IsWithin other (row_at rows k)) → Steps choice (with_rows t (new ++ rows)) (with_rows t (new ++ rows_from test (i + 1) rows)))
        → Steps choice (with_rows t (front ++ row ∷ rows)) (with_rows t (front ++ cond b (row ∷ rows_from test (i + 1) rows) (rows_from test (i + 1) rows)))
    go true e g next =
        let again = next (front ++ row ∷ []) (λ k l m.
        let o = g (suc k) (omega arith) (ap test (let e : i + suc k ≡ i + 1 + k = omega arith in e) ∙ m) in
        (o.0, subst (HasRow o.0) (sym (append_assoc front (row ∷ []) (rows_from test (i + 1) rows))) o.1, o.2)) in
        subst (λ xs. Steps choice (with_rows t xs) (with_rows t (front ++ row ∷ rows_from test (i + 1) rows))) (append_assoc front (row ∷ []) rows)
        (subst (λ xs. Steps choice (with_rows t ((front ++ row ∷ []) ++ rows)) (with_rows t xs)) (append_assoc front (row ∷ []) (rows_from test (i + 1) rows)) again)
    go false e g next =
        let o = g 0 (omega arith) (ap test (let z : i + 0 ≡ i = omega arith in z) ∙ e) in
        let there : HasRow o.0 (front ++ rows) = elim (row_in_split o.0 front (rows_from test (i + 1) rows) o.1) [ inl k ↦ row_in_left o.0 front rows k | inr k ↦ row_in_right o.0 front rows (from_rows test (i + 1) rows o.0 k) ] in
        let step : Step choice (with_rows t (front ++ row ∷ rows)) (with_rows t (front ++ rows)) = row_leaves (with_rows t (front ++ row ∷ rows)) front rows row o.0 refl o.2 there in
        cons_step choice _ _ _ step (next front (λ k l m. let p = g (suc k) (omega arith) (ap test (let z : i + suc k ≡ i + 1 + k = omega arith in z) ∙ m) in (p.0, p.1, p.2)))

rows_from_has : (test : ℕ → Bool) (i j : ℕ) (rows : List (List ℕ)) → j < length rows → test (i + j) ≡ true → HasRow (row_at rows j) (rows_from test i rows)
rows_from_has test i j [] l h = absurd (omega arith)
rows_from_has test i zero (row ∷ rows) l h = go (test i) (sym (ap test (let e : i + 0 ≡ i = omega arith in e)) ∙ h)
  where
    go : (b : Bool) → b ≡ true → HasRow row (cond b (row ∷ rows_from test (i + 1) rows) (rows_from test (i + 1) rows))
    go true e = inl refl
    go false e = absurd (true≢false (sym e))
rows_from_has test i (suc j) (row ∷ rows) l h = go (test i) (rows_from_has test (i + 1) j rows (omega arith) (ap test (let e : i + 1 + j ≡ i + suc j = omega arith in e) ∙ h))
  where
    go : (b : Bool) → HasRow (row_at rows j) (rows_from test (i + 1) rows) → HasRow (row_at rows j) (cond b (row ∷ rows_from test (i + 1) rows) (rows_from test (i + 1) rows))
    go true k = inr k
    go false k = k

rows_from_length : (test : ℕ → Bool) (i : ℕ) (rows : List (List ℕ)) → length (rows_from test i rows) ≤ length rows
rows_from_length test i [] = omega arith
rows_from_length test i (row ∷ rows) = go (test i) (rows_from_length test (i + 1) rows)
  where
    go : (b : Bool) → length (rows_from test (i + 1) rows) ≤ length rows → length (cond b (row ∷ rows_from test (i + 1) rows) (rows_from test (i + 1) rows)) ≤ length (row ∷ rows)
    go true k = omega arith
    go false k = omega arith

rows_from_full : (test : ℕ → Bool) (i : ℕ) (rows : List (List ℕ)) (k : ℕ) → length (rows_from test i rows) ≡ length rows → k < length rows → test (i + k) ≡ true
rows_from_full test i [] k e l = absurd (omega arith)
rows_from_full test i (row ∷ rows) k e l = go (test i) refl e k l (rows_from_full test (i + 1) rows)
  where
    go : (b : Bool) → test i ≡ b → length (cond b (row ∷ rows_from test (i + 1) rows) (rows_from test (i + 1) rows)) ≡ suc (length rows) → (k : ℕ) → k < length (row ∷ rows) → ((k : ℕ) → length (rows_from test (i + 1) rows) ≡ length rows → k < length rows → test (i + 1 + k) ≡ true) → test (i + k) ≡ true
    go true f g zero l again = ap test (let e : i + 0 ≡ i = omega arith in e) ∙ f
    go true f g (suc k) l again = ap test (let e : i + suc k ≡ i + 1 + k = omega arith in e) ∙ again k (omega arith) (omega arith)
    go false f g k l again = absurd (let m = rows_from_length test (i + 1) rows in omega arith)

full_marked : (marks : List Bool) (i : ℕ) → list_all (λ mark. mark) marks ≡ true → i < length marks → marked marks i ≡ true
full_marked [] i h l = absurd (omega arith)
full_marked (mark ∷ marks) zero h l = (and_parts mark (list_all (λ m. m) marks) h).0
full_marked (mark ∷ marks) (suc i) h l = full_marked marks i (and_parts mark (list_all (λ m. m) marks) h).1 (omega arith)

full_from : (marks : List Bool) → ((i : ℕ) → i < length marks → marked marks i ≡ true) → list_all (λ mark. mark) marks ≡ true
full_from [] f = refl
full_from (mark ∷ marks) f = ap (λ b. b && list_all (λ m. m) marks) (f 0 (omega arith)) ∙ full_from marks (λ i l. f (suc i) (omega arith))

module _ (choice : Choice) (t : Table) (stay : List Bool) (h : LeavesNoDominatingRow t.rows stay) where
  row_dominance_steps : Steps choice t (with_rows t (rows_from (marked stay) 0 t.rows))
  row_dominance_steps = steps_rows choice t (marked stay) 0 [] t.rows (λ k l m.
      let same : 0 + k ≡ k = omega arith in
      let y = h.witnessed k l (ap (marked stay) (sym same) ∙ m) in
      (row_at t.rows y.0, rows_from_has (marked stay) 0 y.0 t.rows y.1 (ap (marked stay) (let e : 0 + y.0 ≡ y.0 = omega arith in e) ∙ y.2), y.3))

  pub row_dominance_shrinks : length (rows_from (marked stay) 0 t.rows) ≢ length t.rows → Shrinks choice t (with_rows t (rows_from (marked stay) 0 t.rows))
  row_dominance_shrinks d = record { steps = row_dominance_steps; smaller = fewer (length (rows_from (marked stay) 0 t.rows)) (length t.rows) d (rows_from_length (marked stay) 0 t.rows) }
    where
      fewer : (a b : ℕ) → a ≢ b → a ≤ b → length t.live + a < length t.live + b
      fewer a b d l = elim (cases_lt a b) [ inl m ↦ omega arith | inr m ↦ absurd (d (omega arith)) ]

  pub none_dominating : length (rows_from (marked stay) 0 t.rows) ≡ length t.rows → HasNoDominatingRow t.rows
  none_dominating e = h.complete (λ i l. ap (marked stay) (let f : i ≡ 0 + i = omega arith in f) ∙ rows_from_full (marked stay) 0 t.rows i e l)

pub none_left_out : (t : Table) (stay : List Bool) → LeavesNoDominatingRow t.rows stay → list_all (λ mark. mark) stay ≡ true → HasNoDominatingRow t.rows
none_left_out t stay h f = h.complete (λ i l. full_marked stay i f (let s = h.as_long in omega arith))

pub some_left_out : (t : Table) (stay : List Bool) → LeavesNoDominatingRow t.rows stay → list_all (λ mark. mark) stay ≡ false → length (rows_from (marked stay) 0 t.rows) ≢ length t.rows
some_left_out t stay h f e = both_ways _ f (full_from stay (λ i l. ap (marked stay) (let g : i ≡ 0 + i = omega arith in g) ∙ rows_from_full (marked stay) 0 t.rows i e (let s = h.as_long in omega arith)))

pub row_dominance_table : (choice : Choice) (t : Table) (stay : List Bool) → IsTable t → LeavesNoDominatingRow t.rows stay → IsTable (with_rows t (rows_from (marked stay) 0 t.rows))
row_dominance_table choice t stay wt h = (steps_keep choice t (with_rows t (rows_from (marked stay) 0 t.rows)) wt (row_dominance_steps choice t stay h)).0

-- ---- no step is left

index_split : (front back : List (List ℕ)) (row other : List ℕ) → HasRow other (front ++ back) → (j : ℕ) × (j ≢ length front) × (j < length (front ++ row ∷ back)) × (row_at (front ++ row ∷ back) j ≡ other)
index_split [] back row other h = let k = index_in back other h in (suc k.0, (λ e. absurd (omega arith)), omega (arith, k.1), k.2)
  where
    index_in : (rows : List (List ℕ)) (v : List ℕ) → HasRow v rows → (j : ℕ) × (j < length rows) × (row_at rows j ≡ v)
    index_in [] v h = absurd h
    index_in (r ∷ rows) v (inl e) = (0, omega arith, sym e)
    index_in (r ∷ rows) v (inr e) = let k = index_in rows v e in (suc k.0, omega (arith, k.1), k.2)
index_split (r ∷ front) back row other (inl e) = (0, (λ f. absurd (omega arith)), omega arith, sym e)
index_split (r ∷ front) back row other (inr e) = let k = index_split front back row other e in (suc k.0, (λ f. k.1 (omega arith)), omega (arith, k.2), k.3)

row_at_middle : (front back : List (List ℕ)) (row : List ℕ) → row_at (front ++ row ∷ back) (length front) ≡ row
row_at_middle [] back row = refl
row_at_middle (r ∷ front) back row = row_at_middle front back row

middle_below : (front back : List (List ℕ)) (row : List ℕ) → length front < length (front ++ row ∷ back)
middle_below [] back row = omega arith
middle_below (r ∷ front) back row = let k = middle_below front back row in omega arith

pub reduced_from : (choice : Choice) (t : Table) → HasNoEssentialColumn t → HasNoDominatingRow t.rows → HasNoDominatedColumn choice t → IsReduced choice t
reduced_from choice t one dominating under _ (row_leaves _ front back row other e i h) =
    let k = index_split front back row other h in
    k.1 (sym (dominating (length front) k.0 (subst (λ rs. length front < length rs) (sym e) (middle_below front back row)) (subst (λ rs. k.0 < length rs) (sym e) k.2)
    (λ n a. subst (λ r. has n r ≡ true) (sym (ap (λ rs. row_at rs (length front)) e ∙ row_at_middle front back row)) (i n (subst (λ r. has n r ≡ true) (ap (λ rs. row_at rs k.0) e ∙ k.3) a)))))
reduced_from choice t one dominating under _ (only_column _ c h) = one c h
reduced_from choice t one dominating under _ (column_leaves _ a b p la lb d) = under a b la lb p d

-- after a pass over the columns of a table that the passes before have left as it was
pub reduced_once_from : (choice : Choice) (t same u : Table) (is_complete is_changed : Bool) → same ≡ t → HasNoEssentialColumn t → HasNoDominatingRow t.rows
    → MatchBool is_changed (Shrinks choice same u) ((u ≡ same) × (is_complete ≡ true → HasNoDominatedColumn choice same)) → MatchBool is_changed (Shrinks choice t u) ((u ≡ t) × (is_complete ≡ true → IsReduced choice t))
reduced_once_from choice t same u is_complete true e one dominating h = subst (λ s. Shrinks choice s u) e h
reduced_once_from choice t same u is_complete false e one dominating h = (h.0 ∙ e, λ k. reduced_from choice t one dominating (subst (HasNoDominatedColumn choice) e (h.1 k)))

pub steps_join : (choice : Choice) (t u v : Table) → Steps choice t u → Steps choice u v → Steps choice t v
steps_join choice t u _ s (done _) = s
steps_join choice t u _ s (more _ w v h k) = more t w v (steps_join choice t u w s h) k

-- ---- steps prune a table

pub steps_live : (choice : Choice) (t u : Table) → IsTable t → Steps choice t u → length u.live ≤ length t.live
steps_live choice t _ w (done _) = omega arith
steps_live choice t _ w (more _ u v h s) =
    let before = steps_live choice t u w h in
    let one = step_live u v s in
    omega arith
  where
    step_live : (u v : Table) → Step choice u v → length v.live ≤ length u.live
    step_live u _ (row_leaves _ front back row other e i h) = omega arith
    step_live u _ (only_column _ c h) = filter_length (λ x. not (eqb c x)) u.live
    step_live u _ (column_leaves _ a b p la lb d) = filter_length (λ x. not (eqb a x)) u.live

pub weakly_reduced_pruned : (choice : Choice) (k w : ℕ) (t u : Table) → IsWeaklyReduced choice t u → IsPruned choice k w t u
weakly_reduced_pruned choice k w t u h = record { leads = h.leads k w; live = h.live }

pub pruned_join : (choice : Choice) (k w : ℕ) (t u v : Table) → IsPruned choice k w t u → IsPruned choice k w u v → IsPruned choice k w t v
pruned_join choice k w t u v h g = record { leads = λ o a. h.leads o (g.leads o a); live = (let a = h.live in let b = g.live in omega arith) }

pub pruned_weakly_reduced : (choice : Choice) (k w : ℕ) (t u v x : Table) → IsPruned choice k w t u → IsPruned choice k w u v → IsWeaklyReduced choice v x → IsPruned choice k w t x
pruned_weakly_reduced choice k w t u v x h g l = pruned_join choice k w t v x (pruned_join choice k w t u v h g) (weakly_reduced_pruned choice k w v x l)
