-- Columns decided one by one, with a cover within the cutoff.
use Rattle.std.proofs.Common.{◌≡◌, ◌≢◌, ℕ, ◌+◌, ◌<◌, ◌≤◌, ◌⊎◌, inl, inr, Bool, true, false, List, [], ◌∷◌, ◌++◌, length, map, not, eqb, refl, sym, ap, subst, ◌∙◌, arith}
use Rattle.std.specs.Prelude.{filter, Option, Some, None, MatchOption}
use Rattle.std.specs.List.{AllByRecursion, list_any, range_with_len}
use Rattle.std.proofs.lemmas.Bool.{cases_Bool, cases_eq, cases_lt, both_ways, true≢false, eqb-true, eq-eqb}
use Rattle.covering.specs.declared.choice.Choice.{Choice}
use Rattle.covering.specs.Table.{Table, has, RisesFrom, IsWithin, IsTable}
use Rattle.covering.specs.Cover.{meets, counted, sum_over, IsLeast}
use Rattle.covering.specs.Steps.{without, take_column, drop_column, with_rows, Step, row_leaves, only_column, column_leaves, Steps, done, more}
use Rattle.covering.specs.Search.{NoneWithin, NoneBelow, IsAnswer, IsForced, IsOutside, IsPartial, Continues, keep_columns, is_blank, marked}
use Rattle.covering.proofs.Sets.{has_here, without_only, filter_parts, meets_from}
use Rattle.covering.proofs.Covers.{take_cover, take_back, drop_back}
use Rattle.covering.proofs.Keeps.{row_back, row_live, steps_keep}
use Rattle.covering.proofs.Branches.{blank_forced, later, taken_least, kept_back, kept_cover, split, none_blank, leaf, no_live}
use Rattle.covering.proofs.Lagrange.{marks_at}
use Rattle.covering.proofs.Made.{table_same}
use Rattle.covering.proofs.Reduced.{filter_at, eqb_swap}

-- within the cutoff and beyond it
not_both : (choice : Choice) (t : Table) (k w : ℕ) (s : List ℕ) → IsAnswer choice t k w s → ((k < length s) ⊎ (w < sum_over (counted choice t.weights) s)) → ⊥
not_both choice t k w s a (inl l) = let f = a.fits in omega arith
not_both choice t k w s a (inr l) = let f = a.counts in omega arith

-- what is least is within the cutoff too
least_within : (choice : Choice) (t : Table) (k w : ℕ) (s x : List ℕ) → IsAnswer choice t k w s → NoneBelow choice t k w → IsLeast choice t x → (length x ≤ k) × (sum_over (counted choice t.weights) x ≤ w)
least_within choice t k w s x a none h =
    let fits = a.fits in
    let counts = a.counts in
    elim (h.first s a.cover) [
      | inl e ↦ (let l = ap length e in omega arith, let m = ap (sum_over (counted choice t.weights)) e in omega arith)
      | inr p ↦ elim p [
        | inl l ↦ absurd (elim (none x h.cover) [ inl m ↦ omega arith | inr m ↦ omega (arith, m.0) ])
        | inr l ↦ (omega (arith, l.0), elim l.1 [ inl m ↦ omega arith | inr m ↦ omega (arith, m.0) ])
      ]
    ]

-- ---- the first live column is taken

module _ (choice : Choice) (t : Table) (c k w : ℕ) (s : List ℕ) (none : NoneBelow choice t k w) (live : has c t.live ≡ true) (a : IsAnswer choice (take_column c t) k w s) where
  pub partial_taken : IsPartial choice k w (take_column c t) s
  partial_taken = record { none = λ x h. none x (take_back t c x live h).0; witness = a }

  pub next_taken : ((m : ℕ) → has m t.live ≡ true → c ≤ m) → Continues choice t (take_column c t)
  next_taken first = record {
    least = λ x h. let fits = least_within choice (take_column c t) k w s x a partial_taken.none h in taken_least choice t k w x fits.0 fits.1 c live first none h;
    live = λ n h. without_only n c t.live h;
  }

pub witness_taken : (choice : Choice) (t : Table) (c k w : ℕ) (s : List ℕ) → has c s ≡ true → IsAnswer choice t k w s → IsAnswer choice (take_column c t) k w s
witness_taken choice t c k w s h a = record { cover = take_cover t c s a.cover h; fits = a.fits; counts = a.counts }

-- a column that the cutoff rules out
pub outside_taken : (choice : Choice) (t : Table) (c k w : ℕ) → NoneWithin choice (take_column c t) k w → IsOutside choice t k w c
outside_taken choice t c k w none x h there = none x (take_cover t c x h there)

-- ---- columns that no cover within the cutoff has

module _ (choice : Choice) (test : ℕ → Bool) (t : Table) (k w : ℕ) (s : List ℕ) (wt : IsTable t) (partial : IsPartial choice k w t s) (out : (c : ℕ) → has c t.live ≡ true → test c ≡ false → IsOutside choice t k w c) where
  has_kept : (c : ℕ) → has c s ≡ true → has c t.live ≡ true → test c ≡ true
  has_kept c h l = elim (cases_Bool (test c)) [ inl e ↦ e | inr e ↦ absurd (not_both choice t k w s partial.witness (out c l e s partial.witness.cover h)) ]

  pub partial_kept : IsPartial choice k w (keep_columns test t) s
  partial_kept = record {
    none = λ x h. partial.none x (kept_back test t x h);
    witness = record { cover = kept_cover test t wt s partial.witness.cover has_kept; fits = partial.witness.fits; counts = partial.witness.counts };
  }

  pub next_kept : Continues choice t (keep_columns test t)
  next_kept = record {
    least = λ x h.
        let fits = least_within choice (keep_columns test t) k w s x partial_kept.witness partial_kept.none h in
        record {
          cover = kept_back test t x h.cover;
          first = λ y g. elim (split test t y) [
            | inl f ↦ h.first y (kept_cover test t wt y g f)
            | inr f ↦ inr (later choice t k w x fits.0 fits.1 partial.none y g (out f.0 f.2 f.3 y g f.1))
          ];
        };
    live = λ n h. (filter_parts test n t.live h).0;
  }

  pub some_left : list_any is_blank (map (filter test) t.rows) ≡ false
  some_left = elim (cases_Bool (list_any is_blank (map (filter test) t.rows))) [
    | inl e ↦ absurd (not_both choice t k w s partial.witness (none_blank choice test t k w wt out e s partial.witness.cover))
    | inr e ↦ e
  ]

  pub partial_left : (u : Table) → u ≡ keep_columns test t → IsPartial choice k w u s
  partial_left u e = subst (λ g. IsPartial choice k w g s) (sym e) partial_kept

  pub next_left : (u : Table) → u ≡ keep_columns test t → Continues choice t u
  next_left u e = subst (Continues choice t) (sym e) next_kept

-- ---- one row more

all_push : (P : List ℕ → Type 0) (rows : List (List ℕ)) (row : List ℕ) → AllByRecursion P rows → P row → AllByRecursion P (rows ++ row ∷ [])
all_push P [] row h k = (k, tt)
all_push P (r ∷ rows) row h k = (h.0, all_push P rows row h.1 k)

all_front : (P : List ℕ → Type 0) (rows : List (List ℕ)) (row : List ℕ) → AllByRecursion P (rows ++ row ∷ []) → AllByRecursion P rows
all_front P [] row h = tt
all_front P (r ∷ rows) row h = (h.0, all_front P rows row h.1)

pub row_table : (t : Table) (row : List ℕ) → IsTable t → (row ≡ [] → ⊥) → RisesFrom 0 row → IsWithin row t.live → IsTable (with_rows t (t.rows ++ row ∷ []))
row_table t row w some rises within = record {
  taken_rises = w.taken_rises;
  live_rises = w.live_rises;
  apart = w.apart;
  within = w.within;
  taken_within = w.taken_within;
  rows = all_push (λ r. (r ≡ [] → ⊥) × RisesFrom 0 r × IsWithin r t.live) t.rows row w.rows (some, rises, within);
  weighed = w.weighed;
}

pub answer_extended : (choice : Choice) (t : Table) (row : List ℕ) (k w : ℕ) (s : List ℕ) → IsAnswer choice (with_rows t (t.rows ++ row ∷ [])) k w s → IsAnswer choice t k w s
answer_extended choice t row k w s a = record {
  cover = record { rises = a.cover.rises; taken = a.cover.taken; only = a.cover.only; rows = all_front (λ r. meets s r ≡ true) t.rows row a.cover.rows };
  fits = a.fits;
  counts = a.counts;
}

pub outside_extended : (choice : Choice) (t : Table) (row : List ℕ) (k w c : ℕ) → has c row ≡ true → NoneWithin choice (with_rows t (t.rows ++ row ∷ [])) k w → IsOutside choice t k w c
outside_extended choice t row k w c h none x g there = none x (record {
  rises = g.rises;
  taken = g.taken;
  only = g.only;
  rows = all_push (λ r. meets x r ≡ true) t.rows row g.rows (meets_from c x row there h);
})

-- ---- from one table to the next

pub next_self : (choice : Choice) (t : Table) → Continues choice t t
next_self choice t = record { least = λ _ l. l; live = λ _ l. l }

pub next_join : (choice : Choice) (t u v : Table) → Continues choice t u → Continues choice u v → Continues choice t v
next_join choice t u v h g = record { least = λ x l. h.least x (g.least x l); live = λ n l. h.live n (g.live n l) }

-- ---- the table reduced

none_step : (choice : Choice) (t u : Table) (k w : ℕ) → IsTable t → Step choice t u → NoneBelow choice t k w → NoneBelow choice u k w
none_step choice t _ k w wt (row_leaves _ front back row other e i h) none = λ x g. none x (row_back t front back row other e i h x g)
none_step choice t _ k w wt (only_column _ c h) none = λ x g. none x (take_back t c x (row_live t c wt h) g).0
none_step choice t _ k w wt (column_leaves _ a b p la lb d) none = λ x g. none x (drop_back t a x wt.live_rises (wt.apart a la) g).0

none_steps : (choice : Choice) (t u : Table) (k w : ℕ) → IsTable t → Steps choice t u → NoneBelow choice t k w → NoneBelow choice u k w
none_steps choice t _ k w wt (done _) none = none
none_steps choice t _ k w wt (more _ u v h s) none = none_step choice u v k w (steps_keep choice t u wt h).0 s (none_steps choice t u k w wt h none)

live_step : (choice : Choice) (t u : Table) (n : ℕ) → Step choice t u → has n u.live ≡ true → has n t.live ≡ true
live_step choice t _ n (row_leaves _ front back row other e i h) l = l
live_step choice t _ n (only_column _ c h) l = without_only n c t.live l
live_step choice t _ n (column_leaves _ a b p la lb d) l = without_only n a t.live l

live_steps : (choice : Choice) (t u : Table) (n : ℕ) → Steps choice t u → has n u.live ≡ true → has n t.live ≡ true
live_steps choice t _ n (done _) l = l
live_steps choice t _ n (more _ u v h s) l = live_steps choice t u n h (live_step choice u v n s l)

module _ (choice : Choice) (t u : Table) (wt : IsTable t) (steps : Steps choice t u) where
  pub partial_reduced : (k w : ℕ) (s : List ℕ) → NoneBelow choice t k w → IsAnswer choice u k w s → IsPartial choice k w u s
  partial_reduced k w s none a = record { none = none_steps choice t u k w wt steps none; witness = a }

  pub next_reduced : Continues choice t u
  next_reduced = record { least = λ x. ((steps_keep choice t u wt steps).1 x).1; live = λ n. live_steps choice t u n steps }

-- ---- marks

pub not_false : (b : Bool) → not b ≡ false → b ≡ true
not_false true e = refl
not_false false e = absurd (true≢false e)

pub same_column : (d c : ℕ) → not (eqb d c) ≡ false → d ≡ c
same_column d c e = eqb-true d c (not_false (eqb d c) e)

-- a column that has no mark is not kept
pub lacks_marked : (live left : List ℕ) (keep : List Bool) (c : ℕ) → left ≡ filter (marked keep) live → (has c live ≡ true → marked keep c ≡ not (eqb c c)) → has c left ≡ false
lacks_marked live left keep c e f = elim (cases_Bool (has c left)) [
  | inr h ↦ h
  | inl h ↦ absurd (
      let p = filter_parts (marked keep) c live (subst (λ xs. has c xs ≡ true) e h) in
      both_ways (marked keep c) (f p.0 ∙ ap not (eq-eqb c c refl)) p.1)
]

-- the marks of all columns but one
pub marked_but : (t : Table) (keep : List Bool) (n a d : ℕ) → IsTable t → n ≡ t.columns → keep ≡ map (λ c. not (eqb c a)) (range_with_len 0 n) → has d t.live ≡ true → marked keep d ≡ not (eqb d a)
marked_but t keep n a d w e k l = let below = w.within d l in ap (λ ks. marked ks d) k ∙ marks_at (λ c. not (eqb c a)) n d (omega arith)

-- to keep the marked ones is to drop the column
module _ (t : Table) (keep : List Bool) (n a : ℕ) (w : IsTable t) (e : n ≡ t.columns) (k : keep ≡ map (λ c. not (eqb c a)) (range_with_len 0 n)) where
  other : (d : ℕ) → has d t.live ≡ true → marked keep d ≡ not (eqb a d)
  other d l = marked_but t keep n a d w e k l ∙ ap not (eqb_swap d a)

  rows_but : (rows : List (List ℕ)) → AllByRecursion (λ row. (row ≢ []) × RisesFrom 0 row × IsWithin row t.live) rows → map (filter (marked keep)) rows ≡ map (without a) rows
  rows_but [] h = refl
  rows_but (row ∷ rows) h = ap (λ r. r ∷ map (filter (marked keep)) rows) (filter_at (marked keep) (λ d. not (eqb a d)) row (λ d l. other d (h.0.2 d l))) ∙ ap (λ rs. without a row ∷ rs) (rows_but rows h.1)

  dropped : keep_columns (marked keep) t ≡ drop_column a t
  dropped = table_same t.columns t.taken t.taken _ _ _ _ t.weights t.weights refl (filter_at (marked keep) (λ d. not (eqb a d)) t.live other) (rows_but t.rows w.rows) refl

  pub drops_column : (o : Option Table) → MatchOption o (list_any is_blank (map (filter (marked keep)) t.rows) ≡ true) (λ u. u ≡ keep_columns (marked keep) t) → MatchOption o (IsForced t a) (λ u. u ≡ drop_column a t)
  drops_column None m = blank_forced t a (ap (list_any is_blank) (sym (rows_but t.rows w.rows)) ∙ m)
  drops_column (Some u) m = m ∙ dropped

pub gone_next : (choice : Choice) (t u : Table) (c : ℕ) → Continues choice t u → has c t.live ≡ false → has c u.live ≡ false
gone_next choice t u c h e = elim (cases_Bool (has c u.live)) [ inl f ↦ absurd (both_ways _ e (h.live c f)) | inr f ↦ f ]

-- where no row is left the taken columns are the least cover
pub partial_done : (choice : Choice) (t u : Table) (s : List ℕ) → IsTable u → Continues choice t u → u.rows ≡ [] → s ≡ u.taken → IsLeast choice t s
partial_done choice t u s w h e f = subst (IsLeast choice t) (sym f) (h.least u.taken (leaf choice u w e))

none_in : (xs : List ℕ) → ((c : ℕ) → has c xs ≡ true → ⊥) → xs ≡ []
none_in [] f = refl
none_in (x ∷ xs) f = absurd (f x (has_here x x xs refl))

-- and where no live column is left no row is
pub all_decided : (choice : Choice) (t u : Table) (n : ℕ) → IsTable t → IsTable u → Continues choice t u → ((c : ℕ) → has c u.live ≡ true → n ≤ c) → t.columns ≤ n → u.rows ≡ []
all_decided choice t u n wt wu h first e = no_live u wu (none_in u.live (λ c l. let a = first c l in let b = wt.within c (h.live c l) in omega arith))

pub first_next : (u v : Table) (n : ℕ) → ((c : ℕ) → has c v.live ≡ true → has c u.live ≡ true) → ((c : ℕ) → has c u.live ≡ true → n ≤ c) → has n v.live ≡ false → (c : ℕ) → has c v.live ≡ true → n + 1 ≤ c
first_next u v n within first gone c l = let a = first c (within c l) in elim (cases_eq n c) [
  | inl e ↦ absurd (both_ways _ gone (subst (λ m. has m v.live ≡ true) (sym e) l))
  | inr e ↦ elim (cases_lt n c) [ inl m ↦ omega arith | inr m ↦ absurd (e (omega arith)) ]
]
