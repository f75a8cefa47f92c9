-- What a search over a table rests on: the leaf, the two branches, steps and columns outside the
-- cutoff.
use Rattle.std.proofs.Common.{◌≡◌, ◌≢◌, ℕ, zero, suc, ◌+◌, ◌<◌, ◌≤◌, ◌⊎◌, inl, inr, Bool, true, false, not, List, [], ◌∷◌, ◌++◌, eqb, replicate, length, map, refl, sym, ap, subst, ◌∙◌, arith}
use Rattle.std.specs.Prelude.{Option, Some, None, Vec, filter, IfSome, MatchBool, MatchOption, nat_lt}
use Rattle.std.specs.List.{AllByRecursion, list_any}
use Rattle.std.specs.Cmp.{both_ways as same_bool}
use Rattle.std.proofs.lemmas.Bool.{cases_eq, cases_lt, cases_Bool, or_cases, or_left, or_right, or_parts, eqb-true, ltb-true, ltb-false, both_ways, true≢false}
use Rattle.covering.specs.declared.bound.Cutoff.{Cutoff}
use Rattle.covering.specs.declared.choice.Choice.{Choice}
use Rattle.covering.specs.Table.{Table, has, RisesFrom, IsWithin, IsTable}
use Rattle.covering.specs.Cover.{meets, IsCover, counted, sum_over, Precedes, IsLeast}
use Rattle.covering.specs.Steps.{without, take_column, drop_column, with_rows, Step, row_leaves, only_column, column_leaves, Steps, done, more}
use Rattle.covering.specs.Search.{IsBeyond, NoneWithin, NoneBelow, IsAnswer, Answers, AnswersWithin, Leads, IsOutside, IsForced, IsPruned, keep_columns, is_blank, marked}
use Rattle.covering.proofs.Sets.{has_here, has_later, has_cases, without_keeps, without_length, filter_parts, filter_keeps, filter_rises, filter_length, meets_at, meets_from, first_by_sets}
use Rattle.covering.proofs.Covers.{rows_at, rows_mapped, rows_unmapped, rows_weaker2, take_cover, take_back, drop_cover, drop_back}
use Rattle.covering.proofs.Subsets.{same_list, minus, minus_keeps, minus_length, minus_sum, rows_within}
use Rattle.covering.proofs.Keeps.{exchange, steps_keep, row_live, only_has, row_cover, row_back}

pub blank_lacks : (r : List ℕ) (n : ℕ) → is_blank r ≡ true → has n r ≡ true → ⊥
blank_lacks [] n f g = true≢false (sym g)
blank_lacks (d ∷ r) n f g = absurd (let k = eqb-true (length (d ∷ r)) 0 f in omega arith)

-- ---- the leaf

pub leaf : (choice : Choice) (t : Table) → IsTable t → t.rows ≡ [] → IsLeast choice t t.taken
leaf choice t w e = record {
  cover = record {
    rises = w.taken_rises;
    taken = λ n h. h;
    only = λ n h. or_left _ _ h;
    rows = subst (AllByRecursion (λ row. meets t.taken row ≡ true)) (sym e) tt;
  };
  first = λ x h.
      let long = minus_length 0 x t.taken h.rises w.taken_rises h.taken in
      go x h (minus x t.taken) refl long;
}
  where
    go : (x : List ℕ) → IsCover t x → (rest : List ℕ) → minus x t.taken ≡ rest → length x ≡ length t.taken + length (minus x t.taken) → (t.taken ≡ x) ⊎ Precedes (counted choice t.weights) t.taken x
    go x h (c ∷ cs) e long = inr (inl (let k = ap length e in omega arith))
    go x h [] e long = inl (same_list 0 t.taken x w.taken_rises h.rises h.taken
        (λ n k. elim (cases_Bool (has n t.taken)) [
          | inl a ↦ a
          | inr a ↦ absurd (true≢false (sym (subst (λ zs. has n zs ≡ true) e (minus_keeps n x t.taken k a))))
        ]))

-- ---- the branches, on the first live column

below_first : (t : Table) (c : ℕ) (s x : List ℕ) → ((m : ℕ) → has m t.live ≡ true → c ≤ m) → IsCover t s → IsCover t x → (m : ℕ) → m < c → has m s ≡ true → has m x ≡ true
below_first t c s x first h k m below a = elim (or_cases (has m t.taken) (has m t.live) (h.only m a)) [
  | inl b ↦ k.taken m b
  | inr b ↦ absurd (let up = first m b in omega arith)
]

module _ (choice : Choice) (t : Table) (k w : ℕ) (s : List ℕ) (fits : length s ≤ k) (counts : sum_over (counted choice t.weights) s ≤ w) where
  -- beyond the cutoff is after what is within it
  pub later : NoneBelow choice t k w → (x : List ℕ) → IsCover t x → IsBeyond (counted choice t.weights) k w x → Precedes (counted choice t.weights) s x
  later low x h (inl b) = inl (omega arith)
  later low x h (inr b) = elim (low x h) [
    | inl m ↦ inl (omega arith)
    | inr m ↦ elim (cases_lt (length s) (length x)) [
      | inl l ↦ inl l
      | inr l ↦ inr ((omega (arith, m.0)), inl (omega arith))
    ]
  ]

  -- what is least with the first live column is least where no cover is below the cutoff
  pub taken_least : (c : ℕ) → has c t.live ≡ true → ((m : ℕ) → has m t.live ≡ true → c ≤ m) → NoneBelow choice t k w → IsLeast choice (take_column c t) s → IsLeast choice t s
  taken_least c live front low h =
      let back = take_back t c s live h.cover in
      record {
        cover = back.0;
        first = λ x a. elim (cases_Bool (has c x)) [
          | inl b ↦ h.first x (take_cover t c x a b)
          | inr b ↦ inr (elim (low x a) [
            | inl m ↦ inl (omega arith)
            | inr m ↦ elim (cases_lt (length s) (length x)) [
              | inl l ↦ inl l
              | inr l ↦ (
                  let long : length s ≡ length x = omega (arith, m.0) in
                  inr (
                    long,
                    elim (cases_lt (sum_over (counted choice t.weights) s) (sum_over (counted choice t.weights) x)) [
                      | inl n ↦ inl n
                      | inr n ↦ inr (
                        (omega (arith, m.1)),
                        first_by_sets c 0 s x back.0.rises a.rises long back.1 b
                            (λ m below. same_bool (has m s) (has m x) (below_first t c s x front back.0 a m below) (below_first t c x s front a back.0 m below)),
                      )
                    ],
                  ))
            ]
          ])
        ];
      }

-- ---- answers

pub answer_leaf : (choice : Choice) (t : Table) (k w : ℕ) (s : List ℕ) → IsTable t → t.rows ≡ [] → s ≡ t.taken → length t.taken ≤ k → sum_over (counted choice t.weights) t.taken ≤ w → IsAnswer choice t k w s
answer_leaf choice t k w s wt e f l m = record {
  cover = subst (IsCover t) (sym f) (leaf choice t wt e).cover;
  fits = (let g = ap length f in omega arith);
  counts = (let g = ap (sum_over (counted choice t.weights)) f in omega arith);
}

pub answer_taken : (choice : Choice) (t : Table) (c k w : ℕ) (s : List ℕ) → has c t.live ≡ true → IsAnswer choice (take_column c t) k w s → IsAnswer choice t k w s
answer_taken choice t c k w s live a = record { cover = (take_back t c s live a.cover).0; fits = a.fits; counts = a.counts }

pub answers_dropped : (choice : Choice) (t : Table) (c k w : ℕ) (o : Option (List ℕ)) → IsTable t → has c t.live ≡ true → NoneWithin choice (take_column c t) k w → Answers choice (drop_column c t) k w o → Answers choice t k w o
answers_dropped choice t c k w None wt live none a = λ x h. elim (cases_Bool (has c x)) [ inl b ↦ none x (take_cover t c x h b) | inr b ↦ a x (drop_cover t c x h b) ]
answers_dropped choice t c k w (Some s) wt live none a = record { cover = (drop_back t c s wt.live_rises (wt.apart c live) a.cover).0; fits = a.fits; counts = a.counts }

pub over_taken : (choice : Choice) (t : Table) (k w : ℕ) → IsTable t → (k < length t.taken) ⊎ (w < sum_over (counted choice t.weights) t.taken) → NoneWithin choice t k w
over_taken choice t k w wt (inl l) x h = let e = minus_length 0 x t.taken h.rises wt.taken_rises h.taken in inl (omega arith)
over_taken choice t k w wt (inr l) x h = let e = minus_sum (counted choice t.weights) 0 x t.taken h.rises wt.taken_rises h.taken in inr (omega arith)

-- ---- steps

lead_by : (choice : Choice) (t u : Table) (k w : ℕ) → counted choice u.weights ≡ counted choice t.weights → ((x : List ℕ) → IsCover u x → IsCover t x) → (NoneWithin choice u k w → NoneWithin choice t k w) → Leads choice k w t u
lead_by choice t u k w e back beyond None a = beyond a
lead_by choice t u k w e back beyond (Some s) a = record { cover = back s a.cover; fits = a.fits; counts = subst (λ f. sum_over f s ≤ w) e a.counts }

lead_step : (choice : Choice) (t u : Table) (k w : ℕ) → IsTable t → Step choice t u → Leads choice k w t u
lead_step choice t _ k w wt (row_leaves _ front back row other e i h) =
    lead_by choice t (with_rows t (front ++ back)) k w refl (λ x g. row_back t front back row other e i h x g) (λ none x g. none x (row_cover t front back row e x g))
lead_step choice t _ k w wt (only_column _ c h) =
    lead_by choice t (take_column c t) k w refl (λ x g. (take_back t c x (row_live t c wt h) g).0)
    (λ none x g. none x (take_cover t c x g (only_has c x (rows_at (λ row. meets x row ≡ true) (c ∷ []) t.rows h g.rows))))
lead_step choice t _ k w wt (column_leaves _ a b p la lb d) =
    lead_by choice t (drop_column a t) k w refl (λ x g. (drop_back t a x wt.live_rises (wt.apart a la) g).0)
    (λ none x g. elim (cases_Bool (has a x)) [
      | inl e ↦ (let y = exchange (counted choice t.weights) t a b x wt p la lb d g e in elim (none y.0 y.1) [
        | inl m ↦ inl (elim y.2 [ inl l ↦ omega arith | inr l ↦ omega (arith, l.0) ])
        | inr m ↦ inr (omega (arith, y.3))
      ])
      | inr e ↦ none x (drop_cover t a x g e)
    ])

pub lead_steps : (choice : Choice) (t u : Table) (k w : ℕ) → IsTable t → Steps choice t u → Leads choice k w t u
lead_steps choice t _ k w wt (done _) o a = a
lead_steps choice t _ k w wt (more _ u v h s) o a = lead_steps choice t u k w wt h o (lead_step choice u v k w (steps_keep choice t u wt h).0 s o a)

-- ---- columns outside the cutoff

module _ (test : ℕ → Bool) (t : Table) where
  pub kept_back : (x : List ℕ) → IsCover (keep_columns test t) x → IsCover t x
  kept_back x h = record {
    rises = h.rises;
    taken = h.taken;
    only = λ n e. elim (or_cases (has n t.taken) (has n (filter test t.live)) (h.only n e)) [
      | inl f ↦ or_left _ _ f
      | inr f ↦ or_right (has n t.taken) _ (filter_parts test n t.live f).0
    ];
    rows = rows_unmapped (λ row. meets x row ≡ true) (λ row. meets x row ≡ true) (filter test) t.rows (λ row e. let m = meets_at x (filter test row) e in meets_from m.0 x row m.1 (filter_parts test m.0 row m.2).0) h.rows;
  }

  -- an answer with some columns alone is one with all
  pub answer_kept : (choice : Choice) (k w : ℕ) (s : List ℕ) → IsAnswer choice (keep_columns test t) k w s → IsAnswer choice t k w s
  answer_kept choice k w s a = record { cover = kept_back s a.cover; fits = a.fits; counts = a.counts }

  -- whether all live columns of a list are kept
  pub split : (xs : List ℕ) → ((c : ℕ) → has c xs ≡ true → has c t.live ≡ true → test c ≡ true) ⊎ ((c : ℕ) × (has c xs ≡ true) × (has c t.live ≡ true) × (test c ≡ false))
  split [] = inl (λ c h. absurd (true≢false (sym h)))
  split (x ∷ xs) = elim (split xs) [
    | inr f ↦ inr (f.0, has_later f.0 x xs f.1, f.2, f.3)
    | inl f ↦ elim (cases_Bool (test x)) [
      | inl e ↦ inl (λ c h l. elim (has_cases c x xs h) [ inl g ↦ ap test g ∙ e | inr g ↦ f c g l ])
      | inr e ↦ elim (cases_Bool (has x t.live)) [
        | inl l ↦ inr (x, has_here x x xs refl, l, e)
        | inr l ↦ inl (λ c h k. elim (has_cases c x xs h) [ inl g ↦ absurd (both_ways _ l (subst (λ n. has n t.live ≡ true) g k)) | inr g ↦ f c g k ])
      ]
    ]
  ]

  pub kept_cover : IsTable t → (x : List ℕ) → IsCover t x → ((c : ℕ) → has c x ≡ true → has c t.live ≡ true → test c ≡ true) → IsCover (keep_columns test t) x
  kept_cover w x h k = record {
    rises = h.rises;
    taken = h.taken;
    only = λ n e. elim (or_cases (has n t.taken) (has n t.live) (h.only n e)) [
      | inl f ↦ or_left _ _ f
      | inr f ↦ or_right (has n t.taken) _ (filter_keeps test n t.live f (k n e f))
    ];
    rows = rows_mapped (λ row. (meets x row ≡ true) × IsWithin row t.live) (λ row. meets x row ≡ true) (filter test) t.rows
        (λ row e. let m = meets_at x row e.0 in meets_from m.0 x (filter test row) m.1 (filter_keeps test m.0 row m.2 (k m.0 m.1 (e.1 m.0 m.2))))
        (rows_weaker2 (λ row. meets x row ≡ true) (λ row. IsWithin row t.live) (λ row. (meets x row ≡ true) × IsWithin row t.live) t.rows (λ row p q. (p, q)) h.rows (rows_within t t.rows w.rows));
  }

-- what is found with some columns alone is an answer with all
pub within_kept : {Z : Type 0} (choice : Choice) (test : ℕ → Bool) (t u : Table) (cutoff : Cutoff) (o : Option (Vec ℕ Z)) → u ≡ keep_columns test t → AnswersWithin choice u cutoff o
    → IfSome o (λ v. IsAnswer choice t cutoff.columns cutoff.cost v.items)
within_kept choice test t u cutoff None same a = tt
within_kept choice test t u cutoff (Some v) same a = answer_kept test t choice cutoff.columns cutoff.cost v.items (subst (λ g. IsAnswer choice g cutoff.columns cutoff.cost v.items) same a)

module _ (choice : Choice) (test : ℕ → Bool) (t : Table) (k w : ℕ) (wt : IsTable t) (out : (c : ℕ) → has c t.live ≡ true → test c ≡ false → IsOutside choice t k w c) where
  pub lead_kept : Leads choice k w t (keep_columns test t)
  lead_kept None a = λ x h. elim (split test t x) [
    | inl f ↦ a x (kept_cover test t wt x h f)
    | inr f ↦ out f.0 f.2 f.3 x h f.1
  ]
  lead_kept (Some s) a = answer_kept test t choice k w s a

  blank_beyond : (x : List ℕ) → IsCover t x → (rows : List (List ℕ)) → AllByRecursion (λ row. meets x row ≡ true) rows → AllByRecursion (λ row. IsWithin row t.live) rows → list_any is_blank (map (filter test) rows) ≡ true → IsBeyond (counted choice t.weights) k w x
  blank_beyond x h [] m i e = absurd (true≢false (sym e))
  blank_beyond x h (row ∷ rows) m i e =
      let at = meets_at x row m.0 in
      elim (or_cases (is_blank (filter test row)) _ e) [
        | inl f ↦ elim (cases_Bool (test at.0)) [
          | inl g ↦ absurd (blank_lacks (filter test row) at.0 f (filter_keeps test at.0 row at.2 g))
          | inr g ↦ out at.0 (i.0 at.0 at.2) g x h at.1
        ]
        | inr f ↦ blank_beyond x h rows m.1 i.1 f
      ]

  pub none_blank : list_any is_blank (map (filter test) t.rows) ≡ true → NoneWithin choice t k w
  none_blank e x h = blank_beyond x h t.rows h.rows (rows_within t t.rows wt.rows) e

rows_kept : (test : ℕ → Bool) (live : List ℕ) (rows : List (List ℕ)) → AllByRecursion (λ row. (row ≢ []) × RisesFrom 0 row × IsWithin row live) rows → list_any is_blank (map (filter test) rows) ≡ false → AllByRecursion (λ row. (row ≢ []) × RisesFrom 0 row × IsWithin row (filter test live)) (map (filter test) rows)
rows_kept test live [] h e = tt
rows_kept test live (row ∷ rows) h e =
    let p = or_parts (is_blank (filter test row)) _ e in (
      (
        (λ f. both_ways _ p.0 (ap is_blank f)),
        filter_rises test 0 row h.0.1,
        λ n k. let g = filter_parts test n row k in filter_keeps test n live (h.0.2 n g.0) g.1,
      ),
      rows_kept test live rows h.1 p.1,
    )

pub kept_table : (test : ℕ → Bool) (t : Table) → IsTable t → list_any is_blank (map (filter test) t.rows) ≡ false → IsTable (keep_columns test t)
kept_table test t w e = record {
  taken_rises = w.taken_rises;
  live_rises = filter_rises test 0 t.live w.live_rises;
  apart = λ n h. w.apart n (filter_parts test n t.live h).0;
  within = λ n h. w.within n (filter_parts test n t.live h).0;
  taken_within = w.taken_within;
  weighed = w.weighed;
  rows = rows_kept test t.live t.rows w.rows e;
}

-- ---- what the code asks

pub live_falls : (t : Table) (c : ℕ) → IsTable t → has c t.live ≡ true → length (without c t.live) < length t.live
live_falls t c w h = let k = without_length c 0 t.live w.live_rises h in omega arith

pub no_live : (t : Table) → IsTable t → t.live ≡ [] → t.rows ≡ []
no_live t w e = go t.rows w.rows
  where
    none : (row : List ℕ) → row ≢ [] → IsWithin row t.live → ⊥
    none [] h k = h refl
    none (c ∷ row) h k = true≢false (sym (subst (λ l. has c l ≡ true) e (k c (has_here c c row refl))))

    go : (rows : List (List ℕ)) → AllByRecursion (λ row. (row ≢ []) × RisesFrom 0 row × IsWithin row t.live) rows → rows ≡ []
    go [] h = refl
    go (row ∷ rows) h = absurd (none row h.0.0 h.0.2)

-- ---- a column that cannot go

forced_by : (c : ℕ) (x : List ℕ) (rows : List (List ℕ)) → AllByRecursion (λ row. meets x row ≡ true) rows → list_any is_blank (map (without c) rows) ≡ true → has c x ≡ true
forced_by c x [] h e = absurd (true≢false (sym e))
forced_by c x (row ∷ rows) h e =
    let m = meets_at x row h.0 in
    elim (or_cases (is_blank (without c row)) _ e) [
      | inl f ↦ elim (cases_eq m.0 c) [
        | inl g ↦ subst (λ n. has n x ≡ true) g m.1
        | inr g ↦ absurd (blank_lacks (without c row) m.0 f (without_keeps m.0 c row g m.2))
      ]
      | inr f ↦ forced_by c x rows h.1 f
    ]

pub blank_forced : (t : Table) (c : ℕ) → list_any is_blank (map (without c) t.rows) ≡ true → IsForced t c
blank_forced t c e x h = forced_by c x t.rows h.rows e

pub none_forced : (choice : Choice) (t : Table) (c k w : ℕ) → IsForced t c → NoneWithin choice (take_column c t) k w → NoneWithin choice t k w
none_forced choice t c k w f p x h = p x (take_cover t c x h (f x h))

pub unforced_table : (t : Table) (c : ℕ) → IsTable t → list_any is_blank (map (without c) t.rows) ≡ false → IsTable (drop_column c t)
unforced_table t c w e = kept_table (λ x. not (eqb c x)) t w e

-- ---- answers over pruned tables

pub over_sum : (choice : Choice) (t : Table) (k w n : ℕ) → IsTable t → length t.taken ≤ k → n ≡ sum_over (counted choice t.weights) t.taken → MatchBool (nat_lt w n) (NoneWithin choice t k w) ((length t.taken ≤ k) × (sum_over (counted choice t.weights) t.taken ≤ w))
over_sum choice t k w n wt l e = go (nat_lt w n) refl
  where
    go : (b : Bool) → nat_lt w n ≡ b → MatchBool b (NoneWithin choice t k w) ((length t.taken ≤ k) × (sum_over (counted choice t.weights) t.taken ≤ w))
    go true f = over_taken choice t k w wt (inr (let a = ltb-true w n f in omega arith))
    go false f = (l, (let a = ltb-false w n f in omega arith))

pub pruned_kept : (choice : Choice) (test : ℕ → Bool) (t : Table) (k w : ℕ) → IsTable t → ((c : ℕ) → has c t.live ≡ true → test c ≡ false → IsOutside choice t k w c) → IsPruned choice k w t (keep_columns test t)
pruned_kept choice test t k w wt out = record { leads = lead_kept choice test t k w wt out; live = filter_length test t.live }

pub pruned_from : (choice : Choice) (test : ℕ → Bool) (t : Table) (k w : ℕ) → IsTable t → ((c : ℕ) → has c t.live ≡ true → test c ≡ false → IsOutside choice t k w c)
    → (o : Option Table) → MatchOption o (list_any is_blank (map (filter test) t.rows) ≡ true) (λ u. u ≡ keep_columns test t) → MatchOption o (NoneWithin choice t k w) (IsPruned choice k w t)
pruned_from choice test t k w wt out None h = none_blank choice test t k w wt out h
pruned_from choice test t k w wt out (Some u) h = subst (IsPruned choice k w t) (sym h) (pruned_kept choice test t k w wt out)

pub all_marked_at : (n c : ℕ) → c < n → marked (replicate n true) c ≡ true
all_marked_at zero c h = absurd (omega arith)
all_marked_at (suc n) zero h = refl
all_marked_at (suc n) (suc c) h = all_marked_at n c (omega arith)

-- a table without a column that no cover within the cutoff has, and what that is pruned to
pub dropped_pruned : (choice : Choice) (t u : Table) (c k w : ℕ) (o : Option Table) → IsTable t → has c t.live ≡ true → NoneWithin choice (take_column c t) k w → u ≡ drop_column c t → MatchOption o (NoneWithin choice u k w) (IsPruned choice k w u) → MatchOption o (NoneWithin choice t k w) (IsPruned choice k w t)
dropped_pruned choice t u c k w None wt live none is a = answers_dropped choice t c k w None wt live none (subst (λ g. NoneWithin choice g k w) is a)
dropped_pruned choice t u c k w (Some v) wt live none is a = record {
  leads = λ o b. answers_dropped choice t c k w o wt live none (subst (λ g. Answers choice g k w o) is (a.leads o b));
  live = let falls = live_falls t c wt live in let same = ap (λ (g : Table). length g.live) is in let less = a.live in omega (arith, falls, same, less);
}

pub dropped_fewer : (choice : Choice) (t u : Table) (c k w : ℕ) (o : Option Table) → IsTable t → has c t.live ≡ true → u ≡ drop_column c t → MatchOption o (NoneWithin choice u k w) (IsPruned choice k w u) → IfSome o (λ v. length v.live < length t.live)
dropped_fewer choice t u c k w None wt live is a = tt
dropped_fewer choice t u c k w (Some v) wt live is a = let falls = live_falls t c wt live in let same = ap (λ (g : Table). length g.live) is in let less = a.live in omega (arith, falls, same, less)
