-- Columns that stand under any other which counts no more.
use Rattle.std.proofs.Common.{◌≡◌, ◌≢◌, ℕ, suc, ◌<◌, ◌≤◌, ◌⊎◌, inl, inr, Bool, true, false, List, [], ◌∷◌, map, length, refl, sym, ap, subst, ◌∙◌, arith, true≢false}
use Rattle.std.specs.Prelude.{Some, None, filter}
use Rattle.std.specs.List.{AllByRecursion, list_any}
use Rattle.std.proofs.lemmas.Bool.{cases_Bool, both_ways, leb-true, or_from}
use Rattle.covering.specs.declared.choice.Choice.{Choice}
use Rattle.covering.specs.Table.{Table, has, RisesFrom, IsWithin, IsTable}
use Rattle.covering.specs.Cover.{IsCover, counted, sum_over}
use Rattle.covering.specs.Steps.{without, put, StandsWith, Steps}
use Rattle.covering.specs.declared.column_dominance.Preference.TheVariants.{NoDearer}
use Rattle.covering.specs.Reduce.{Shrinks, row_at, IsTranspose, AreDominatedByKept, is_preferred}
use Rattle.covering.specs.Search.{Leads, IsServed, IsWeaklyReduced, IsWeakStep, keep_columns, marked, is_blank}
use Rattle.covering.proofs.Sets.{has_here, has_cases, filter_keeps, without_only, without_keeps, without_lacks, without_rises, without_length, put_has, put_keeps, put_only, put_rises, put_length, sum_put, sum_without, filter_length}
use Rattle.covering.proofs.Covers.{drop_back}
use Rattle.covering.proofs.Keeps.{exchanged}
use Rattle.covering.proofs.Branches.{blank_lacks, kept_table, kept_back, kept_cover, lead_steps}
use Rattle.covering.proofs.Reduced.{steps_live, stands_from, all_at, at_all}
use Rattle.covering.proofs.Dominance.{dominates_parts}

-- a cover with b in place of a
exchange_any : (count : ℕ → ℕ) (t : Table) (a b : ℕ) (x : List ℕ) → IsTable t → b ≢ a → count b ≤ count a → has a t.live ≡ true → has b t.live ≡ true → StandsWith t a b → IsCover t x → has a x ≡ true
    → (y : List ℕ) × IsCover t y × (has a y ≡ false) × ((n : ℕ) → has n y ≡ true → (n ≡ b) ⊎ (has n x ≡ true)) × (length y ≤ length x) × (sum_over count y ≤ sum_over count x)
exchange_any count t a b x w apart le la lb d h k = elim (cases_Bool (has b x)) [
  | inl e ↦ (
      let z = without a x in
      let lacks : (n : ℕ) → has n z ≡ true → n ≢ a = λ n f g. both_ways _ (without_lacks a 0 x h.rises) (subst (λ m. has m z ≡ true) g f) in
      let cover = exchanged t a b x z w apart la lb d h (without_rises a 0 x h.rises) (without_keeps b a x apart e) (λ n f g. without_keeps n a x f g) (λ n f. inr (lacks n f, without_only n a x f)) in
      let back = drop_back t a z w.live_rises (w.apart a la) cover in
      let long = without_length a 0 x h.rises k in
      let sum = sum_without count a 0 x h.rises k in
      (z, back.0, back.1, (λ n f. inr (without_only n a x f)), omega arith, omega arith))
  | inr e ↦ (
      let z = without a x in
      let y = put b z in
      let lacks : (n : ℕ) → has n z ≡ true → n ≢ a = λ n f g. both_ways _ (without_lacks a 0 x h.rises) (subst (λ m. has m z ≡ true) g f) in
      let rises : RisesFrom 0 y = put_rises b 0 z (omega arith) (without_rises a 0 x h.rises) in
      let cover = exchanged t a b x y w apart la lb d h rises (put_has b z) (λ n f g. put_keeps n b z (without_keeps n a x f g)) (λ n f. elim (put_only n b z f) [ inl g ↦ inl g | inr g ↦ inr (lacks n g, without_only n a x g) ]) in
      let back = drop_back t a y w.live_rises (w.apart a la) cover in
      let no : has b z ≡ false = elim (cases_Bool (has b z)) [ inl f ↦ absurd (both_ways _ e (without_only b a x f)) | inr f ↦ f ] in
      let long = put_length b z no in
      let less = without_length a 0 x h.rises k in
      let with_b = sum_put count b z no in
      let with_a = sum_without count a 0 x h.rises k in
      (y, back.0, back.1, (λ n f. elim (put_only n b z f) [ inl g ↦ inl g | inr g ↦ inr (without_only n a x g) ]), omega arith, omega arith))
]

-- a cover of which the columns of a list that have no mark are exchanged for those that dominate them
module _ (choice : Choice) (t : Table) (transpose : List (List ℕ)) (keep : List Bool) (wt : IsTable t) (x : IsTranspose t.columns t.rows transpose) (h : AreDominatedByKept (is_preferred NoDearer (counted choice t.weights)) t.live transpose keep) where
  abbrev count : ℕ → ℕ
  count = counted choice t.weights

  abbrev AreExchanged : List ℕ → List ℕ → List ℕ → Type 0
  AreExchanged columns s y = IsCover t y × ((c : ℕ) → has c y ≡ true → has c t.live ≡ true → has c columns ≡ true → marked keep c ≡ true) × (length y ≤ length s) × (sum_over count y ≤ sum_over count s)

  -- where the next column of the list is marked or not in the cover
  skipped : (a : ℕ) (columns s y : List ℕ) → (has a y ≡ true → has a t.live ≡ true → marked keep a ≡ true) → AreExchanged columns s y → AreExchanged (a ∷ columns) s y
  skipped a columns s y fits before = (before.0, (λ c f l k. elim (has_cases c a columns k) [ inl e ↦ subst (λ m. marked keep m ≡ true) (sym e) (fits (subst (λ m. has m y ≡ true) e f) (subst (λ m. has m t.live ≡ true) e l)) | inr g ↦ before.1 c f l g ]), before.2, before.3)

  exchanged_all : (columns s : List ℕ) → IsCover t s → (y : List ℕ) × AreExchanged columns s y
  exchanged_all [] s g = (s, (g, (λ c f l k. absurd (true≢false (sym k))), omega arith, omega arith))
  exchanged_all (a ∷ columns) s g =
      let y = exchanged_all columns s g in
      elim (cases_Bool (marked keep a)) [
        | inl m ↦ (y.0, skipped a columns s y.0 (λ _ _. m) y.1)
        | inr m ↦ elim (cases_Bool (has a t.live)) [
          | inr out ↦ (y.0, skipped a columns s y.0 (λ _ l. absurd (both_ways _ out l)) y.1)
          | inl la ↦ elim (cases_Bool (has a y.0)) [
            | inr out ↦ (y.0, skipped a columns s y.0 (λ f _. absurd (both_ways _ out f)) y.1)
            | inl e ↦ (
                let w = h a la m in
                let o = dominates_parts (is_preferred NoDearer count) transpose keep a w.0 w.2 in
                let less : count w.0 ≤ count a = leb-true (count w.0) (count a) o.first in
                let z = exchange_any count t a w.0 y.0 wt o.apart less la w.1 (stands_from t.columns t.rows transpose a w.0 x (wt.within a la) (wt.within w.0 w.1) o.stands) y.1.0 e in
                let long = y.1.2 in
                let sum = y.1.3 in
                let shorter = z.4 in
                let lighter = z.5 in (
                  z.0,
                  (
                    z.1,
                    (λ c f l k. elim (has_cases c a columns k) [
                      | inl s ↦ absurd (both_ways _ z.2 (subst (λ m. has m z.0 ≡ true) s f))
                      | inr g ↦ elim (z.3 c f) [ inl s ↦ ap (marked keep) s ∙ o.kept | inr s ↦ y.1.1 c s l g ]
                    ]),
                    omega arith,
                    omega arith,
                  ),
                ))
          ]
        ]
      ]

  pub served : IsServed choice t keep
  served s g = let y = exchanged_all t.live s g in (y.0, y.1.0, (λ c f l. y.1.1 c f l l), y.1.2, y.1.3)

-- each row keeps a column where each column that leaves stands under one that stays
module _ (preferred : ℕ → ℕ → Bool) (t : Table) (transpose : List (List ℕ)) (keep : List Bool) (wt : IsTable t) (x : IsTranspose t.columns t.rows transpose) (h : AreDominatedByKept preferred t.live transpose keep) where
  filled_by : (n : ℕ) (row : List ℕ) → has n row ≡ true → marked keep n ≡ true → is_blank (filter (marked keep) row) ≡ false
  filled_by n row e m = elim (cases_Bool (is_blank (filter (marked keep) row))) [
    | inl f ↦ absurd (blank_lacks (filter (marked keep) row) n f (filter_keeps (marked keep) n row e m))
    | inr f ↦ f
  ]

  filled : (row : List ℕ) (i : ℕ) → row_at t.rows i ≡ row → i < length t.rows → (row ≢ []) × RisesFrom 0 row × IsWithin row t.live → is_blank (filter (marked keep) row) ≡ false
  filled [] i e l k = absurd (k.0 refl)
  filled (a ∷ row) i e l k =
      let here : has a (a ∷ row) ≡ true = has_here a a row refl in
      let live = k.2 a here in
      elim (cases_Bool (marked keep a)) [
        | inl m ↦ filled_by a (a ∷ row) here m
        | inr m ↦
            let b = h a live m in
            let o = dominates_parts preferred transpose keep a b.0 b.2 in
            let stands = stands_from t.columns t.rows transpose a b.0 x (wt.within a live) (wt.within b.0 b.1) o.stands in
            let there = at_all (λ r. has a r ≡ true → has b.0 r ≡ true) t.rows i l stands in
            filled_by b.0 (a ∷ row) (subst (λ r. has b.0 r ≡ true) e (there (subst (λ r. has a r ≡ true) (sym e) here))) o.kept
      ]

  none_blank : (rows : List (List ℕ)) → AllByRecursion (λ row. is_blank (filter (marked keep) row) ≡ false) rows → list_any is_blank (map (filter (marked keep)) rows) ≡ false
  none_blank [] k = refl
  none_blank (row ∷ rows) k = or_from (is_blank (filter (marked keep) row)) _ k.0 (none_blank rows k.1)

  pub undominated_table : IsTable (keep_columns (marked keep) t)
  undominated_table = kept_table (marked keep) t wt (none_blank t.rows (all_at (λ row. is_blank (filter (marked keep) row) ≡ false) t.rows
      (λ i l. filled (row_at t.rows i) i refl l (at_all (λ row. (row ≢ []) × RisesFrom 0 row × IsWithin row t.live) t.rows i l wt.rows))))

pub served_leads : (choice : Choice) (t : Table) (keep : List Bool) (k w : ℕ) → IsTable t → IsServed choice t keep → Leads choice k w t (keep_columns (marked keep) t)
served_leads choice t keep k w wt h None a = λ x g.
    let y = h x g in
    let long = y.3 in
    let sum = y.4 in
    elim (a y.0 (kept_cover (marked keep) t wt y.0 y.1 y.2)) [ inl l ↦ inl (omega arith) | inr l ↦ inr (omega arith) ]
served_leads choice t keep k w wt h (Some s) a = record { cover = kept_back (marked keep) t s a.cover; fits = a.fits; counts = a.counts }

pub served_weakly_reduced : (choice : Choice) (t : Table) (keep : List Bool) → IsTable t → IsServed choice t keep → IsWeaklyReduced choice t (keep_columns (marked keep) t)
served_weakly_reduced choice t keep wt h = record { leads = λ k w. served_leads choice t keep k w wt h; live = filter_length (marked keep) t.live }

pub steps_weakly_reduced : (choice : Choice) (t u : Table) → IsTable t → Steps choice t u → IsWeaklyReduced choice t u
steps_weakly_reduced choice t u wt s = record { leads = λ k w. lead_steps choice t u k w wt s; live = steps_live choice t u wt s }

pub weakly_reduced_same : (choice : Choice) (t : Table) → IsWeaklyReduced choice t t
weakly_reduced_same choice t = record { leads = λ k w o a. a; live = omega arith }

pub weakly_reduced_join : (choice : Choice) (t u v : Table) → IsWeaklyReduced choice t u → IsWeaklyReduced choice u v → IsWeaklyReduced choice t v
weakly_reduced_join choice t u v h g = record { leads = λ k w o a. h.leads k w o (g.leads k w o a); live = (let a = h.live in let b = g.live in omega arith) }

pub shrinks_lighter : (choice : Choice) (t u : Table) → IsTable t → Shrinks choice t u → IsWeakStep choice t u
shrinks_lighter choice t u wt h = record { is = steps_weakly_reduced choice t u wt h.steps; smaller = h.smaller }

length_map : (test : ℕ → Bool) (rows : List (List ℕ)) → length (map (filter test) rows) ≡ length rows
length_map test [] = refl
length_map test (row ∷ rows) = ap suc (length_map test rows)

pub served_lighter : (choice : Choice) (t u : Table) (keep : List Bool) → IsTable t → IsServed choice t keep → u ≡ keep_columns (marked keep) t → length u.live < length t.live → IsWeakStep choice t u
served_lighter choice t u keep wt h e fewer =
    let rows : length u.rows ≡ length t.rows = ap (λ (g : Table). length g.rows) e ∙ length_map (marked keep) t.rows in
    record { is = subst (IsWeaklyReduced choice t) (sym e) (served_weakly_reduced choice t keep wt h); smaller = omega arith }
