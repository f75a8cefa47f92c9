-- Each step keeps the least cover, and what a table keeps.
use Rattle.std.proofs.Common.{◌≡◌, ◌≢◌, ℕ, ◌+◌, ◌<◌, ◌≤◌, ◌⊎◌, inl, inr, Bool, true, false, cond, not, List, [], ◌∷◌, ◌++◌, length, refl, sym, ap, subst, ◌∙◌, arith}
use Rattle.std.specs.Prelude.{filter}
use Rattle.std.specs.List.{AllByRecursion}
use Rattle.std.proofs.lemmas.Bool.{cases_eq, cases_Bool, or_cases, or_left, or_right, both_ways, true≢false}
use Rattle.std.specs.Cmp.{both_ways as same_bool}
use Rattle.covering.specs.declared.choice.Choice.{Choice}
use Rattle.covering.specs.Table.{Table, has, RisesFrom, IsWithin, IsTable}
use Rattle.covering.specs.Cover.{meets, IsCover, counted, sum_over, Precedes, IsLeast}
use Rattle.covering.specs.Steps.{without, put, take_column, drop_column, with_rows, HasRow, StandsWith, IsPreferred, Step, row_leaves, only_column, column_leaves, Steps, done, more, SameLeast}
use Rattle.covering.proofs.Sets.{has_here, without_only, without_keeps, without_lacks, without_rises, without_length, sum_without, put_has, put_keeps, put_only, put_rises, put_length, sum_put, meets_at, meets_from, first_by_sets}
use Rattle.covering.proofs.Order.{Precedes-trans, Precedes-asym, Precedes-irrefl}
use Rattle.covering.proofs.Covers.{rows_weaker2, rows_mapped, rows_at, rows_less, rows_more, take_cover, take_back, drop_cover, drop_back}

-- ---- the third step

-- what has b in place of a covers what is left without a
pub exchanged : (t : Table) (a b : ℕ) (x y : List ℕ) → IsTable t → b ≢ a → has a t.live ≡ true → has b t.live ≡ true → StandsWith t a b → IsCover t x
    → RisesFrom 0 y → has b y ≡ true → ((n : ℕ) → n ≢ a → has n x ≡ true → has n y ≡ true) → ((n : ℕ) → has n y ≡ true → (n ≡ b) ⊎ ((n ≢ a) × (has n x ≡ true)))
    → IsCover (drop_column a t) y
exchanged t a b x y w apart la lb d h r hb keeps only =
    record {
      rises = r;
      taken = λ n e. keeps n (λ f. both_ways _ (w.apart a la) (subst (λ m. has m t.taken ≡ true) f e)) (h.taken n e);
      only = λ n e. elim (only n e) [
        | inl f ↦ or_right (has n t.taken) _ (without_keeps n a t.live (λ g. apart (sym f ∙ g)) (subst (λ m. has m t.live ≡ true) (sym f) lb))
        | inr f ↦ elim (or_cases (has n t.taken) (has n t.live) (h.only n f.1)) [
          | inl g ↦ or_left _ _ g
          | inr g ↦ or_right (has n t.taken) _ (without_keeps n a t.live f.0 g)
        ]
      ];
      rows = rows_mapped (λ row. (meets x row ≡ true) × (has a row ≡ true → has b row ≡ true)) (λ row. meets y row ≡ true) (without a) t.rows
          (λ row p. let m = meets_at x row p.0 in elim (cases_eq m.0 a) [
            | inl f ↦ meets_from b y (without a row) hb (without_keeps b a row apart (p.1 (subst (λ n. has n row ≡ true) f m.2)))
            | inr f ↦ meets_from m.0 y (without a row) (keeps m.0 f m.1) (without_keeps m.0 a row f m.2)
          ])
          (rows_weaker2 (λ row. meets x row ≡ true) (λ row. has a row ≡ true → has b row ≡ true) (λ row. (meets x row ≡ true) × (has a row ≡ true → has b row ≡ true)) t.rows (λ row p q. (p, q)) h.rows d);
    }

pub preferred_apart : (count : ℕ → ℕ) (b a : ℕ) → IsPreferred count b a → b ≢ a
preferred_apart count b a (inl h) e = absurd (let k = ap count e in omega arith)
preferred_apart count b a (inr h) e = absurd (omega (arith, h.1))

-- a cover with the column that leaves has one before it without that column, which counts no more
pub exchange : (count : ℕ → ℕ) (t : Table) (a b : ℕ) (x : List ℕ) → IsTable t → IsPreferred count b a → has a t.live ≡ true → has b t.live ≡ true → StandsWith t a b → IsCover t x → has a x ≡ true
    → (y : List ℕ) × IsCover (drop_column a t) y × Precedes count y x × (sum_over count y ≤ sum_over count x)
exchange count t a b x w p la lb d h k = go (cases_Bool (has b x))
  where
    apart : b ≢ a
    apart = preferred_apart count b a p

    no_more : count b ≤ count a
    no_more = elim p [ inl q ↦ omega arith | inr q ↦ omega (arith, q.0) ]

    go : (has b x ≡ true) ⊎ (has b x ≡ false) → (y : List ℕ) × IsCover (drop_column a t) y × Precedes count y x × (sum_over count y ≤ sum_over count x)
    go (inl e) =
        let z = without a x in
        let cover = exchanged t a b x z w apart la lb d h (without_rises a 0 x h.rises) (without_keeps b a x apart e) (λ n f g. without_keeps n a x f g)
        (λ n f. inr ((λ g. both_ways _ (without_lacks a 0 x h.rises) (subst (λ m. has m z ≡ true) g f)), without_only n a x f)) in
        let long = without_length a 0 x h.rises k in
        let sum = sum_without count a 0 x h.rises k in
        (z, cover, inl (omega arith), omega arith)
    go (inr e) =
        let z = without a x in
        let y = put b z in
        let rises : RisesFrom 0 y = put_rises b 0 z (omega arith) (without_rises a 0 x h.rises) in
        let lacks : (n : ℕ) → has n z ≡ true → n ≢ a = λ n f g. both_ways _ (without_lacks a 0 x h.rises) (subst (λ m. has m z ≡ true) g f) in
        let cover = exchanged t a b x y w apart la lb d h rises (put_has b z) (λ n f g. put_keeps n b z (without_keeps n a x f g))
        (λ n f. elim (put_only n b z f) [ inl g ↦ inl g | inr g ↦ inr (lacks n g, without_only n a x g) ]) in
        let no : has b z ≡ false = elim (cases_Bool (has b z)) [ inl f ↦ absurd (both_ways _ e (without_only b a x f)) | inr f ↦ f ] in
        let long : length y ≡ length x = put_length b z no ∙ sym (without_length a 0 x h.rises k) in
        let with_b : sum_over count y ≡ count b + sum_over count z = sum_put count b z no in
        let with_a : sum_over count x ≡ count a + sum_over count z = sum_without count a 0 x h.rises k in (
          y,
          cover,
          inr (
            long,
            elim p [
              | inl q ↦ inl (omega arith)
              | inr q ↦ inr (
                (let same_sum = q.0 in omega arith),
                first_by_sets b 0 y x rises h.rises long (put_has b z) e
                    (λ m below. same_bool (has m y) (has m x)
                    (λ f. elim (put_only m b z f) [ inl g ↦ absurd (omega arith) | inr g ↦ without_only m a x g ])
                    (λ f. put_keeps m b z (without_keeps m a x (λ g. absurd (omega (arith, q.1))) f))),
              )
            ],
          ),
          omega arith,
        )

module _ (choice : Choice) (t : Table) (a b : ℕ) (s : List ℕ) (w : IsTable t) (p : IsPreferred (counted choice t.weights) b a) (la : has a t.live ≡ true) (lb : has b t.live ≡ true) (d : StandsWith t a b) where
  pub column_keeps : IsLeast choice t s → IsLeast choice (drop_column a t) s
  column_keeps h =
      let count = counted choice t.weights in
      let back : (x : List ℕ) → IsCover (drop_column a t) x → IsCover t x = λ x k. (drop_back t a x w.live_rises (w.apart a la) k).0 in
      let lacks : has a s ≡ false = elim (cases_Bool (has a s)) [
        | inl e ↦ absurd (let y = exchange count t a b s w p la lb d h.cover e in elim (h.first y.0 (back y.0 y.1)) [
          | inl f ↦ Precedes-irrefl count y.0 s (sym f) y.2
          | inr f ↦ Precedes-asym count s y.0 f y.2
        ])
        | inr e ↦ e
      ] in
      record { cover = drop_cover t a s h.cover lacks; first = λ x k. h.first x (back x k) }

  pub column_keeps_back : IsLeast choice (drop_column a t) s → IsLeast choice t s
  column_keeps_back h =
      let count = counted choice t.weights in
      record {
        cover = (drop_back t a s w.live_rises (w.apart a la) h.cover).0;
        first = λ x k. elim (cases_Bool (has a x)) [
          | inl e ↦ (let y = exchange count t a b x w p la lb d k e in elim (h.first y.0 y.1) [
            | inl f ↦ inr (subst (λ z. Precedes count z x) (sym f) y.2)
            | inr f ↦ inr (Precedes-trans count s y.0 x f y.2)
          ])
          | inr e ↦ h.first x (drop_cover t a x k e)
        ];
      }

-- ---- every step

pub only_has : (c : ℕ) (s : List ℕ) → meets s (c ∷ []) ≡ true → has c s ≡ true
only_has c s h = elim (or_cases (has c s) false h) [ inl e ↦ e | inr e ↦ absurd (true≢false (sym e)) ]

pub row_live : (t : Table) (c : ℕ) → IsTable t → HasRow (c ∷ []) t.rows → has c t.live ≡ true
row_live t c w h = (rows_at (λ row. (row ≢ []) × RisesFrom 0 row × IsWithin row t.live) (c ∷ []) t.rows h w.rows).2 c (has_here c c [] refl)

meets_dominating : (s row other : List ℕ) → IsWithin other row → meets s other ≡ true → meets s row ≡ true
meets_dominating s row other h k = let w = meets_at s other k in meets_from w.0 s row w.1 (h w.0 w.2)

cover_rows : (t : Table) (rows : List (List ℕ)) (s : List ℕ) → IsCover t s → AllByRecursion (λ row. meets s row ≡ true) rows → IsCover (with_rows t rows) s
cover_rows t rows s h k = record { rises = h.rises; taken = h.taken; only = h.only; rows = k }

cover_rows_back : (t : Table) (rows : List (List ℕ)) (s : List ℕ) → IsCover (with_rows t rows) s → AllByRecursion (λ row. meets s row ≡ true) t.rows → IsCover t s
cover_rows_back t rows s h k = record { rises = h.rises; taken = h.taken; only = h.only; rows = k }

-- tables with the same covers and weights have the same least cover
least_along : (choice : Choice) (t u : Table) (s : List ℕ) → counted choice t.weights ≡ counted choice u.weights → ((x : List ℕ) → IsCover t x → IsCover u x) → ((x : List ℕ) → IsCover u x → IsCover t x) → IsLeast choice t s → IsLeast choice u s
least_along choice t u s e f g h = record { cover = f s h.cover; first = λ x k. subst (λ count. (s ≡ x) ⊎ Precedes count s x) e (h.first x (g x k)) }

same_covers : (choice : Choice) (t u : Table) → counted choice t.weights ≡ counted choice u.weights → ((x : List ℕ) → IsCover t x → IsCover u x) → ((x : List ℕ) → IsCover u x → IsCover t x) → SameLeast choice t u
same_covers choice t u e f g s = (least_along choice t u s e f g, least_along choice u t s (sym e) g f)

-- a row less, or one that holds another more, and the same covers
pub row_cover : (t : Table) (front back : List (List ℕ)) (row : List ℕ) → t.rows ≡ front ++ row ∷ back → (s : List ℕ) → IsCover t s → IsCover (with_rows t (front ++ back)) s
row_cover t front back row e s k =
    let P : List ℕ → Type 0 = λ row. meets s row ≡ true in
    cover_rows t (front ++ back) s k (rows_less P front back row (subst (AllByRecursion P) e k.rows))

pub row_back : (t : Table) (front back : List (List ℕ)) (row other : List ℕ) → t.rows ≡ front ++ row ∷ back → IsWithin other row → HasRow other (front ++ back) → (s : List ℕ) → IsCover (with_rows t (front ++ back)) s → IsCover t s
row_back t front back row other e i h s k =
    let P : List ℕ → Type 0 = λ row. meets s row ≡ true in
    cover_rows_back t (front ++ back) s k (subst (AllByRecursion P) (sym e)
    (rows_more P front back row (meets_dominating s row other i (rows_at P other (front ++ back) h k.rows)) k.rows))

pub step_keeps : (choice : Choice) (t u : Table) → IsTable t → Step choice t u → SameLeast choice t u
step_keeps choice t _ w (row_leaves _ front back row other e i h) =
    same_covers choice t (with_rows t (front ++ back)) refl (λ s k. row_cover t front back row e s k) (λ s k. row_back t front back row other e i h s k)
step_keeps choice t _ w (only_column _ c h) =
    same_covers choice t (take_column c t) refl
    (λ s k. take_cover t c s k (only_has c s (rows_at (λ row. meets s row ≡ true) (c ∷ []) t.rows h k.rows)))
    (λ s k. (take_back t c s (row_live t c w h) k).0)
step_keeps choice t _ w (column_leaves _ a b p la lb d) =
    λ s. (column_keeps choice t a b s w p la lb d, column_keeps_back choice t a b s w p la lb d)

-- ---- a step keeps what a table keeps

rows_filtered_at : (P Q : List ℕ → Type 0) (p : List ℕ → Bool) (rows : List (List ℕ)) → ((row : List ℕ) → p row ≡ true → P row → Q row) → AllByRecursion P rows → AllByRecursion Q (filter p rows)
rows_filtered_at P Q p [] f h = tt
rows_filtered_at P Q p (r ∷ rows) f h = go (p r) refl (rows_filtered_at P Q p rows f h.1)
  where
    go : (b : Bool) → p r ≡ b → AllByRecursion Q (filter p rows) → AllByRecursion Q (cond b (r ∷ filter p rows) (filter p rows))
    go true e k = (f r e h.0, k)
    go false e k = k

not_true : (b : Bool) → not b ≡ true → b ≡ false
not_true true e = sym e
not_true false e = refl

has_nonempty : (n : ℕ) (row : List ℕ) → has n row ≡ true → row ≢ []
has_nonempty n [] h e = true≢false (sym h)
has_nonempty n (c ∷ row) h e = cc

first_of_row : (row : List ℕ) → row ≢ [] → (n : ℕ) × (has n row ≡ true)
first_of_row [] h = absurd (h refl)
first_of_row (c ∷ row) h = (c, has_here c c row refl)

pub apart_from : (n c : ℕ) (xs : List ℕ) → has n xs ≡ true → has c xs ≡ false → n ≢ c
apart_from n c xs h k e = both_ways _ k (subst (λ m. has m xs ≡ true) e h)

-- the live columns without c, and rows of them
live_without : (t : Table) (c n : ℕ) → IsTable t → has n (without c t.live) ≡ true → (n ≢ c) × (has n t.live ≡ true)
live_without t c n w h = (apart_from n c (without c t.live) h (without_lacks c 0 t.live w.live_rises), without_only n c t.live h)

pub take_table : (t : Table) (c : ℕ) → IsTable t → has c t.live ≡ true → IsTable (take_column c t)
take_table t c w l = record {
  taken_rises = put_rises c 0 t.taken (omega arith) w.taken_rises;
  live_rises = without_rises c 0 t.live w.live_rises;
  apart = λ n h. let k = live_without t c n w h in elim (cases_Bool (has n (put c t.taken))) [
    | inl e ↦ absurd (elim (put_only n c t.taken e) [ inl f ↦ k.0 f | inr f ↦ both_ways _ (w.apart n k.1) f ])
    | inr e ↦ e
  ];
  within = λ n h. w.within n (without_only n c t.live h);
  weighed = w.weighed;
  taken_within = λ n h. elim (put_only n c t.taken h) [ inl e ↦ subst (λ m. m < t.columns) (sym e) (w.within c l) | inr e ↦ w.taken_within n e ];
  rows = rows_filtered_at (λ row. (row ≢ []) × RisesFrom 0 row × IsWithin row t.live) (λ row. (row ≢ []) × RisesFrom 0 row × IsWithin row (without c t.live)) (λ row. not (has c row)) t.rows
      (λ row e h. (h.0, h.1, λ n k. without_keeps n c t.live (apart_from n c row k (not_true _ e)) (h.2 n k))) w.rows;
}

pub drop_table : (t : Table) (a b : ℕ) → IsTable t → b ≢ a → StandsWith t a b → IsTable (drop_column a t)
drop_table t a b w d sw = record {
  taken_rises = w.taken_rises;
  live_rises = without_rises a 0 t.live w.live_rises;
  apart = λ n h. w.apart n (without_only n a t.live h);
  within = λ n h. w.within n (without_only n a t.live h);
  taken_within = w.taken_within;
  weighed = w.weighed;
  rows = rows_mapped (λ row. ((row ≢ []) × RisesFrom 0 row × IsWithin row t.live) × (has a row ≡ true → has b row ≡ true)) (λ row. (row ≢ []) × RisesFrom 0 row × IsWithin row (without a t.live)) (without a) t.rows
      (λ row h. (
        (let f = first_of_row row h.0.0 in elim (cases_eq f.0 a) [
          | inl e ↦ has_nonempty b (without a row) (without_keeps b a row d (h.1 (subst (λ m. has m row ≡ true) e f.1)))
          | inr e ↦ has_nonempty f.0 (without a row) (without_keeps f.0 a row e f.1)
        ]),
        without_rises a 0 row h.0.1,
        λ n k. without_keeps n a t.live (apart_from n a (without a row) k (without_lacks a 0 row h.0.1)) (h.0.2 n (without_only n a row k)),
      ))
      (rows_weaker2 (λ row. (row ≢ []) × RisesFrom 0 row × IsWithin row t.live) (λ row. has a row ≡ true → has b row ≡ true) (λ row. ((row ≢ []) × RisesFrom 0 row × IsWithin row t.live) × (has a row ≡ true → has b row ≡ true)) t.rows (λ row p q. (p, q)) w.rows sw);
}

pub step_table : (choice : Choice) (t u : Table) → IsTable t → Step choice t u → IsTable u
step_table choice t _ w (row_leaves _ front back row other e i h) = record {
  taken_rises = w.taken_rises;
  live_rises = w.live_rises;
  apart = w.apart;
  within = w.within;
  taken_within = w.taken_within;
  weighed = w.weighed;
  rows = rows_less (λ r. (r ≢ []) × RisesFrom 0 r × IsWithin r t.live) front back row (subst (AllByRecursion (λ r. (r ≢ []) × RisesFrom 0 r × IsWithin r t.live)) e w.rows);
}
step_table choice t _ w (only_column _ c h) = take_table t c w (row_live t c w h)
step_table choice t _ w (column_leaves _ a b p la lb d) = drop_table t a b w (preferred_apart (counted choice t.weights) b a p) d

pub steps_keep : (choice : Choice) (t u : Table) → IsTable t → Steps choice t u → IsTable u × SameLeast choice t u
steps_keep choice t _ w (done _) = (w, λ s. (λ h. h, λ h. h))
steps_keep choice t _ w (more _ u v h k) =
    let i = steps_keep choice t u w h in
    let j = step_keeps choice u v i.0 k in
    (step_table choice u v i.0 k, λ s. (λ l. (j s).0 ((i.1 s).0 l), λ l. (i.1 s).1 ((j s).1 l)))
