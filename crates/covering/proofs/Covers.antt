-- Covers and rows of a table, and of the table with a column taken or dropped.
use Rattle.std.proofs.Common.{◌≡◌, ◌≢◌, ℕ, inl, inr, Bool, true, false, cond, not, List, [], ◌∷◌, ◌++◌, map, refl, sym, subst}
use Rattle.std.specs.Prelude.{filter}
use Rattle.std.specs.List.{AllByRecursion}
use Rattle.std.proofs.lemmas.Bool.{cases_eq, cases_Bool, or_cases, or_left, or_right, both_ways, not_from_false}
use Rattle.covering.specs.Table.{Table, has, RisesFrom}
use Rattle.covering.specs.Cover.{meets, IsCover}
use Rattle.covering.specs.Steps.{without, put, take_column, drop_column, HasRow}
use Rattle.covering.proofs.Sets.{without_only, without_keeps, without_lacks, put_has, put_keeps, put_only, meets_at, meets_from}

-- ---- rows

pub rows_weaker : (P Q : List ℕ → Type 0) (rows : List (List ℕ)) → ((row : List ℕ) → P row → Q row) → AllByRecursion P rows → AllByRecursion Q rows
rows_weaker P Q [] f h = tt
rows_weaker P Q (r ∷ rows) f h = (f r h.0, rows_weaker P Q rows f h.1)

pub rows_weaker2 : (P R Q : List ℕ → Type 0) (rows : List (List ℕ)) → ((row : List ℕ) → P row → R row → Q row) → AllByRecursion P rows → AllByRecursion R rows → AllByRecursion Q rows
rows_weaker2 P R Q [] f h k = tt
rows_weaker2 P R Q (r ∷ rows) f h k = (f r h.0 k.0, rows_weaker2 P R Q rows f h.1 k.1)

pub rows_mapped : (P Q : List ℕ → Type 0) (g : List ℕ → List ℕ) (rows : List (List ℕ)) → ((row : List ℕ) → P row → Q (g row)) → AllByRecursion P rows → AllByRecursion Q (map g rows)
rows_mapped P Q g [] f h = tt
rows_mapped P Q g (r ∷ rows) f h = (f r h.0, rows_mapped P Q g rows f h.1)

pub rows_unmapped : (P Q : List ℕ → Type 0) (g : List ℕ → List ℕ) (rows : List (List ℕ)) → ((row : List ℕ) → P (g row) → Q row) → AllByRecursion P (map g rows) → AllByRecursion Q rows
rows_unmapped P Q g [] f h = tt
rows_unmapped P Q g (r ∷ rows) f h = (f r h.0, rows_unmapped P Q g rows f h.1)

pub rows_filtered : (P : List ℕ → Type 0) (p : List ℕ → Bool) (rows : List (List ℕ)) → AllByRecursion P rows → AllByRecursion P (filter p rows)
rows_filtered P p [] h = tt
rows_filtered P p (r ∷ rows) h = go (p r) (rows_filtered P p rows h.1)
  where
    go : (b : Bool) → AllByRecursion P (filter p rows) → AllByRecursion P (cond b (r ∷ filter p rows) (filter p rows))
    go true k = (h.0, k)
    go false k = k

pub rows_unfiltered : (P : List ℕ → Type 0) (p : List ℕ → Bool) (rows : List (List ℕ)) → ((row : List ℕ) → p row ≡ false → P row) → AllByRecursion P (filter p rows) → AllByRecursion P rows
rows_unfiltered P p [] f h = tt
rows_unfiltered P p (r ∷ rows) f h = go (p r) refl (rows_unfiltered P p rows f) h
  where
    go : (b : Bool) → p r ≡ b → (AllByRecursion P (filter p rows) → AllByRecursion P rows) → AllByRecursion P (cond b (r ∷ filter p rows) (filter p rows)) → AllByRecursion P (r ∷ rows)
    go true e more k = (k.0, more k.1)
    go false e more k = (f r e, more k)

pub rows_at : (P : List ℕ → Type 0) (row : List ℕ) (rows : List (List ℕ)) → HasRow row rows → AllByRecursion P rows → P row
rows_at P row [] h k = absurd h
rows_at P row (r ∷ rows) (inl e) k = subst P (sym e) k.0
rows_at P row (r ∷ rows) (inr e) k = rows_at P row rows e k.1

pub rows_less : (P : List ℕ → Type 0) (front back : List (List ℕ)) (row : List ℕ) → AllByRecursion P (front ++ row ∷ back) → AllByRecursion P (front ++ back)
rows_less P [] back row h = h.1
rows_less P (r ∷ front) back row h = (h.0, rows_less P front back row h.1)

pub rows_more : (P : List ℕ → Type 0) (front back : List (List ℕ)) (row : List ℕ) → P row → AllByRecursion P (front ++ back) → AllByRecursion P (front ++ row ∷ back)
rows_more P [] back row p h = (p, h)
rows_more P (r ∷ front) back row p h = (h.0, rows_more P front back row p h.1)

-- ---- a column taken, and one dropped

pub take_cover : (t : Table) (c : ℕ) (s : List ℕ) → IsCover t s → has c s ≡ true → IsCover (take_column c t) s
take_cover t c s h k = record {
  rises = h.rises;
  taken = λ n e. elim (put_only n c t.taken e) [ inl f ↦ subst (λ m. has m s ≡ true) (sym f) k | inr f ↦ h.taken n f ];
  only = λ n e. elim (cases_eq n c) [
    | inl f ↦ or_left _ _ (subst (λ m. has m (put c t.taken) ≡ true) (sym f) (put_has c t.taken))
    | inr f ↦ elim (or_cases (has n t.taken) (has n t.live) (h.only n e)) [
      | inl g ↦ or_left _ _ (put_keeps n c t.taken g)
      | inr g ↦ or_right (has n (put c t.taken)) _ (without_keeps n c t.live f g)
    ]
  ];
  rows = rows_filtered (λ row. meets s row ≡ true) (λ row. not (has c row)) t.rows h.rows;
}

pub take_back : (t : Table) (c : ℕ) (s : List ℕ) → has c t.live ≡ true → IsCover (take_column c t) s → IsCover t s × (has c s ≡ true)
take_back t c s l h =
    let here : has c s ≡ true = h.taken c (put_has c t.taken) in (
      record {
        rises = h.rises;
        taken = λ n e. h.taken n (put_keeps n c t.taken e);
        only = λ n e. elim (or_cases (has n (put c t.taken)) (has n (without c t.live)) (h.only n e)) [
          | inl f ↦ elim (put_only n c t.taken f) [
            | inl g ↦ or_right (has n t.taken) _ (subst (λ m. has m t.live ≡ true) (sym g) l)
            | inr g ↦ or_left _ _ g
          ]
          | inr f ↦ or_right (has n t.taken) _ (without_only n c t.live f)
        ];
        rows = rows_unfiltered (λ row. meets s row ≡ true) (λ row. not (has c row)) t.rows (λ row e. meets_from c s row here (stands row e)) h.rows;
      },
      here,
    )
  where
    stands : (row : List ℕ) → not (has c row) ≡ false → has c row ≡ true
    stands row e = elim (cases_Bool (has c row)) [ inl f ↦ f | inr f ↦ absurd (both_ways _ e (not_from_false _ f)) ]

pub drop_cover : (t : Table) (c : ℕ) (s : List ℕ) → IsCover t s → has c s ≡ false → IsCover (drop_column c t) s
drop_cover t c s h k =
    let other : (n : ℕ) → has n s ≡ true → n ≢ c = λ n e f. both_ways _ k (subst (λ m. has m s ≡ true) f e) in
    record {
      rises = h.rises;
      taken = h.taken;
      only = λ n e. elim (or_cases (has n t.taken) (has n t.live) (h.only n e)) [
        | inl g ↦ or_left _ _ g
        | inr g ↦ or_right (has n t.taken) _ (without_keeps n c t.live (other n e) g)
      ];
      rows = rows_mapped (λ row. meets s row ≡ true) (λ row. meets s row ≡ true) (without c) t.rows (λ row e. let w = meets_at s row e in meets_from w.0 s (without c row) w.1 (without_keeps w.0 c row (other w.0 w.1) w.2)) h.rows;
    }

pub drop_back : (t : Table) (c : ℕ) (s : List ℕ) → RisesFrom 0 t.live → has c t.taken ≡ false → IsCover (drop_column c t) s → IsCover t s × (has c s ≡ false)
drop_back t c s l a h =
    let lacks : has c s ≡ false = elim (cases_Bool (has c s)) [
      | inl e ↦ absurd (elim (or_cases (has c t.taken) (has c (without c t.live)) (h.only c e)) [ inl f ↦ both_ways _ a f | inr f ↦ both_ways _ (without_lacks c 0 t.live l) f ])
      | inr e ↦ e
    ] in (
      record {
        rises = h.rises;
        taken = h.taken;
        only = λ n e. elim (or_cases (has n t.taken) (has n (without c t.live)) (h.only n e)) [
          | inl f ↦ or_left _ _ f
          | inr f ↦ or_right (has n t.taken) _ (without_only n c t.live f)
        ];
        rows = rows_unmapped (λ row. meets s row ≡ true) (λ row. meets s row ≡ true) (without c) t.rows (λ row e. let w = meets_at s (without c row) e in meets_from w.0 s row w.1 (without_only w.0 c row w.2)) h.rows;
      },
      lacks,
    )
