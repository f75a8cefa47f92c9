-- The best choice of the least size that has a column of each row gives the least cover.
use Rattle.std.proofs.Common.{◌≡◌, ◌≢◌, ℕ, zero, suc, ◌+◌, ◌<◌, ◌≤◌, ◌⊎◌, inl, inr, Bool, true, false, cond, ◌||◌, ◌&&◌, eqb, ltb, Vec, List, [], ◌∷◌, ◌++◌, length, map, Option, Some, None, refl, sym, ap, subst, ◌∙◌, arith}
use Rattle.std.specs.List.{AllByRecursion, list_all}
use Rattle.std.specs.Cmp.{both_ways as same_bool}
use Rattle.std.specs.Cmp.Lexicographic.{slice_cmp}
use Rattle.std.specs.Ordering.{nat_cmp}
use Rattle.std.specs.declared.cmp.Ordering.TheVariants.{Less}
use Rattle.std.proofs.lemmas.Bool.{cases_eq, cases_lt, cases_order, cases_Bool, or_cases, or_left, or_right, or_from, and_parts, and_from, both_ways, true≢false, lt-ltb, le-ltb, ltb-true, ltb-false, eq-eqb, ne_eqb}
use Rattle.covering.specs.declared.choice.Choice.{Choice}
use Rattle.covering.specs.Table.{Table, has, RisesFrom, IsWithin, IsTable, items_of}
use Rattle.covering.specs.Cover.{meets, IsCover, counted, sum_over, IsBefore, Precedes, IsLeast}
use Rattle.covering.specs.Steps.{without, HasRow}
use Rattle.covering.specs.Choices.{choices, union_of, better, best_of, meets_all, best_choice}
use Rattle.covering.proofs.Sets.{has_here, has_later, has_cases, rises_above, rises_lower, lacks_below, without_rises, put_length, sum_put, meets_from, first_by_sets}
use Rattle.covering.proofs.Subsets.{same_list, minus, minus_only, minus_lacks, minus_keeps, minus_length, minus_sum, union_rises, union_left, union_right, union_only, rows_met, rows_within}

-- ---- the choices ascend

abbrev pub Before : List ℕ → List ℕ → Type 0
Before x y = slice_cmp nat_cmp x y ≡ Less

abbrev pub Ascending : List (List ℕ) → Type 0
Ascending [] = Unit {0}
Ascending (x ∷ xs) = AllByRecursion (Before x) xs × Ascending xs

all_join : (P : List ℕ → Type 0) (xs ys : List (List ℕ)) → AllByRecursion P xs → AllByRecursion P ys → AllByRecursion P (xs ++ ys)
all_join P [] ys h k = k
all_join P (x ∷ xs) ys h k = (h.0, all_join P xs ys h.1 k)

all_weaker : (P Q : List ℕ → Type 0) (xs : List (List ℕ)) → ((x : List ℕ) → P x → Q x) → AllByRecursion P xs → AllByRecursion Q xs
all_weaker P Q [] f h = tt
all_weaker P Q (x ∷ xs) f h = (f x h.0, all_weaker P Q xs f h.1)

all_mapped : (P Q : List ℕ → Type 0) (g : List ℕ → List ℕ) (xs : List (List ℕ)) → ((x : List ℕ) → P x → Q (g x)) → AllByRecursion P xs → AllByRecursion Q (map g xs)
all_mapped P Q g [] f h = tt
all_mapped P Q g (x ∷ xs) f h = (f x h.0, all_mapped P Q g xs f h.1)

asc_join : (xs ys : List (List ℕ)) → Ascending xs → Ascending ys → AllByRecursion (λ x. AllByRecursion (Before x) ys) xs → Ascending (xs ++ ys)
asc_join [] ys h k c = k
asc_join (x ∷ xs) ys h k c = (all_join (Before x) xs ys h.0 c.0, asc_join xs ys h.1 k c.1)

before_put : (x : ℕ) (u v : List ℕ) → Before u v → Before (x ∷ u) (x ∷ v)
before_put x u v h = rw (le-ltb x x (omega arith), eq-eqb x x refl) h

asc_put : (x : ℕ) (ws : List (List ℕ)) → Ascending ws → Ascending (map (λ w. x ∷ w) ws)
asc_put x [] h = tt
asc_put x (w ∷ ws) h = (all_mapped (Before w) (Before (x ∷ w)) (λ v. x ∷ v) ws (λ v k. before_put x w v k) h.0, asc_put x ws h.1)

-- what a choice of k from xs is
pub record IsChoice (l k : ℕ) (xs v : List ℕ) : Type 0 where
  pub rises : RisesFrom l v
  pub long : length v ≡ k
  pub from : (n : ℕ) → has n v ≡ true → has n xs ≡ true

pub all_choices : (k l : ℕ) (xs : List ℕ) → RisesFrom l xs → AllByRecursion (IsChoice l k xs) (choices k xs)
all_choices zero l xs r = (record { rises = tt; long = refl; from = λ n h. absurd (true≢false (sym h)) }, tt)
all_choices (suc k) l [] r = tt
all_choices (suc k) l (x ∷ xs) r = all_join (IsChoice l (suc k) (x ∷ xs)) (map (λ w. x ∷ w) (choices k xs)) (choices (suc k) xs)
    (all_mapped (IsChoice (suc x) k xs) (IsChoice l (suc k) (x ∷ xs)) (λ w. x ∷ w) (choices k xs)
    (λ w h. record { rises = (r.0, h.rises); long = ap suc h.long; from = λ n e. elim (has_cases n x w e) [ inl f ↦ has_here n x xs f | inr f ↦ has_later n x xs (h.from n f) ] })
    (all_choices k (suc x) xs r.1))
    (all_weaker (IsChoice (suc x) (suc k) xs) (IsChoice l (suc k) (x ∷ xs)) (choices (suc k) xs)
    (λ w h. record { rises = rises_lower l (suc x) w (omega (arith, r.0)) h.rises; long = h.long; from = λ n e. has_later n x xs (h.from n e) })
    (all_choices (suc k) (suc x) xs r.1))

head_before : (x k : ℕ) (xs w v : List ℕ) → IsChoice (suc x) (suc k) xs v → Before (x ∷ w) v
head_before x k xs w [] h = absurd (let e = h.long in omega arith)
head_before x k xs w (y ∷ ys) h = let l : x < y = (let e = h.rises.0 in omega arith) in rw (lt-ltb x y l) refl

pub asc_choices : (k l : ℕ) (xs : List ℕ) → RisesFrom l xs → Ascending (choices k xs)
asc_choices zero l xs r = (tt, tt)
asc_choices (suc k) l [] r = tt
asc_choices (suc k) l (x ∷ xs) r = asc_join (map (λ w. x ∷ w) (choices k xs)) (choices (suc k) xs)
    (asc_put x (choices k xs) (asc_choices k (suc x) xs r.1)) (asc_choices (suc k) (suc x) xs r.1)
    (all_mapped (λ w. IsChoice (suc x) k xs w) (λ w. AllByRecursion (Before w) (choices (suc k) xs)) (λ w. x ∷ w) (choices k xs)
    (λ w _. all_weaker (IsChoice (suc x) (suc k) xs) (Before (x ∷ w)) (choices (suc k) xs) (λ v h. head_before x k xs w v h) (all_choices (suc k) (suc x) xs r.1))
    (all_choices k (suc x) xs r.1))

-- ---- each choice is there

row_left : (v : List ℕ) (xs ys : List (List ℕ)) → HasRow v xs → HasRow v (xs ++ ys)
row_left v [] ys h = absurd h
row_left v (x ∷ xs) ys (inl e) = inl e
row_left v (x ∷ xs) ys (inr e) = inr (row_left v xs ys e)

row_right : (v : List ℕ) (xs ys : List (List ℕ)) → HasRow v ys → HasRow v (xs ++ ys)
row_right v [] ys h = h
row_right v (x ∷ xs) ys h = inr (row_right v xs ys h)

row_put : (x : ℕ) (v : List ℕ) (ws : List (List ℕ)) → HasRow v ws → HasRow (x ∷ v) (map (λ w. x ∷ w) ws)
row_put x v [] h = absurd h
row_put x v (w ∷ ws) (inl e) = inl (ap (λ u. x ∷ u) e)
row_put x v (w ∷ ws) (inr e) = inr (row_put x v ws e)

pub choice_there : (k l : ℕ) (xs v : List ℕ) → RisesFrom l xs → IsChoice l k xs v → HasRow v (choices k xs)
choice_there zero l xs [] r h = inl refl
choice_there zero l xs (y ∷ ys) r h = absurd (let e = h.long in omega arith)
choice_there (suc k) l [] [] r h = absurd (let e = h.long in omega arith)
choice_there (suc k) l [] (y ∷ ys) r h = absurd (true≢false (sym (h.from y (has_here y y ys refl))))
choice_there (suc k) l (x ∷ xs) [] r h = absurd (let e = h.long in omega arith)
choice_there (suc k) l (x ∷ xs) (y ∷ ys) r h = go (choice_there k (suc x) xs ys r.1) (choice_there (suc k) (suc x) xs (y ∷ ys) r.1) (has_cases y x xs (h.from y (has_here y y ys refl)))
  where
    go : (IsChoice (suc x) k xs ys → HasRow ys (choices k xs)) → (IsChoice (suc x) (suc k) xs (y ∷ ys) → HasRow (y ∷ ys) (choices (suc k) xs)) → (y ≡ x) ⊎ (has y xs ≡ true) → HasRow (y ∷ ys) (choices (suc k) (x ∷ xs))
    go one two (inl e) =
        let r2 : RisesFrom (suc x) ys = subst (λ n. RisesFrom (suc n) ys) e h.rises.1 in
        let long : length ys ≡ k = (let f = h.long in omega arith) in
        subst (λ n. HasRow (n ∷ ys) (choices (suc k) (x ∷ xs))) (sym e)
        (row_left (x ∷ ys) (map (λ w. x ∷ w) (choices k xs)) (choices (suc k) xs) (row_put x ys (choices k xs) (one (record {
          rises = r2;
          long = long;
          from = λ n f. elim (has_cases n x xs (h.from n (has_later n y ys f))) [ inl g ↦ absurd (let a = rises_above n (suc x) ys r2 f in omega arith) | inr g ↦ g ];
        }))))
    go one two (inr e) =
        let up = rises_above y (suc x) xs r.1 e in
        let r2 : RisesFrom (suc x) (y ∷ ys) = (up, h.rises.1) in
        row_right (y ∷ ys) (map (λ w. x ∷ w) (choices k xs)) (choices (suc k) xs) (two (record {
          rises = r2;
          long = h.long;
          from = λ n f. elim (has_cases n x xs (h.from n f)) [ inl g ↦ absurd (let a = rises_above n (suc x) (y ∷ ys) r2 f in omega arith) | inr g ↦ g ];
        }))

-- ---- what is found

module _ (count : ℕ → ℕ) (test : List ℕ → Bool) where
  -- the best so far, at one more
  abbrev pub next : Option (List ℕ) → List ℕ → Option (List ℕ)
  next best w = cond (test w) (better count best w) best

  move : (a w : List ℕ) → ((next (Some a) w ≡ Some a) × (test w ≡ true → sum_over count a ≤ sum_over count w)) ⊎ ((next (Some a) w ≡ Some w) × (test w ≡ true) × (sum_over count w < sum_over count a))
  move a w = go (test w) (ltb (sum_over count w) (sum_over count a)) refl
    where
      go : (b c : Bool) → ltb (sum_over count w) (sum_over count a) ≡ c → ((cond b (cond c (Some w) (Some a)) (Some a) ≡ Some a) × (b ≡ true → sum_over count a ≤ sum_over count w)) ⊎ ((cond b (cond c (Some w) (Some a)) (Some a) ≡ Some w) × (b ≡ true) × (sum_over count w < sum_over count a))
      go true true e = inr (refl, refl, ltb-true (sum_over count w) (sum_over count a) e)
      go true false e = inl (refl, λ f. ltb-false (sum_over count w) (sum_over count a) e)
      go false c e = inl (refl, λ f. absurd (true≢false (sym f)))

  start : (w : List ℕ) → ((next None w ≡ None) × (test w ≡ false)) ⊎ ((next None w ≡ Some w) × (test w ≡ true))
  start w = go (test w)
    where
      go : (b : Bool) → ((cond b (Some w) None ≡ None) × (b ≡ false)) ⊎ ((cond b (Some w) None ≡ Some w) × (b ≡ true))
      go true = inr (refl, refl)
      go false = inl (refl, refl)

  -- what is found is the best so far, or counts less
  best_from : (a s : List ℕ) (ws : List (List ℕ)) → best_of count test (Some a) ws ≡ Some s → (s ≡ a) ⊎ (sum_over count s < sum_over count a)
  best_from a s [] f = inl (cc)
  best_from a s (w ∷ ws) f = elim (move a w) [
    | inl e ↦ best_from a s ws (sym (ap (λ o. best_of count test o ws) e.0) ∙ f)
    | inr e ↦ inr (elim (best_from w s ws (sym (ap (λ o. best_of count test o ws) e.0) ∙ f)) [
      | inl g ↦ (let h = ap (sum_over count) g in omega (arith, e.2))
      | inr g ↦ omega (arith, e.2)
    ])
  ]

  best_some : (a : List ℕ) (ws : List (List ℕ)) → best_of count test (Some a) ws ≡ None → ⊥
  best_some a [] f = let g : Unit {0} = tt in cc
  best_some a (w ∷ ws) f = elim (move a w) [
    | inl e ↦ best_some a ws (sym (ap (λ o. best_of count test o ws) e.0) ∙ f)
    | inr e ↦ best_some w ws (sym (ap (λ o. best_of count test o ws) e.0) ∙ f)
  ]

  pub best_none : (ws : List (List ℕ)) → best_of count test None ws ≡ None → (x : List ℕ) → HasRow x ws → test x ≡ true → ⊥
  best_none [] f x h k = h
  best_none (w ∷ ws) f x h k = elim (start w) [
    | inl e ↦ elim h [
      | inl q ↦ both_ways _ e.1 (ap test (sym q) ∙ k)
      | inr q ↦ best_none ws (sym (ap (λ o. best_of count test o ws) e.0) ∙ f) x q k
    ]
    | inr e ↦ best_some w ws (sym (ap (λ o. best_of count test o ws) e.0) ∙ f)
  ]

  best_after : (a s x : List ℕ) (ws : List (List ℕ)) → AllByRecursion (Before a) ws → Ascending ws → best_of count test (Some a) ws ≡ Some s → HasRow x ws → test x ≡ true → (s ≡ x) ⊎ IsBefore count s x
  best_after a s x [] b asc f h k = absurd h
  best_after a s x (w ∷ ws) b asc f h k = elim (move a w) [
    | inl e ↦ (let g : best_of count test (Some a) ws ≡ Some s = sym (ap (λ o. best_of count test o ws) e.0) ∙ f in elim h [
      | inl q ↦ inr (kept (best_from a s ws g) (e.1 (ap test (sym q) ∙ k)) q)
      | inr q ↦ best_after a s x ws b.1 asc.1 g q k
    ])
    | inr e ↦ (let g : best_of count test (Some w) ws ≡ Some s = sym (ap (λ o. best_of count test o ws) e.0) ∙ f in elim h [
      | inl q ↦ elim (best_from w s ws g) [ inl p ↦ inl (p ∙ sym q) | inr p ↦ inr (inl (let r = ap (sum_over count) q in omega arith)) ]
      | inr q ↦ best_after w s x ws asc.0 asc.1 g q k
    ])
  ]
    where
      kept : (s ≡ a) ⊎ (sum_over count s < sum_over count a) → sum_over count a ≤ sum_over count w → x ≡ w → IsBefore count s x
      kept (inr p) l q = inl (let r = ap (sum_over count) q in omega arith)
      kept (inl p) l q = elim (cases_lt (sum_over count a) (sum_over count w)) [
        | inl m ↦ inl (let r = ap (sum_over count) q in let o = ap (sum_over count) p in omega arith)
        | inr m ↦ inr ((let r = ap (sum_over count) q in let o = ap (sum_over count) p in omega arith), subst (λ z. Before z x) (sym p) (subst (Before a) (sym q) b.0))
      ]

  pub best_first : (s x : List ℕ) (ws : List (List ℕ)) → Ascending ws → best_of count test None ws ≡ Some s → HasRow x ws → test x ≡ true → (s ≡ x) ⊎ IsBefore count s x
  best_first s x [] asc f h k = absurd h
  best_first s x (w ∷ ws) asc f h k = elim (start w) [
    | inl e ↦ elim h [
      | inl q ↦ absurd (both_ways _ e.1 (ap test (sym q) ∙ k))
      | inr q ↦ best_first s x ws asc.1 (sym (ap (λ o. best_of count test o ws) e.0) ∙ f) q k
    ]
    | inr e ↦ (let g : best_of count test (Some w) ws ≡ Some s = sym (ap (λ o. best_of count test o ws) e.0) ∙ f in elim h [
      | inl q ↦ elim (best_from w s ws g) [ inl p ↦ inl (p ∙ sym q) | inr p ↦ inr (inl (let r = ap (sum_over count) q in omega arith)) ]
      | inr q ↦ best_after w s x ws asc.0 asc.1 g q k
    ])
  ]

  best_passes_from : (P : List ℕ → Type 0) (a s : List ℕ) (ws : List (List ℕ)) → (test a ≡ true) × P a → AllByRecursion P ws → best_of count test (Some a) ws ≡ Some s → (test s ≡ true) × P s
  best_passes_from P a s [] p all f = let e : a ≡ s = cc in subst (λ z. (test z ≡ true) × P z) e p
  best_passes_from P a s (w ∷ ws) p all f = elim (move a w) [
    | inl e ↦ best_passes_from P a s ws p all.1 (sym (ap (λ o. best_of count test o ws) e.0) ∙ f)
    | inr e ↦ best_passes_from P w s ws (e.1, all.0) all.1 (sym (ap (λ o. best_of count test o ws) e.0) ∙ f)
  ]

  pub best_passes : (P : List ℕ → Type 0) (s : List ℕ) (ws : List (List ℕ)) → AllByRecursion P ws → best_of count test None ws ≡ Some s → (test s ≡ true) × P s
  best_passes P s [] all f = absurd (let g : Unit {0} = tt in cc)
  best_passes P s (w ∷ ws) all f = elim (start w) [
    | inl e ↦ best_passes P s ws all.1 (sym (ap (λ o. best_of count test o ws) e.0) ∙ f)
    | inr e ↦ best_passes_from P w s ws (e.1, all.0) all.1 (sym (ap (λ o. best_of count test o ws) e.0) ∙ f)
  ]

-- ---- the first difference of two lists

pub difference : (l : ℕ) (u v : List ℕ) → RisesFrom l u → RisesFrom l v → length u ≡ length v → Before u v → (c : ℕ) × (has c u ≡ true) × (has c v ≡ false) × ((m : ℕ) → m < c → has m u ≡ has m v)
difference l [] [] r q e h = absurd (let g : Unit {0} = tt in cc)
difference l [] (y ∷ ys) r q e h = absurd (omega arith)
difference l (p ∷ ps) [] r q e h = absurd (omega arith)
difference l (p ∷ ps) (y ∷ ys) r q e h = go (cases_order p y) (difference (suc y) ps ys)
  where
    go : (p ≡ y) ⊎ ((p < y) ⊎ (y < p)) → (RisesFrom (suc y) ps → RisesFrom (suc y) ys → length ps ≡ length ys → Before ps ys → (c : ℕ) × (has c ps ≡ true) × (has c ys ≡ false) × ((m : ℕ) → m < c → has m ps ≡ has m ys))
        → (c : ℕ) × (has c (p ∷ ps) ≡ true) × (has c (y ∷ ys) ≡ false) × ((m : ℕ) → m < c → has m (p ∷ ps) ≡ has m (y ∷ ys))
    go (inr (inl lt)) more = (
      p,
      has_here p p ps refl,
      lacks_below p y (y ∷ ys) (omega arith, q.1) lt,
      λ m k. lacks_below m p (p ∷ ps) (omega arith, r.1) k ∙ sym (lacks_below m y (y ∷ ys) (omega arith, q.1) (omega arith)),
    )
    go (inr (inr gt)) more = absurd (let k = rw (le-ltb p y (omega arith), ne_eqb p y (λ f. absurd (omega arith))) at h in cc)
    go (inl f) more =
        let r2 : RisesFrom (suc y) ps = subst (λ n. RisesFrom (suc n) ps) f r.1 in
        let k : Before ps ys = rw (le-ltb p y (omega arith), eq-eqb p y f) at h in
        let d = more r2 q.1 (omega arith) k in
        let up = rises_above d.0 (suc y) ps r2 d.1 in (
          d.0,
          has_later d.0 p ps d.1,
          or_from (eqb d.0 y) (has d.0 ys) (ne_eqb d.0 y (λ g. absurd (omega arith))) d.2,
          λ m g. rw f (ap (λ b. eqb m y || b) (d.3 m g)),
        )

-- ---- the cover of a choice

pub union_length : (l : ℕ) (ts xs : List ℕ) → RisesFrom l xs → ((n : ℕ) → has n xs ≡ true → has n ts ≡ false) → length (union_of ts xs) ≡ length ts + length xs
union_length l ts [] r f = omega arith
union_length l ts (x ∷ xs) r f =
    let lacks : has x (union_of ts xs) ≡ false = elim (cases_Bool (has x (union_of ts xs))) [
      | inl e ↦ absurd (elim (union_only x ts xs e) [
        | inl g ↦ both_ways _ (f x (has_here x x xs refl)) g
        | inr g ↦ (let a = rises_above x (suc x) xs r.1 g in omega arith)
      ])
      | inr e ↦ e
    ] in
    let one = put_length x (union_of ts xs) lacks in
    let k = union_length (suc x) ts xs r.1 (λ n h. f n (has_later n x xs h)) in
    omega arith

pub union_sum : (count : ℕ → ℕ) (l : ℕ) (ts xs : List ℕ) → RisesFrom l xs → ((n : ℕ) → has n xs ≡ true → has n ts ≡ false) → sum_over count (union_of ts xs) ≡ sum_over count ts + sum_over count xs
union_sum count l ts [] r f = omega arith
union_sum count l ts (x ∷ xs) r f =
    let lacks : has x (union_of ts xs) ≡ false = elim (cases_Bool (has x (union_of ts xs))) [
      | inl e ↦ absurd (elim (union_only x ts xs e) [
        | inl g ↦ both_ways _ (f x (has_here x x xs refl)) g
        | inr g ↦ (let a = rises_above x (suc x) xs r.1 g in omega arith)
      ])
      | inr e ↦ e
    ] in
    let one = sum_put count x (union_of ts xs) lacks in
    let k = union_sum count (suc x) ts xs r.1 (λ n h. f n (has_later n x xs h)) in
    omega arith

pub minus_rises : (xs ts : List ℕ) → RisesFrom 0 xs → RisesFrom 0 (minus xs ts)
minus_rises xs [] r = r
minus_rises xs (t ∷ ts) r = minus_rises (without t xs) ts (without_rises t 0 xs r)

meets_each : (rows : List (List ℕ)) (s : List ℕ) → meets_all rows s ≡ true → AllByRecursion (λ row. meets s row ≡ true) rows
meets_each [] s h = tt
meets_each (row ∷ rows) s h = let p = and_parts (meets s row) (meets_all rows s) h in (p.0, meets_each rows s p.1)

each_meets : (rows : List (List ℕ)) (s : List ℕ) → AllByRecursion (λ row. (c : ℕ) × (has c s ≡ true) × (has c row ≡ true)) rows → meets_all rows s ≡ true
each_meets [] s h = refl
each_meets (row ∷ rows) s h = and_from (meets s row) (meets_all rows s) (meets_from h.0.0 s row h.0.1 h.0.2) (each_meets rows s h.1)

meets_union : (ts ch : List ℕ) (rows : List (List ℕ)) → AllByRecursion (λ row. meets ch row ≡ true) rows → AllByRecursion (λ row. meets (union_of ts ch) row ≡ true) rows
meets_union ts ch [] h = tt
meets_union ts ch (row ∷ rows) h = (go row h.0, meets_union ts ch rows h.1)
  where
    go : (r : List ℕ) → meets ch r ≡ true → meets (union_of ts ch) r ≡ true
    go [] e = e
    go (c ∷ cs) e = elim (or_cases (has c ch) (meets ch cs) e) [ inl f ↦ or_left _ _ (union_right c ts ch f) | inr f ↦ or_right (has c (union_of ts ch)) _ (go cs f) ]

pub exhaustive_least : (choice : Choice) (t : Table) (k : ℕ) (ch : List ℕ) → IsTable t → best_choice choice t k ≡ Some ch → ((j : ℕ) → j < k → best_choice choice t j ≡ None) → IsLeast choice t (union_of t.taken ch)
exhaustive_least choice t k ch w found none =
    let count = counted choice t.weights in
    let passes = best_passes count (meets_all t.rows) (IsChoice 0 k t.live) ch (choices k t.live) (all_choices k 0 t.live w.live_rises) found in
    let is = passes.1 in
    let s = union_of t.taken ch in
    let rises = union_rises t.taken ch w.taken_rises in
    let long : length s ≡ length t.taken + k = union_length 0 t.taken ch is.rises (λ n h. w.apart n (is.from n h)) ∙ ap (λ n. length t.taken + n) is.long in
    record {
      cover = record {
        rises = rises;
        taken = λ n h. union_left n t.taken ch h;
        only = λ n h. elim (union_only n t.taken ch h) [ inl e ↦ or_left _ _ e | inr e ↦ or_right (has n t.taken) _ (is.from n e) ];
        rows = meets_union t.taken ch t.rows (meets_each t.rows ch passes.0);
      };
      first = λ x h. other x h long rises is;
    }
  where
    other : (x : List ℕ) → IsCover t x → length (union_of t.taken ch) ≡ length t.taken + k → RisesFrom 0 (union_of t.taken ch) → IsChoice 0 k t.live ch → (union_of t.taken ch ≡ x) ⊎ Precedes (counted choice t.weights) (union_of t.taken ch) x
    other x h long rises is =
        let count = counted choice t.weights in
        let rest = minus x t.taken in
        let size : length x ≡ length t.taken + length rest = minus_length 0 x t.taken h.rises w.taken_rises h.taken in
        let rest_rises = minus_rises x t.taken h.rises in
        let live : (n : ℕ) → has n rest ≡ true → has n t.live ≡ true = λ n e. elim (or_cases (has n t.taken) (has n t.live) (h.only n (minus_only n x t.taken e))) [
          | inl f ↦ absurd (both_ways _ (minus_lacks n x t.taken h.rises e) f)
          | inr f ↦ f
        ] in
        let meets_rest = each_meets t.rows rest (rows_met t x t.rows w h (rows_within t t.rows w.rows) h.rows) in
        let there : HasRow rest (choices (length rest) t.live) = choice_there (length rest) 0 t.live rest w.live_rises (record { rises = rest_rises; long = refl; from = live }) in
        let split : (n : ℕ) → has n x ≡ true → (has n t.taken ≡ true) ⊎ (has n rest ≡ true) = λ n e. elim (cases_Bool (has n t.taken)) [ inl f ↦ inl f | inr f ↦ inr (minus_keeps n x t.taken e f) ] in
        elim (cases_order (length rest) k) [
          | inr (inl less) ↦ absurd (best_none count (meets_all t.rows) (choices (length rest) t.live) (none (length rest) less) rest there meets_rest)
          | inr (inr more) ↦ inr (inl (omega arith))
          | inl same ↦ elim (best_first count (meets_all t.rows) ch rest (choices k t.live) (asc_choices k 0 t.live w.live_rises) found (subst (λ n. HasRow rest (choices n t.live)) same there) meets_rest) [
            | inl e ↦ inl (same_list 0 (union_of t.taken ch) x rises h.rises
                (λ n f. elim (union_only n t.taken ch f) [ inl g ↦ h.taken n g | inr g ↦ minus_only n x t.taken (subst (λ z. has n z ≡ true) e g) ])
                (λ n f. elim (split n f) [ inl g ↦ union_left n t.taken ch g | inr g ↦ union_right n t.taken ch (subst (λ z. has n z ≡ true) (sym e) g) ]))
            | inr e ↦ (
                let equal : length (union_of t.taken ch) ≡ length x = omega arith in
                let mine : sum_over count (union_of t.taken ch) ≡ sum_over count t.taken + sum_over count ch = union_sum count 0 t.taken ch is.rises (λ n g. w.apart n (is.from n g)) in
                let other_sum : sum_over count x ≡ sum_over count t.taken + sum_over count rest = minus_sum count 0 x t.taken h.rises w.taken_rises h.taken in
                inr (inr (
                  equal,
                  elim e [
                    | inl less ↦ inl (omega arith)
                    | inr tied ↦ inr (
                      (let a = tied.0 in omega arith),
                      (
                          let d = difference 0 ch rest is.rises rest_rises (is.long ∙ sym same) tied.1 in
                          let out : has d.0 x ≡ false = elim (cases_Bool (has d.0 x)) [
                            | inl f ↦ absurd (elim (split d.0 f) [ inl g ↦ both_ways _ (w.apart d.0 (is.from d.0 d.1)) g | inr g ↦ both_ways _ d.2 g ])
                            | inr f ↦ f
                          ] in
                          first_by_sets d.0 0 (union_of t.taken ch) x rises h.rises equal (union_right d.0 t.taken ch d.1) out
                          (λ m below. same_bool (has m (union_of t.taken ch)) (has m x)
                          (λ f. elim (union_only m t.taken ch f) [ inl g ↦ h.taken m g | inr g ↦ minus_only m x t.taken (sym (d.3 m below) ∙ g) ])
                          (λ f. elim (split m f) [ inl g ↦ union_left m t.taken ch g | inr g ↦ union_right m t.taken ch (d.3 m below ∙ g) ]))),
                    )
                  ],
                )))
          ]
        ]

rows_live : (live : List ℕ) (rows : List (List ℕ)) → AllByRecursion (λ row. (row ≢ []) × RisesFrom 0 row × IsWithin row live) rows → AllByRecursion (λ row. (c : ℕ) × (has c live ≡ true) × (has c row ≡ true)) rows
rows_live live [] h = tt
rows_live live (row ∷ rows) h = (go row h.0.0 h.0.2, rows_live live rows h.1)
  where
    go : (r : List ℕ) → r ≢ [] → IsWithin r live → (c : ℕ) × (has c live ≡ true) × (has c r ≡ true)
    go [] e k = absurd (e refl)
    go (c ∷ cs) e k = (c, k c (has_here c c cs refl), has_here c c cs refl)

-- nothing is found only below the number of live columns
pub none_below : (choice : Choice) (t : Table) (k : ℕ) → IsTable t → ((j : ℕ) → j < k → best_choice choice t j ≡ None) → k ≤ length t.live
none_below choice t k w none = elim (cases_lt (length t.live) k) [
  | inl l ↦ absurd (best_none (counted choice t.weights) (meets_all t.rows) (choices (length t.live) t.live) (none (length t.live) l) t.live
      (choice_there (length t.live) 0 t.live t.live w.live_rises (record { rises = w.live_rises; long = refl; from = λ n h. h }))
      (each_meets t.rows t.live (rows_live t.live t.rows w.rows)))
  | inr l ↦ l
]

-- the same over rows as the code holds them
meets_all_items : {Z : Type 0} (rows : List (Vec ℕ Z)) (s : List ℕ) → list_all (λ row. meets s row.items) rows ≡ meets_all (items_of rows) s
meets_all_items [] s = refl
meets_all_items (row ∷ rows) s = ap (λ b. meets s row.items && b) (meets_all_items rows s)

best_same : (count : ℕ → ℕ) (f g : List ℕ → Bool) (best : Option (List ℕ)) (ws : List (List ℕ)) → ((s : List ℕ) → f s ≡ g s) → best_of count f best ws ≡ best_of count g best ws
best_same count f g best [] e = refl
best_same count f g best (w ∷ ws) e = ap (λ b. best_of count f (cond b (better count best w) best) ws) (e w) ∙ best_same count f g (cond (g w) (better count best w) best) ws e

pub best_items : {Z : Type 0} (count : ℕ → ℕ) (rows : List (Vec ℕ Z)) (best : Option (List ℕ)) (ws : List (List ℕ)) → best_of count (λ s. list_all (λ row. meets s row.items) rows) best ws ≡ best_of count (meets_all (items_of rows)) best ws
best_items count rows best ws = best_same count (λ s. list_all (λ row. meets s row.items) rows) (meets_all (items_of rows)) best ws (meets_all_items rows)

pub none_more : (choice : Choice) (t : Table) (k : ℕ) → ((j : ℕ) → j < k → best_choice choice t j ≡ None) → best_choice choice t k ≡ None → (j : ℕ) → j < k + 1 → best_choice choice t j ≡ None
none_more choice t k f h j l = elim (cases_eq j k) [ inl e ↦ subst (λ n. best_choice choice t n ≡ None) (sym e) h | inr e ↦ f j (omega arith) ]
