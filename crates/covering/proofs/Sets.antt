-- Rising lists as sets.
use Rattle.std.proofs.Common.{◌≡◌, ◌≢◌, ℕ, suc, ◌+◌, ◌<◌, ◌≤◌, ◌⊎◌, inl, inr, Bool, true, false, cond, not, eqb, ltb, List, [], ◌∷◌, ◌++◌, length, take, slice_index_or, refl, sym, ap, subst, ◌∙◌, arith}
use Rattle.std.specs.Prelude.{filter}
use Rattle.std.specs.Cmp.Lexicographic.{slice_cmp}
use Rattle.std.specs.Ordering.{nat_cmp}
use Rattle.std.specs.declared.cmp.Ordering.TheVariants.{Less}
use Rattle.std.proofs.lemmas.Bool.{cases_order, cases_Bool, or_cases, or_left, or_right, or_parts, or_from, eq-eqb, eqb-true, ne_eqb, eqb-false, lt-ltb, le-ltb, ltb-true, ltb-false, both_ways, true≢false}
use Rattle.std.proofs.lemmas.List.{take_more}
use Rattle.covering.specs.Table.{has, RisesFrom}
use Rattle.covering.specs.Cover.{meets, sum_over}
use Rattle.covering.specs.Steps.{without, put}

pub has_here : (n x : ℕ) (xs : List ℕ) → n ≡ x → has n (x ∷ xs) ≡ true
has_here n x xs e = or_left _ _ (eq-eqb n x e)

pub has_later : (n x : ℕ) (xs : List ℕ) → has n xs ≡ true → has n (x ∷ xs) ≡ true
has_later n x xs h = or_right (eqb n x) _ h

pub has_cases : (n x : ℕ) (xs : List ℕ) → has n (x ∷ xs) ≡ true → (n ≡ x) ⊎ (has n xs ≡ true)
has_cases n x xs h = elim (or_cases (eqb n x) (has n xs) h) [ inl e ↦ inl (eqb-true n x e) | inr e ↦ inr e ]

pub rises_lower : (l m : ℕ) (xs : List ℕ) → l ≤ m → RisesFrom m xs → RisesFrom l xs
rises_lower l m [] h r = tt
rises_lower l m (x ∷ xs) h r = (omega arith, r.1)

-- nothing below its start is in a rising list
pub rises_above : (n l : ℕ) (xs : List ℕ) → RisesFrom l xs → has n xs ≡ true → l ≤ n
rises_above n l [] r h = absurd (true≢false (sym h))
rises_above n l (x ∷ xs) r h =
    elim (has_cases n x xs h) [ inl e ↦ omega arith | inr e ↦ let k = rises_above n (suc x) xs r.1 e in omega arith ]

pub lacks_below : (n l : ℕ) (xs : List ℕ) → RisesFrom l xs → n < l → has n xs ≡ false
lacks_below n l xs r h =
    elim (cases_Bool (has n xs)) [ inl e ↦ absurd (let k = rises_above n l xs r e in omega arith) | inr e ↦ e ]

-- ---- without

pub without_only : (n a : ℕ) (xs : List ℕ) → has n (without a xs) ≡ true → has n xs ≡ true
without_only n a [] h = h
without_only n a (x ∷ xs) h = go (without_only n a xs) (eqb a x) h
  where
    go : (has n (without a xs) ≡ true → has n xs ≡ true) → (b : Bool) → has n (cond (not b) (x ∷ without a xs) (without a xs)) ≡ true → has n (x ∷ xs) ≡ true
    go more true k = has_later n x xs (more k)
    go more false k = elim (has_cases n x (without a xs) k) [ inl e ↦ has_here n x xs e | inr e ↦ has_later n x xs (more e) ]

pub without_keeps : (n a : ℕ) (xs : List ℕ) → n ≢ a → has n xs ≡ true → has n (without a xs) ≡ true
without_keeps n a [] d h = h
without_keeps n a (x ∷ xs) d h = go (without_keeps n a xs d) (eqb a x) refl (has_cases n x xs h)
  where
    go : (has n xs ≡ true → has n (without a xs) ≡ true) → (b : Bool) → eqb a x ≡ b → (n ≡ x) ⊎ (has n xs ≡ true) → has n (cond (not b) (x ∷ without a xs) (without a xs)) ≡ true
    go more true e (inl k) = absurd (d (k ∙ sym (eqb-true a x e)))
    go more true e (inr k) = more k
    go more false e (inl k) = has_here n x _ k
    go more false e (inr k) = has_later n x _ (more k)

pub without_lacks : (a l : ℕ) (xs : List ℕ) → RisesFrom l xs → has a (without a xs) ≡ false
without_lacks a l [] r = refl
without_lacks a l (x ∷ xs) r = go (without_lacks a (suc x) xs r.1) (eqb a x) refl
  where
    go : has a (without a xs) ≡ false → (b : Bool) → eqb a x ≡ b → has a (cond (not b) (x ∷ without a xs) (without a xs)) ≡ false
    go more true e = more
    go more false e = or_from _ _ e more

pub without_rises : (a l : ℕ) (xs : List ℕ) → RisesFrom l xs → RisesFrom l (without a xs)
without_rises a l [] r = tt
without_rises a l (x ∷ xs) r = go (without_rises a (suc x) xs r.1) (eqb a x)
  where
    go : RisesFrom (suc x) (without a xs) → (b : Bool) → RisesFrom l (cond (not b) (x ∷ without a xs) (without a xs))
    go more true = rises_lower l (suc x) (without a xs) (omega arith) more
    go more false = (r.0, more)

pub without_absent : (a : ℕ) (xs : List ℕ) → has a xs ≡ false → without a xs ≡ xs
without_absent a [] h = refl
without_absent a (x ∷ xs) h = let p = or_parts (eqb a x) (has a xs) h in let e : eqb a x ≡ false = p.0 in rw e (ap (λ ys. x ∷ ys) (without_absent a xs p.1))

pub without_length : (a l : ℕ) (xs : List ℕ) → RisesFrom l xs → has a xs ≡ true → length xs ≡ suc (length (without a xs))
without_length a l [] r h = absurd (true≢false (sym h))
without_length a l (x ∷ xs) r h = go (without_length a (suc x) xs r.1) (eqb a x) refl (has_cases a x xs h)
  where
    go : (has a xs ≡ true → length xs ≡ suc (length (without a xs))) → (b : Bool) → eqb a x ≡ b → (a ≡ x) ⊎ (has a xs ≡ true) → length (x ∷ xs) ≡ suc (length (cond (not b) (x ∷ without a xs) (without a xs)))
    go more true e k =
        let same = eqb-true a x e in
        let absent = lacks_below a (suc x) xs r.1 (omega arith) in
        ap (λ ys. suc (length ys)) (sym (without_absent a xs absent))
    go more false e (inl k) = absurd (eqb-false a x e k)
    go more false e (inr k) = ap suc (more k)

-- ---- a filter

pub filter_parts : (test : ℕ → Bool) (n : ℕ) (xs : List ℕ) → has n (filter test xs) ≡ true → (has n xs ≡ true) × (test n ≡ true)
filter_parts test n [] h = absurd (true≢false (sym h))
filter_parts test n (x ∷ xs) h = go (test x) refl (filter_parts test n xs) h
  where
    go : (b : Bool) → test x ≡ b → (has n (filter test xs) ≡ true → (has n xs ≡ true) × (test n ≡ true)) → has n (cond b (x ∷ filter test xs) (filter test xs)) ≡ true → (has n (x ∷ xs) ≡ true) × (test n ≡ true)
    go true e more k = elim (has_cases n x (filter test xs) k) [ inl f ↦ (has_here n x xs f, ap test f ∙ e) | inr f ↦ (let p = more f in (has_later n x xs p.0, p.1)) ]
    go false e more k = let p = more k in (has_later n x xs p.0, p.1)

pub filter_keeps : (test : ℕ → Bool) (n : ℕ) (xs : List ℕ) → has n xs ≡ true → test n ≡ true → has n (filter test xs) ≡ true
filter_keeps test n [] h k = h
filter_keeps test n (x ∷ xs) h k = go (test x) refl (λ e. filter_keeps test n xs e k) (has_cases n x xs h)
  where
    go : (b : Bool) → test x ≡ b → (has n xs ≡ true → has n (filter test xs) ≡ true) → (n ≡ x) ⊎ (has n xs ≡ true) → has n (cond b (x ∷ filter test xs) (filter test xs)) ≡ true
    go true e more (inl f) = has_here n x (filter test xs) f
    go true e more (inr f) = has_later n x (filter test xs) (more f)
    go false e more (inl f) = absurd (both_ways _ e (ap test (sym f) ∙ k))
    go false e more (inr f) = more f

pub filter_rises : (test : ℕ → Bool) (l : ℕ) (xs : List ℕ) → RisesFrom l xs → RisesFrom l (filter test xs)
filter_rises test l [] r = tt
filter_rises test l (x ∷ xs) r = go (test x) (filter_rises test (suc x) xs r.1)
  where
    go : (b : Bool) → RisesFrom (suc x) (filter test xs) → RisesFrom l (cond b (x ∷ filter test xs) (filter test xs))
    go true k = (r.0, k)
    go false k = rises_lower l (suc x) (filter test xs) (omega arith) k

pub filter_length : (test : ℕ → Bool) (xs : List ℕ) → length (filter test xs) ≤ length xs
filter_length test [] = omega arith
filter_length test (x ∷ xs) = go (test x) (filter_length test xs)
  where
    go : (b : Bool) → length (filter test xs) ≤ length xs → length (cond b (x ∷ filter test xs) (filter test xs)) ≤ length (x ∷ xs)
    go true k = omega arith
    go false k = omega arith

-- ---- put

pub put_has : (b : ℕ) (xs : List ℕ) → has b (put b xs) ≡ true
put_has b [] = has_here b b [] refl
put_has b (x ∷ xs) = go (put_has b xs) (ltb b x) (eqb b x) refl
  where
    go : has b (put b xs) ≡ true → (p q : Bool) → eqb b x ≡ q → has b (cond p (b ∷ x ∷ xs) (cond q (x ∷ xs) (x ∷ put b xs))) ≡ true
    go more true q e = has_here b b (x ∷ xs) refl
    go more false true e = has_here b x xs (eqb-true b x e)
    go more false false e = has_later b x (put b xs) more

pub put_keeps : (n b : ℕ) (xs : List ℕ) → has n xs ≡ true → has n (put b xs) ≡ true
put_keeps n b [] h = absurd (true≢false (sym h))
put_keeps n b (x ∷ xs) h = go (put_keeps n b xs) (ltb b x) (eqb b x) (has_cases n x xs h)
  where
    go : (has n xs ≡ true → has n (put b xs) ≡ true) → (p q : Bool) → (n ≡ x) ⊎ (has n xs ≡ true) → has n (cond p (b ∷ x ∷ xs) (cond q (x ∷ xs) (x ∷ put b xs))) ≡ true
    go more true q k = has_later n b (x ∷ xs) h
    go more false true k = h
    go more false false (inl k) = has_here n x (put b xs) k
    go more false false (inr k) = has_later n x (put b xs) (more k)

pub put_only : (n b : ℕ) (xs : List ℕ) → has n (put b xs) ≡ true → (n ≡ b) ⊎ (has n xs ≡ true)
put_only n b [] h = has_cases n b [] h
put_only n b (x ∷ xs) h = go (put_only n b xs) (ltb b x) (eqb b x) h
  where
    go : (has n (put b xs) ≡ true → (n ≡ b) ⊎ (has n xs ≡ true)) → (p q : Bool) → has n (cond p (b ∷ x ∷ xs) (cond q (x ∷ xs) (x ∷ put b xs))) ≡ true → (n ≡ b) ⊎ (has n (x ∷ xs) ≡ true)
    go more true q k = has_cases n b (x ∷ xs) k
    go more false true k = inr k
    go more false false k = elim (has_cases n x (put b xs) k) [ inl e ↦ inr (has_here n x xs e) | inr e ↦ elim (more e) [ inl f ↦ inl f | inr f ↦ inr (has_later n x xs f) ] ]

pub put_rises : (b l : ℕ) (xs : List ℕ) → l ≤ b → RisesFrom l xs → RisesFrom l (put b xs)
put_rises b l [] h r = (h, tt)
put_rises b l (x ∷ xs) h r = go (λ k. put_rises b (suc x) xs k r.1) (ltb b x) (eqb b x) refl refl
  where
    go : (suc x ≤ b → RisesFrom (suc x) (put b xs)) → (p q : Bool) → ltb b x ≡ p → eqb b x ≡ q → RisesFrom l (cond p (b ∷ x ∷ xs) (cond q (x ∷ xs) (x ∷ put b xs)))
    go more true q e f = let k = ltb-true b x e in (h, (omega arith, r.1))
    go more false true e f = r
    go more false false e f = let k = ltb-false b x e in let d = eqb-false b x f in (r.0, more (omega arith))

pub put_length : (b : ℕ) (xs : List ℕ) → has b xs ≡ false → length (put b xs) ≡ suc (length xs)
put_length b [] h = refl
put_length b (x ∷ xs) h = go (put_length b xs) (ltb b x) (eqb b x) refl
  where
    go : (has b xs ≡ false → length (put b xs) ≡ suc (length xs)) → (p q : Bool) → eqb b x ≡ q → length (cond p (b ∷ x ∷ xs) (cond q (x ∷ xs) (x ∷ put b xs))) ≡ suc (length (x ∷ xs))
    go more true q f = refl
    go more false true f = absurd (both_ways _ (or_parts _ _ h).0 f)
    go more false false f = ap suc (more (or_parts _ _ h).1)

-- ---- sums

pub sum_put : (count : ℕ → ℕ) (b : ℕ) (xs : List ℕ) → has b xs ≡ false → sum_over count (put b xs) ≡ count b + sum_over count xs
sum_put count b [] h = refl
sum_put count b (x ∷ xs) h = go (sum_put count b xs) (ltb b x) (eqb b x) refl
  where
    go : (has b xs ≡ false → sum_over count (put b xs) ≡ count b + sum_over count xs) → (p q : Bool) → eqb b x ≡ q → sum_over count (cond p (b ∷ x ∷ xs) (cond q (x ∷ xs) (x ∷ put b xs))) ≡ count b + sum_over count (x ∷ xs)
    go more true q f = refl
    go more false true f = absurd (both_ways _ (or_parts _ _ h).0 f)
    go more false false f = let k = more (or_parts (eqb b x) (has b xs) h).1 in omega arith

pub sum_without : (count : ℕ → ℕ) (a l : ℕ) (xs : List ℕ) → RisesFrom l xs → has a xs ≡ true → sum_over count xs ≡ count a + sum_over count (without a xs)
sum_without count a l [] r h = absurd (true≢false (sym h))
sum_without count a l (x ∷ xs) r h = go (sum_without count a (suc x) xs r.1) (eqb a x) refl (has_cases a x xs h)
  where
    go : (has a xs ≡ true → sum_over count xs ≡ count a + sum_over count (without a xs)) → (b : Bool) → eqb a x ≡ b → (a ≡ x) ⊎ (has a xs ≡ true) → sum_over count (x ∷ xs) ≡ count a + sum_over count (cond (not b) (x ∷ without a xs) (without a xs))
    go more true e k =
        let same = eqb-true a x e in
        let absent = lacks_below a (suc x) xs r.1 (omega arith) in
        ap (λ n. n + sum_over count xs) (ap count (sym same)) ∙ ap (λ ys. count a + sum_over count ys) (sym (without_absent a xs absent))
    go more false e (inl k) = absurd (eqb-false a x e k)
    go more false e (inr k) = let f = more k in omega arith

sum_append : (count : ℕ → ℕ) (xs ys : List ℕ) → sum_over count (xs ++ ys) ≡ sum_over count xs + sum_over count ys
sum_append count [] ys = omega arith
sum_append count (x ∷ xs) ys = let k = sum_append count xs ys in omega arith

pub sum_more : (count : ℕ → ℕ) (xs : List ℕ) (i : ℕ) → i < length xs → sum_over count (take (i + 1) xs) ≡ sum_over count (take i xs) + count (slice_index_or xs i 0)
sum_more count xs i h = ap (sum_over count) (take_more xs i 0 h) ∙ sum_append count (take i xs) (slice_index_or xs i 0 ∷ []) ∙ omega arith

-- ---- meeting a row

pub meets_at : (s row : List ℕ) → meets s row ≡ true → (c : ℕ) × (has c s ≡ true) × (has c row ≡ true)
meets_at s [] h = absurd (true≢false (sym h))
meets_at s (c ∷ row) h =
    elim (or_cases (has c s) (meets s row) h) [ inl e ↦ (c, e, has_here c c row refl) | inr e ↦ let k = meets_at s row e in (k.0, k.1, has_later k.0 c row k.2) ]

pub meets_from : (c : ℕ) (s row : List ℕ) → has c s ≡ true → has c row ≡ true → meets s row ≡ true
meets_from c s [] h k = absurd (true≢false (sym k))
meets_from c s (d ∷ row) h k =
    elim (has_cases c d row k) [ inl e ↦ or_left _ _ (subst (λ n. has n s ≡ true) e h) | inr e ↦ or_right (has d s) _ (meets_from c s row h e) ]

-- ---- order

-- of two rising lists of one length the first has the least number in which they differ
pub first_by_sets : (c l : ℕ) (s x : List ℕ) → RisesFrom l s → RisesFrom l x → length s ≡ length x → has c s ≡ true → has c x ≡ false → ((m : ℕ) → m < c → has m s ≡ has m x) → slice_cmp nat_cmp s x ≡ Less
first_by_sets c l [] x r q e h k same = absurd (true≢false (sym h))
first_by_sets c l (p ∷ ps) [] r q e h k same = absurd (omega arith)
first_by_sets c l (p ∷ ps) (y ∷ ys) r q e h k same = go (first_by_sets c (suc y) ps ys) (cases_order p y)
  where
    go : (RisesFrom (suc y) ps → RisesFrom (suc y) ys → length ps ≡ length ys → has c ps ≡ true → has c ys ≡ false → ((m : ℕ) → m < c → has m ps ≡ has m ys) → slice_cmp nat_cmp ps ys ≡ Less) → (p ≡ y) ⊎ ((p < y) ⊎ (y < p)) → slice_cmp nat_cmp (p ∷ ps) (y ∷ ys) ≡ Less
    go more (inr (inl lt)) = rw (lt-ltb p y lt) refl
    go more (inr (inr gt)) = absurd (elim (cases_order c y) [
      | inl e ↦ both_ways _ k (has_here c y ys e)
      | inr (inl below) ↦ (let up = rises_above c p (p ∷ ps) (omega arith, r.1) h in omega arith)
      | inr (inr above) ↦ (let up = rises_above y p (p ∷ ps) (omega arith, r.1) (same y above ∙ has_here y y ys refl) in omega arith)
    ])
    go more (inl eq) =
        let apart : c ≢ y = λ f. both_ways _ k (has_here c y ys f) in
        let later : has c ps ≡ true = elim (has_cases c p ps h) [ inl f ↦ absurd (apart (f ∙ eq)) | inr f ↦ f ] in
        let rest : RisesFrom (suc y) ps = subst (λ n. RisesFrom (suc n) ps) eq r.1 in
        let tail : (m : ℕ) → m < c → has m ps ≡ has m ys = λ m below. elim (cases_order m y) [
          | inl f ↦ lacks_below m (suc y) ps rest (omega arith) ∙ sym (lacks_below m (suc y) ys q.1 (omega arith))
          | inr (inl f) ↦ lacks_below m (suc y) ps rest (omega arith) ∙ sym (lacks_below m (suc y) ys q.1 (omega arith))
          | inr (inr f) ↦ (let no : eqb m y ≡ false = ne_eqb m y (λ g. absurd (omega arith)) in rw (eq, no) at (same m below))
        ] in
        let same_length : length ps ≡ length ys = omega arith in
        rw (eq, le-ltb y y (omega arith), eq-eqb y y refl) (more rest q.1 same_length later (or_parts _ _ k).1 tail)
