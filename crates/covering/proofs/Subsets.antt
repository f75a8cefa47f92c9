-- A cover beside the taken columns, and the list of all live and taken ones.
use Rattle.std.proofs.Common.{◌≡◌, ◌≢◌, ℕ, suc, ◌+◌, ◌<◌, ◌≤◌, ◌⊎◌, inl, inr, true, false, List, [], ◌∷◌, length, refl, sym, ap, subst, ◌∙◌, arith}
use Rattle.std.specs.List.{AllByRecursion}
use Rattle.std.proofs.lemmas.Bool.{cases_Bool, or_left, or_right, or_parts, both_ways, true≢false}
use Rattle.covering.specs.Table.{Table, has, RisesFrom, IsWithin, IsTable}
use Rattle.covering.specs.Cover.{meets, IsCover, sum_over}
use Rattle.covering.specs.Steps.{without, put}
use Rattle.covering.specs.Choices.{union_of}
use Rattle.covering.proofs.Sets.{has_here, has_later, has_cases, rises_above, without_only, without_keeps, without_lacks, without_rises, without_length, sum_without, put_has, put_keeps, put_only, put_rises, meets_at, meets_from}

-- rising lists with the same numbers are equal
pub same_list : (l : ℕ) (xs ys : List ℕ) → RisesFrom l xs → RisesFrom l ys → ((n : ℕ) → has n xs ≡ true → has n ys ≡ true) → ((n : ℕ) → has n ys ≡ true → has n xs ≡ true) → xs ≡ ys
same_list l [] [] r q f g = refl
same_list l [] (y ∷ ys) r q f g = absurd (true≢false (sym (g y (has_here y y ys refl))))
same_list l (x ∷ xs) [] r q f g = absurd (true≢false (sym (f x (has_here x x xs refl))))
same_list l (x ∷ xs) (y ∷ ys) r q f g =
    let up = rises_above y x (x ∷ xs) (omega arith, r.1) (g y (has_here y y ys refl)) in
    let down = rises_above x y (y ∷ ys) (omega arith, q.1) (f x (has_here x x xs refl)) in
    let e : x ≡ y = omega arith in
    let q1 : RisesFrom (suc x) ys = subst (λ n. RisesFrom (suc n) ys) (sym e) q.1 in
    let tail = same_list (suc x) xs ys r.1 q1
    (λ n h. elim (has_cases n y ys (f n (has_later n x xs h))) [ inl k ↦ absurd (let a = rises_above n (suc x) xs r.1 h in omega arith) | inr k ↦ k ])
    (λ n h. elim (has_cases n x xs (g n (has_later n y ys h))) [ inl k ↦ absurd (let a = rises_above n (suc x) ys q1 h in omega arith) | inr k ↦ k ]) in
    ap (λ n. n ∷ xs) e ∙ ap (λ zs. y ∷ zs) tail

-- xs without each of ts
abbrev pub minus : List ℕ → List ℕ → List ℕ
minus xs [] = xs
minus xs (t ∷ ts) = minus (without t xs) ts

pub minus_only : (n : ℕ) (xs ts : List ℕ) → has n (minus xs ts) ≡ true → has n xs ≡ true
minus_only n xs [] h = h
minus_only n xs (t ∷ ts) h = without_only n t xs (minus_only n (without t xs) ts h)

pub minus_lacks : (n : ℕ) (xs ts : List ℕ) → RisesFrom 0 xs → has n (minus xs ts) ≡ true → has n ts ≡ false
minus_lacks n xs [] r h = refl
minus_lacks n xs (t ∷ ts) r h = elim (cases_Bool (has n (t ∷ ts))) [
  | inr e ↦ e
  | inl e ↦ absurd (elim (has_cases n t ts e) [
    | inl f ↦ both_ways _ (without_lacks t 0 xs r) (subst (λ m. has m (without t xs) ≡ true) f (minus_only n (without t xs) ts h))
    | inr f ↦ both_ways _ (minus_lacks n (without t xs) ts (without_rises t 0 xs r) h) f
  ])
]

pub minus_keeps : (n : ℕ) (xs ts : List ℕ) → has n xs ≡ true → has n ts ≡ false → has n (minus xs ts) ≡ true
minus_keeps n xs [] h k = h
minus_keeps n xs (t ∷ ts) h k = minus_keeps n (without t xs) ts (without_keeps n t xs (λ e. both_ways _ k (has_here n t ts e)) h) (or_parts _ _ k).1

pub minus_length : (l : ℕ) (xs ts : List ℕ) → RisesFrom 0 xs → RisesFrom l ts → ((n : ℕ) → has n ts ≡ true → has n xs ≡ true) → length xs ≡ length ts + length (minus xs ts)
minus_length l xs [] q r f = omega arith
minus_length l xs (t ∷ ts) q r f =
    let one = without_length t 0 xs q (f t (has_here t t ts refl)) in
    let rest = minus_length (suc t) (without t xs) ts (without_rises t 0 xs q) r.1 (λ n h. without_keeps n t xs (λ e. absurd (let a = rises_above n (suc t) ts r.1 h in omega arith)) (f n (has_later n t ts h))) in
    omega arith

pub minus_sum : (count : ℕ → ℕ) (l : ℕ) (xs ts : List ℕ) → RisesFrom 0 xs → RisesFrom l ts → ((n : ℕ) → has n ts ≡ true → has n xs ≡ true) → sum_over count xs ≡ sum_over count ts + sum_over count (minus xs ts)
minus_sum count l xs [] q r f = omega arith
minus_sum count l xs (t ∷ ts) q r f =
    let one = sum_without count t 0 xs q (f t (has_here t t ts refl)) in
    let rest = minus_sum count (suc t) (without t xs) ts (without_rises t 0 xs q) r.1 (λ n h. without_keeps n t xs (λ e. absurd (let a = rises_above n (suc t) ts r.1 h in omega arith)) (f n (has_later n t ts h))) in
    omega arith

pub rows_met : (t : Table) (x : List ℕ) (rows : List (List ℕ)) → IsTable t → IsCover t x → AllByRecursion (λ row. IsWithin row t.live) rows → AllByRecursion (λ row. meets x row ≡ true) rows → AllByRecursion (λ row. (c : ℕ) × (has c (minus x t.taken) ≡ true) × (has c row ≡ true)) rows
rows_met t x [] w h a b = tt
rows_met t x (row ∷ rows) w h a b =
    let m = meets_at x row b.0 in
    ((m.0, minus_keeps m.0 x t.taken m.1 (w.apart m.0 (a.0 m.0 m.2)), m.2), rows_met t x rows w h a.1 b.1)

pub rows_within : (t : Table) (rows : List (List ℕ)) → AllByRecursion (λ row. (row ≢ []) × RisesFrom 0 row × IsWithin row t.live) rows → AllByRecursion (λ row. IsWithin row t.live) rows
rows_within t [] h = tt
rows_within t (row ∷ rows) h = (h.0.2, rows_within t rows h.1)

-- ---- there is a cover

pub union_rises : (ts xs : List ℕ) → RisesFrom 0 ts → RisesFrom 0 (union_of ts xs)
union_rises ts [] r = r
union_rises ts (x ∷ xs) r = put_rises x 0 (union_of ts xs) (omega arith) (union_rises ts xs r)

pub union_left : (n : ℕ) (ts xs : List ℕ) → has n ts ≡ true → has n (union_of ts xs) ≡ true
union_left n ts [] h = h
union_left n ts (x ∷ xs) h = put_keeps n x (union_of ts xs) (union_left n ts xs h)

pub union_right : (n : ℕ) (ts xs : List ℕ) → has n xs ≡ true → has n (union_of ts xs) ≡ true
union_right n ts [] h = absurd (true≢false (sym h))
union_right n ts (x ∷ xs) h = elim (has_cases n x xs h) [ inl e ↦ subst (λ m. has m (put x (union_of ts xs)) ≡ true) (sym e) (put_has x (union_of ts xs)) | inr e ↦ put_keeps n x (union_of ts xs) (union_right n ts xs e) ]

pub union_only : (n : ℕ) (ts xs : List ℕ) → has n (union_of ts xs) ≡ true → (has n ts ≡ true) ⊎ (has n xs ≡ true)
union_only n ts [] h = inl h
union_only n ts (x ∷ xs) h = elim (put_only n x (union_of ts xs) h) [
  | inl e ↦ inr (has_here n x xs e)
  | inr e ↦ elim (union_only n ts xs e) [ inl f ↦ inl f | inr f ↦ inr (has_later n x xs f) ]
]

rises_length : (l n : ℕ) (xs : List ℕ) → l ≤ n → RisesFrom l xs → ((m : ℕ) → has m xs ≡ true → m < n) → length xs + l ≤ n
rises_length l n [] h r f = omega arith
rises_length l n (x ∷ xs) h r f = let one = f x (has_here x x xs refl) in let k = rises_length (suc x) n xs (omega arith) r.1 (λ m e. f m (has_later m x xs e)) in omega arith

rows_all : (ts live : List ℕ) (rows : List (List ℕ)) → AllByRecursion (λ row. (row ≢ []) × RisesFrom 0 row × IsWithin row live) rows → AllByRecursion (λ row. meets (union_of ts live) row ≡ true) rows
rows_all ts live [] h = tt
rows_all ts live (row ∷ rows) h = (go row h.0.0 h.0.2, rows_all ts live rows h.1)
  where
    go : (r : List ℕ) → r ≢ [] → IsWithin r live → meets (union_of ts live) r ≡ true
    go [] e k = absurd (e refl)
    go (c ∷ cs) e k = meets_from c (union_of ts live) (c ∷ cs) (union_right c ts live (k c (has_here c c cs refl))) (has_here c c cs refl)

pub all_cover : (t : Table) → IsTable t → IsCover t (union_of t.taken t.live)
all_cover t w = record {
  rises = union_rises t.taken t.live w.taken_rises;
  taken = λ n h. union_left n t.taken t.live h;
  only = λ n h. elim (union_only n t.taken t.live h) [ inl f ↦ or_left _ _ f | inr f ↦ or_right (has n t.taken) _ f ];
  rows = rows_all t.taken t.live t.rows w.rows;
}
