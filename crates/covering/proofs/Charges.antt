-- Weights of rows laid on the columns, one row after another.
use Rattle.std.proofs.Common.{◌≡◌, ℕ, zero, suc, ◌+◌, ◌-◌, ◌<◌, ◌≤◌, ◌||◌, ◌⊎◌, inl, inr, Bool, true, false, cond, eqb, List, [], ◌∷◌, ◌++◌, length, take, set, slice_index_or, refl, sym, ap, subst, ◌∙◌, arith, Vec}
use Rattle.std.specs.List.{AllByRecursion, range_with_len}
use Rattle.std.proofs.lemmas.Bool.{cases_Bool, or_from, eqb-true, eqb-false, both_ways, false≢true}
use Rattle.std.proofs.lemmas.List.{length-set, map-id, take_more, get_or-set_same, get_or-set_other}
use Rattle.std.proofs.lemmas.List.FromFn.{map-range_with_len_more}
use Rattle.covering.specs.Table.{has, RisesFrom, items_of}
use Rattle.covering.specs.Cover.{sum_over}
use Rattle.covering.specs.Weights.{at, total, load}
use Rattle.covering.specs.Lagrange.{beyond, overload, overloads, Hits, Carries, IsLoaded, BoundsCovers, BoundsCoversLacking}
use Rattle.covering.proofs.Bounds.{load_push, total_push}
use Rattle.covering.proofs.Rows.{take_items}
use Rattle.covering.proofs.Sets.{has_here, has_later, has_cases}
use Rattle.covering.proofs.Lagrange.{bound_all, bound_in, weights_borne, lagrangian_holds}

rises_at : (l i : ℕ) (xs : List ℕ) → RisesFrom l xs → i < length xs → l ≤ slice_index_or xs i 0
rises_at l i [] r h = absurd (omega arith)
rises_at l zero (x ∷ xs) r h = r.0
rises_at l (suc i) (x ∷ xs) r h = let k = rises_at (suc x) i xs r.1 (omega arith) in let low = r.0 in omega arith

-- a number of a rising list is not among those before it
pub rising_new : (l i : ℕ) (row : List ℕ) → RisesFrom l row → i < length row → has (slice_index_or row i 0) (take i row) ≡ false
rising_new l i [] r h = absurd (omega arith)
rising_new l zero (x ∷ xs) r h = refl
rising_new l (suc i) (x ∷ xs) r h =
    let above = rises_at (suc x) i xs r.1 (omega arith) in
    let later = rising_new (suc x) i xs r.1 (omega arith) in
    elim (cases_Bool (eqb (slice_index_or xs i 0) x)) [
      | inl e ↦ absurd (let same = eqb-true (slice_index_or xs i 0) x e in omega arith)
      | inr e ↦ or_from _ _ e later
    ]

both_or : (w : ℕ) (a b : Bool) → (a ≡ true → b ≡ true → ⊥) → cond (a || (b || false)) w 0 ≡ cond a w 0 + cond b w 0
both_or w true true n = absurd (n refl refl)
both_or w true false n = omega arith
both_or w false true n = omega arith
both_or w false false n = omega arith

has_push : (c d : ℕ) (xs : List ℕ) → has c (xs ++ d ∷ []) ≡ (has c xs || (eqb c d || false))
has_push c d [] = refl
has_push c d (x ∷ xs) = go (eqb c x) (has_push c d xs)
  where
    go : (b : Bool) → has c (xs ++ d ∷ []) ≡ (has c xs || (eqb c d || false)) → (b || has c (xs ++ d ∷ [])) ≡ ((b || has c xs) || (eqb c d || false))
    go true e = refl
    go false e = e

pub charged_more : (c w i : ℕ) (row : List ℕ) → RisesFrom 0 row → i < length row → cond (has c (take (i + 1) row)) w 0 ≡ cond (has c (take i row)) w 0 + cond (eqb c (slice_index_or row i 0)) w 0
charged_more c w i row r h =
    let d = slice_index_or row i 0 in
    ap (λ xs. cond (has c xs) w 0) (take_more row i 0 h)
    ∙ ap (λ b. cond b w 0) (has_push c (slice_index_or row i 0) (take i row))
    ∙ both_or w (has c (take i row)) (eqb c (slice_index_or row i 0)) (λ a b. both_ways _ (rising_new 0 i row r h) (subst (λ n. has n (take i row) ≡ true) (eqb-true c (slice_index_or row i 0) b) a))

pub charged_set : (loads start row : List ℕ) (i w : ℕ) → RisesFrom 0 row → i < length row → slice_index_or row i 0 < length loads → ((c : ℕ) → c < length loads → at loads c ≡ at start c + cond (has c (take i row)) w 0) → (c : ℕ) → c < length loads → at (set loads (slice_index_or row i 0) (at loads (slice_index_or row i 0) + w)) c ≡ at start c + cond (has c (take (i + 1) row)) w 0
charged_set loads start row i w r h l f c b =
    let k = charged_more c w i row r h in
    let g = f c b in
    elim (cases_Bool (eqb c (slice_index_or row i 0))) [
      | inl e ↦ (let same = eqb-true c (slice_index_or row i 0) e in let k2 = rw e at k in let now = get_or-set_same loads (slice_index_or row i 0) (at loads (slice_index_or row i 0) + w) 0 l in
          ap (at (set loads (slice_index_or row i 0) (at loads (slice_index_or row i 0) + w))) same ∙ now ∙ ap (λ n. at loads n + w) (sym same) ∙ omega arith)
      | inr e ↦ (let k2 = rw e at k in get_or-set_other loads (slice_index_or row i 0) c (at loads (slice_index_or row i 0) + w) 0 (eqb-false c (slice_index_or row i 0) e) ∙ omega arith)
    ]

pub charged_past : (loads start row : List ℕ) (i w : ℕ) → RisesFrom 0 row → i < length row → length loads ≤ slice_index_or row i 0 → ((c : ℕ) → c < length loads → at loads c ≡ at start c + cond (has c (take i row)) w 0) → (c : ℕ) → c < length loads → at loads c ≡ at start c + cond (has c (take (i + 1) row)) w 0
charged_past loads start row i w r h l f c b =
    let k = charged_more c w i row r h in
    let g = f c b in
    elim (cases_Bool (eqb c (slice_index_or row i 0))) [
      | inl e ↦ absurd (let same = eqb-true c (slice_index_or row i 0) e in omega arith)
      | inr e ↦ (let k2 = rw e at k in omega arith)
    ]

pub total_more : (ys : List ℕ) (i : ℕ) → i < length ys → total (take (i + 1) ys) ≡ total (take i ys) + slice_index_or ys i 0
total_more ys i h = ap total (take_more ys i 0 h) ∙ total_push (take i ys) (slice_index_or ys i 0)

sum_push : (g : ℕ → ℕ) (xs : List ℕ) (y : ℕ) → sum_over g (xs ++ y ∷ []) ≡ sum_over g xs + g y
sum_push g [] y = omega arith
sum_push g (x ∷ xs) y = let k = sum_push g xs y in omega arith

zero_left : (n : ℕ) → 0 + n ≡ n
zero_left n = omega arith

pub range_sum : (g : ℕ → ℕ) (n : ℕ) → sum_over g (range_with_len 0 (n + 1)) ≡ sum_over g (range_with_len 0 n) + g n
range_sum g n =
    let longer = sym (map-id (range_with_len 0 (n + 1))) ∙ map-range_with_len_more (λ c. c) 0 n n (zero_left n) ∙ ap (λ l. l ++ n ∷ []) (map-id (range_with_len 0 n)) in
    ap (sum_over g) longer ∙ sum_push g (range_with_len 0 n) n

sum_alike : (f g : ℕ → ℕ) (a n : ℕ) → ((c : ℕ) → c < a + n → f c ≡ g c) → sum_over f (range_with_len a n) ≡ sum_over g (range_with_len a n)
sum_alike f g a zero e = refl
sum_alike f g a (suc n) e = let k = sum_alike f g (a + 1) n (λ c h. e c (omega arith)) in let one = e a (omega arith) in omega arith

pub overs : (rows : List (List ℕ)) (ys scaled_costs loads : List ℕ) → ((c : ℕ) → c < length scaled_costs → at loads c ≡ load c rows ys) → sum_over (beyond loads scaled_costs) (range_with_len 0 (length scaled_costs)) ≡ overloads (length scaled_costs) (at scaled_costs) rows ys
overs rows ys scaled_costs loads f = sum_alike (beyond loads scaled_costs) (overload (at scaled_costs) rows ys) 0 (length scaled_costs) (λ c h. ap (λ n. n - at scaled_costs c) (f c (omega arith)))

pub charged_put : (loads start row : List ℕ) (i w v : ℕ) → RisesFrom 0 row → i < length row → slice_index_or row i 0 < length loads → ((c : ℕ) → c < length loads → at loads c ≡ at start c + cond (has c (take i row)) w 0) → at loads (slice_index_or row i 0) + w ≡ v → (c : ℕ) → c < length (set loads (slice_index_or row i 0) v) → at (set loads (slice_index_or row i 0) v) c ≡ at start c + cond (has c (take (i + 1) row)) w 0
charged_put loads start row i w v r h l f e c b =
    let same = length-set loads (slice_index_or row i 0) v in
    subst (λ n. at (set loads (slice_index_or row i 0) n) c ≡ at start c + cond (has c (take (i + 1) row)) w 0) e (charged_set loads start row i w r h l f c (omega arith))

load_total : (c : ℕ) (rows : List (List ℕ)) (ys : List ℕ) → load c rows ys ≤ total ys
load_total c [] ys = omega arith
load_total c (row ∷ rows) [] = omega arith
load_total c (row ∷ rows) (y ∷ ys) = let k = load_total c rows ys in let one = cond_most (has c row) y in omega arith
  where
    cond_most : (b : Bool) (w : ℕ) → cond b w 0 ≤ w
    cond_most true w = omega arith
    cond_most false w = omega arith

scaled_cost_most : (g : ℕ → ℕ) (c : ℕ) (x : List ℕ) → has c x ≡ true → g c ≤ sum_over g x
scaled_cost_most g c [] h = absurd (false≢true h)
scaled_cost_most g c (d ∷ x) h = elim (has_cases c d x h) [ inl e ↦ (let same = ap g e in omega arith) | inr e ↦ (let k = scaled_cost_most g c x e in omega arith) ]

-- loads that each list carries bound it
pub covers_from : (rows : List (List ℕ)) (scaled_costs loads : List ℕ) (n over : ℕ) → Carries rows loads n → length loads ≡ length scaled_costs → (over ≡ sum_over (beyond loads scaled_costs) (range_with_len 0 (length loads))) ⊎ (n ≤ over) → BoundsCovers rows scaled_costs loads n over
covers_from rows scaled_costs loads n over carries e exceeds =
    let borne : (x : List ℕ) → Hits (length scaled_costs) rows x → n ≤ sum_over (at loads) x = λ x h. carries x (subst (λ k. Hits k rows x) (sym e) h) in
    let is : (over ≡ sum_over (beyond loads scaled_costs) (range_with_len 0 (length scaled_costs))) ⊎ (n ≤ over) = subst (λ k. (over ≡ sum_over (beyond loads scaled_costs) (range_with_len 0 k)) ⊎ (n ≤ over)) e exceeds in
    record {
      all = λ x h. elim is [
        | inl s ↦ (let k = bound_all (at scaled_costs) (at loads) (length scaled_costs) n rows x h (borne x h) in omega arith)
        | inr s ↦ omega arith
      ];
      having = λ x h c i. elim is [
        | inl s ↦ (let k = bound_in (at scaled_costs) (at loads) (length scaled_costs) n rows x h (borne x h) c i in omega arith)
        | inr s ↦ (let k = scaled_cost_most (at scaled_costs) c x i in omega arith)
      ];
    }

pub lacking_from : (rows : List (List ℕ)) (ys scaled_costs loads : List ℕ) (n over : ℕ) → length ys ≡ length rows → IsLoaded rows ys scaled_costs loads n over → BoundsCoversLacking rows scaled_costs loads n over
lacking_from rows ys scaled_costs loads n over e l x h c s0 i = elim l.exceeds [
  | inl s ↦ (let k = (lagrangian_holds (at scaled_costs) (length scaled_costs) rows ys x e h).2 c s0 i in let t = l.weighs in let b = l.loads_are c s0 in omega arith)
  | inr s ↦ (let k = load_total c rows ys in let t = l.weighs in let b = l.loads_are c s0 in omega arith)
]

sum_same : (f g : ℕ → ℕ) (x : List ℕ) → ((c : ℕ) → has c x ≡ true → f c ≡ g c) → sum_over f x ≡ sum_over g x
sum_same f g [] e = refl
sum_same f g (c ∷ x) e =
    let one = e c (has_here c c x refl) in
    let k = sum_same f g x (λ d h. e d (has_later d c x h)) in
    omega arith

pub carries_from : (rows : List (List ℕ)) (ys scaled_costs loads : List ℕ) (n over : ℕ) → length ys ≡ length rows → length loads ≡ length scaled_costs → IsLoaded rows ys scaled_costs loads n over → Carries rows loads n
carries_from rows ys scaled_costs loads n over e long l x h =
    let borne = weights_borne (length loads) rows ys x e h in
    let same = sum_same (at loads) (λ c. load c rows ys) x (λ c i. l.loads_are c (let b = h.below c i in omega arith)) in
    let t = l.weighs in
    omega arith

pub all_at : (P : List ℕ → Type 0) {Z : Type 0} (rows : List (Vec ℕ Z)) (i : ℕ) (r : Vec ℕ Z) → AllByRecursion P (items_of rows) → i < length rows → P (slice_index_or rows i r).items
all_at P [] i r a h = absurd (omega arith)
all_at P (row ∷ rows) zero r a h = a.0
all_at P (row ∷ rows) (suc i) r a h = all_at P rows i r a.1 (omega arith)

take_same : {Z : Type 0} (rows : List (Vec ℕ Z)) (ws : List ℕ) (i : ℕ) → length ws ≡ length rows → length (take i ws) ≡ length (items_of (take i rows))
take_same rows ws zero e = refl
take_same [] [] (suc i) e = refl
take_same [] (w ∷ ws) (suc i) e = absurd (omega arith)
take_same (row ∷ rows) [] (suc i) e = absurd (omega arith)
take_same (row ∷ rows) (w ∷ ws) (suc i) e = let k = take_same rows ws i (omega arith) in omega arith

pub load_more : {Z : Type 0} (d i : ℕ) (rows : List (Vec ℕ Z)) (r : Vec ℕ Z) (ws : List ℕ) → length ws ≡ length rows → i < length rows → r ≡ slice_index_or rows i r → load d (items_of (take (i + 1) rows)) (take (i + 1) ws) ≡ load d (items_of (take i rows)) (take i ws) + cond (has d r.items) (slice_index_or ws i 0) 0
load_more d i rows r ws e l is =
    ap (λ rs. load d rs (take (i + 1) ws)) (take_items rows i r l is)
    ∙ ap (load d (items_of (take i rows) ++ r.items ∷ [])) (take_more ws i 0 (omega arith))
    ∙ load_push d (items_of (take i rows)) (take i ws) r.items (slice_index_or ws i 0) (take_same rows ws i e)

pub cond_top : (b : Bool) (w : ℕ) → cond b w 0 ≤ w
cond_top true w = omega arith
cond_top false w = omega arith

pub items_count : {Z : Type 0} (rows : List (Vec ℕ Z)) → length (items_of rows) ≡ length rows
items_count [] = refl
items_count (row ∷ rows) = let k = items_count rows in omega arith
