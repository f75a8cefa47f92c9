-- What a cut adds to the loads is carried by each list with a column of each row.
use Rattle.std.proofs.Common.{◌≡◌, ℕ, ◌+◌, ◌-◌, ◌*◌, ◌^◌, ◌<◌, ◌≤◌, min, inl, inr, true, cond, List, [], ◌∷◌, length, refl, sym, ap, subst, ◌∙◌, arith}
use Rattle.std.proofs.lemmas.Bool.{true≢false}
use Rattle.std.proofs.lemmas.Grind.{div_ceil_times}
use Rattle.std.proofs.Math.Nat.{mul-le-mul_left}
use Rattle.std.specs.List.{AllByRecursion}
use Rattle.covering.specs.Table.{has}
use Rattle.covering.specs.Cover.{meets, sum_over}
use Rattle.covering.specs.Cuts.{half_up, raised}
use Rattle.covering.specs.Lagrange.{Carries, Hits}
use Rattle.covering.specs.Weights.{at}
use Rattle.covering.proofs.Lagrange.{scaled_sum}
use Rattle.covering.proofs.Sets.{has_here, has_later, has_cases, meets_at}

-- ---- the rows of a cut are counted

sum_rises : (f g : ℕ → ℕ) (x : List ℕ) → ((c : ℕ) → has c x ≡ true → f c ≤ g c) → sum_over f x ≤ sum_over g x
sum_rises f g [] r = omega arith
sum_rises f g (c ∷ x) r =
    let one = r c (has_here c c x refl) in
    let k = sum_rises f g x (λ d h. r d (has_later d c x h)) in
    omega arith

sum_one_more : (f g : ℕ → ℕ) (c : ℕ) (x : List ℕ) → ((d : ℕ) → has d x ≡ true → f d ≤ g d) → f c + 1 ≤ g c → has c x ≡ true → sum_over f x + 1 ≤ sum_over g x
sum_one_more f g c [] r m h = absurd (true≢false (sym h))
sum_one_more f g c (d ∷ x) r m h =
    let here = r d (has_here d d x refl) in
    let later : (n : ℕ) → has n x ≡ true → f n ≤ g n = λ n i. r n (has_later n d x i) in
    elim (has_cases c d x h) [
      | inl e ↦ (let k = sum_rises f g x later in let a = ap f e in let b = ap g e in omega arith)
      | inr e ↦ (let k = sum_one_more f g c x later m e in omega arith)
    ]

pub counted_more : (rows : List (List ℕ)) (row counts more : List ℕ) (n : ℕ) → Carries rows counts n → ((x : List ℕ) → AllByRecursion (λ r. meets x r ≡ true) rows → meets x row ≡ true) → length more ≡ length counts → ((c : ℕ) → c < length counts → at more c ≡ at counts c + cond (has c row) 1 0) → Carries rows more (n + 1)
counted_more rows row counts more n carries among e is x h =
    let before = carries x (subst (λ k. Hits k rows x) e h) in
    let met = meets_at x row (among x h.each) in
    let at_met : at more met.0 ≡ at counts met.0 + 1 = subst (λ b. at more met.0 ≡ at counts met.0 + cond b 1 0) met.2 (is met.0 (let b = h.below met.0 met.1 in omega arith)) in
    let k = sum_one_more (at counts) (at more) met.0 x (λ c i. let b = h.below c i in let m = is c (omega arith) in omega arith) (omega arith) met.1 in
    omega arith

-- ---- halves

half_sum : (a b : ℕ) → half_up (a + b) ≤ half_up a + half_up b
half_sum a b = let p = div_ceil_times a 2 (omega arith) in let q = div_ceil_times b 2 (omega arith) in let r = div_ceil_times (a + b) 2 (omega arith) in omega arith

half_rises : (a b : ℕ) → a ≤ b → half_up a ≤ half_up b
half_rises a b l = let p = div_ceil_times a 2 (omega arith) in let q = div_ceil_times b 2 (omega arith) in omega arith

halves_of_sum : (count : ℕ → ℕ) (x : List ℕ) → half_up (sum_over count x) ≤ sum_over (λ c. half_up (count c)) x
halves_of_sum count [] = omega arith
halves_of_sum count (c ∷ x) =
    let k = halves_of_sum count x in
    let one = half_sum (count c) (sum_over count x) in
    omega arith

-- ---- sums that are no more than the largest number

sum_raised : (f g : ℕ → ℕ) (w : ℕ) (x : List ℕ) → sum_over (λ c. f c + w * g c) x ≡ sum_over f x + w * sum_over g x
sum_raised f g w [] = omega arith
sum_raised f g w (c ∷ x) =
    let k = sum_raised f g w x in
    let p = scaled_sum w (g c) (sum_over g x) in
    omega arith

sum_capped : (m : ℕ) (f g : ℕ → ℕ) (x : List ℕ) → ((c : ℕ) → has c x ≡ true → min (f c) m ≤ g c) → min (sum_over f x) m ≤ sum_over g x
sum_capped m f g [] r = omega arith
sum_capped m f g (c ∷ x) r =
    let one = r c (has_here c c x refl) in
    let k = sum_capped m f g x (λ d h. r d (has_later d c x h)) in
    omega arith

min_rises : (a b m : ℕ) → a ≤ b → min a m ≤ min b m
min_rises a b m l = omega arith

pub raised_carries : (rows : List (List ℕ)) (loads counts more : List ℕ) (n number w : ℕ) → Carries rows loads n → Carries rows counts number → length counts ≡ length loads → length more ≡ length loads → ((c : ℕ) → c < length loads → at more c ≡ raised w (at loads c) (at counts c)) → Carries rows more (raised w n number)
raised_carries rows loads counts more n number w carries counted e long is x h =
    let borne = carries x (subst (λ k. Hits k rows x) long h) in
    let met = counted x (subst (λ k. Hits k rows x) (long ∙ sym e) h) in
    let half : ℕ → ℕ = λ c. half_up (at counts c) in
    let halves = halves_of_sum (at counts) x in
    let rises = half_rises number (sum_over (at counts) x) met in
    let times : w * half_up number ≤ w * sum_over half x = mul-le-mul_left w (omega arith) in
    let sum = sum_raised (at loads) half w x in
    let most = min_rises (n + w * half_up number) (sum_over (λ c. at loads c + w * half c) x) (2 ^ 128 - 1) (omega arith) in
    let capped = sum_capped (2 ^ 128 - 1) (λ c. at loads c + w * half c) (at more) x (λ c i. let b = h.below c i in let m = is c (omega arith) in omega arith) in
    omega arith
