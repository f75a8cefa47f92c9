-- What any weights of rows say of every cover.
use Rattle.std.proofs.Common.{◌≡◌, ℕ, zero, suc, ◌+◌, ◌*◌, ◌-◌, ◌<◌, ◌≤◌, inl, inr, Bool, true, false, map, List, [], ◌∷◌, length, refl, sym, subst, arith}
use Rattle.std.specs.List.{AllByRecursion, range_with_len}
use Rattle.std.proofs.lemmas.Bool.{cases_lt, or_cases, both_ways, true≢false}
use Rattle.std.proofs.Math.Nat.{mul-le-mul_left}
use Rattle.std.proofs.lemmas.List.FromFn.{get_or-map-range_with_len}
use Rattle.covering.specs.declared.choice.Choice.{Choice}
use Rattle.covering.specs.Table.{Table, has, RisesFrom, IsTable, IsWithin}
use Rattle.covering.specs.Cover.{meets, IsCover, counted, sum_over}
use Rattle.covering.specs.Search.{IsBeyond, NoneWithin, IsOutside, marked}
use Rattle.covering.specs.Weights.{load, total, at}
use Rattle.covering.specs.Lagrange.{Hits, LagrangianHolds, BoundsCovers}
use Rattle.covering.specs.Steps.{without}
use Rattle.covering.proofs.Sets.{has_here, has_later, has_cases, without_keeps, without_rises, sum_without, meets_at, meets_from}
use Rattle.covering.proofs.Subsets.{minus, minus_only, minus_keeps, minus_length, minus_sum, rows_met, rows_within}
use Rattle.covering.proofs.BestChoice.{minus_rises}
use Rattle.covering.proofs.Rising.{range_rises, range_has}
use Rattle.covering.proofs.Bounds.{weights_met}

-- ---- what the columns of a list bear, under any loads

module _ (scaled_cost bears : ℕ → ℕ) where
  bears_over : (cs : List ℕ) → sum_over bears cs ≤ sum_over scaled_cost cs + sum_over (λ c. bears c - scaled_cost c) cs
  bears_over [] = omega arith
  bears_over (c ∷ cs) = let k = bears_over cs in omega arith

  bears_slack : (c : ℕ) (cs : List ℕ) → has c cs ≡ true → sum_over bears cs + (scaled_cost c - bears c) ≤ sum_over scaled_cost cs + sum_over (λ d. bears d - scaled_cost d) cs
  bears_slack c [] h = absurd (true≢false (sym h))
  bears_slack c (d ∷ cs) h = elim (has_cases c d cs h) [
    | inl e ↦ subst (λ n. sum_over bears (d ∷ cs) + (scaled_cost n - bears n) ≤ sum_over scaled_cost (d ∷ cs) + sum_over (λ k. bears k - scaled_cost k) (d ∷ cs)) (sym e) (let k = bears_over cs in omega arith)
    | inr e ↦ (let k = bears_slack c cs e in omega arith)
  ]

-- ---- a rising list within another

sum_within : (g : ℕ → ℕ) (cs ds : List ℕ) → RisesFrom 0 cs → RisesFrom 0 ds → IsWithin cs ds → sum_over g cs ≤ sum_over g ds
sum_within g cs ds r q f = let k = minus_sum g 0 ds cs q r f in omega arith

sum_beside : (g : ℕ → ℕ) (c : ℕ) (cs ds : List ℕ) → RisesFrom 0 cs → RisesFrom 0 ds → IsWithin cs ds → has c ds ≡ true → has c cs ≡ false → sum_over g cs + g c ≤ sum_over g ds
sum_beside g c cs ds r q f h a =
    let one = sum_without g c 0 ds q h in
    let k = sum_within g cs (without c ds) r (without_rises c 0 ds q) (λ n e. without_keeps n c ds (λ s. both_ways _ a (subst (λ m. has m cs ≡ true) s e)) (f n e)) in
    omega arith

-- ---- the rows, and a list that has a column of each

module _ (scaled_cost bears : ℕ → ℕ) (n most : ℕ) (rows : List (List ℕ)) (x : List ℕ) (h : Hits n rows x) (borne : most ≤ sum_over bears x) where
  among : IsWithin x (range_with_len 0 n)
  among c i = range_has c 0 n (omega arith) (let b = h.below c i in omega arith)

  over_within : sum_over (λ c. bears c - scaled_cost c) x ≤ sum_over (λ c. bears c - scaled_cost c) (range_with_len 0 n)
  over_within = sum_within (λ c. bears c - scaled_cost c) x (range_with_len 0 n) h.rises (range_rises 0 n) among

  pub bound_all : most ≤ sum_over scaled_cost x + sum_over (λ c. bears c - scaled_cost c) (range_with_len 0 n)
  bound_all =
      let b = bears_over scaled_cost bears x in
      let d = over_within in
      omega arith

  pub bound_in : (c : ℕ) → has c x ≡ true → most + (scaled_cost c - bears c) ≤ sum_over scaled_cost x + sum_over (λ d. bears d - scaled_cost d) (range_with_len 0 n)
  bound_in c i =
      let b = bears_slack scaled_cost bears c x i in
      let d = over_within in
      omega arith

  pub bound_out : (c : ℕ) → c < n → has c x ≡ false → most + (bears c - scaled_cost c) ≤ sum_over scaled_cost x + sum_over (λ d. bears d - scaled_cost d) (range_with_len 0 n)
  bound_out c l i =
      let b = bears_over scaled_cost bears x in
      let d = sum_beside (λ k. bears k - scaled_cost k) c x (range_with_len 0 n) h.rises (range_rises 0 n) among (range_has c 0 n (omega arith) (omega arith)) i in
      omega arith

rows_at : (x : List ℕ) (rows : List (List ℕ)) → AllByRecursion (λ row. meets x row ≡ true) rows → AllByRecursion (λ row. (c : ℕ) × (has c x ≡ true) × (has c row ≡ true)) rows
rows_at x [] h = tt
rows_at x (row ∷ rows) h = (let m = meets_at x row h.0 in (m.0, m.1, m.2), rows_at x rows h.1)

-- a list with a column of each row bears the weight of all rows
pub weights_borne : (n : ℕ) (rows : List (List ℕ)) (ys x : List ℕ) → length ys ≡ length rows → Hits n rows x → total ys ≤ sum_over (λ c. load c rows ys) x
weights_borne n rows ys x e h = weights_met x rows ys e (rows_at x rows h.each)

pub lagrangian_holds : LagrangianHolds
lagrangian_holds scaled_cost n rows ys x e h =
    let borne = weights_borne n rows ys x e h in
    let bears : ℕ → ℕ = λ c. load c rows ys in
    (bound_all scaled_cost bears n (total ys) rows x h borne, bound_in scaled_cost bears n (total ys) rows x h borne, bound_out scaled_cost bears n (total ys) rows x h borne)

-- ---- products

pub scaled_sum : (a b c : ℕ) → a * (b + c) ≡ a * b + a * c
scaled_sum zero b c = omega arith
scaled_sum (suc a) b c = let k = scaled_sum a b c in omega arith

-- ---- the covers of a table, within a cutoff

sum_scaled_costs : (one each : ℕ) (g scaled_cost : ℕ → ℕ) (cs : List ℕ) → ((c : ℕ) → has c cs ≡ true → scaled_cost c ≡ one + each * g c) → sum_over scaled_cost cs ≡ one * length cs + each * sum_over g cs
sum_scaled_costs one each g scaled_cost [] f = omega arith
sum_scaled_costs one each g scaled_cost (c ∷ cs) f =
    let here = f c (has_here c c cs refl) in
    let k = sum_scaled_costs one each g scaled_cost cs (λ d h. f d (has_later d c cs h)) in
    let a = scaled_sum one 1 (length cs) in
    let b = scaled_sum each (g c) (sum_over g cs) in
    omega arith

rows_hit : (x : List ℕ) (rows : List (List ℕ)) → AllByRecursion (λ row. (c : ℕ) × (has c x ≡ true) × (has c row ≡ true)) rows → AllByRecursion (λ row. meets x row ≡ true) rows
rows_hit x [] h = tt
rows_hit x (row ∷ rows) h = (meets_from h.0.0 x row h.0.1 h.0.2, rows_hit x rows h.1)

module _ (choice : Choice) (t : Table) (k w one each : ℕ) (scaled_costs loads : List ℕ) (n over : ℕ) (wt : IsTable t) (b : BoundsCovers t.rows scaled_costs loads n over) (long : length scaled_costs ≡ t.columns) (is : (c : ℕ) → c < t.columns → at scaled_costs c ≡ one + each * counted choice t.weights c) where
  module _ (x : List ℕ) (h : IsCover t x) where
    rest_below : (c : ℕ) → has c (minus x t.taken) ≡ true → c < t.columns
    rest_below c a = elim (or_cases (has c t.taken) (has c t.live) (h.only c (minus_only c x t.taken a))) [
      | inl e ↦ wt.taken_within c e
      | inr e ↦ wt.within c e
    ]

    rest_hits : Hits (length scaled_costs) t.rows (minus x t.taken)
    rest_hits = record {
      rises = minus_rises x t.taken h.rises;
      below = λ c a. let e = rest_below c a in omega arith;
      each = rows_hit (minus x t.taken) t.rows (rows_met t x t.rows wt h (rows_within t t.rows wt.rows) h.rows);
    }

    -- more shares than the cutoff leaves are past the cutoff
    past : one * (k - length t.taken) + each * (w - sum_over (counted choice t.weights) t.taken) < sum_over (at scaled_costs) (minus x t.taken) → IsBeyond (counted choice t.weights) k w x
    past over =
        let a = minus_length 0 x t.taken h.rises wt.taken_rises h.taken in
        let s = minus_sum (counted choice t.weights) 0 x t.taken h.rises wt.taken_rises h.taken in
        let both = sum_scaled_costs one each (counted choice t.weights) (at scaled_costs) (minus x t.taken) (λ c e. is c (rest_below c e)) in
        elim (cases_lt k (length x)) [
          | inl l ↦ inl l
          | inr l ↦ elim (cases_lt w (sum_over (counted choice t.weights) x)) [
            | inl m ↦ inr m
            | inr m ↦ absurd (
                let p : one * length (minus x t.taken) ≤ one * (k - length t.taken) = mul-le-mul_left one (omega arith) in
                let q : each * sum_over (counted choice t.weights) (minus x t.taken) ≤ each * (w - sum_over (counted choice t.weights) t.taken) = mul-le-mul_left each (omega arith) in
                omega arith)
          ]
        ]

  pub none_within : (limit : ℕ) → limit ≡ one * (k - length t.taken) + each * (w - sum_over (counted choice t.weights) t.taken) + over → limit < n → NoneWithin choice t k w
  none_within limit e l x h = let a = b.all (minus x t.taken) (rest_hits x h) in past x h (omega arith)

  pub outside : (limit : ℕ) → limit ≡ one * (k - length t.taken) + each * (w - sum_over (counted choice t.weights) t.taken) + over → (c : ℕ) → has c t.live ≡ true → limit < n + (at scaled_costs c - at loads c) → IsOutside choice t k w c
  outside limit e c l m x h there = let a = b.having (minus x t.taken) (rest_hits x h) c (minus_keeps c x t.taken there (wt.apart c l)) in past x h (omega arith)

-- the shares as the code makes them, and the marks
pub scaled_costs_at : (scaled_cost : ℕ → ℕ) (n c : ℕ) → c < n → at (map scaled_cost (range_with_len 0 n)) c ≡ scaled_cost c
scaled_costs_at scaled_cost n c h = get_or-map-range_with_len scaled_cost 0 n c c 0 (omega arith) (omega arith)

pub marks_at : (test : ℕ → Bool) (n c : ℕ) → c < n → marked (map test (range_with_len 0 n)) c ≡ test c
marks_at test n c h = get_or-map-range_with_len test 0 n c c false (omega arith) (omega arith)
