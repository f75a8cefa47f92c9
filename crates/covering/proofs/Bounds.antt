-- What weights of rows say of every cover.
use Rattle.std.proofs.Common.{◌≡◌, ℕ, ◌+◌, ◌≤◌, inl, inr, true, cond, List, [], ◌∷◌, ◌++◌, length, refl, sym, subst, arith}
use Rattle.std.specs.List.{AllByRecursion}
use Rattle.std.proofs.lemmas.Bool.{true≢false}
use Rattle.covering.specs.Table.{has}
use Rattle.covering.specs.Cover.{sum_over}
use Rattle.covering.specs.Weights.{load, total}
use Rattle.covering.proofs.Sets.{has_cases}

abbrev pub loads : List ℕ → List (List ℕ) → List ℕ → ℕ
loads cs rows ys = sum_over (λ c. load c rows ys) cs

loads_nil : (cs : List ℕ) (ys : List ℕ) → loads cs [] ys ≡ 0
loads_nil [] ys = refl
loads_nil (c ∷ cs) ys = omega (arith, loads_nil cs ys)

loads_none : (cs : List ℕ) (row : List ℕ) (rows : List (List ℕ)) → loads cs (row ∷ rows) [] ≡ 0
loads_none [] row rows = refl
loads_none (c ∷ cs) row rows = omega (arith, loads_none cs row rows)

loads_more : (cs row : List ℕ) (rows : List (List ℕ)) (y : ℕ) (ys : List ℕ) → loads cs rows ys ≤ loads cs (row ∷ rows) (y ∷ ys)
loads_more [] row rows y ys = omega arith
loads_more (c ∷ cs) row rows y ys = let k = loads_more cs row rows y ys in omega arith

loads_met : (c : ℕ) (cs row : List ℕ) (rows : List (List ℕ)) (y : ℕ) (ys : List ℕ) → has c cs ≡ true → has c row ≡ true → y + loads cs rows ys ≤ loads cs (row ∷ rows) (y ∷ ys)
loads_met c [] row rows y ys h k = absurd (true≢false (sym h))
loads_met c (d ∷ cs) row rows y ys h k = elim (has_cases c d cs h) [
  | inl e ↦ (let here : has d row ≡ true = subst (λ n. has n row ≡ true) e k in let m = loads_more cs row rows y ys in rw here (omega arith))
  | inr e ↦ (let m = loads_met c cs row rows y ys e k in omega arith)
]

pub weights_met : (cs : List ℕ) (rows : List (List ℕ)) (ys : List ℕ) → length ys ≡ length rows → AllByRecursion (λ row. (c : ℕ) × (has c cs ≡ true) × (has c row ≡ true)) rows → total ys ≤ loads cs rows ys
weights_met cs [] [] e h = omega arith
weights_met cs [] (y ∷ ys) e h = absurd (omega arith)
weights_met cs (row ∷ rows) [] e h = absurd (omega arith)
weights_met cs (row ∷ rows) (y ∷ ys) e h =
    let k = weights_met cs rows ys (omega arith) h.1 in
    let m = loads_met h.0.0 cs row rows y ys h.0.1 h.0.2 in
    omega arith

pub length_sum : (x : List ℕ) → sum_over (λ c. 1) x ≡ length x
length_sum [] = refl
length_sum (c ∷ x) = let k = length_sum x in omega arith

-- ---- the weights of one row more

pub load_push : (c : ℕ) (rows : List (List ℕ)) (ys : List ℕ) (row : List ℕ) (y : ℕ) → length ys ≡ length rows → load c (rows ++ row ∷ []) (ys ++ y ∷ []) ≡ load c rows ys + cond (has c row) y 0
load_push c [] [] row y e = omega arith
load_push c [] (z ∷ ys) row y e = absurd (omega arith)
load_push c (r ∷ rows) [] row y e = absurd (omega arith)
load_push c (r ∷ rows) (z ∷ ys) row y e = let k = load_push c rows ys row y (omega arith) in omega arith

pub total_push : (ys : List ℕ) (y : ℕ) → total (ys ++ y ∷ []) ≡ total ys + y
total_push [] y = omega arith
total_push (z ∷ ys) y = let k = total_push ys y in omega arith
