-- Loads of columns under any weights of rows, and how they bound covers.
use Rattle.std.specs.Prelude.{◌≡◌, ℕ, ◌+◌, ◌-◌, ◌<◌, ◌≤◌, ◌⊎◌, true, false, List, length}
use Rattle.std.specs.List.{AllByRecursion, range_with_len}
use Rattle.covering.specs.Table.{has, RisesFrom}
use Rattle.covering.specs.Cover.{meets, sum_over}
use Rattle.covering.specs.Weights.{load, total, at}

-- the load of the column less its scaled cost
abbrev pub overload : (ℕ → ℕ) → List (List ℕ) → List ℕ → ℕ → ℕ
overload scaled_cost rows ys c = load c rows ys - scaled_cost c

-- the scaled cost of the column less its load
abbrev pub slack : (ℕ → ℕ) → List (List ℕ) → List ℕ → ℕ → ℕ
slack scaled_cost rows ys c = scaled_cost c - load c rows ys

-- the overloads of the first n columns together
abbrev pub overloads : ℕ → (ℕ → ℕ) → List (List ℕ) → List ℕ → ℕ
overloads n scaled_cost rows ys = sum_over (overload scaled_cost rows ys) (range_with_len 0 n)

-- a rising list of some of the first n columns, with a column of each row
pub record Hits (n : ℕ) (rows : List (List ℕ)) (x : List ℕ) : Type 0 where
  pub rises : RisesFrom 0 x
  pub below : (c : ℕ) → has c x ≡ true → c < n
  pub each : AllByRecursion (λ row. meets x row ≡ true) rows

-- the weight of all rows, with the slack of a column in the list or the overload of one outside, is at
-- most the scaled costs of the list and all overloads
abbrev pub LagrangianHolds : Type 0
LagrangianHolds = (scaled_cost : ℕ → ℕ) (n : ℕ) (rows : List (List ℕ)) (ys x : List ℕ)
    → length ys ≡ length rows → Hits n rows x →
    (total ys ≤ sum_over scaled_cost x + overloads n scaled_cost rows ys)
    × ((c : ℕ) → has c x ≡ true → total ys + slack scaled_cost rows ys c ≤ sum_over scaled_cost x
    + overloads n scaled_cost rows ys)
    × ((c : ℕ) → c < n → has c x ≡ false
    → total ys + overload scaled_cost rows ys c ≤ sum_over scaled_cost x
    + overloads n scaled_cost rows ys)

-- the load of the column less its scaled cost, by lists of both
abbrev pub beyond : List ℕ → List ℕ → ℕ → ℕ
beyond loads scaled_costs c = at loads c - at scaled_costs c

-- the load of each column, the weight of all rows, and all overloads together, or so large a number
-- that it bounds nothing
pub record IsLoaded (rows : List (List ℕ)) (ys scaled_costs loads : List ℕ)
    (n over : ℕ) : Type 0 where
  pub loads_are : (c : ℕ) → c < length scaled_costs → at loads c ≡ load c rows ys
  pub weighs : n ≡ total ys
  pub exceeds : (over ≡ overloads (length scaled_costs) (at scaled_costs) rows ys) ⊎ (n + n ≤ over)

-- each rising list of columns with a column of each row has so much load, all together
abbrev pub Carries : List (List ℕ) → List ℕ → ℕ → Type 0
Carries rows loads n = (x : List ℕ) → Hits (length loads) rows x → n ≤ sum_over (at loads) x

-- so much, with the slack of a column in the list, is at most the scaled costs of a list with a column
-- of each row and all overloads
pub record BoundsCovers (rows : List (List ℕ)) (scaled_costs loads : List ℕ)
    (n over : ℕ) : Type 0 where
  pub all : (x : List ℕ) → Hits (length scaled_costs) rows x
      → n ≤ sum_over (at scaled_costs) x + over
  pub having : (x : List ℕ) → Hits (length scaled_costs) rows x → (c : ℕ) → has c x ≡ true
      → n + (at scaled_costs c - at loads c) ≤ sum_over (at scaled_costs) x + over

-- so is it with the overload of a column outside the list
abbrev pub BoundsCoversLacking : List (List ℕ) → List ℕ → List ℕ → ℕ → ℕ → Type 0
BoundsCoversLacking rows scaled_costs loads n over = (x : List ℕ)
    → Hits (length scaled_costs) rows x → (c : ℕ) → c < length scaled_costs → has c x ≡ false
    → n + (at loads c - at scaled_costs c) ≤ sum_over (at scaled_costs) x + over
