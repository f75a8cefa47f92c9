-- What the exhaustive search goes through.
use Rattle.std.specs.Prelude.{ℕ, zero, suc, List, [], ◌∷◌, ◌++◌, map, Bool, cond, nat_lt, Option, Some, None}
use Rattle.std.specs.List.{list_all}
use Rattle.covering.specs.declared.choice.Choice.{Choice}
use Rattle.covering.specs.Table.{Table}
use Rattle.covering.specs.Steps.{put}
use Rattle.covering.specs.Cover.{meets, counted, sum_over}

-- the choices of k of a list, in list order
abbrev pub choices : ℕ → List ℕ → List (List ℕ)
choices zero xs = [] ∷ []
choices (suc k) [] = []
choices (suc k) (x ∷ xs) = map (λ ys. x ∷ ys) (choices k xs) ++ choices (suc k) xs

-- the rising list of both
abbrev pub union_of : List ℕ → List ℕ → List ℕ
union_of ts [] = ts
union_of ts (x ∷ xs) = put x (union_of ts xs)

-- the better of the best so far and one more that passes: the earlier if they count alike
abbrev pub better : (ℕ → ℕ) → Option (List ℕ) → List ℕ → Option (List ℕ)
better count None w = Some w
better count (Some s) w = cond (nat_lt (sum_over count w) (sum_over count s)) (Some w) (Some s)

-- the best of those that pass the test, after the best so far
abbrev pub best_of : (ℕ → ℕ) → (List ℕ → Bool) → Option (List ℕ) → List (List ℕ) → Option (List ℕ)
best_of count test best [] = best
best_of count test best (w ∷ ws) = best_of count test (cond (test w) (better count best w) best) ws

-- whether the list has a column of each row
abbrev pub meets_all : List (List ℕ) → List ℕ → Bool
meets_all rows s = list_all (λ row. meets s row) rows

-- the best choice of so many live columns that has a column of each row
abbrev pub best_choice : Choice → Table → ℕ → Option (List ℕ)
best_choice choice t k = best_of (counted choice t.weights) (meets_all t.rows) None
    (choices k t.live)
