-- Weights of rows, which bound what a cover has.
use Rattle.std.specs.Prelude.{ℕ, ◌+◌, cond, List, [], ◌∷◌, slice_index_or}
use Rattle.covering.specs.Table.{has}

-- the weight of the rows in which the column stands
abbrev pub load : ℕ → List (List ℕ) → List ℕ → ℕ
load c [] ys = 0
load c (row ∷ rows) [] = 0
load c (row ∷ rows) (y ∷ ys) = cond (has c row) y 0 + load c rows ys

-- the weight of all rows
abbrev pub total : List ℕ → ℕ
total [] = 0
total (y ∷ ys) = y + total ys

-- the number for the column, 0 if there is none
abbrev pub at : List ℕ → ℕ → ℕ
at scaled_costs c = slice_index_or scaled_costs c 0
