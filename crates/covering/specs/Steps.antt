-- The steps of a reduction.
use Rattle.std.specs.Prelude.{◌≡◌, ℕ, ◌<◌, ◌⊎◌, true, cond, not, ◌==◌, eqb, ltb, List, [], ◌∷◌, ◌++◌, map, filter}
use Rattle.std.specs.List.{AllByRecursion}
use Rattle.covering.specs.declared.choice.Choice.{Choice}
use Rattle.covering.specs.Table.{Table, has, IsWithin}
use Rattle.covering.specs.Cover.{counted, IsLeast}

-- the list without a
abbrev pub without : ℕ → List ℕ → List ℕ
without a xs = filter (λ x. not (a == x)) xs

-- the rising list with b
abbrev pub put : ℕ → List ℕ → List ℕ
put b [] = b ∷ []
put b (x ∷ xs) = cond (ltb b x) (b ∷ x ∷ xs) (cond (eqb b x) (x ∷ xs) (x ∷ put b xs))

-- the column is taken, and the rows in which it stands leave
abbrev pub take_column : ℕ → Table → Table
take_column c t = record {
  columns = t.columns;
  taken = put c t.taken;
  live = without c t.live;
  rows = filter (λ row. not (has c row)) t.rows;
  weights = t.weights;
}

-- the column leaves, from the rows too
abbrev pub drop_column : ℕ → Table → Table
drop_column c t = record {
  columns = t.columns;
  taken = t.taken;
  live = without c t.live;
  rows = map (without c) t.rows;
  weights = t.weights;
}

-- the table with other rows
abbrev pub with_rows : Table → List (List ℕ) → Table
with_rows t rows = record {
  columns = t.columns;
  taken = t.taken;
  live = t.live;
  rows = rows;
  weights = t.weights;
}

-- the row is one of the rows
abbrev pub HasRow : List ℕ → List (List ℕ) → Type 0
HasRow row [] = ⊥
HasRow row (r ∷ rows) = (row ≡ r) ⊎ HasRow row rows

-- b stands in every row in which a stands
abbrev pub StandsWith : Table → ℕ → ℕ → Type 0
StandsWith t a b = AllByRecursion (λ row. has a row ≡ true → has b row ≡ true) t.rows

-- b counts less than a, or as much and has a smaller number
abbrev pub IsPreferred : (ℕ → ℕ) → ℕ → ℕ → Type 0
IsPreferred count b a = (count b < count a) ⊎ ((count b ≡ count a) × (b < a))

-- one step from the one table to the other
pub data Step (choice : Choice) : Table → Table → Type 0 where
  -- a row that has all columns of another row leaves
  row_leaves : (t : Table) (front back : List (List ℕ)) (row other : List ℕ)
      → t.rows ≡ front ++ row ∷ back → IsWithin other row → HasRow other (front ++ back)
      → Step choice t (with_rows t (front ++ back))
  -- the only column of a row is taken
  only_column : (t : Table) (c : ℕ) → HasRow (c ∷ []) t.rows → Step choice t (take_column c t)
  -- a live column leaves under a live one that is preferred and stands in all its rows
  column_leaves : (t : Table) (a b : ℕ) → IsPreferred (counted choice t.weights) b a
      → has a t.live ≡ true → has b t.live ≡ true → StandsWith t a b
      → Step choice t (drop_column a t)

-- some steps, one after another
pub data Steps (choice : Choice) : Table → Table → Type 0 where
  done : (t : Table) → Steps choice t t
  more : (t u v : Table) → Steps choice t u → Step choice u v → Steps choice t v

-- no step applies
abbrev pub IsReduced : Choice → Table → Type 0
IsReduced choice t = (u : Table) → Step choice t u → ⊥

-- what is least in one of the tables is least in the other
abbrev pub SameLeast : Choice → Table → Table → Type 0
SameLeast choice t u = (s : List ℕ) → (IsLeast choice t s → IsLeast choice u s)
    × (IsLeast choice u s → IsLeast choice t s)
