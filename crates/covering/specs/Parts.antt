-- Parts of a table that share no column.
use Rattle.std.specs.Prelude.{◌≡◌, ℕ, ◌<◌, ◌≤◌, ◌-◌, ◌||◌, Bool, List, Option, length, map, filter, slice_index_or}
use Rattle.std.specs.Option.{option_map}
use Rattle.std.specs.List.{list_all}
use Rattle.covering.specs.declared.choice.Choice.{Choice}
use Rattle.covering.specs.Table.{Table, table_of}
use Rattle.covering.specs.Cover.{IsLeast, counted, sum_over}
use Rattle.covering.specs.Choices.{union_of}
use Rattle.covering.specs.Search.{Answers, marked}

-- the live columns that pass the test, and the rows of these alone, under some taken columns
abbrev pub part_of : (ℕ → Bool) → List ℕ → Table → Table
part_of test taken t = table_of t.columns taken (filter test t.live) (filter (list_all test) t.rows)
    t.weights

-- whether all columns of the row have marks of the one list, or all of the other
abbrev pub is_on_one_side : List Bool → List Bool → List ℕ → Bool
is_on_one_side marks others row = list_all (marked marks) row || list_all (marked others) row

-- tables with fewer rows, of which the least covers together are the least cover of the first
pub record AreParts (t one other : Table) : Type 0 where
  pub least : (choice : Choice) (s x : List ℕ) → IsLeast choice one s → IsLeast choice other x
      → IsLeast choice t (union_of s x)
  pub fewer : length one.rows < length t.rows
  pub other_fewer : length other.rows < length t.rows

-- the column at this place of the list
abbrev pub pick : List ℕ → ℕ → ℕ
pick live i = slice_index_or live i 0

-- the cover that numbers of live columns stand for: these columns and the taken ones
abbrev pub in_numbers_of : Table → List ℕ → List ℕ
in_numbers_of t s = union_of t.taken (map (pick t.live) s)

-- a table of the live columns alone, numbered anew: its least cover with the taken columns is that of
-- the first, and what it answers to the rest of a cutoff answers the cutoff
pub record IsRenumbered (t u : Table) : Type 0 where
  pub least : (choice : Choice) (s : List ℕ) → IsLeast choice u s
      → IsLeast choice t (in_numbers_of t s)
  pub answers : (choice : Choice) (k w : ℕ) (o : Option (List ℕ)) → length t.taken ≤ k
      → sum_over (counted choice t.weights) t.taken ≤ w
      → Answers choice u (k - length t.taken) (w - sum_over (counted choice t.weights) t.taken) o
      → Answers choice t k w (option_map (in_numbers_of t) o)
  pub as_many : length u.rows ≡ length t.rows
  pub as_wide : length u.live ≡ length t.live
