-- A covering table as contracts see it.
use Rattle.std.specs.Prelude.{◌≡◌, ◌≢◌, ℕ, suc, ◌+◌, ◌<◌, ◌≤◌, Bool, true, false, ◌==◌, ◌&&◌, not, nat_le, nat_lt, List, [], ◌∷◌, length, map, Vec}
use Rattle.std.specs.List.{AllByRecursion, list_any, range_with_len}

-- the number of columns, the columns taken, those live, each row as its live columns, and each
-- column's literals
pub record Table : Type 0 where
  pub columns : ℕ
  pub taken : List ℕ
  pub live : List ℕ
  pub rows : List (List ℕ)
  pub weights : List ℕ

-- whether n is in the list
abbrev pub has : ℕ → List ℕ → Bool
has n xs = list_any (λ x. n == x) xs

-- each number is above those before it, and none is below low
abbrev pub RisesFrom : ℕ → List ℕ → Type 0
RisesFrom low [] = Unit {0}
RisesFrom low (x ∷ xs) = (low ≤ x) × RisesFrom (suc x) xs

-- each number of row is in other
abbrev pub IsWithin : List ℕ → List ℕ → Type 0
IsWithin row other = (n : ℕ) → has n row ≡ true → has n other ≡ true

-- what every table keeps: rising lists of columns, none both taken and live, and each row rising,
-- not empty
-- and of live columns
pub record IsTable (t : Table) : Type 0 where
  pub taken_rises : RisesFrom 0 t.taken
  pub live_rises : RisesFrom 0 t.live
  pub apart : (n : ℕ) → has n t.live ≡ true → has n t.taken ≡ false
  pub within : (n : ℕ) → has n t.live ≡ true → n < t.columns
  pub taken_within : (n : ℕ) → has n t.taken ≡ true → n < t.columns
  pub rows : AllByRecursion (λ row. (row ≢ []) × RisesFrom 0 row × IsWithin row t.live) t.rows
  pub weighed : length t.weights ≡ t.columns

-- the lists that the rows are
abbrev pub items_of : {Z : Type 0} → List (Vec ℕ Z) → List (List ℕ)
items_of rows = map (λ row. row.items) rows

-- whether the numbers rise, from low on, and are below the end
abbrev pub is_rising : ℕ → ℕ → List ℕ → Bool
is_rising end low [] = true
is_rising end low (x ∷ xs) = (nat_le low x && nat_lt x end) && is_rising end (x + 1) xs

-- whether a row has a column, rises and is below the end
abbrev pub is_row : ℕ → List ℕ → Bool
is_row end row = not (length row == 0) && is_rising end 0 row

-- each row rises, has a column, and has none but the first n
abbrev pub AreRows : ℕ → List (List ℕ) → Type 0
AreRows n rows = AllByRecursion (λ row. (row ≢ []) × RisesFrom 0 row
    × ((c : ℕ) → has c row ≡ true → c < n)) rows

-- a table of which no column is taken and each is live
abbrev pub fresh : List (List ℕ) → List ℕ → Table
fresh rows weights = record {
  columns = length weights;
  taken = [];
  live = range_with_len 0 (length weights);
  rows = rows;
  weights = weights;
}

-- the table of these fields
abbrev pub table_of : ℕ → List ℕ → List ℕ → List (List ℕ) → List ℕ → Table
table_of columns taken live rows weights = record
    { columns = columns; taken = taken; live = live; rows = rows; weights = weights }
