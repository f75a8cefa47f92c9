-- What the passes of a reduction work with.
use Rattle.std.specs.Prelude.{◌≡◌, ◌≢◌, ℕ, ◌<◌, ◌+◌, ◌^◌, ◌%◌, bit_or, fold, Bool, true, false, cond, not, ◌==◌, ◌&&◌, ◌||◌, nat_le, nat_lt, eqb, List, [], ◌∷◌, ◌++◌, length, filter, slice_index_or}
use Rattle.std.specs.List.{AllByRecursion, list_all, list_any, range_with_len}
use Rattle.covering.specs.declared.choice.Choice.{Choice}
use Rattle.covering.specs.declared.column_dominance.Preference.{Preference}
use Rattle.covering.specs.declared.column_dominance.Preference.TheVariants.{Earlier, NoDearer}
use Rattle.covering.specs.Table.{Table, has, RisesFrom, IsWithin, table_of}
use Rattle.covering.specs.Cover.{counted}
use Rattle.covering.specs.Steps.{StandsWith, IsPreferred, Steps, HasRow}
use Rattle.covering.specs.Search.{marked}

-- the list at the place, empty if there is none
abbrev pub row_at : List (List ℕ) → ℕ → List ℕ
row_at rows i = slice_index_or rows i []

-- each row rises
abbrev pub AreRising : List (List ℕ) → Type 0
AreRising rows = AllByRecursion (λ row. RisesFrom 0 row) rows

-- the list at the place has one number more, and the others are as they were
pub record Appends (old : List (List ℕ)) (place number : ℕ) (new : List (List ℕ)) : Type 0 where
  pub at : (c : ℕ) → c < length old → row_at new c
      ≡ cond (eqb c place) (row_at old c ++ number ∷ []) (row_at old c)
  pub as_long : length new ≡ length old

-- the lists at the places of the row have one number more, and the others are as they were
pub record Enters (old : List (List ℕ)) (row : List ℕ) (number : ℕ)
    (new : List (List ℕ)) : Type 0 where
  pub at : (c : ℕ) → c < length old → row_at new c
      ≡ cond (has c row) (row_at old c ++ number ∷ []) (row_at old c)
  pub as_long : length new ≡ length old

-- for each column the rising list of the rows in which it stands
pub record IsTranspose (columns : ℕ) (rows transpose : List (List ℕ)) : Type 0 where
  pub same : (c i : ℕ) → c < columns → has i (row_at transpose c) ≡ has c (row_at rows i)
  pub rises : (c : ℕ) → RisesFrom 0 (row_at transpose c)

-- such lists after so many rows
pub record TransposeSoFar (columns n : ℕ) (rows transpose : List (List ℕ)) : Type 0 where
  pub is : IsTranspose columns rows transpose
  pub below : (c i : ℕ) → has i (row_at transpose c) ≡ true → i < n
  pub wide : length transpose ≡ columns

-- whether the column is the only one of the row
abbrev pub is_essential_column : ℕ → List ℕ → Bool
is_essential_column c row = (length row == 1) && has c row

-- the place has lost its mark, and the others are as they were
pub record Unmarks (old : List Bool) (place : ℕ) (new : List Bool) : Type 0 where
  pub at : (c : ℕ) → marked new c ≡ cond (eqb c place) false (marked old c)
  pub as_long : length new ≡ length old

-- the only column of the row has lost its mark, if there is one
pub record UnmarksEssentialColumn (old : List Bool) (row : List ℕ) (new : List Bool) : Type 0 where
  pub at : (c : ℕ) → marked new c ≡ (marked old c && not (is_essential_column c row))
  pub as_long : length new ≡ length old

-- the marks of all columns but those that are the only one of a row
pub record MarksInessentialColumns (columns : ℕ) (rows : List (List ℕ))
    (marks : List Bool) : Type 0 where
  pub at : (c : ℕ) → c < columns → marked marks c ≡ not (list_any (is_essential_column c) rows)
  pub as_long : length marks ≡ columns

-- whether each number of a is in b
abbrev pub holds_all : List ℕ → List ℕ → Bool
holds_all b a = list_all (λ n. has n b) a

-- the bit of a row in a signature, which has 64
abbrev pub bit_of : ℕ → ℕ
bit_of row = 2 ^ (row % 64)

-- the bits of all these rows
abbrev pub signature_of : List ℕ → ℕ
signature_of rows = fold (λ bits row. bit_or bits (bit_of row)) 0 rows

-- whether the first number has all bits of the second
abbrev pub has_bits : ℕ → ℕ → Bool
has_bits bits others = bit_or others bits == bits

-- whether b counts less than a, or as much and has a smaller number
abbrev pub prefers : (ℕ → ℕ) → ℕ → ℕ → Bool
prefers count b a = nat_lt (count b) (count a) || (eqb (count b) (count a) && nat_lt b a)

-- whether b may stay in place of a
abbrev pub is_preferred : Preference → (ℕ → ℕ) → ℕ → ℕ → Bool
is_preferred Earlier count b a = prefers count b a
is_preferred NoDearer count b a = nat_le (count b) (count a)

-- whether another column b is kept, preferred to a, and stands in all rows of a
abbrev pub dominates : (ℕ → ℕ → Bool) → List (List ℕ) → List Bool → ℕ → ℕ → Bool
dominates preferred transpose keep a b = not (a == b) && (marked keep b
    && (preferred b a && holds_all (row_at transpose b) (row_at transpose a)))

-- the rows whose numbers, from i on, pass the test
abbrev pub rows_from : (ℕ → Bool) → ℕ → List (List ℕ) → List (List ℕ)
rows_from test i [] = []
rows_from test i (row ∷ rows) = cond (test i) (row ∷ rows_from test (i + 1) rows)
    (rows_from test (i + 1) rows)

-- whether row n is another than row at and has all its columns
abbrev pub is_dominating_row : List (List ℕ) → ℕ → ℕ → Bool
is_dominating_row rows at n = not (n == at) && holds_all (row_at rows n) (row_at rows at)

-- those of the rows among that have all columns of the row at, but not that row, have lost their
-- marks
pub record UnmarksDominatingRows (rows : List (List ℕ)) (at : ℕ) (among : List ℕ)
    (old new : List Bool) : Type 0 where
  pub falls : (n : ℕ) → marked new n ≡ true → marked old n ≡ true
  pub fell : (n : ℕ) → marked old n ≡ true → marked new n ≡ false
      → is_dominating_row rows at n ≡ true
  pub struck : (n : ℕ) → has n among ≡ true → is_dominating_row rows at n ≡ true
      → marked new n ≡ false
  pub as_long : length new ≡ length old

-- each row that leaves has all columns of one that stays
abbrev pub IsWitnessed : List (List ℕ) → List Bool → Type 0
IsWitnessed rows stay = (i : ℕ) → i < length rows → marked stay i ≡ false → (j : ℕ)
    × (j < length rows) × (marked stay j ≡ true) × IsWithin (row_at rows j) (row_at rows i)

-- no row has all columns of another
abbrev pub HasNoDominatingRow : List (List ℕ) → Type 0
HasNoDominatingRow rows = (i j : ℕ) → i < length rows → j < length rows
    → IsWithin (row_at rows j) (row_at rows i) → i ≡ j

-- rows may leave as marked, and if none does, none can
pub record LeavesNoDominatingRow (rows : List (List ℕ)) (stay : List Bool) : Type 0 where
  pub witnessed : IsWitnessed rows stay
  pub complete : ((i : ℕ) → i < length rows → marked stay i ≡ true) → HasNoDominatingRow rows
  pub as_long : length stay ≡ length rows

-- such marks after the rows before n have unmarked those that dominate them
pub record RowDominanceSoFar (rows : List (List ℕ)) (n : ℕ) (stay : List Bool) : Type 0 where
  pub witnessed : IsWitnessed rows stay
  pub struck : (j : ℕ) → j < n → marked stay j ≡ true → (i : ℕ) → i < length rows → i ≢ j
      → IsWithin (row_at rows j) (row_at rows i) → marked stay i ≡ false
  pub as_long : length stay ≡ length rows

-- each live column that leaves is dominated by one that is kept
abbrev pub AreDominatedByKept : (ℕ → ℕ → Bool) → List ℕ → List (List ℕ) → List Bool → Type 0
AreDominatedByKept preferred live transpose keep = (a : ℕ) → has a live ≡ true
    → marked keep a ≡ false → (b : ℕ) × (has b live ≡ true)
    × (dominates preferred transpose keep a b ≡ true)

-- columns may leave as marked, and if none does, none can
pub record LeavesNoDominatedColumn (preferred : ℕ → ℕ → Bool) (live : List ℕ) (transpose : List (List ℕ))
    (keep : List Bool) : Type 0 where
  pub witnessed : AreDominatedByKept preferred live transpose keep
  pub complete : ((a : ℕ) → has a live ≡ true → marked keep a ≡ true) → (a b : ℕ)
      → has a live ≡ true → has b live ≡ true → dominates preferred transpose keep a b ≡ false

-- such marks after the columns of a list have been asked
pub record ColumnDominanceSoFar (preferred : ℕ → ℕ → Bool) (live : List ℕ) (transpose : List (List ℕ))
    (asked : List ℕ) (keep : List Bool) : Type 0 where
  pub witnessed : AreDominatedByKept preferred live transpose keep
  pub free : (a : ℕ) → has a asked ≡ true → marked keep a ≡ true → (b : ℕ) → has b live ≡ true
      → dominates preferred transpose keep a b ≡ false

-- no live column is dominated by another
abbrev pub HasNoDominatedColumn : Choice → Table → Type 0
HasNoDominatedColumn choice t = (a b : ℕ) → has a t.live ≡ true → has b t.live ≡ true
    → IsPreferred (counted choice t.weights) b a → StandsWith t a b → ⊥

-- no row has only one column
abbrev pub HasNoEssentialColumn : Table → Type 0
HasNoEssentialColumn t = (c : ℕ) → HasRow (c ∷ []) t.rows → ⊥

-- the unmarked columns are taken, and the rows in which one of them stands leave
abbrev pub take_unmarked : List Bool → Table → Table
take_unmarked keep t = table_of t.columns
    (filter (λ n. has n t.taken || not (marked keep n)) (range_with_len 0 t.columns))
    (filter (marked keep) t.live) (filter (list_all (marked keep)) t.rows) t.weights

-- some steps, which leave fewer rows or live columns
pub record Shrinks (choice : Choice) (t u : Table) : Type 0 where
  pub steps : Steps choice t u
  pub smaller : length u.live + length u.rows < length t.live + length t.rows
