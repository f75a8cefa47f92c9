-- Covers of a table: what a cover is, and which is the least.
use Rattle.std.specs.Prelude.{◌≡◌, ℕ, ◌+◌, ◌<◌, ◌⊎◌, Bool, true, ◌||◌, List, [], ◌∷◌, length, slice_index_or}
use Rattle.std.specs.List.{AllByRecursion, list_any}
use Rattle.std.specs.Cmp.Lexicographic.{slice_cmp}
use Rattle.std.specs.Ordering.{nat_cmp}
use Rattle.std.specs.declared.cmp.Ordering.TheVariants.{Less}
use Rattle.covering.specs.declared.choice.Choice.{Choice}
use Rattle.covering.specs.declared.choice.Choice.TheVariants.{First, Literals}
use Rattle.covering.specs.Table.{Table, has, RisesFrom}

-- whether the lists have a number in common
abbrev pub meets : List ℕ → List ℕ → Bool
meets s row = list_any (λ c. has c s) row

-- a rising list of columns with each taken one, otherwise only live ones, and some column of each
-- row
pub record IsCover (t : Table) (s : List ℕ) : Type 0 where
  pub rises : RisesFrom 0 s
  pub taken : (n : ℕ) → has n t.taken ≡ true → has n s ≡ true
  pub only : (n : ℕ) → has n s ≡ true → (has n t.taken || has n t.live) ≡ true
  pub rows : AllByRecursion (λ row. meets s row ≡ true) t.rows

-- what a column counts under a choice: nothing, or its literals
abbrev pub counted : Choice → List ℕ → ℕ → ℕ
counted First weights c = 0
counted Literals weights c = slice_index_or weights c 0

-- the sum of what the columns count
abbrev pub sum_over : (ℕ → ℕ) → List ℕ → ℕ
sum_over count [] = 0
sum_over count (c ∷ cs) = count c + sum_over count cs

-- s comes before x, which is as long: it counts less, or as much and is first if
-- they are compared number by number
abbrev pub IsBefore : (ℕ → ℕ) → List ℕ → List ℕ → Type 0
IsBefore count s x = (sum_over count s < sum_over count x)
    ⊎ ((sum_over count s ≡ sum_over count x) × (slice_cmp nat_cmp s x ≡ Less))

-- s is shorter, or as long and before x
abbrev pub Precedes : (ℕ → ℕ) → List ℕ → List ℕ → Type 0
Precedes count s x = (length s < length x) ⊎ ((length s ≡ length x) × IsBefore count s x)

-- the first of the shortest covers under the choice
pub record IsLeast (choice : Choice) (t : Table) (s : List ℕ) : Type 0 where
  pub cover : IsCover t s
  pub first : (x : List ℕ) → IsCover t x → (s ≡ x) ⊎ Precedes (counted choice t.weights) s x
