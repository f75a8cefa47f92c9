-- Columns that dominate the cubes that contain some points and meet no cube of a list.
use Rattle.std.specs.Prelude.{◌≡◌, ℕ, ◌≢◌, ◌<◌, ◌≤◌, ◌⊎◌, ◌↔◌, not, List, length, take, drop, slice_index_or, Contains, All}
use Rattle.std.specs.Cmp.Lexicographic.{slice_cmp}
use Rattle.std.specs.declared.cmp.Ordering.TheVariants.{Greater}
use Rattle.cube.specs.declared.symbol.Symbol.TheVariants.{Dash}
use Rattle.cube.specs.Size.{Size}
use Rattle.cube.specs.Cube.{Cube, holds, literals, IsCube, IsSubset, IsDisjoint}
use Rattle.cube.specs.Order.{symbol_cmp}
use Rattle.cube.specs.Sharp.{opposite}
use Rattle.cube.specs.Sum.{complete_sum}
use Rattle.cover.specs.Cubes.{Cubes}
use Rattle.cover.specs.Marks.{cube_at}
use Rattle.cover.specs.Places.{places}
use Rattle.covering.specs.declared.choice.Choice.{Choice}
use Rattle.covering.specs.declared.choice.Choice.TheVariants.{First, Literals}
use Rattle.growth.specs.declared.prime.Side.TheVariants.{Outside}
use Rattle.growth.specs.Growth.{on_side, IsSettledUpTo}
use Rattle.growth.specs.declared.columns.open_points.OpenPoints.{OpenPoints}

-- the literals of d come no later than those of c
abbrev pub IsUpTo : Cube → Cube → Type 0
IsUpTo c d = slice_cmp symbol_cmp d.symbols c.symbols ≢ Greater

-- d is as good as c under a choice: its literals come no later, where literals count with as many
-- of them; or it has fewer
abbrev pub IsAsGood : Choice → Cube → Cube → Type 0
IsAsGood First c d = IsUpTo c d
IsAsGood Literals c d = (literals d < literals c) ⊎ ((literals d ≡ literals c) × IsUpTo c d)

-- d dominates c: it contains each of the points that c contains, and is as good
pub record Dominates (choice : Choice) (points : List Cube) (c d : Cube) : Type 0 where
  pub over : (x : Cube) → Contains points x → IsSubset (holds x) (holds c)
      → IsSubset (holds x) (holds d)
  pub good : IsAsGood choice c d

-- a column dominates the cube
pub record IsDominated (choice : Choice) (points columns : List Cube) (c : Cube) : Type 0 where
  pub column : Cube
  pub member : Contains columns column
  pub dominates : Dominates choice points c column

-- the maximal cubes that meet no cube of a list
abbrev pub primes_outside : Cubes → List Cube
primes_outside off = complete_sum off.size (λ p. not (places off.cubes p))

-- the cube meets no cube of the list
abbrev pub IsImplicant : Cubes → Cube → Type 0
IsImplicant off c = IsSubset (holds c) (on_side Outside off.cubes)

-- the cube contains one of the points with these numbers
pub record HoldsOneOf (points : List Cube) (numbers : List ℕ) (c : Cube) : Type 0 where
  pub number : ℕ
  pub member : Contains numbers number
  pub inside : IsSubset (holds (cube_at points number)) (holds c)

-- an implicant that contains the cube, and no excluded point
pub record IsOpen (off : Cubes) (points : List Cube) (excluded : List ℕ) (cube c : Cube) : Type 0 where
  pub is_cube : IsCube off.size c
  pub within : IsImplicant off c
  pub over : IsSubset (holds cube) (holds c)
  pub none : HoldsOneOf points excluded c → ⊥

-- a column dominates each such implicant
abbrev pub AreServed : Choice → Cubes → List Cube → List ℕ → Cube → List Cube → Type 0
AreServed choice off points excluded cube columns = (c : Cube) → IsOpen off points excluded cube c
    → IsDominated choice points columns c

-- each point that such an implicant contains is a candidate, or the cube contains it
abbrev pub AreCandidates : Cubes → List Cube → List ℕ → List ℕ → Cube → Type 0
AreCandidates off points excluded candidates cube = (c : Cube) → IsOpen off points excluded cube c
    → (k : ℕ) → k < length points → IsSubset (holds (cube_at points k)) (holds c)
    → Contains candidates k ⊎ IsSubset (holds (cube_at points k)) (holds cube)

-- some primes are added
pub record AddsColumns (off : Cubes) (old new : List Cube) : Type 0 where
  pub kept : (c : Cube) → Contains old c → Contains new c
  pub primes : ((c : Cube) → Contains old c → Contains (primes_outside off) c) → (c : Cube)
      → Contains new c → Contains (primes_outside off) c

-- a prime that is as good as each implicant that contains the cube
pub record IsBest (choice : Choice) (off : Cubes) (cube best : Cube) : Type 0 where
  pub is_cube : IsCube off.size best
  pub prime : Contains (primes_outside off) best
  pub over : IsSubset (holds cube) (holds best)
  pub good : (c : Cube) → IsCube off.size c → IsImplicant off c → IsSubset (holds cube) (holds c)
      → IsAsGood choice c best

-- a cube that is settled at the inputs, and as good as each implicant that contains the first
pub record IsBestFreed (choice : Choice) (off : Cubes) (cube freed : Cube) : Type 0 where
  pub settled : IsSettledUpTo off.size (on_side Outside off.cubes) cube freed off.size.inputs 0
  pub good : (c : Cube) → IsCube off.size c → IsImplicant off c → IsSubset (holds cube) (holds c)
      → IsAsGood choice c freed

-- each implicant that contains the cube and the point has the point from the cube
abbrev pub NeedsNoJoin : Cubes → Cube → Cube → Type 0
NeedsNoJoin off cube point = (c : Cube) → IsCube off.size c → IsImplicant off c
    → IsSubset (holds cube) (holds c) → IsSubset (holds point) (holds c)
    → IsSubset (holds point) (holds cube)

-- the numbers begin with the excluded ones, and have each candidate that may be joined with the cube;
-- from the seam on the best cube contains the points
pub record AreSorted (off : Cubes) (points : List Cube) (excluded candidates : List ℕ) (cube best : Cube)
    (order : OpenPoints) : Type 0 where
  pub start : take (length excluded) order.numbers.items ≡ excluded
  pub after : length excluded ≤ order.held
  pub within : order.held ≤ length order.numbers.items
  pub below : All (λ k. k < length points) order.numbers.items
  pub inside : All (λ k. IsSubset (holds (cube_at points k)) (holds best))
      (drop order.held order.numbers.items)
  pub rest : (k : ℕ) → Contains candidates k
      → Contains order.numbers.items k ⊎ NeedsNoJoin off cube (cube_at points k)

-- an implicant that contains the cube
pub record IsImplicantOver (off : Cubes) (cube c : Cube) : Type 0 where
  pub is_cube : IsCube off.size c
  pub within : IsImplicant off c
  pub over : IsSubset (holds cube) (holds c)

-- the second cube has each literal of the first
abbrev pub HasLiteralsOf : Cube → Cube → Type 0
HasLiteralsOf wide c = (k : ℕ) → slice_index_or wide.symbols k Dash ≢ Dash
    → slice_index_or c.symbols k Dash ≡ slice_index_or wide.symbols k Dash

-- an implicant that contains the narrow cube and has the literals of the wide one
pub record IsBetween (off : Cubes) (narrow wide c : Cube) : Type 0 where
  pub implicant : IsImplicantOver off narrow c
  pub literals : HasLiteralsOf wide c

-- the cube has no literal
abbrev pub HasNoLiteral : Cube → Type 0
HasNoLiteral c = (k : ℕ) → slice_index_or c.symbols k Dash ≡ Dash

-- no cube with the literals of the wide one is better than the best
abbrev pub IsNoWorse : Cube → Cube → Type 0
IsNoWorse wide best = (c : Cube) → HasLiteralsOf wide c → length c.symbols ≡ length wide.symbols
    → IsAsGood Literals c best

-- no implicant between the two is better than the best
abbrev pub AreNoBetter : Cubes → Cube → Cube → Cube → Type 0
AreNoBetter off narrow wide best = (c : Cube) → IsBetween off narrow wide c
    → IsAsGood Literals c best

-- a cube with the opposite of another's symbol at each input
pub record IsAgainst (size : Size) (y c : Cube) : Type 0 where
  pub is_cube : IsCube size c
  pub symbols : (i : ℕ) → slice_index_or c.symbols i Dash ≡ opposite (slice_index_or y.symbols i Dash)

-- a cube that contains a row, and meets no other of the cubes that contain y than the row does
pub record IsWidened (size : Size) (y row wide : Cube) : Type 0 where
  pub is_cube : IsCube size wide
  pub over : IsSubset (holds row) (holds wide)
  pub apart : (c : Cube) → IsCube size c → IsSubset (holds y) (holds c)
      → IsDisjoint (holds row) (holds c) → IsDisjoint (holds wide) (holds c)

-- cubes that hold all places of some rows, and meet no implicant that contains y
pub record IsAround (off : Cubes) (y : Cube) (rows around : List Cube) : Type 0 where
  pub over : IsSubset (places rows) (places around)
  pub apart : (d c : Cube) → Contains around d → IsImplicantOver off y c
      → IsDisjoint (holds d) (holds c)

-- of the cubes that contain y, the same meet no cube of either list
abbrev pub HaveSameImplicantsOver : Cubes → Cubes → Cube → Type 0
HaveSameImplicantsOver off around y = (c : Cube) → IsCube off.size c → IsSubset (holds y) (holds c)
    → (IsImplicant off c ↔ IsImplicant around c)
