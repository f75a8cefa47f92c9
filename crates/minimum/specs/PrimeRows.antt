-- How the places of regions become rows of a table. Public clauses cite `contains_region` alone.
use Rattle.std.specs.Prelude.{◌≡◌, ◌≢◌, ℕ, nat_lt, ◌<◌, Bool, true, false, not, List, [], length, filter, slice_index_or, slice_get, Some, All}
use Rattle.std.specs.List.{AllByRecursion, list_any, range_with_len}
use Rattle.cube.specs.declared.symbol.Symbol.TheVariants.{Dash}
use Rattle.cube.specs.Cube.{Cube, Place, holds, difference, SameSize, size_of}
use Rattle.cube.specs.Sum.{is_subset}
use Rattle.cover.specs.Places.{places, is_disjoint}
use Rattle.cover.specs.Marks.{cube_at}
use Rattle.covering.specs.Table.{has, RisesFrom}
use Rattle.covering.specs.Cover.{meets}
use Rattle.covering.specs.Steps.{HasRow}

-- whether the cube with this number holds the place
abbrev pub holds_at : List Cube → ℕ → Place → Bool
holds_at cubes i p = holds (cube_at cubes i) p

-- whether it has a place of the region
abbrev pub intersects_region : List Cube → Cube → ℕ → Bool
intersects_region cubes region i = not (is_disjoint (size_of region) (holds (cube_at cubes i)) (holds region))

-- whether it holds the region
abbrev pub contains_region : List Cube → Cube → ℕ → Bool
contains_region cubes region i = is_subset (size_of region) (holds region) (holds (cube_at cubes i))

-- whether the cube with the number has the output
abbrev pub has_output : List Cube → ℕ → ℕ → Bool
has_output cubes j i = slice_index_or (cube_at cubes i).outputs j false

-- the numbers of the cubes that have the output
abbrev pub with_output : List Cube → ℕ → List ℕ
with_output cubes j = filter (has_output cubes j) (range_with_len 0 (length cubes))

-- rising numbers of cubes, of all that have a place of the region and maybe others
pub record AreCandidates (cubes : List Cube) (region : Cube) (numbers : List ℕ) : Type 0 where
  pub rises : RisesFrom 0 numbers
  pub below : All (λ i. i < length cubes) numbers
  pub all : (i : ℕ) (p : Place) → holds region p ≡ true → holds_at cubes i p ≡ true
      → has i numbers ≡ true

-- each of the cubes has a place of the region
abbrev pub AreIntersecting : List Cube → Cube → List ℕ → Type 0
AreIntersecting cubes region numbers = (i : ℕ) → has i numbers ≡ true → intersects_region cubes region i ≡ true

-- at most one output
abbrev pub HasOneOutput : Cube → Type 0
HasOneOutput region = (j k : ℕ) → slice_index_or region.outputs j false ≡ true
    → slice_index_or region.outputs k false ≡ true → j ≡ k

-- each wanted place is in one of the primes
abbrev pub AreEnough : List Cube → List Cube → List Cube → Type 0
AreEnough primes on dc = (p : Place) → difference (places on) (places dc) p ≡ true → (i : ℕ)
    × (holds_at primes i p ≡ true)

-- a region of one output, and the cubes that are candidates for it
pub record IsSplit (primes on dc : List Cube) (region : Cube)
    (candidate_primes candidate_on candidate_dc : List ℕ) : Type 0 where
  pub one : HasOneOutput region
  pub enough : AreEnough primes on dc
  pub primes_size : All (λ d. SameSize d region) primes
  pub on_size : All (λ d. SameSize d region) on
  pub dc_size : All (λ d. SameSize d region) dc
  pub primes_candidates : AreCandidates primes region candidate_primes
  pub on_candidates : AreCandidates on region candidate_on
  pub dc_candidates : AreCandidates dc region candidate_dc

-- such a region, of which each of the candidates has a place
pub record IsIntersecting (primes on dc : List Cube) (region : Cube)
    (candidate_primes candidate_on candidate_dc : List ℕ) : Type 0 where
  pub split : IsSplit primes on dc region candidate_primes candidate_on candidate_dc
  pub primes_intersect : AreIntersecting primes region candidate_primes
  pub on_intersect : AreIntersecting on region candidate_on
  pub dc_intersect : AreIntersecting dc region candidate_dc

-- each of the primes holds the place
abbrev pub AllHold : List Cube → List ℕ → Place → Type 0
AllHold primes row p = (i : ℕ) → has i row ≡ true → holds_at primes i p ≡ true

-- each wanted place of the region has a row whose primes all hold it
abbrev pub HasRowsFor : List Cube → List Cube → List Cube → (Place → Bool) → List (List ℕ) → Type 0
HasRowsFor primes on dc region rows = (p : Place) → region p ≡ true
    → difference (places on) (places dc) p ≡ true → (row : List ℕ) × HasRow row rows
    × AllHold primes row p

-- some prime of the list holds each wanted place
abbrev pub IsHolding : List Cube → List Cube → List Cube → List ℕ → Type 0
IsHolding primes on dc s = (p : Place) → difference (places on) (places dc) p ≡ true → (i : ℕ)
    × (has i s ≡ true) × (holds_at primes i p ≡ true)

-- no place of the region is in the DC-set, and each of the primes holds each wanted place of it
pub record IsSettled (primes on dc : List Cube) (region : Cube)
    (candidate_primes : List ℕ) : Type 0 where
  pub no_dc : (p : Place) → holds region p ≡ true → places dc p ≡ false
  pub hold : (p : Place) → holds region p ≡ true → difference (places on) (places dc) p ≡ true
      → AllHold primes candidate_primes p

-- some ON cube is a candidate, and no DC cube that is one holds the region
pub record IsOpen (dc : List Cube) (region : Cube)
    (candidate_on candidate_dc : List ℕ) : Type 0 where
  pub some_on : candidate_on ≢ []
  pub none_contains : list_any (contains_region dc region) candidate_dc ≡ false

-- a rising list of primes, one of which is in each list that holds the wanted places
pub record IsDemand (primes on dc : List Cube) (row : List ℕ) : Type 0 where
  pub some : row ≢ []
  pub rises : RisesFrom 0 row
  pub below : (i : ℕ) → has i row ≡ true → i < length primes
  pub met : (s : List ℕ) → IsHolding primes on dc s → meets s row ≡ true

-- what the rows so far become by the places of a region
pub record AddsRows (primes on dc : List Cube) (region : Place → Bool)
    (old new : List (List ℕ)) : Type 0 where
  pub kept : (row : List ℕ) → HasRow row old → HasRow row new
  pub demands : AllByRecursion (IsDemand primes on dc) old
      → AllByRecursion (IsDemand primes on dc) new
  pub has_rows : HasRowsFor primes on dc region new

-- the cube has no literal at the dashes of the region
abbrev pub HasNoneInside : Cube → Cube → Type 0
HasNoneInside cube region = (k : ℕ) → slice_index_or region.symbols k Dash ≡ Dash
    → slice_index_or cube.symbols k Dash ≡ Dash

-- an input at which the region has a dash
abbrev pub IsFree : Cube → ℕ → Type 0
IsFree region i = slice_get region.symbols i ≡ Some Dash

-- rows of a table that has the covers by these primes
pub record AreRowsOf (primes on dc : List Cube) (rows : List (List ℕ)) : Type 0 where
  pub demands : AllByRecursion (IsDemand primes on dc) rows
  pub has_rows : HasRowsFor primes on dc (λ p. true) rows

-- such rows, as far as the places of the first outputs are looked at
pub record RowsSoFar (primes on dc : List Cube) (outputs : ℕ) (rows : List (List ℕ)) : Type 0 where
  pub demands : AllByRecursion (IsDemand primes on dc) rows
  pub has_rows : HasRowsFor primes on dc (λ p. nat_lt p.output outputs) rows
