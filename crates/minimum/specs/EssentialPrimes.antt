-- Which primes are essential: the cubes that may hold places of a prime beside it, and the
-- candidates. No public clause cites this module.
use Rattle.std.specs.Prelude.{◌≡◌, ◌≢◌, ℕ, ◌<◌, Bool, true, not, ◌&&◌, List, length}
use Rattle.std.specs.Ordering.{is_eq}
use Rattle.cube.specs.Cube.{Cube, holds, size_of}
use Rattle.cube.specs.Order.{row_cmp}
use Rattle.cover.specs.Places.{is_disjoint}
use Rattle.cover.specs.Marks.{cube_at}
use Rattle.covering.specs.Search.{marked}
use Rattle.minimum.specs.PrimeRows.{contains_region}

-- whether d has a place of c
abbrev pub intersects_cube : Cube → Cube → Bool
intersects_cube c d = not (is_disjoint (size_of c) (holds d) (holds c))

-- whether d is another cube with a place of c
abbrev pub is_rival : Cube → Cube → Bool
is_rival c d = intersects_cube c d && not (is_eq (row_cmp d c))

-- another prime than n holds the cube
pub record HasOther (primes : List Cube) (cube : Cube) (n : ℕ) : Type 0 where
  pub number : ℕ
  pub apart : number ≢ n
  pub below : number < length primes
  pub contains_region : contains_region primes cube number ≡ true

-- the prime that alone holds the cube has lost its mark
pub record UnmarksCandidate (primes : List Cube) (cube : Cube) (old new : List Bool) : Type 0 where
  pub falls : (n : ℕ) → marked new n ≡ true → marked old n ≡ true
  pub others : (n : ℕ) → n < length primes → marked new n ≡ true → contains_region primes cube n ≡ true
      → HasOther primes cube n

-- each of the first so many cubes that lies in a marked prime lies in another too
abbrev pub AreNonCandidates : List Cube → List Cube → ℕ → List Bool → Type 0
AreNonCandidates primes on count marks = (k : ℕ) → k < count → (n : ℕ) → n < length primes
    → marked marks n ≡ true → contains_region primes (cube_at on k) n ≡ true
    → HasOther primes (cube_at on k) n
