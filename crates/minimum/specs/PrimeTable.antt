-- The table of the primes.
use Rattle.std.specs.Prelude.{◌≡◌, ℕ, ◌<◌, true, List, [], length, map, ◌↔◌, IsTrue}
use Rattle.std.specs.List.{range_with_len}
use Rattle.cube.specs.Cube.{literals}
use Rattle.pla.specs.Sets.{SetLists}
use Rattle.covering.specs.Table.{Table, has, RisesFrom}
use Rattle.covering.specs.Cover.{IsCover}
use Rattle.minimum.specs.Primes.{primes_of, is_prime_cover}

-- a rising list of numbers of primes that together hold each wanted place
pub record IsPrimeCover (sets : SetLists) (s : List ℕ) : Type 0 where
  pub rises : RisesFrom 0 s
  pub below : (n : ℕ) → has n s ≡ true → n < length (primes_of sets)
  pub holds : IsTrue (is_prime_cover sets s)

-- the covers of the table are those by primes
abbrev pub HasPrimeCovers : SetLists → Table → Type 0
HasPrimeCovers sets t = (s : List ℕ) → IsCover t s ↔ IsPrimeCover sets s

-- a column for each prime, none taken and all live, weighed by its literals
pub record HasPrimeColumns (sets : SetLists) (t : Table) : Type 0 where
  pub columns : t.columns ≡ length (primes_of sets)
  pub taken : t.taken ≡ []
  pub live : t.live ≡ range_with_len 0 (length (primes_of sets))
  pub weights : t.weights ≡ map literals (primes_of sets)
