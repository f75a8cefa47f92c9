-- The blocking lists of a prime. No public clause cites this module but for `IsSampled`.
use Rattle.std.specs.Prelude.{◌≡◌, ℕ, ◌≤◌, ◌<◌, Bool, true, not, ◌||◌, List, length, slice_index_or, Contains}
use Rattle.cube.specs.Size.{Size}
use Rattle.cube.specs.Cube.{Cube, Place, holds, intersection, IsPlace, IsSubset, SameSize}
use Rattle.cover.specs.Cubes.{Cubes}
use Rattle.cover.specs.Places.{places}
use Rattle.pla.specs.Sets.{SetLists}
use Rattle.minimum.specs.Primes.{care_on}
use Rattle.minimum.specs.Neighbours.{flip, under}

-- the ON list has the wanted places, and the other one the places outside ON-set and DC-set
pub record IsSampled (sets : SetLists) (on off : Cubes) : Type 0 where
  pub size : on.size ≡ sets.size
  pub wanted : (p : Place) → IsPlace sets.size p → places on.cubes p ≡ care_on sets p
  pub outside : (p : Place) → IsPlace sets.size p
      → places off.cubes p ≡ not (places sets.on p || places sets.dc p)

-- the step at input i leads into the list
abbrev pub flip_in : List Cube → ℕ → Place → Bool
flip_in rows i p = places rows (flip i p)

-- the step to output j leads into the list
abbrev pub under_in : List Cube → ℕ → Place → Bool
under_in rows j p = places rows (under j p)

-- the list has the places of the prime for which the test holds
pub record Blocks (n : Size) (c : Cube) (test : Place → Bool) (list : Cubes) : Type 0 where
  pub size : list.size ≡ n
  pub same : (p : Place) → holds c p ≡ true → places list.cubes p ≡ test p

-- each of the lists has the place
abbrev pub AllHave : List Cubes → Place → Type 0
AllHave lists p = (l : Cubes) → Contains lists l → places l.cubes p ≡ true

-- a place of the prime is in each of the lists exactly if the fact holds there
pub record AreBlocking (size : Size) (c : Cube) (lists : List Cubes)
    (fact : Place → Type 0) : Type 0 where
  pub sizes : (l : Cubes) → Contains lists l → l.size ≡ size
  pub to : (p : Place) → holds c p ≡ true → AllHave lists p → fact p
  pub back : (p : Place) → holds c p ≡ true → fact p → AllHave lists p

-- a place of the region that is in each of the lists from a number on
pub record HasCommon (region : Cube) (lists : List Cubes) (from : ℕ) : Type 0 where
  pub place : Place
  pub held : holds region place ≡ true
  pub each : (k : ℕ) (d : Cubes) → from ≤ k → k < length lists
      → places (slice_index_or lists k d).cubes place ≡ true

-- the cube lies around the region, and no place of it is in each of the lists from a number on
pub record IsNogood (lists : List Cubes) (from : ℕ) (region c : Cube) : Type 0 where
  pub size : SameSize c region
  pub around : IsSubset (holds region) (holds c)
  pub none : HasCommon c lists from → ⊥

-- the cube lies around the region, and what it has of the rows lies in the nogoods
pub record IsWidening (rows nogoods : List Cube) (region c : Cube) : Type 0 where
  pub size : SameSize c region
  pub around : IsSubset (holds region) (holds c)
  pub parts : IsSubset (intersection (holds c) (places rows)) (places nogoods)
