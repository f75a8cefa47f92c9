-- A table of the primes that hold some wanted places.
use Rattle.std.specs.Prelude.{◌≡◌, ◌≢◌, ℕ, ◌<◌, Bool, true, not, List, [], ◌++◌, Contains, filter, length, map, slice_index_or}
use Rattle.std.specs.List.{range_with_len}
use Rattle.std.specs.List.Sorted.{IsStrictlySortedBy}
use Rattle.cube.specs.declared.symbol.Symbol.TheVariants.{Dash}
use Rattle.cube.specs.Size.{Size}
use Rattle.cube.specs.Cube.{Cube, Place, holds, literals, IsCube, IsPlace, IsSubset}
use Rattle.cube.specs.Order.{row_cmp}
use Rattle.cube.specs.Sum.{complete_sum}
use Rattle.cover.specs.Cubes.{AreCubes, Cubes}
use Rattle.cover.specs.Places.{places}
use Rattle.cover.specs.Reduced.{HasSameCubes}
use Rattle.pla.specs.Sets.{SetLists}
use Rattle.covering.specs.declared.choice.Choice.{Choice}
use Rattle.growth.specs.Dominating.{IsDominated}
use Rattle.minimum.specs.declared.points.source.Source.{Source}
use Rattle.minimum.specs.declared.points.source.Source.TheVariants.{Outside, Primes}
use Rattle.minimum.specs.declared.points.picked_points.PickedPoints.{PickedPoints}
use Rattle.covering.specs.Table.{Table, fresh}
use Rattle.covering.specs.Cover.{IsLeast}
use Rattle.minimum.specs.Primes.{primes_of, care_on, chosen, essential_of, exact_of}
use Rattle.minimum.specs.PrimeRows.{contains_region}

-- a function as minimisation sees it: its primes, and the places that a cover has to hold
pub record Function : Type 0 where
  pub size : Size
  pub primes : List Cube
  pub wanted : Place → Bool

-- that of three lists
abbrev pub function_of : SetLists → Function
function_of sets = record { size = sets.size; primes = primes_of sets; wanted = care_on sets }

-- the lists that say which places are wanted
abbrev pub lists_of : Cubes → Cubes → SetLists
lists_of on dc = record { size = on.size; on = on.cubes; dc = dc.cubes; off = [] }

-- the list of a source
abbrev pub source_list : Source → Cubes
source_list (Outside off) = off
source_list (Primes list) = list

-- the size of a source, and the primes that it tells: those outside its list, or the list itself
abbrev pub source_size : Source → Size
source_size (Outside off) = off.size
source_size (Primes list) = list.size

abbrev pub source_primes : Source → List Cube
source_primes (Outside off) = complete_sum off.size (λ p. not (places off.cubes p))
source_primes (Primes list) = list.cubes

-- a source of the size, whose primes are cubes of it
pub record IsSource (size : Size) (source : Source) : Type 0 where
  pub sized : source_size source ≡ size
  pub cubes : (c : Cube) → Contains (source_primes source) c → IsCube size c

-- the function that wants what is in the ON list and not in the DC list, with the primes of a
-- source
abbrev pub function_by : SetLists → Source → Function
function_by sets source = record { size = sets.size; primes = source_primes source; wanted = care_on sets }

-- the cube's one place
pub record IsPointAt (c : Cube) (p : Place) : Type 0 where
  pub held : holds c p ≡ true
  pub alone : (q : Place) → holds c q ≡ true → q ≡ p

-- a cube of one place, which is wanted
pub record IsWantedPoint (f : Function) (c : Cube) : Type 0 where
  pub is_cube : IsCube f.size c
  pub place : Place
  pub at : IsPointAt c place
  pub wanted : f.wanted place ≡ true

-- wanted points, and cubes that dominate all primes that contain one of them
pub record AreDominating (choice : Choice) (f : Function) (points columns : List Cube) : Type 0 where
  pub wanted : (x : Cube) → Contains points x → IsWantedPoint f x
  pub cubes : (c : Cube) → Contains columns c → IsCube f.size c
  pub apart : (c d : Cube) → Contains columns c → Contains columns d → c.symbols ≡ d.symbols
      → c ≡ d
  pub dominated : (x c : Cube) → Contains points x → Contains f.primes c
      → IsSubset (holds x) (holds c) → IsDominated choice points columns c

-- the numbers of the columns that contain the point
abbrev pub holders : List Cube → Cube → List ℕ
holders columns x = filter (contains_region columns x) (range_with_len 0 (length columns))

-- a row for each point, and some columns
abbrev pub point_table : List Cube → List Cube → Table
point_table points columns = fresh (map (holders columns) points) (map literals columns)

-- the least cover of the table of some points that some essential primes do not contain: its cubes,
-- among cubes that dominate the primes that contain a point
pub record IsLeastOfPoints (choice : Choice) (f : Function) (essential points list : List Cube)
    : Type 0 where
  pub columns : List Cube
  pub rising : IsStrictlySortedBy row_cmp columns
  pub are_dominating : AreDominating choice f points columns
  pub outside : (c x : Cube) → Contains essential c → Contains points x
      → IsSubset (holds x) (holds c) → ⊥
  pub numbers : List ℕ
  pub least : IsLeast choice (point_table points columns) numbers
  pub cubes : list ≡ chosen columns numbers

-- if its cubes are primes, and with these essential primes hold all wanted places, all of them, in
-- row order, are the least cover by primes
abbrev pub PointsAreEnough : Type 0
PointsAreEnough = (choice : Choice) (sets : SetLists) (essential points list answer : List Cube)
    → AreCubes sets.size sets.on
    → ((c : Cube) → Contains essential c → Contains (essential_of sets (primes_of sets)) c)
    → IsLeastOfPoints choice (function_of sets) essential points list
    → ((c : Cube) → Contains list c → Contains (primes_of sets) c)
    → IsSubset (care_on sets) (places (essential ++ list))
    → IsStrictlySortedBy row_cmp answer → HasSameCubes (essential ++ list) answer
    → answer ≡ exact_of choice sets

-- lists and a source that stand for the same function as others: the same places are wanted, and
-- the source tells the primes; the ON lists are the same
pub record StandsFor (sets given : SetLists) (source : Source) : Type 0 where
  pub size : given.size ≡ sets.size
  pub on : sets.on ≡ given.on
  pub wanted : (p : Place) → IsPlace sets.size p → care_on given p ≡ care_on sets p
  pub primes : source_primes source ≡ primes_of sets

-- points that were picked, and primes that dominate all that contain one of them
pub record IsFound (choice : Choice) (f : Function) (found : PickedPoints) : Type 0 where
  pub wanted : (x : Cube) → Contains found.points.items x → IsWantedPoint f x
  pub primes : (c : Cube) → Contains found.columns.cubes c → Contains f.primes c
  pub dominated : (x c : Cube) → Contains found.points.items x → Contains f.primes c
      → IsSubset (holds x) (holds c) → IsDominated choice found.points.items found.columns.cubes c
  pub size : found.columns.size ≡ f.size

-- primes that dominate all that contain one of the points, whichever else they contain
pub record AreColumnsOf (choice : Choice) (all points : List Cube) (point : Cube)
    (row : List Cube) : Type 0 where
  pub primes : (c : Cube) → Contains row c → Contains all c
  pub dominated : (c : Cube) → Contains all c → IsSubset (holds point) (holds c)
      → IsDominated choice points row c

-- no literal is missing
abbrev pub IsOnePoint : Cube → Type 0
IsOnePoint c = (k : ℕ) → k < length c.symbols → slice_index_or c.symbols k Dash ≢ Dash
