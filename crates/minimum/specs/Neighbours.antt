-- The places beside a prime, and essential primes that are found. No public clause cites this module.
use Rattle.std.specs.Prelude.{◌≡◌, ◌≢◌, ℕ, ◌<◌, Bool, true, false, not, List, [], ◌∷◌, ◌++◌, Option, None, Some, length, slice_index_or, slice_set, Contains}
use Rattle.std.specs.List.{filter}
use Rattle.cube.specs.declared.symbol.Symbol.TheVariants.{Dash}
use Rattle.cube.specs.Size.{Size}
use Rattle.cube.specs.Cube.{Cube, Place, holds, intersection, size_of}
use Rattle.cube.specs.Sum.{complete_sum, is_subset}
use Rattle.cover.specs.Cubes.{AreCubes}
use Rattle.cover.specs.Places.{places}
use Rattle.minimum.specs.declared.essential_by_neighbours.grown_primes.GrownPrimes.{GrownPrimes}
use Rattle.minimum.specs.Primes.{others}

-- the place with the other value at input i
abbrev pub flip : ℕ → Place → Place
flip i p = record {
  point = slice_set p.point i (not (slice_index_or p.point i false));
  output = p.output;
}

-- the same point under output j
abbrev pub under : ℕ → Place → Place
under j p = record { point = p.point; output = j }

-- at each literal of the cube the place with the other value is outside s
abbrev pub IsAloneByInputs : (Place → Bool) → Cube → Place → Type 0
IsAloneByInputs s c p = (i : ℕ) → slice_index_or c.symbols i Dash ≢ Dash → s (flip i p) ≡ false

-- at each output that the cube lacks the place under it is outside s
abbrev pub IsAloneByOutputs : (Place → Bool) → Cube → Place → Type 0
IsAloneByOutputs s c p = (j : ℕ) → j < length c.outputs → slice_index_or c.outputs j false ≡ false
    → s (under j p) ≡ false

-- no step out of the cube leads from the place into s
pub record IsAlone (s : Place → Bool) (c : Cube) (p : Place) : Type 0 where
  pub inputs : IsAloneByInputs s c p
  pub outputs : IsAloneByOutputs s c p

-- whether there is a cube, and it holds the place
abbrev pub held_by : Option Cube → Place → Bool
held_by None p = false
held_by (Some c) p = holds c p

-- cubes whose places in c are those from which a step out of c leads into a list
pub record AreNeighbours (c : Cube) (rows near : List Cube) : Type 0 where
  pub are_cubes : AreCubes (size_of c) near
  pub none : (p : Place) → holds c p ≡ true → places near p ≡ false → IsAlone (places rows) c p
  pub some : (p : Place) → holds c p ≡ true → places near p ≡ true → IsAlone (places rows) c p → ⊥

-- such cubes for one row are added
pub record AddsNeighbours (c row : Cube) (old new : List Cube) : Type 0 where
  pub are_cubes : AreCubes (size_of c) old → AreCubes (size_of c) new
  pub none : (p : Place) → holds c p ≡ true → places new p ≡ false → (places old p ≡ false)
      × IsAlone (holds row) c p
  pub some : (p : Place) → holds c p ≡ true → places new p ≡ true → places old p ≡ false
      → IsAlone (holds row) c p → ⊥

-- whether a cube of a list holds a wanted place that no other of the list holds
abbrev pub has_own : Size → (Place → Bool) → List Cube → Cube → Bool
has_own size wanted primes c = not (is_subset size (intersection wanted (holds c))
    (places (others c primes)))

-- the primes of s that hold a wanted place alone
abbrev pub essential_in : Size → (Place → Bool) → (Place → Bool) → List Cube
essential_in size s wanted = filter (has_own size wanted (complete_sum size s)) (complete_sum size s)

-- a wanted place that the prime holds and no other
pub record IsOwn (size : Size) (s wanted : Place → Bool) (c : Cube) (p : Place) : Type 0 where
  pub prime : Contains (complete_sum size s) c
  pub held : holds c p ≡ true
  pub want : wanted p ≡ true
  pub alone : (d : Cube) → Contains (complete_sum size s) d → holds d p ≡ true → d ≡ c

-- all primes that were grown are cubes of the size
pub record HaveSize (size : Size) (found : GrownPrimes) : Type 0 where
  pub essential : AreCubes size found.essential.items
  pub others : AreCubes size found.others.items

-- a prime is added to the essential ones, or to the others
abbrev pub AddsPrime : GrownPrimes → GrownPrimes → Cube → Bool → Type 0
AddsPrime old new prime true = (new.essential.items ≡ old.essential.items ++ prime ∷ [])
    × (new.others.items ≡ old.others.items)
AddsPrime old new prime false = (new.essential.items ≡ old.essential.items)
    × (new.others.items ≡ old.others.items ++ prime ∷ [])

-- primes that hold a wanted place alone, and others that hold none alone
pub record AreGrown (size : Size) (s wanted : Place → Bool) (found : GrownPrimes) : Type 0 where
  pub essential : (c : Cube) → Contains found.essential.items c
      → Contains (essential_in size s wanted) c
  pub others : (c : Cube) → Contains found.others.items c → Contains (complete_sum size s) c
      × (has_own size wanted (complete_sum size s) c ≡ false)

-- such primes, with each that has a place of its own in the region
pub record AreFoundIn (size : Size) (s wanted region : Place → Bool)
    (found : GrownPrimes) : Type 0 where
  pub grown : AreGrown size s wanted found
  pub all : (c : Cube) (p : Place) → IsOwn size s wanted c p → region p ≡ true
      → Contains found.essential.items c

-- more of them, by those with a place of their own in a cube
pub record AddsEssential (size : Size) (s wanted : Place → Bool) (cube : Cube)
    (old new : GrownPrimes) : Type 0 where
  pub kept : (c : Cube) → Contains old.essential.items c → Contains new.essential.items c
  pub grown : AreGrown size s wanted old → AreGrown size s wanted new
  pub all : AreGrown size s wanted old → (c : Cube) (p : Place) → IsOwn size s wanted c p
      → holds cube p ≡ true → Contains new.essential.items c
