-- Growth of a cube to a prime, and the rows near it.
use Rattle.std.specs.Prelude.{◌≡◌, ◌≢◌, ℕ, ◌<◌, ◌≤◌, ◌⊎◌, Bool, true, false, not, List, Option, None, Some, slice_index_or, slice_set, Contains}
use Rattle.cube.specs.declared.symbol.Symbol.{Symbol}
use Rattle.cube.specs.declared.symbol.Symbol.TheVariants.{Dash}
use Rattle.cube.specs.Size.{Size}
use Rattle.cube.specs.Pattern.{matches}
use Rattle.cube.specs.Cube.{Cube, Place, holds, with_symbol, IsCube, SameSize, IsSubset}
use Rattle.cube.specs.Sharp.{opposite}
use Rattle.cover.specs.Cubes.{Cubes}
use Rattle.cover.specs.Places.{places}
use Rattle.growth.specs.declared.prime.Side.{Side}
use Rattle.growth.specs.declared.prime.Side.TheVariants.{Inside, Outside}

-- the places inside a list or outside it
abbrev pub on_side : Side → List Cube → Place → Bool
on_side Inside rows p = places rows p
on_side Outside rows p = not (places rows p)

-- no cube within s that contains c has a dash at the input, unless c has one
abbrev pub IsSettledInput : Size → (Place → Bool) → Cube → ℕ → Type 0
IsSettledInput size s c i = (d : Cube) → IsCube size d → IsSubset (holds c) (holds d)
    → IsSubset (holds d) s → slice_index_or d.symbols i Dash ≡ Dash
    → slice_index_or c.symbols i Dash ≡ Dash

-- no cube within s that contains c has the output, unless c has it
abbrev pub IsSettledOutput : Size → (Place → Bool) → Cube → ℕ → Type 0
IsSettledOutput size s c j = (d : Cube) → IsCube size d → IsSubset (holds c) (holds d)
    → IsSubset (holds d) s → slice_index_or d.outputs j false ≡ true
    → slice_index_or c.outputs j false ≡ true

-- a cube that contains another, and lies within s if the other does
pub record Grows (size : Size) (s : Place → Bool) (old new : Cube) : Type 0 where
  pub is_cube : IsCube size new
  pub over : IsSubset (holds old) (holds new)
  pub within : IsSubset (holds old) s → IsSubset (holds new) s

-- a cube that contains another, at the first n inputs and m outputs as large as can be within s
pub record IsSettledUpTo (size : Size) (s : Place → Bool) (old new : Cube) (n m : ℕ) : Type 0 where
  pub is_cube : IsCube size new
  pub over : IsSubset (holds old) (holds new)
  pub inputs : (k : ℕ) → k < n → IsSettledInput size s new k
  pub outputs : (k : ℕ) → k < m → IsSettledOutput size s new k

-- such a cube that lies within s if the other does
pub record IsGrown (size : Size) (s : Place → Bool) (old new : Cube) (n m : ℕ) : Type 0 where
  pub settled : IsSettledUpTo size s old new n m
  pub within : IsSubset (holds old) s → IsSubset (holds new) s

-- the cube, maybe with a dash at the input
abbrev pub IsFreedAt : ℕ → Cube → Cube → Type 0
IsFreedAt i old new = (new ≡ old) ⊎ (new ≡ with_symbol old i Dash)

-- among the cubes within s that contain `old` and have these symbols before input i, one has a dash
-- there only if these symbols do
abbrev pub IsFirstInput : Size → (Place → Bool) → Cube → List Symbol → ℕ → Type 0
IsFirstInput size s old symbols i = (d : Cube) → IsCube size d → IsSubset (holds old) (holds d)
    → IsSubset (holds d) s
    → ((k : ℕ) → k < i → slice_index_or d.symbols k Dash ≡ slice_index_or symbols k Dash)
    → slice_index_or d.symbols i Dash ≡ Dash → slice_index_or symbols i Dash ≡ Dash

-- the same of each input
abbrev pub AreFirst : Size → (Place → Bool) → Cube → List Symbol → Type 0
AreFirst size s old symbols = (i : ℕ) → i < size.inputs → IsFirstInput size s old symbols i

-- a cube that was freed of literals in order, at the first n inputs
pub record IsFreed (size : Size) (s : Place → Bool) (old new : Cube) (n : ℕ) : Type 0 where
  pub first : (i : ℕ) → i < n → IsFirstInput size s old new.symbols i
  pub rest : (i : ℕ) → n ≤ i
      → slice_index_or new.symbols i Dash ≡ slice_index_or old.symbols i Dash
  pub outputs : new.outputs ≡ old.outputs

-- the place's point is that of a place of the cube, but for the value at one input
pub record IsBeside (c : Cube) (p : Place) : Type 0 where
  pub place : Place
  pub held : holds c place ≡ true
  pub input : ℕ
  pub bit : Bool
  pub same : p.point ≡ slice_set place.point input bit

-- the row has the other literal than the cube at the input
abbrev pub Conflicts : Cube → Cube → ℕ → Type 0
Conflicts c row i = (slice_index_or c.symbols i Dash ≢ Dash)
    × (slice_index_or row.symbols i Dash ≡ opposite (slice_index_or c.symbols i Dash))

-- the row conflicts with the cube at two inputs
pub record IsFar (c row : Cube) : Type 0 where
  pub one : ℕ
  pub other : ℕ
  pub apart : one ≢ other
  pub at_one : Conflicts c row one
  pub at_other : Conflicts c row other

-- rows that hold the same places beside the cube as the list does
pub record AreNear (c : Cube) (rows near : Cubes) : Type 0 where
  pub size : near.size ≡ rows.size
  pub same : (p : Place) → IsBeside c p → places near.cubes p ≡ places rows.cubes p

-- the rows near a cube, or all rows
abbrev pub near_or : Cubes → Option Cubes → Cubes
near_or rows None = rows
near_or rows (Some near) = near

-- a part of a cube's inputs, under all of its outputs
pub record IsPartOf (c part : Cube) : Type 0 where
  pub size : SameSize part c
  pub outputs : part.outputs ≡ c.outputs
  pub within : IsSubset (holds part) (holds c)

-- a part of a cube's inputs of which a list holds all or nothing under each output that the cube
-- lacks: `here` has those of them that the list has there
pub record AreReached (c : Cube) (rows : List Cube) (here : Cube) : Type 0 where
  pub size : SameSize here c
  pub inputs : (point : List Bool) → matches here.symbols point ≡ true
      → matches c.symbols point ≡ true
  pub outputs : (p : Place) → matches here.symbols p.point ≡ true
      → slice_index_or c.outputs p.output false ≡ false
      → places rows p ≡ slice_index_or here.outputs p.output false

-- one of the cubes contains the region
abbrev pub LiesInOneOf : List Cube → Cube → Type 0
LiesInOneOf cubes region = (d : Cube) × Contains cubes d × IsSubset (holds region) (holds d)
