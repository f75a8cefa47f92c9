-- Literals counted, and the inputs at which a region can be split. No public clause cites this
-- module.
use Rattle.std.specs.Prelude.{◌≡◌, ℕ, ◌+◌, ◌≤◌, ◌<◌, List, [], ◌∷◌, Contains, length, slice_get, slice_index_or, Some}
use Rattle.cube.specs.declared.symbol.Symbol.{Symbol}
use Rattle.cube.specs.declared.symbol.Symbol.TheVariants.{Dash, Zero, One}
use Rattle.cube.specs.Cube.{Cube}

-- no count is lost, and if the cube has the literal below `end` there is one
pub record Grows (literal : Symbol) (c : Cube) (end : ℕ) (old new : List ℕ) : Type 0 where
  pub len : length new ≡ length old
  pub kept : (i : ℕ) → 1 ≤ slice_index_or old i 0 → 1 ≤ slice_index_or new i 0
  pub own : (i : ℕ) → i < end → slice_get c.symbols i ≡ Some literal → 1 ≤ slice_index_or new i 0

-- each literal of a cube is counted
pub record CountsLiterals (inputs : ℕ) (zeros ones : List ℕ) (cubes : List Cube) : Type 0 where
  pub zeros_len : length zeros ≡ inputs
  pub ones_len : length ones ≡ inputs
  pub zero : (c : Cube) (i : ℕ) → Contains cubes c → slice_get c.symbols i ≡ Some Zero
      → 1 ≤ slice_index_or zeros i 0
  pub one : (c : Cube) (i : ℕ) → Contains cubes c → slice_get c.symbols i ≡ Some One
      → 1 ≤ slice_index_or ones i 0

-- the inputs at which a region can be split
abbrev pub free : Symbol → ℕ
free Dash = 1
free Zero = 0
free One = 0

-- how many there are
abbrev pub dashes : List Symbol → ℕ
dashes [] = 0
dashes (s ∷ symbols) = free s + dashes symbols
