-- A cube as a contract sees it, and the set of its places.
use Rattle.std.specs.Prelude.{◌≡◌, ℕ, Bool, true, false, not, ◌&&◌, List, length, slice_index_or, slice_set, IsTrue, ◌<◌, ◌≤◌, count_by, All}
use Rattle.std.specs.List.{list_any}
use Rattle.cube.specs.declared.symbol.Symbol.{Symbol}
use Rattle.cube.specs.declared.symbol.Symbol.TheVariants.{Dash}
use Rattle.cube.specs.Size.{Size, words_of_size}
use Rattle.cube.specs.Pattern.{matches, is_literal}

-- a symbol for each input, and for each output whether the cube has it
pub record Cube : Type 0 where
  pub symbols : List Symbol
  pub outputs : List Bool

-- a point with the number of an output
pub record Place : Type 0 where
  pub point : List Bool
  pub output : ℕ

-- the places of a cube: the point matches the symbols, and the output is in the cube
abbrev pub holds : Cube → Place → Bool
holds c p = matches c.symbols p.point && slice_index_or c.outputs p.output false

-- a place of a size
abbrev pub IsPlace : Size → Place → Type 0
IsPlace size p = (length p.point ≡ size.inputs) × (p.output < size.outputs)

-- a cube has as many symbols and outputs as a size says
abbrev pub HasSize : Cube → Size → Type 0
HasSize c size = (length c.symbols ≡ size.inputs) × (length c.outputs ≡ size.outputs)

-- a cube of a size has an output
pub record IsCube (size : Size) (c : Cube) : Type 0 where
  pub has_size : HasSize c size
  pub some_output : IsTrue (list_any (λ b. b) c.outputs)

-- two cubes have as many symbols and outputs
abbrev pub SameSize : Cube → Cube → Type 0
SameSize a b = (length a.symbols ≡ length b.symbols) × (length a.outputs ≡ length b.outputs)

-- Sets of places are tests.

-- each place of s is in t
abbrev pub IsSubset : (Place → Bool) → (Place → Bool) → Type 0
IsSubset s t = (p : Place) → IsTrue (s p) → IsTrue (t p)

-- no place is in both
abbrev pub IsDisjoint : (Place → Bool) → (Place → Bool) → Type 0
IsDisjoint s t = (p : Place) → IsTrue (s p) → IsTrue (t p) → ⊥

-- the places of both
abbrev pub intersection : (Place → Bool) → (Place → Bool) → Place → Bool
intersection s t p = s p && t p

-- the places of s that are not in t
abbrev pub difference : (Place → Bool) → (Place → Bool) → Place → Bool
difference s t p = s p && not (t p)

-- the size that a cube has
abbrev pub size_of : Cube → Size
size_of c = record { inputs = length c.symbols; outputs = length c.outputs }

-- how many words hold a cube
abbrev pub word_count : Cube → ℕ
word_count c = words_of_size (size_of c)

-- the cube with another symbol at input i
abbrev pub with_symbol : Cube → ℕ → Symbol → Cube
with_symbol c i s = record { symbols = slice_set c.symbols i s; outputs = c.outputs }

-- the number of literals of a cube
abbrev pub literals : Cube → ℕ
literals c = count_by is_literal c.symbols

-- a cube with no literal and with all outputs, which holds each place of its size
pub record IsUniversal (c : Cube) : Type 0 where
  pub no_literal : All (λ s. s ≡ Dash) c.symbols
  pub all_outputs : All (λ b. b ≡ true) c.outputs

-- input i is the first from a number on that has a literal
pub record IsNextLiteral (c : Cube) (from i : ℕ) : Type 0 where
  pub from_on : from ≤ i
  pub within : i < length c.symbols
  pub literal : IsTrue (is_literal (slice_index_or c.symbols i Dash))
  pub dashes : (k : ℕ) → from ≤ k → k < i → slice_index_or c.symbols k Dash ≡ Dash
