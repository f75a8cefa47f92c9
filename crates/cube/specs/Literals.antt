-- The inputs at which cubes have literals: tests of inputs, and what is counted and found by them.
use Rattle.std.specs.Prelude.{◌≡◌, ℕ, zero, suc, ◌+◌, ◌-◌, ◌*◌, ◌/◌, ◌%◌, ◌^◌, ◌<◌, ◌≤◌, Bool, true, false, if◌then◌else◌, slice_index_or}
use Rattle.std.specs.Int.{bit_at}
use Rattle.cube.specs.declared.symbol.Symbol.{Symbol}
use Rattle.cube.specs.declared.symbol.Symbol.TheVariants.{Dash, Zero, One}
use Rattle.cube.specs.Pattern.{is_literal}
use Rattle.cube.specs.Cube.{Cube}
use Rattle.cube.specs.Order.{rank}

-- the cube has a literal at input i
abbrev pub has_literal : Cube → ℕ → Bool
has_literal c i = is_literal (slice_index_or c.symbols i Dash)

-- `1` is the literal of the bit 1
abbrev pub is_one : Symbol → Bool
is_one Dash = false
is_one Zero = false
is_one One = true

-- the cube has `1` at input i
abbrev pub has_one : Cube → ℕ → Bool
has_one c i = is_one (slice_index_or c.symbols i Dash)

-- one of the two is `0`, and the other `1`
abbrev pub are_opposite : Symbol → Symbol → Bool
are_opposite Zero One = true
are_opposite One Zero = true
are_opposite s t = false

-- the two cubes have opposite literals at input i
abbrev pub is_opposite : Cube → Cube → ℕ → Bool
is_opposite c d i = are_opposite (slice_index_or c.symbols i Dash) (slice_index_or d.symbols i Dash)

-- the first is a literal, and the second is not the same
abbrev pub is_beyond_symbol : Symbol → Symbol → Bool
is_beyond_symbol Zero Dash = true
is_beyond_symbol Zero One = true
is_beyond_symbol One Dash = true
is_beyond_symbol One Zero = true
is_beyond_symbol s t = false

-- the first cube has a literal at input i that the second does not have
abbrev pub is_beyond : Cube → Cube → ℕ → Bool
is_beyond c d i = is_beyond_symbol (slice_index_or c.symbols i Dash) (slice_index_or d.symbols i Dash)

-- how many of the inputs below n pass a test
abbrev pub count_inputs : (ℕ → Bool) → ℕ → ℕ
count_inputs test zero = 0
count_inputs test (suc n) = count_inputs test n + (if test n then 1 else 0)

-- input i is the first from a number on that passes a test
pub record IsNextInput (test : ℕ → Bool) (from i : ℕ) : Type 0 where
  pub from_on : from ≤ i
  pub passes : test i ≡ true
  pub before : (k : ℕ) → from ≤ k → k < i → test k ≡ false

-- the set of those of the 32 inputs from 32 w on that pass a test: bit 2 k is for input 32 w + k
pub record IsInputSet (test : ℕ → Bool) (w set : ℕ) : Type 0 where
  pub inputs : (k : ℕ) → k < 32 → bit_at set (2 * k) ≡ (if test (32 * w + k) then 1 else 0)
  pub between : (k : ℕ) → k < 32 → bit_at set (2 * k + 1) ≡ 0

-- the ranks of the symbols at the first 32 inputs are the digits of the key to the base four, the
-- first one highest
abbrev pub IsOrderKey : Cube → ℕ → Type 0
IsOrderKey c key = (k : ℕ) → k < 32
    → key / 4 ^ (31 - k) % 4 ≡ rank (slice_index_or c.symbols k Dash)
