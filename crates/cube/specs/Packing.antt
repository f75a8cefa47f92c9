-- How the words of a cube keep its symbols and outputs. No public clause cites this module.
use Rattle.std.specs.Prelude.{◌≡◌, ℕ, ◌+◌, ◌*◌, ◌/◌, ◌%◌, ◌<◌, Bool, true, false, cond, ◌==◌, List, length, take, drop, map, slice_index, slice_index_or, IsTrue}
use Rattle.std.specs.List.{range_with_len}
use Rattle.std.specs.Int.{bit_at}
use Rattle.cube.specs.declared.symbol.Symbol.{Symbol}
use Rattle.cube.specs.declared.symbol.Symbol.TheVariants.{Dash, Zero, One}
use Rattle.cube.specs.Pattern.{agrees}
use Rattle.cube.specs.Cube.{Cube}

-- how many words hold n inputs
abbrev pub input_words : ℕ → ℕ
input_words n = (n + 31) / 32

-- how many words hold m outputs
abbrev pub output_words : ℕ → ℕ
output_words m = (m + 63) / 64

-- the lower bit of input i
abbrev pub low_bit : List ℕ → ℕ → ℕ
low_bit words i = bit_at (slice_index words (i / 32)) (2 * (i % 32))

-- the higher bit of input i
abbrev pub high_bit : List ℕ → ℕ → ℕ
high_bit words i = bit_at (slice_index words (i / 32)) (2 * (i % 32) + 1)

-- the bit of output j, where the words of the outputs begin at `start`
abbrev pub output_bit : ℕ → List ℕ → ℕ → ℕ
output_bit start words j = bit_at (slice_index words (start + j / 64)) (j % 64)

-- the lower bit says that the symbol agrees with 0, and the higher that it agrees with 1
abbrev pub symbol_of : ℕ → ℕ → Symbol
symbol_of low high = cond (low == high) Dash (cond (low == 1) Zero One)

-- the symbols of n inputs
abbrev pub symbols_of : ℕ → List ℕ → List Symbol
symbols_of n words = map (λ i. symbol_of (low_bit words i) (high_bit words i)) (range_with_len 0 n)

-- the outputs, whose words begin at `start`
abbrev pub outputs_of : ℕ → ℕ → List ℕ → List Bool
outputs_of start m words = map (λ j. output_bit start words j == 1) (range_with_len 0 m)

-- the cube that words stand for
abbrev pub unpacked : ℕ → ℕ → List ℕ → Cube
unpacked n m words =
    record { symbols = symbols_of n words; outputs = outputs_of (input_words n) m words }

-- a test as a bit
abbrev pub bit_of : Bool → ℕ
bit_of b = cond b 1 0

-- word v of the inputs, whose spare inputs are `-`
pub record IsInputWord (symbols : List Symbol) (v word : ℕ) : Type 0 where
  pub low : (k : ℕ) → k < 32 → bit_at word (2 * k)
      ≡ bit_of (agrees (slice_index_or symbols (32 * v + k) Dash) false)
  pub high : (k : ℕ) → k < 32 → bit_at word (2 * k + 1)
      ≡ bit_of (agrees (slice_index_or symbols (32 * v + k) Dash) true)

-- word v of the outputs, whose spare bits are clear
pub record IsOutputWord (outputs : List Bool) (v word : ℕ) : Type 0 where
  pub bits : (k : ℕ) → k < 64 → bit_at word k ≡ bit_of (slice_index_or outputs (64 * v + k) false)

-- the words of the inputs
pub record PacksInputs (symbols : List Symbol) (words : List ℕ) : Type 0 where
  pub words_len : length words ≡ input_words (length symbols)
  pub each : (v : ℕ) → v < input_words (length symbols)
      → IsInputWord symbols v (slice_index words v)

-- the words of the outputs
pub record PacksOutputs (outputs : List Bool) (words : List ℕ) : Type 0 where
  pub words_len : length words ≡ output_words (length outputs)
  pub each : (v : ℕ) → v < output_words (length outputs)
      → IsOutputWord outputs v (slice_index words v)

-- the words of a cube: those of its inputs, and then those of its outputs
pub record Packs (c : Cube) (words : List ℕ) : Type 0 where
  pub inputs : PacksInputs c.symbols (take (input_words (length c.symbols)) words)
  pub outputs : PacksOutputs c.outputs (drop (input_words (length c.symbols)) words)

-- the words are those of what they stand for, which has an output
pub record IsPacked (n m : ℕ) (words : List ℕ) : Type 0 where
  pub own : Packs (unpacked n m words) words
  pub some_output : (j : ℕ) × IsTrue (slice_index_or (outputs_of (input_words n) m words) j false)
