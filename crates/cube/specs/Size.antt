-- The numbers of inputs and outputs of a shape.
use Rattle.std.specs.Prelude.{ℕ, ◌+◌, ◌/◌}

-- how many inputs and how many outputs
pub record Size : Type 0 where
  pub inputs : ℕ
  pub outputs : ℕ

-- how many words hold a cube of this size: two bits an input, and then one bit an output
abbrev pub words_of_size : Size → ℕ
words_of_size size = (size.inputs + 31) / 32 + (size.outputs + 63) / 64
