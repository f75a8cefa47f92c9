-- The limits of the format.
use Rattle.std.specs.Prelude.{ℕ, ◌≤◌}
use Rattle.cube.specs.Size.{Size}

-- the most inputs and outputs, bytes in a line without its line feed, and lines in a file
pub record Limits : Type 0 where
  pub inputs : ℕ
  pub outputs : ℕ
  pub line_bytes : ℕ
  pub lines : ℕ

-- those that the code keeps
abbrev pub format_limits : Limits
format_limits = record { inputs = 1024; outputs = 1024; line_bytes = 131072; lines = 16777216 }

-- no more inputs and outputs than the limits allow, and at least one output
abbrev pub IsWithinLimits : Limits → Size → Type 0
IsWithinLimits limits size = (size.inputs ≤ limits.inputs) × (1 ≤ size.outputs)
    × (size.outputs ≤ limits.outputs)
