-- What wider limits change for a file, and what stays.
use Rattle.std.specs.Prelude.{◌≡◌, ⊤, ℕ, ◌≤◌, List, Some, None}
use Rattle.cube.specs.Limits.{Limits, format_limits}
use Rattle.pla.specs.declared.ending.Ending.{Ending}
use Rattle.pla.specs.declared.fault.ReadKind.{ReadKind}
use Rattle.pla.specs.declared.fault.ReadKind.TheVariants.{TooManyLines, LineTooLong, BadNumber}
use Rattle.pla.specs.declared.fault.ReadFault.{ReadFault}
use Rattle.pla.specs.Fault.{fault_of}
use Rattle.pla.specs.Description.{described}

-- each limit is at most the other's
pub record IsWithin (narrow wide : Limits) : Type 0 where
  pub inputs : narrow.inputs ≤ wide.inputs
  pub outputs : narrow.outputs ≤ wide.outputs
  pub line_bytes : narrow.line_bytes ≤ wide.line_bytes
  pub lines : narrow.lines ≤ wide.lines

-- the limits of an older profile: fewer inputs and outputs, and shorter lines
abbrev pub older_limits : Limits
older_limits = record { inputs = 256; outputs = 256; line_bytes = 65536; lines = 16777216 }

-- the limits that a fault of this kind can come from are equal
abbrev pub SameLimitsOf : Limits → Limits → ReadKind → Type 0
SameLimitsOf narrow wide TooManyLines = narrow.lines ≡ wide.lines
SameLimitsOf narrow wide LineTooLong = narrow.line_bytes ≡ wide.line_bytes
SameLimitsOf narrow wide BadNumber = (narrow.inputs ≡ wide.inputs) × (narrow.outputs ≡ wide.outputs)
SameLimitsOf narrow wide _ = ⊤

-- a file without a fault under the narrow limits has none under the wide ones, and describes what
-- it did; a fault stays, with its line and its kind, unless it comes from a limit that differs
pub record IsReadAlike (narrow wide : Limits) (ending : Ending) (bytes : List ℕ) : Type 0 where
  pub faultless : fault_of narrow ending bytes ≡ None → fault_of wide ending bytes ≡ None
  pub same_description : fault_of narrow ending bytes ≡ None
      → described wide ending bytes ≡ described narrow ending bytes
  pub same_fault : (fault : ReadFault) → fault_of narrow ending bytes ≡ Some fault
      → SameLimitsOf narrow wide fault.kind → fault_of wide ending bytes ≡ Some fault

-- for all limits within others
abbrev pub WiderLimitsReadAlike : Type 0
WiderLimitsReadAlike = (narrow wide : Limits) → IsWithin narrow wide
    → (ending : Ending) (bytes : List ℕ) → IsReadAlike narrow wide ending bytes

-- the older limits are within those of the format: all faults stay but of kinds LineTooLong and
-- BadNumber
abbrev pub OlderLimitsReadAlike : Type 0
OlderLimitsReadAlike =
    (ending : Ending) (bytes : List ℕ) → IsReadAlike older_limits format_limits ending bytes
