-- What the steps of reading do: with one line, and with what is kept after the last one.
use Rattle.std.specs.Prelude.{◌≡◌, ℕ, ◌+◌, ◌-◌, ◌*◌, ◌==◌, if◌then◌else◌, false, List, [], ◌∷◌, ◌++◌, length, All, None, Some, Option, Result, Ok, Err, MatchResult, option_map}
use Rattle.std.specs.Io.KnownBytes.{Appends}
use Rattle.cube.specs.Limits.{Limits}
use Rattle.pla.specs.declared.echo.Echo.{Echo}
use Rattle.pla.specs.declared.fault.ReadFault.{ReadFault}
use Rattle.pla.specs.declared.fault.ReadKind.{ReadKind}
use Rattle.pla.specs.declared.fault.ReadKind.TheVariants.{WriteFailed, OutOfMemory}
use Rattle.pla.specs.Device.{AppendsFront}
use Rattle.pla.specs.Fault.{fault_on, at_line}
use Rattle.pla.specs.Echoes.{echo_of}
use Rattle.pla.specs.Scan.{Parsed, Scan, StandsForLines}
use Rattle.pla.specs.Description.{Description}
use Rattle.pla.specs.Reads.{MatchCause}

-- no byte is a line feed
abbrev pub NoFeed : List ℕ → Type 0
NoFeed bytes = All (λ b. (b == 10) ≡ false) bytes

-- a line after these was taken, or a write or memory failed, or the line has this fault
abbrev pub TakesLine : {T : Type 0} → Limits → List (List ℕ) → List ℕ → Parsed
    → Result T ReadFault → Type 0
TakesLine limits before line new result =
    MatchResult result (λ _. StandsForLines limits new (before ++ line ∷ []))
    (λ fault. MatchCause fault.kind ((fault.line ≡ 0) × (fault_on limits before line ≡ None))
    (fault.line ≡ 0)
    (option_map (at_line (length before + 1)) (fault_on limits before line) ≡ Some fault))

-- a line's echo was written, a prefix of it if the write failed, and nothing of a line that wasn't
-- taken
abbrev pub WritesLine : {T : Type 0} → Option (List ℕ) → Option (List ℕ)
    → Result T ReadFault → Echo → List ℕ → Type 0
WritesLine old new result echo line = MatchResult result (λ _. Appends old new (echo_of echo line))
    (λ fault. MatchCause fault.kind (AppendsFront old new (echo_of echo line))
    (Appends old new []) (Appends old new []))

-- the description if no fault is stated, and the fault otherwise, which no write and no memory gave
abbrev pub Describes : Result Description ReadFault → Option ReadFault → Description → Type 0
Describes result stated description =
    MatchResult result (λ pla. (stated ≡ None) × (pla ≡ description))
    (λ fault. MatchCause fault.kind ⊥ ⊥ (stated ≡ Some fault))

-- how far reading has come, so that it ends whatever comes
abbrev pub position_in : Scan → ℕ
position_in state = state.parsed.header.lines * 131073 + length state.rest

-- how much can still come, unless the description has ended
abbrev pub room_in : Scan → ℕ
room_in state = if state.parsed.header.ended then 0 else 16777217 * 131073 + 1 - position_in state

-- writes to a buffer of echoes fail only if out of memory
abbrev pub buffered_kind : ReadKind → ReadKind
buffered_kind WriteFailed = OutOfMemory
buffered_kind kind = kind

-- what a step answers whose echoes were buffered, once the flush of these has answered
abbrev pub result_after_flush : {T U E : Type 0} → Result T ReadFault → Result U E → Result T ReadFault
result_after_flush done (Err e) = Err (record { line = 0; kind = WriteFailed })
result_after_flush (Ok x) (Ok u) = Ok x
result_after_flush (Err fault) (Ok u) = Err (record fault { kind = buffered_kind fault.kind })
