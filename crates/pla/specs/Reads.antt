-- What reading promises: of a piece of a text, of its end, and of a whole input.
use Rattle.std.specs.Prelude.{◌≡◌, ℕ, ◌≤◌, false, List, ◌++◌, length, Option, None, Some, Result, MatchResult, MatchOption, ⊤}
use Rattle.std.specs.Io.KnownBytes.{Appends, Consumes, IsAtEnd}
use Rattle.cube.specs.Limits.{format_limits}
use Rattle.pla.specs.declared.ending.Ending.{Ending}
use Rattle.pla.specs.declared.ending.Ending.TheVariants.{End, Failed}
use Rattle.pla.specs.declared.echo.Echo.{Echo}
use Rattle.pla.specs.declared.fault.ReadKind.{ReadKind}
use Rattle.pla.specs.declared.fault.ReadKind.TheVariants.{WriteFailed, OutOfMemory}
use Rattle.pla.specs.declared.fault.ReadFault.{ReadFault}
use Rattle.pla.specs.declared.calls.ReadCalls.{ReadCalls}
use Rattle.pla.specs.declared.calls.WriteCalls.{WriteCalls}
use Rattle.pla.specs.Device.{AllWritten, AppendsFront, LastFailed, LastUnwritten, NoneFailed}
use Rattle.pla.specs.Lines.{ended_lines}
use Rattle.pla.specs.Keywords.{looked_at}
use Rattle.pla.specs.Fault.{fault_of, open_fault, has_ending}
use Rattle.pla.specs.Echoes.{due}
use Rattle.pla.specs.Description.{Description, described}

-- ---- faults by their cause

-- what holds of a fault if a write failed, if memory was refused, and if the text has it
abbrev pub MatchCause : ReadKind → Type 0 → Type 0 → Type 0 → Type 0
MatchCause WriteFailed write memory text = write
MatchCause OutOfMemory write memory text = memory
MatchCause _ write memory text = text

-- the text has the fault as stated; a failed write and out of memory have line 0
abbrev pub IsTold : Option ReadFault → ReadFault → Type 0
IsTold stated fault = MatchCause fault.kind (fault.line ≡ 0) (fault.line ≡ 0) (stated ≡ Some fault)

-- the text was written, or a prefix of it if a failed write or out of memory cut the call short
abbrev pub WritesDue : {T : Type 0} → Option (List ℕ) → Option (List ℕ)
    → Result T ReadFault → List ℕ → Type 0
WritesDue old new result text = MatchResult result (λ _. Appends old new text)
    (λ fault. MatchCause fault.kind (AppendsFront old new text) (AppendsFront old new text)
    (Appends old new text))

-- one write failed, as the last, if that is reported, and otherwise none did
abbrev pub CountsWrites : {T : Type 0} → WriteCalls → WriteCalls → Result T ReadFault → Type 0
CountsWrites old new result = MatchResult result (λ _. AllWritten old new)
    (λ fault. MatchCause fault.kind (LastUnwritten old new) (AllWritten old new)
    (AllWritten old new))

-- what was due before grew to what is due now by a text, which was written as WritesDue says
abbrev pub WritesGrowth : {T : Type 0} → Option (List ℕ) → Option (List ℕ)
    → Result T ReadFault → List ℕ → List ℕ → Type 0
WritesGrowth old new result before now =
    (text : List ℕ) × (now ≡ before ++ text) × WritesDue old new result text

-- the description if no fault is stated, and the fault otherwise
abbrev pub Answers : Result Description ReadFault → Option ReadFault → Description → Type 0
Answers result stated description =
    MatchResult result (λ pla. (stated ≡ None) × (pla ≡ description)) (IsTold stated)

-- ---- a whole input

-- how reading ended, if it went on to an ending, and any way otherwise
abbrev pub MayEnd : Option Ending → Ending → Type 0
MayEnd None ending = ⊤
MayEnd (Some met) ending = ending ≡ met

-- the ending was met: all was delivered and no read failed, or one failed and none came after it
abbrev pub Meets : Option (List ℕ) → ReadCalls → ReadCalls → Ending → Type 0
Meets left before after End = NoneFailed before after × IsAtEnd left
Meets left before after Failed = LastFailed before after

-- no line that ends the description has come, and no fault
pub record GoesOn (text : List ℕ) : Type 0 where
  pub open_lines : has_ending (looked_at (ended_lines text)) ≡ false
  pub faultless : open_fault format_limits text ≡ None

-- the bytes that are read at once
abbrev pub piece_bytes : ℕ
piece_bytes = 4096

-- a fact of a call that a failed write or out of memory didn't cut short
abbrev pub OnWhole : {T : Type 0} → Result T ReadFault → Type 0 → Type 0
OnWhole result P = MatchResult result (λ _. P) (λ fault. MatchCause fault.kind ⊤ ⊤ P)

-- How an input was read, an output written and what came of it: of each device what it has left or
-- has taken, before and after, and what it reports of the calls.
pub record Reads (echo : Echo) (left left_after : Option (List ℕ))
    (reads reads_after : ReadCalls) (taken taken_after : Option (List ℕ))
    (writes writes_after : WriteCalls) (result : Result Description ReadFault) : Type 0 where
  -- what was delivered
  pub bytes : List ℕ
  pub consumed : Consumes left left_after bytes
  -- how reading ended; nothing if it stopped before it met an ending
  pub ending : Option Ending
  pub met : MatchOption ending (NoneFailed reads reads_after) (Meets left_after reads reads_after)
  -- the description or the fault of the bytes
  pub answer : (e : Ending) → MayEnd ending e
      → Answers result (fault_of format_limits e bytes) (described format_limits e bytes)
  -- the echoes that are due, which the ending doesn't change if it wasn't met
  pub written : WritesDue taken taken_after result (due format_limits echo ending bytes)
  pub echoes : (e : Ending) → MayEnd ending e
      → OnWhole result (due format_limits echo (Some e) bytes ≡ due format_limits echo ending bytes)
  pub counted : CountsWrites writes writes_after result
  -- no more than a piece was delivered beyond a line that ends the description or a fault
  pub front : List ℕ
  pub piece : List ℕ
  pub bounded : (bytes ≡ front ++ piece) × (length piece ≤ piece_bytes) × GoesOn front
