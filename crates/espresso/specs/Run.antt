-- What a run takes from its sources and how it ends, in one of three ways, by what its devices report.
use Rattle.std.specs.Prelude.{◌≡◌, ◌≤◌, ℕ, true, List, [], ◌++◌, length, Option, Some, None, ⊤, ◌⊎◌, string_bytes, is_some, MatchOption, IsTrue}
use Rattle.std.specs.Io.KnownBytes.{Appends, Consumes}
use Rattle.cube.specs.Limits.{format_limits}
use Rattle.pla.specs.declared.calls.ReadCalls.{ReadCalls}
use Rattle.pla.specs.declared.calls.WriteCalls.{WriteCalls}
use Rattle.pla.specs.declared.ending.Ending.{Ending}
use Rattle.pla.specs.Device.{AllWritten, AppendsFront, LastUnwritten, NoneFailed, one_more}
use Rattle.pla.specs.Echoes.{due}
use Rattle.pla.specs.Fault.{fault_of}
use Rattle.pla.specs.Reads.{GoesOn, MayEnd, Meets, piece_bytes}
use Rattle.espresso.specs.declared.sources.Source.{Source}
use Rattle.espresso.specs.declared.sources.Source.TheVariants.{Open, Closed}
use Rattle.espresso.specs.declared.status.Status.{Status}
use Rattle.espresso.specs.declared.status.Status.TheVariants.{Fault, Memory}
use Rattle.espresso.specs.Messages.{is_answer, memory_message, write_failed_message}
use Rattle.espresso.specs.Tool.{File, Outcome, echo_by}
use Rattle.espresso.specs.Tool as tool
use Rattle.espresso.specs.Words.{Request, Text, takes_two}

-- ---- the files of the sources

-- what a run took from a source: it was closed, or it delivered these bytes, and reading met this
-- ending, or came to its end before it met one
pub data Intake : Type 0 where
  NotOpened : Intake
  Read : List ℕ → Option Ending → Intake

-- what a run took from its sources, if it asked for the second
pub record Intakes : Type 0 where
  pub first : Intake
  pub second : Option Intake

-- the file of what was taken: with either ending, if reading met none
abbrev pub IsFileOf : Intake → File → Type 0
IsFileOf NotOpened tool.Closed = ⊤
IsFileOf NotOpened (tool.Delivered delivered ending) = ⊥
IsFileOf (Read bytes met) tool.Closed = ⊥
IsFileOf (Read bytes met) (tool.Delivered delivered ending) =
    (delivered ≡ bytes) × MayEnd met ending

-- the second file of what was taken: any, if the source was not asked for
abbrev pub IsSecondOf : Option Intake → File → Type 0
IsSecondOf None file = ⊤
IsSecondOf (Some intake) file = IsFileOf intake file

-- what holds of each two files of what was taken
abbrev pub OnFiles : Intakes → (File → File → Type 0) → Type 0
OnFiles taken P = (first second : File)
    → IsFileOf taken.first first → IsSecondOf taken.second second → P first second

-- the name that a source has in messages
abbrev pub name_of : {R : Type 0} → Source R → Text
name_of (Open name input) = string_bytes name
name_of (Closed name) = string_bytes name

-- what an input reports of the bytes that it delivered and of the ending that was met
pub record Delivers (left left_after : Option (List ℕ)) (calls calls_after : ReadCalls)
    (bytes : List ℕ) (met : Option Ending) : Type 0 where
  pub consumed : Consumes left left_after bytes
  pub ended : MatchOption met (NoneFailed calls calls_after) (Meets left_after calls calls_after)
  -- no more than a piece was delivered beyond a line that ends the description or a fault
  pub front : List ℕ
  pub piece : List ℕ
  pub bounded : (bytes ≡ front ++ piece) × (length piece ≤ piece_bytes) × GoesOn front

-- what was taken of a source, which keeps its case and its name
abbrev pub Takes : {R : Type 0} → (R → Option (List ℕ)) → (R → ReadCalls) → Source R
    → Source R → Intake → Type 0
Takes left calls (Closed name) (Closed name_after) NotOpened = name_after ≡ name
Takes left calls (Open name input) (Open name_after input_after) (Read bytes met) =
    (name_after ≡ name)
    × Delivers (left input) (left input_after) (calls input) (calls input_after) bytes met
Takes left calls _ _ _ = ⊥

-- a source that was read whole and has no fault
abbrev pub IsFaultless : Intake → Type 0
IsFaultless NotOpened = ⊥
IsFaultless (Read bytes met) =
    (ending : Ending) → MayEnd met ending → fault_of format_limits ending bytes ≡ None

-- what was taken of a first source that stops the run: it was closed, or has a fault
abbrev pub Stops : Intake → Type 0
Stops NotOpened = ⊤
Stops (Read bytes met) =
    (ending : Ending) → MayEnd met ending → is_some (fault_of format_limits ending bytes) ≡ true

-- what was taken of a source that there is
abbrev pub TakesSome : {R : Type 0} → (R → Option (List ℕ)) → (R → ReadCalls)
    → Option (Source R) → Intake → Option (Source R) → Type 0
TakesSome left calls (Some source) intake (Some after) = Takes left calls source after intake
TakesSome left calls _ intake _ = ⊥

-- what was taken of the second source, with what it is taken from before and after: it was left as it
-- was, since the command takes none or the run was stopped before; or the command takes two, the first
-- was read whole and has no fault, and then it was asked for
abbrev pub AsksSecond : {S : Type 0} → (S → Intake → S → Type 0) → Request → Intake → Type 0
    → S → Option Intake → S → Type 0
AsksSecond asks line first Stopped before None after =
    (after ≡ before) × (takes_two line.command ≡ true → Stopped)
AsksSecond asks line first Stopped before (Some intake) after =
    (takes_two line.command ≡ true) × IsFaultless first × asks before intake after

-- ---- what the outputs took

-- the trace of a run in an output: what it reports before and after
pub record Trace : Type 0 where
  pub taken : Option (List ℕ)
  pub taken_after : Option (List ℕ)
  pub calls : WriteCalls
  pub calls_after : WriteCalls

-- the trace of these reports
abbrev pub trace : Option (List ℕ) → Option (List ℕ) → WriteCalls → WriteCalls → Trace
trace taken taken_after calls calls_after = record {
  taken = taken;
  taken_after = taken_after;
  calls = calls;
  calls_after = calls_after;
}

-- the output was not called
abbrev pub Uncalled : Trace → Type 0
Uncalled out = (out.taken_after ≡ out.taken) × (out.calls_after ≡ out.calls)

-- the run wrote this to the output
abbrev pub Wrote : Trace → List ℕ → Type 0
Wrote out text = Appends out.taken out.taken_after text

-- the run wrote a prefix of this
abbrev pub WrotePrefix : Trace → List ℕ → Type 0
WrotePrefix out text = AppendsFront out.taken out.taken_after text

-- no write failed, and no flush was asked for
abbrev pub Unbroken : Trace → Type 0
Unbroken out = AllWritten out.calls out.calls_after

-- one write failed, and none came after it; no flush was asked for
abbrev pub WriteFailedLast : Trace → Type 0
WriteFailedLast out = LastUnwritten out.calls out.calls_after

-- the run wrote the message to standard error, or a prefix of it if a write failed, and nothing
-- else
abbrev pub WroteOrFailed : Trace → List ℕ → Type 0
WroteOrFailed err message =
    (Wrote err message × Unbroken err) ⊎ (WrotePrefix err message × WriteFailedLast err)

-- ---- the calls of a whole run

-- one flush was asked for, as the last call
abbrev pub FlushedLast : Trace → Type 0
FlushedLast out = (out.calls_after.counts.flushes ≡ one_more out.calls.counts.flushes)
    × (out.calls_after.flushed ≡ true)

-- it went well
abbrev pub FlushWent : Trace → Type 0
FlushWent out = out.calls_after.counts.failed_flushes ≡ out.calls.counts.failed_flushes

-- it failed
abbrev pub FlushBroke : Trace → Type 0
FlushBroke out = out.calls_after.counts.failed_flushes ≡ one_more out.calls.counts.failed_flushes

-- no write failed
abbrev pub WritesWent : Trace → Type 0
WritesWent out = out.calls_after.counts.failures ≡ out.calls.counts.failures

-- one write failed, and none came after it
abbrev pub LastWriteBroke : Trace → Type 0
LastWriteBroke out = (out.calls_after.counts.failures ≡ one_more out.calls.counts.failures)
    × (out.calls_after.broken ≡ true)

-- the echoes that are due of what was taken, whose ending may be open
abbrev pub echoes_due : Request → Intake → List ℕ
echoes_due line NotOpened = []
echoes_due line (Read bytes met) = due format_limits (echo_by line.eat) met bytes

-- those of the second source
abbrev pub second_due : Request → Option Intake → List ℕ
second_due line None = []
second_due line (Some intake) = echoes_due line intake

-- ---- the three ways, by what the tool answers on the files

-- the output took what the tool prints
abbrev pub WroteWhole : (File → File → Outcome) → Intakes → Trace → Type 0
WroteWhole answer taken out = OnFiles taken (λ first second. Wrote out (answer first second).output)

-- the output took a prefix of it, or of the echoes of files that were still being read
abbrev pub WrotePart : (File → File → Outcome) → List ℕ → Intakes → Trace → Type 0
WrotePart answer echoes taken out = WrotePrefix out echoes
    ⊎ OnFiles taken (λ first second. WrotePrefix out (answer first second).output)

-- output, message and status are these
pub record HasOutcome (outcome : Outcome) (out err : Trace) (status : Status) : Type 0 where
  pub output : Wrote out outcome.output
  pub message : WroteOrFailed err outcome.message
  pub same_status : status ≡ outcome.status

-- output, message and status are the tool's; no write failed, and after an answer no flush
pub record Finishes (answer : File → File → Outcome) (taken : Intakes)
    (out err : Trace) (status : Status) : Type 0 where
  pub outcome : OnFiles taken (λ first second. HasOutcome (answer first second) out err status)
  pub written : WritesWent out
  pub flushed : FlushedLast out
  pub unbroken : IsTrue (is_answer status) → FlushWent out

-- memory was refused on the way
pub record RanOut (answer : File → File → Outcome) (echoes : List ℕ)
    (taken : Intakes) (out err : Trace) (status : Status) : Type 0 where
  pub beginning : WrotePart answer echoes taken out
  pub written : WritesWent out
  pub flushed : FlushedLast out
  pub message : WroteOrFailed err memory_message
  pub same_status : status ≡ Memory

-- a write failed on the way, or all was written and the flush failed
pub record CouldNotWrite (answer : File → File → Outcome) (echoes : List ℕ)
    (taken : Intakes) (out err : Trace) (status : Status) : Type 0 where
  pub beginning : WrotePart answer echoes taken out
  pub failed : LastWriteBroke out ⊎ (WroteWhole answer taken out × WritesWent out × FlushBroke out)
  pub flushed : FlushedLast out
  pub message : WroteOrFailed err write_failed_message
  pub same_status : status ≡ Fault

-- memory was refused on the way, or the output failed
abbrev pub IsCutShort : (File → File → Outcome) → List ℕ → Intakes → Trace
    → Trace → Status → Type 0
IsCutShort answer echoes taken out err status =
    RanOut answer echoes taken out err status ⊎ CouldNotWrite answer echoes taken out err status

-- a run that took this from its sources, and on whose files the tool answers this
abbrev pub EndsAs : (File → File → Outcome) → List ℕ → Intakes → Trace
    → Trace → Status → Type 0
EndsAs answer echoes taken out err status =
    Finishes answer taken out err status ⊎ IsCutShort answer echoes taken out err status

-- the echoes that are due of all that was taken
abbrev pub all_due : Request → Intakes → List ℕ
all_due line taken = echoes_due line taken.first ++ second_due line taken.second

-- a run with this line, on whose files the tool answers this: what it took from its first source,
-- what from its second, by what that is taken from before and after, and how it ends
pub record Runs {S : Type 0} (takes : Intake → Type 0) (asks : S → Intake → S → Type 0)
    (line : Request) (answer : File → File → Outcome) (before after : S) (out err : Trace)
    (status : Status) : Type 0 where
  pub taken : Intakes
  pub first : takes taken.first
  pub second : AsksSecond asks line taken.first
      (Stops taken.first ⊎ IsCutShort answer (all_due line taken) taken out err status)
      before taken.second after
  pub ends : EndsAs answer (all_due line taken) taken out err status
