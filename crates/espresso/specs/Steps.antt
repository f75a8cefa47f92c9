-- The steps of a run: what stopped it, and what the devices report by then.
use Rattle.std.specs.Prelude.{◌≡◌, ◌⊎◌, ℕ, false, true, List, [], ◌++◌, Option, Some, None, Result, Ok, Err, ⊤}
use Rattle.pla.specs.declared.calls.WriteCalls.{WriteCalls}
use Rattle.pla.specs.declared.fault.ReadFault.{ReadFault}
use Rattle.pla.specs.declared.fault.ReadKind.{ReadKind}
use Rattle.pla.specs.declared.fault.ReadKind.TheVariants.{WriteFailed, OutOfMemory}
use Rattle.pla.specs.Description.{Description}
use Rattle.espresso.specs.declared.failure.Operand.{Operand}
use Rattle.espresso.specs.declared.failure.Operand.TheVariants.{First, Second}
use Rattle.espresso.specs.declared.failure.Failure.{Failure}
use Rattle.espresso.specs.declared.failure.Failure.TheVariants as failure
use Rattle.espresso.specs.declared.status.Status.{Status}
use Rattle.espresso.specs.declared.status.Status.TheVariants.{Fault, Memory}
use Rattle.espresso.specs.Answer.{Answer, Answering, answer_of, of_one, of_two}
use Rattle.espresso.specs.Messages.{closed_message, fault_message, memory_message, sizes_message, write_failed_message}
use Rattle.espresso.specs.Run.{AsksSecond, WriteFailedLast, FlushBroke, FlushedLast, FlushWent, Intake, Intakes, IsFaultless, IsFileOf, IsSecondOf, LastWriteBroke, Stops, Trace, Unbroken, Uncalled, WritesWent, Wrote, WroteOrFailed, WrotePrefix, echoes_due, second_due, trace}
use Rattle.espresso.specs.Tool.{File, Outcome, first_name, outcome_of, passed_on, reading_of, same_size, second_name, with_first}
use Rattle.espresso.specs.Words.{Request, Text}

-- ---- what stops a run

-- what stops a run, by the fault of its reading
abbrev pub failure_by : Operand → ReadFault → ReadKind → Failure
failure_by operand fault WriteFailed = failure.WriteFailed
failure_by operand fault OutOfMemory = failure.OutOfMemory
failure_by operand fault _ = failure.Faulty operand fault

-- the status that it gives
abbrev pub status_of : Failure → Status
status_of failure.OutOfMemory = Memory
status_of _ = Fault

-- the names of the sources
pub record Names : Type 0 where
  pub first : Text
  pub second : Text

-- the names of the two sources in messages, opened or not
abbrev pub names_said : Request → Names
names_said line = record { first = first_name line.files; second = second_name line.files }

-- the name of a source
abbrev pub name_at : Operand → Names → Text
name_at First names = names.first
name_at Second names = names.second

-- what is said on standard error
abbrev pub message_of : Names → Failure → List ℕ
message_of names (failure.NotOpened operand) = closed_message (name_at operand names)
message_of names (failure.Faulty operand fault) = fault_message (name_at operand names) fault
message_of names failure.SizesDiffer = sizes_message
message_of names failure.WriteFailed = write_failed_message
message_of names failure.OutOfMemory = memory_message

-- ---- the reading of a source

-- its echoes went out, and each file of what was taken comes to this
pub record PassesOn (line : Request) (name : Text) (taken : Intake) (out : Trace)
    (reading : Result Description (List ℕ)) : Type 0 where
  pub wrote : Wrote out (echoes_due line taken)
  pub passed : (file : File) → IsFileOf taken file → passed_on line file ≡ echoes_due line taken
  pub comes_to : (file : File) → IsFileOf taken file → reading_of name file ≡ reading

-- what came of it
abbrev pub IsReadAs : Request → Operand → Text → Intake → Trace → Result Description Failure
    → Type 0
IsReadAs line operand name taken out (Ok pla) =
    PassesOn line name taken out (Ok pla) × Unbroken out × IsFaultless taken
IsReadAs line operand name taken out (Err (failure.NotOpened at)) =
    PassesOn line name taken out (Err (closed_message name)) × (at ≡ operand) × Unbroken out
IsReadAs line operand name taken out (Err (failure.Faulty at fault)) =
    PassesOn line name taken out (Err (fault_message name fault)) × (at ≡ operand) × Unbroken out
IsReadAs line operand name taken out (Err failure.SizesDiffer) = ⊥
IsReadAs line operand name taken out (Err failure.WriteFailed) =
    WrotePrefix out (echoes_due line taken) × WriteFailedLast out
IsReadAs line operand name taken out (Err failure.OutOfMemory) =
    WrotePrefix out (echoes_due line taken) × Unbroken out

-- what came of reading the second source: memory was refused for it, or it was read
abbrev pub IsSecondReadAs : Request → Option Intake → Trace → Result Description Failure → Type 0
IsSecondReadAs line (Some intake) out result =
    IsReadAs line Second (second_name line.files) intake out result
IsSecondReadAs line None out (Err failure.OutOfMemory) = Uncalled out
IsSecondReadAs line None out _ = ⊥

-- what was taken of it behind a first without a fault, with what it is taken from before and after
abbrev pub ReadsSecond : {S : Type 0} → (S → Intake → S → Type 0) → Request → S → Option Intake
    → S → Trace → Result Description Failure → Type 0
ReadsSecond asks line before taken after out result =
    ((first : Intake) → IsFaultless first → AsksSecond asks line first ⊤ before taken after)
    × IsSecondReadAs line taken out result

-- likewise, and its description has to be of the size of this one
abbrev pub ReadsOther : {S : Type 0} → (S → Intake → S → Type 0) → Request → Description → S
    → Option Intake → S → Trace → Result Description Failure → Type 0
ReadsOther asks line d before taken after out (Ok e) =
    ReadsSecond asks line before taken after out (Ok e) × (e.size ≡ d.size)
ReadsOther asks line d before taken after out (Err failure.SizesDiffer) = (e : Description)
    × ReadsSecond asks line before taken after out (Ok e) × (same_size d.size e.size ≡ false)
ReadsOther asks line d before taken after out (Err stopped) =
    ReadsSecond asks line before taken after out (Err stopped)

-- what stopped a run before its second source: the first, a write that failed, or out of memory
abbrev pub StoppedBefore : Intake → Result Status Failure → Type 0
StoppedBefore first (Ok status) = ⊥
StoppedBefore first (Err (failure.NotOpened operand)) = Stops first
StoppedBefore first (Err (failure.Faulty operand fault)) = Stops first
StoppedBefore first (Err failure.SizesDiffer) = ⊥
StoppedBefore first (Err failure.WriteFailed) = ⊤
StoppedBefore first (Err failure.OutOfMemory) = ⊤

-- ---- where a run stands

-- the output took what this outcome prints, which has this message and status
pub record Prints (outcome : Outcome) (out : Trace) (message : List ℕ)
    (status : Status) : Type 0 where
  pub output : Wrote out outcome.output
  pub same_message : outcome.message ≡ message
  pub same_status : outcome.status ≡ status

-- the output took a prefix of these echoes, or of what each outcome prints
abbrev pub Began : (X : Type 0) → (X → Outcome) → List ℕ → Trace → Type 0
Began X outcome echoes out = WrotePrefix out echoes ⊎ ((x : X) → WrotePrefix out (outcome x).output)

-- where a run stands, stopped or not, whose outcome is one of these
abbrev pub StandsAt : (X : Type 0) → (X → Outcome) → List ℕ → Names → Trace
    → Result Status Failure → Type 0
StandsAt X outcome echoes names out (Ok status) =
    ((x : X) → Prints (outcome x) out [] status) × Unbroken out
StandsAt X outcome echoes names out (Err failure.WriteFailed) =
    Began X outcome echoes out × WriteFailedLast out
StandsAt X outcome echoes names out (Err failure.OutOfMemory) =
    Began X outcome echoes out × Unbroken out
StandsAt X outcome echoes names out (Err stopped) =
    ((x : X) → Prints (outcome x) out (message_of names stopped) Fault) × Unbroken out

-- two files of what was taken
pub record FilesOf (taken : Intakes) : Type 0 where
  pub first : File
  pub second : File
  pub is_first : IsFileOf taken.first first
  pub is_second : IsSecondOf taken.second second

-- where a run with this line stands
abbrev pub Stands : Request → Intakes → Names → Trace → Result Status Failure → Type 0
Stands line taken = StandsAt (FilesOf taken) (λ files. outcome_of line files.first files.second)
    (echoes_due line taken.first ++ second_due line taken.second)

-- a second file of what was taken
pub record SecondOf (taken : Option Intake) : Type 0 where
  pub file : File
  pub is_file : IsSecondOf taken file

-- where a run with this line stands, behind a first file with this description
abbrev pub StandsBehind : Request → Description → Option Intake → Trace → Result Status Failure
    → Type 0
StandsBehind line d taken = StandsAt (SecondOf taken)
    (λ second. with_first line second.file (answer_of line.command line.out line.choice) d)
    (second_due line taken) (names_said line)

-- what was taken of the second source behind it, and where the run stands
abbrev pub Follows : {S : Type 0} → (S → Intake → S → Type 0) → Request → Description → S
    → Option Intake → S → Trace → Result Status Failure → Type 0
Follows asks line d before taken after out result =
    ((first : Intake) → IsFaultless first
    → AsksSecond asks line first (StoppedBefore first result) before taken after)
    × StandsBehind line d taken out result

-- what came of printing an answer
abbrev pub PutsOut : Answer → Trace → Result Status Failure → Type 0
PutsOut answer out (Ok status) =
    Wrote out answer.text × Unbroken out × (answer.status ≡ status)
PutsOut answer out (Err failure.WriteFailed) = WrotePrefix out answer.text × WriteFailedLast out
PutsOut answer out (Err failure.OutOfMemory) = WrotePrefix out answer.text × Unbroken out
PutsOut answer out (Err _) = ⊥

-- what came of printing what a command on one file answers
abbrev pub PutsOutOne : Answering → Description → Trace → Result Status Failure → Type 0
PutsOutOne (of_one answer) d out result = PutsOut (answer d) out result
PutsOutOne (of_two answer) d out result = ⊥

-- what came of printing what a command on two files answers
abbrev pub PutsOutTwo : Answering → Description → Description → Trace → Result Status Failure
    → Type 0
PutsOutTwo (of_one answer) d e out result = ⊥
PutsOutTwo (of_two answer) d e out result = PutsOut (answer d e) out result

-- what came of what was left of a run, whose outcome is this
abbrev pub Answers : Outcome → Trace → Result Status Failure → Type 0
Answers outcome out (Ok status) = Prints outcome out [] status × Unbroken out
Answers outcome out (Err failure.SizesDiffer) =
    Prints outcome out sizes_message Fault × Unbroken out
Answers outcome out (Err failure.WriteFailed) = WrotePrefix out outcome.output × WriteFailedLast out
Answers outcome out (Err failure.OutOfMemory) = WrotePrefix out outcome.output × Unbroken out
Answers outcome out (Err _) = ⊥

-- where a run stands whose output was flushed, stopped or not, whose outcome is one of these
abbrev pub ClosesAt : (X : Type 0) → (X → Outcome) → List ℕ → Names → Trace
    → Result Status Failure → Type 0
ClosesAt X outcome echoes names out (Ok status) =
    ((x : X) → Prints (outcome x) out [] status) × WritesWent out × FlushWent out
ClosesAt X outcome echoes names out (Err failure.WriteFailed) = Began X outcome echoes out
    × (LastWriteBroke out
    ⊎ (((x : X) → Wrote out (outcome x).output) × WritesWent out × FlushBroke out))
ClosesAt X outcome echoes names out (Err failure.OutOfMemory) =
    Began X outcome echoes out × WritesWent out
ClosesAt X outcome echoes names out (Err stopped) =
    ((x : X) → Prints (outcome x) out (message_of names stopped) Fault) × WritesWent out

-- where a run with this line stands, after its flush
abbrev pub Closes : Request → Intakes → Names → Trace → Result Status Failure → Type 0
Closes line taken names out result =
    ClosesAt (FilesOf taken) (λ files. outcome_of line files.first files.second)
    (echoes_due line taken.first ++ second_due line taken.second) names out result × FlushedLast out

-- a run is flushed where it stands, and stops if that fails and nothing stopped it before
abbrev pub Passes : Option (List ℕ) → Option (List ℕ) → WriteCalls → WriteCalls
    → Result Status Failure → Result Status Failure → Type 0
Passes taken taken_after calls calls_after done result =
    (line : Request) (intakes : Intakes) (names : Names) (old : Option (List ℕ))
    (before : WriteCalls)
    → Stands line intakes names (trace old taken before calls) done
    → Closes line intakes names (trace old taken_after before calls_after) result

-- the status and the message at the end
abbrev pub Reports : Names → Trace → Result Status Failure → Status → Type 0
Reports names err (Ok done) status = (status ≡ done) × WroteOrFailed err []
Reports names err (Err failure) status =
    (status ≡ status_of failure) × WroteOrFailed err (message_of names failure)
