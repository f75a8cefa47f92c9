-- What the tool answers: a function of the words and of what the files give.
use Rattle.std.specs.Prelude.{◌==◌, ◌&&◌, ℕ, Bool, true, false, List, [], ◌∷◌, ◌++◌, Option, Some, None, Result, Ok, Err, codes, drop, if◌then◌else◌}
use Rattle.std.specs.Option.{option_map_or}
use Rattle.std.specs.Str.{bytes_eq}
use Rattle.cube.specs.Limits.{format_limits}
use Rattle.cube.specs.Size.{Size}
use Rattle.pla.specs.declared.ending.Ending.{Ending}
use Rattle.pla.specs.declared.echo.Echo.{Echo}
use Rattle.pla.specs.declared.echo.Echo.TheVariants.{Keep, Eat}
use Rattle.pla.specs.declared.fault.ReadFault.{ReadFault}
use Rattle.pla.specs.Description.{Description, described}
use Rattle.pla.specs.Echoes.{due}
use Rattle.pla.specs.Fault.{fault_of}
use Rattle.espresso.specs.declared.line.LineFault.{LineFault}
use Rattle.espresso.specs.declared.line.LineFault.TheVariants as line_fault
use Rattle.espresso.specs.declared.status.Status.{Status}
use Rattle.espresso.specs.declared.status.Status.TheVariants.{Fault, Memory}
use Rattle.espresso.specs.Answer.{Answer, Answering, answer_of, of_one, of_two}
use Rattle.espresso.specs.Messages.{closed_message, fault_message, memory_message, sizes_message, usage_message}
use Rattle.espresso.specs.Words.{Request, Text, line_of}

-- a file could not be opened, or it delivered these bytes and reading ended so
pub data File : Type 0 where
  Closed : File
  Delivered : List ℕ → Ending → File

-- what a run prints, what it says on standard error, and how it ends
pub record Outcome : Type 0 where
  pub output : List ℕ
  pub message : List ℕ
  pub status : Status

-- what is passed on of comments
abbrev pub echo_by : Bool → Echo
echo_by true = Eat
echo_by false = Keep

-- the name of a file word in messages
abbrev pub source_name : Text → Text
source_name file = if bytes_eq file (codes "-") then codes "(stdin)" else file

-- the name of the first source: no file word means standard input
abbrev pub first_name : List Text → Text
first_name [] = codes "(stdin)"
first_name (file ∷ files) = source_name file

-- the name of the second source, by the words after the first
abbrev pub second_name : List Text → Text
second_name files = first_name (drop 1 files)

-- the descriptions have as many inputs and as many outputs
abbrev pub same_size : Size → Size → Bool
same_size a b = (a.inputs == b.inputs) && (a.outputs == b.outputs)

-- a run that a fault ends
abbrev pub stopped : List ℕ → Outcome
stopped message = record { output = []; message = message; status = Fault }

-- the words were refused
abbrev pub refused : Outcome
refused = stopped usage_message

-- what is said of words that gave no line
abbrev pub refusal_of : LineFault → Outcome
refusal_of line_fault.Usage = refused
refusal_of line_fault.Memory = record { output = []; message = memory_message; status = Memory }

-- what is passed on of a file: nothing of a closed one, and else the echoes that are due
abbrev pub passed_on : Request → File → List ℕ
passed_on line Closed = []
passed_on line (Delivered bytes ending) = due format_limits (echo_by line.eat) (Some ending) bytes

-- the description, unless there is a fault, which is said with the name of its source
abbrev pub unless_faulty : Text → Option ReadFault → Description → Result Description (List ℕ)
unless_faulty name (Some fault) d = Err (fault_message name fault)
unless_faulty name None d = Ok d

-- what a file describes, or what is said of it if it stops the run
abbrev pub reading_of : Text → File → Result Description (List ℕ)
reading_of name Closed = Err (closed_message name)
reading_of name (Delivered bytes ending) =
    unless_faulty name (fault_of format_limits ending bytes) (described format_limits ending bytes)

-- a run that goes on with a description, or is stopped with a message
abbrev pub unless_stopped : (Description → Outcome) → Result Description (List ℕ) → Outcome
unless_stopped next (Ok d) = next d
unless_stopped next (Err message) = stopped message

-- an outcome, after a text that was printed before
abbrev pub behind : List ℕ → Outcome → Outcome
behind text outcome = record outcome { output = text ++ outcome.output }

-- a file is read, which passes its echoes on, and then the run is stopped, or goes on
abbrev pub reading_then : Request → Text → File → (Description → Outcome) → Outcome
reading_then line name file next =
    behind (passed_on line file) (unless_stopped next (reading_of name file))

-- the command's answer
abbrev pub answered : Answer → Outcome
answered answer = record { output = answer.text; message = []; status = answer.status }

-- two files were read: their sizes are compared, and then the command answers
abbrev pub with_both : (Description → Description → Answer) → Description → Description → Outcome
with_both answer d e =
    if same_size d.size e.size then answered (answer d e) else stopped sizes_message

-- the first file was read: the command answers, or the second is read as well
abbrev pub with_first : Request → File → Answering → Description → Outcome
with_first line second (of_one answer) d = answered (answer d)
with_first line second (of_two answer) d =
    reading_then line (second_name line.files) second (with_both answer d)

-- what a line answers on its files: the first is read, and then what follows. A command on one file
-- leaves the second alone
abbrev pub outcome_of : Request → File → File → Outcome
outcome_of line first second = reading_then line (first_name line.files) first
    (with_first line second (answer_of line.command line.out line.choice))

-- what the tool answers on words and the files that they name
abbrev pub tool : List Text → File → File → Outcome
tool words first second =
    option_map_or (λ line. outcome_of line first second) (line_of words) refused
