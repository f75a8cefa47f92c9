-- What a process does that was started with these words: which files it opens, and how it ends.
use Rattle.std.specs.Prelude.{◌≡◌, List, [], ◌∷◌, Option, Some, None, Result, Ok, Err, ◌⊎◌, codes, drop, if◌then◌else◌}
use Rattle.std.specs.Str.{bytes_eq}
use Rattle.espresso.specs.declared.line.LineFault.{LineFault}
use Rattle.espresso.specs.declared.sources.Source.{Source}
use Rattle.espresso.specs.declared.sources.Source.TheVariants.{Open, Closed}
use Rattle.espresso.specs.declared.status.Status.{Status}
use Rattle.espresso.specs.declared.status.Status.TheVariants.{Memory}
use Rattle.espresso.specs.Messages.{memory_message}
use Rattle.espresso.specs.Run.{HasOutcome, Intake, Runs, Trace, Uncalled, WroteOrFailed}
use Rattle.espresso.specs.Tool.{File, Outcome, refusal_of, tool}
use Rattle.espresso.specs.Words.{Request, Text, line_of}

-- ---- the words

-- the words of a process, the program's name first: what stands after it, or why there are none
abbrev pub words_behind : {V : Type 0} → (V → List Text) → Result V LineFault
    → Result (List Text) LineFault
words_behind texts (Ok given) = Ok (drop 1 (texts given))
words_behind texts (Err fault) = Err fault

-- the line that they say
abbrev pub line_said : Result (List Text) LineFault → Option Request
line_said (Ok words) = line_of words
line_said (Err fault) = None

-- what the tool answers on them: words that are no text are refused, and out of memory is said
abbrev pub tool_on : Result (List Text) LineFault → File → File → Outcome
tool_on (Ok words) first second = tool words first second
tool_on (Err fault) first second = refusal_of fault

-- ---- the sources

-- the file that the first of these words names: none for standard input, which is `-` or no word at
-- all
abbrev pub named_file : List Text → Option Text
named_file [] = None
named_file (file ∷ files) = if bytes_eq file (codes "-") then None else Some file

-- a source of standard input, or of the file of that name: what it was opened as, or closed if it
-- could not be, with the opener before and after
abbrev pub IsOpenedAs : {O D : Type 0} → (O → Text → Option D → O → Type 0)
    → (O → D → O → Type 0) → Option Text → O → Source D → O → Type 0
IsOpenedAs file input None before (Open name device) after = input before device after
IsOpenedAs file input None before (Closed name) after = ⊥
IsOpenedAs file input (Some word) before (Open name device) after =
    file before word (Some device) after
IsOpenedAs file input (Some word) before (Closed name) after = file before word None after

-- a source is opened, once, and this is taken of it: `opens` and `takes` say what either is
pub record OpensAndTakes {O D : Type 0} (opens : Option Text → O → Source D → O → Type 0)
    (takes : Source D → Source D → Intake → Type 0) (name : Option Text) (before : O)
    (intake : Intake) (after : O) : Type 0 where
  pub source : Source D
  pub source_after : Source D
  pub opened : opens name before source after
  pub taken : takes source source_after intake

-- ---- how it ends

-- the words say no line: nothing is opened or printed, not even a flush is asked for, and that is
-- said
pub record Refuses {O : Type 0} (words : Result (List Text) LineFault) (before after : O)
    (out err : Trace) (status : Status) : Type 0 where
  pub refused : line_said words ≡ None
  pub unopened : after ≡ before
  pub outcome : (first second : File) → HasOutcome (tool_on words first second) out err status
  pub untouched : out.calls_after ≡ out.calls

-- memory was refused before a source was opened: the output was not called, and that is said
pub record GivesUp {O : Type 0} (before after : O) (out err : Trace) (status : Status) : Type 0 where
  pub unopened : after ≡ before
  pub uncalled : Uncalled out
  pub message : WroteOrFailed err memory_message
  pub same_status : status ≡ Memory

-- a line is run on its files, of which each is opened once, the second after the first, and nothing
-- else is; this is the tool's answer on files
pub record RunsOn {O D : Type 0} (opens : Option Text → O → Source D → O → Type 0)
    (takes : Source D → Source D → Intake → Type 0) (line : Request)
    (answer : File → File → Outcome) (before after : O) (out err : Trace)
    (status : Status) : Type 0 where
  pub between : O
  pub runs : Runs
      (λ intake. OpensAndTakes opens takes (named_file line.files) before intake between)
      (OpensAndTakes opens takes (named_file (drop 1 line.files)))
      line answer between after out err status

-- a line is run, unless memory is refused before
abbrev pub RunsLine : {O D : Type 0} → (Option Text → O → Source D → O → Type 0)
    → (Source D → Source D → Intake → Type 0) → Request → (File → File → Outcome)
    → O → O → Trace → Trace → Status → Type 0
RunsLine opens takes line answer before after out err status =
    GivesUp before after out err status ⊎ RunsOn opens takes line answer before after out err status

-- what a process does with these words, with its opener before and after: it refuses them, or there
-- are words and memory is refused before a run, or they say a line, which is run
abbrev pub Executes : {O D : Type 0} → (Option Text → O → Source D → O → Type 0)
    → (Source D → Source D → Intake → Type 0) → Result (List Text) LineFault → O → O → Trace
    → Trace → Status → Type 0
Executes opens takes words before after out err status =
    Refuses words before after out err status
    ⊎ (((texts : List Text) × (words ≡ Ok texts) × GivesUp before after out err status)
    ⊎ ((line : Request) × (line_said words ≡ Some line)
    × RunsOn opens takes line (tool_on words) before after out err status))
