-- What a run takes from its sources, which files a process opens, and what it says if it has no
-- line: on small runs.
use Rattle.std.specs.Prelude.{◌≡◌, ℕ, true, false, List, [], ◌∷◌, Option, None, Some, Ok, Err, ⊤, String, codes, refl}
use Rattle.std.specs.Global.{Global}
use Rattle.covering.specs.declared.choice.Choice.TheVariants.{First}
use Rattle.pla.specs.declared.calls.ReadCalls.{ReadCalls}
use Rattle.pla.specs.declared.calls.WriteCalls.{WriteCalls}
use Rattle.pla.specs.declared.ending.Ending.TheVariants.{End, Failed}
use Rattle.pla.specs.declared.out_type.OutType.TheVariants.{F}
use Rattle.pla.specs.Device.{after_flush, after_write}
use Rattle.pla.specs.Fault.{fault_in, is_past_limit, is_too_long, is_refused, is_inside_row, is_repeated, is_bad_number, is_name_too_early, is_wrong_count, is_type_too_late, is_bad_type, is_row_too_early, is_bad_symbol}
use Rattle.espresso.specs.declared.command.Command.{Command}
use Rattle.espresso.specs.declared.command.Command.TheVariants.{Echo, Verify}
use Rattle.espresso.specs.declared.line.LineFault.TheVariants as line_fault
use Rattle.espresso.specs.declared.sources.Source.TheVariants.{Open, Closed}
use Rattle.espresso.specs.declared.status.Status.TheVariants.{Fault, Memory}
use Rattle.espresso.specs.Program.{GivesUp, IsOpenedAs, OpensAndTakes, line_said, named_file, tool_on, words_behind}
use Rattle.espresso.specs.Run.{AsksSecond, Read, CouldNotWrite, FlushBroke, FlushedLast, FlushWent, Intake, Intakes, IsFaultless, IsFileOf, IsSecondOf, LastWriteBroke, NotOpened, RanOut, Stops, Takes, TakesSome, Trace, WritesWent, all_due, trace}
use Rattle.espresso.specs.Steps.{names_said}
use Rattle.espresso.specs.Tool.{File, Outcome}
use Rattle.espresso.specs.Tool as tool
use Rattle.espresso.specs.Words.{Request, Text, request_by}

-- a line of a command on the files a and b
abbrev on_two : Command → Request
on_two command = request_by command F false First (codes "a" ∷ codes "b" ∷ [])

-- a text without a fault goes on, and one with a fault stops the run
abbrev faultless : Intake
faultless = Read (codes ".i 1\n.o 1\n") (Some End)

abbrev faulty : Intake
faulty = Read (codes "1\n") (Some End)

-- ---- the files of what was taken

pub record Files : Type 0 where
  pub closed : IsFileOf NotOpened tool.Closed
  pub never_delivered : IsFileOf NotOpened (tool.Delivered [] End) → ⊥
  pub never_closed : IsFileOf (Read [] None) tool.Closed → ⊥
  pub either_ending : IsFileOf (Read (codes "a") None) (tool.Delivered (codes "a") Failed)
  pub other_ending : IsFileOf (Read [] (Some End)) (tool.Delivered [] Failed) → ⊥
  pub any : IsSecondOf None (tool.Delivered [] End)
  pub asked : IsSecondOf (Some NotOpened) tool.Closed
  pub asked_closed : IsSecondOf (Some NotOpened) (tool.Delivered [] End) → ⊥

files : Files
files = record {
  closed = tt;
  never_delivered = λ h. h;
  never_closed = λ h. h;
  either_ending = (refl, tt);
  other_ending = λ h. let same : Failed ≡ End = h.1 in cc;
  any = tt;
  asked = tt;
  asked_closed = λ h. h;
}

-- ---- the calls of a whole run

-- no call so far
abbrev fresh : WriteCalls
fresh = record {
  counts = record { failures = 0; flushes = 0; failed_flushes = 0 };
  broken = false;
  flushed = false;
}

-- what an output reports of these calls
abbrev called : WriteCalls → Trace
called calls = trace None None fresh calls

pub record Calls : Type 0 where
  pub flushed_last : FlushedLast (called (after_flush false (after_write false fresh)))
  pub flushed_twice : FlushedLast (called (after_flush false (after_flush false fresh))) → ⊥
  pub never_flushed : FlushedLast (called (after_write false fresh)) → ⊥
  pub written_behind : FlushedLast (called (after_write false (after_flush false fresh))) → ⊥
  pub flush_went_well : FlushWent (called (after_flush false fresh))
  pub flush_that_broke : FlushBroke (called (after_flush true fresh))
  pub write_that_broke : LastWriteBroke (called (after_flush false (after_write true fresh)))
  pub tried_again : LastWriteBroke (called (after_write false (after_write true fresh))) → ⊥
  pub two_broke : LastWriteBroke (called (after_write true (after_write true fresh))) → ⊥
  pub writes_went_well : WritesWent (called (after_flush true (after_write false fresh)))

calls : Calls
calls = record {
  flushed_last = (refl, refl);
  flushed_twice = λ h. let twice : 2 ≡ 1 = h.0 in cc;
  never_flushed = λ h. let never : 0 ≡ 1 = h.0 in cc;
  written_behind = λ h. let behind : false ≡ true = h.1 in cc;
  flush_went_well = refl;
  flush_that_broke = refl;
  write_that_broke = (refl, refl);
  tried_again = λ h. let again : false ≡ true = h.1 in cc;
  two_broke = λ h. let twice : 2 ≡ 1 = h.0 in cc;
  writes_went_well = refl;
}

-- ---- the words, and the files that they name

pub record Named : Type 0 where
  pub no_word : named_file [] ≡ None
  pub a_hyphen : named_file (codes "-" ∷ []) ≡ None
  pub a_name : named_file (codes "a" ∷ codes "-" ∷ []) ≡ Some (codes "a")
  pub behind_the_program : words_behind (λ texts. texts)
      (Ok (codes "espresso" ∷ codes "a" ∷ codes "b" ∷ [])) ≡ Ok (codes "a" ∷ codes "b" ∷ [])
  pub no_text : line_said (Err line_fault.Usage) ≡ None
  pub no_line : line_said (Ok (codes "a" ∷ [])) ≡ None
  pub a_line : line_said (Ok (codes "-Dverify" ∷ codes "a" ∷ codes "b" ∷ [])) ≡ Some (on_two Verify)
  pub refused : tool_on (Err line_fault.Usage) tool.Closed tool.Closed
      ≡ record {
        output = [];
        message = codes "usage: espresso -Dcommand [-o type] [-e eat] [file [file]]\n";
        status = Fault;
      }
  pub no_memory : tool_on (Err line_fault.Memory) tool.Closed tool.Closed
      ≡ record { output = []; message = codes "espresso: out of memory\n"; status = Memory }
  pub first_name : (names_said (on_two Verify)).first ≡ codes "a"
  pub second_name : (names_said (on_two Verify)).second ≡ codes "b"

named : Named
named = record {
  no_word = refl;
  a_hyphen = refl;
  a_name = refl;
  behind_the_program = refl;
  no_text = refl;
  no_line = refl;
  a_line = refl;
  refused = refl;
  no_memory = refl;
  first_name = refl;
  second_name = refl;
}

-- the echoes of the first file come before those of the second
echoes_in_order : all_due (on_two Verify)
    (record { first = Read (codes "#a\n") (Some End); second = Some (Read (codes "#b\n") None) })
    ≡ codes "#a\n#b\n"
unfolding fault_in is_past_limit is_too_long is_refused is_inside_row is_repeated
    is_bad_number is_name_too_early is_wrong_count is_type_too_late is_bad_type
    is_row_too_early is_bad_symbol
echoes_in_order = refl

-- ---- the sources, which are numbers here, and an opener that keeps what was opened, the last first

-- a file of this name is opened as 1, and standard input is 0
abbrev opens : Text → List Text → Text → Option ℕ → List Text → Type 0
opens name before word device after = (word ≡ name) × (device ≡ Some 1) × (after ≡ word ∷ before)

abbrev is_input : List Text → ℕ → List Text → Type 0
is_input before device after = (device ≡ 0) × (after ≡ codes "-" ∷ before)

-- no file can be opened
abbrev opens_none : List Text → Text → Option ℕ → List Text → Type 0
opens_none before word device after = (device ≡ None) × (after ≡ word ∷ before)

abbrev untold : ℕ → Option (List ℕ)
untold device = None

abbrev uncalled : ℕ → ReadCalls
uncalled device = record { failures = 0; broken = false }

-- the second source of a line on the files a and b
abbrev asks : List Text → Intake → List Text → Type 0
asks = OpensAndTakes (IsOpenedAs opens_none is_input) (Takes untold uncalled) (Some (codes "b"))

pub record Opened (name : String Global) : Type 0 where
  pub input : IsOpenedAs (opens (codes "a")) is_input None [] (Open name 0) (codes "-" ∷ [])
  pub another_input : IsOpenedAs (opens (codes "a")) is_input None [] (Open name 1)
      (codes "-" ∷ []) → ⊥
  pub closed_input : IsOpenedAs (opens (codes "a")) is_input None [] (Closed name)
      (codes "-" ∷ []) → ⊥
  pub file : IsOpenedAs (opens (codes "a")) is_input (Some (codes "a")) [] (Open name 1)
      (codes "a" ∷ [])
  pub another_file : IsOpenedAs (opens (codes "a")) is_input (Some (codes "a")) [] (Open name 0)
      (codes "a" ∷ []) → ⊥
  pub closed_file : IsOpenedAs (opens (codes "a")) is_input (Some (codes "a")) [] (Closed name)
      (codes "a" ∷ []) → ⊥
  pub opened_twice : IsOpenedAs (opens (codes "a")) is_input (Some (codes "a")) [] (Open name 1)
      (codes "a" ∷ codes "a" ∷ []) → ⊥
  -- what was taken
  pub of_closed : Takes untold uncalled (Closed name) (Closed name) NotOpened
  pub bytes_of_closed : Takes untold uncalled (Closed name) (Closed name) (Read [] None) → ⊥
  pub nothing_of_open : Takes untold uncalled (Open name 0) (Open name 0) NotOpened → ⊥
  pub closed_then : Takes untold uncalled (Open name 0) (Closed name) (Read [] None) → ⊥
  -- of a source that there is
  pub of_some : TakesSome untold uncalled (Some (Closed name)) NotOpened (Some (Closed name))
  pub lost : TakesSome untold uncalled (Some (Closed name)) NotOpened None → ⊥
  pub of_none : TakesSome untold uncalled None NotOpened None → ⊥
  -- of the second one
  pub takes_one : AsksSecond asks (on_two Echo) NotOpened ⊥ [] None []
  pub opens_more : AsksSecond asks (on_two Echo) NotOpened ⊥ [] None (codes "b" ∷ []) → ⊥
  pub stopped : AsksSecond asks (on_two Verify) NotOpened ⊤ [] None []
  pub opened_behind : AsksSecond asks (on_two Verify) NotOpened ⊤ [] None (codes "b" ∷ []) → ⊥
  pub not_stopped : AsksSecond asks (on_two Verify) NotOpened ⊥ [] None [] → ⊥
  pub asked_behind : AsksSecond asks (on_two Verify) NotOpened ⊤ [] (Some NotOpened)
      (codes "b" ∷ []) → ⊥
  pub asked_for_none : AsksSecond asks (on_two Echo) faultless ⊤ [] (Some NotOpened) [] → ⊥

opened : (name : String Global) → Opened name
opened name = record {
  input = (refl, refl);
  another_input = λ h. let one : 1 ≡ 0 = h.0 in cc;
  closed_input = λ h. h;
  file = (refl, refl, refl);
  another_file = λ h. let other : Some 0 ≡ Some 1 = h.1 in cc;
  closed_file = λ h. let none : (let closed : Option ℕ = None in closed) ≡ Some 1 = h.1 in cc;
  opened_twice = λ h. let once : (let twice : List Text = codes "a" ∷ codes "a" ∷ [] in twice)
      ≡ codes "a" ∷ [] = h.2 in cc;
  of_closed = refl;
  bytes_of_closed = λ h. h;
  nothing_of_open = λ h. h;
  closed_then = λ h. h;
  of_some = refl;
  lost = λ h. h;
  of_none = λ h. h;
  takes_one = (refl, λ two. cc);
  opens_more = λ h. let more : (let one : List Text = codes "b" ∷ [] in one) ≡ [] = h.0 in cc;
  stopped = (refl, λ two. tt);
  opened_behind = λ h. let more : (let one : List Text = codes "b" ∷ [] in one) ≡ [] = h.0 in cc;
  not_stopped = λ h. h.1 refl;
  asked_behind = λ h. h.1;
  asked_for_none = λ h. let one : false ≡ true = h.0 in cc;
}

it_goes_on : IsFaultless faultless
unfolding fault_in is_past_limit is_too_long is_refused is_inside_row is_repeated
    is_bad_number is_name_too_early is_wrong_count is_type_too_late is_bad_type
    is_row_too_early is_bad_symbol
it_goes_on ending met = rw met refl

it_does_not_stop : Stops faultless → ⊥
unfolding fault_in is_past_limit is_too_long is_refused is_inside_row is_repeated
    is_bad_number is_name_too_early is_wrong_count is_type_too_late is_bad_type
    is_row_too_early is_bad_symbol
it_does_not_stop stops = let said : false ≡ true = stops End refl in cc

it_stops : Stops faulty
unfolding fault_in is_past_limit is_too_long is_refused is_inside_row is_repeated
    is_bad_number is_name_too_early is_wrong_count is_type_too_late is_bad_type
    is_row_too_early is_bad_symbol
it_stops ending met = rw met refl

a_closed_one_stops : Stops NotOpened
a_closed_one_stops = tt

a_closed_one_has_no_text : IsFaultless NotOpened → ⊥
a_closed_one_has_no_text h = h

-- the second file is opened after it
opened_behind : (name : String Global)
    → AsksSecond asks (on_two Verify) faultless ⊥ (codes "a" ∷ []) (Some NotOpened)
    (codes "b" ∷ codes "a" ∷ [])
opened_behind name = (
  refl,
  it_goes_on,
  record {
    source = Closed name;
    source_after = Closed name;
    opened = (refl, refl);
    taken = refl;
  },
)

-- ---- the statuses of the ways to end

pub record Ends (answer : File → File → Outcome) (echoes : List ℕ)
    (taken : Intakes) (out err : Trace) : Type 0 where
  pub ran_out : RanOut answer echoes taken out err Fault → ⊥
  pub could_not_write : CouldNotWrite answer echoes taken out err Memory → ⊥
  pub gave_up : (before after : List Text) → GivesUp before after out err Fault → ⊥

ends : (answer : File → File → Outcome) (echoes : List ℕ) (taken : Intakes) (out err : Trace)
    → Ends answer echoes taken out err
ends answer echoes taken out err = record {
  ran_out = λ h. let other : Fault ≡ Memory = h.same_status in cc;
  could_not_write = λ h. let other : Memory ≡ Fault = h.same_status in cc;
  gave_up = λ before after h. let other : Fault ≡ Memory = h.same_status in cc;
}
