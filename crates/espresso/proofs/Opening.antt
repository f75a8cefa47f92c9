-- A second source that is asked for behind the first, or not.
use Rattle.std.proofs.Common.{◌≡◌, ◌∙◌, ℕ, true, false, true≢false, refl, sym, ap, subst, inl, inr, List, Option, Some, None, Result, Ok, Err, is_ok}
use Rattle.std.specs.Prelude.{◌⊎◌, IfErr, is_some}
use Rattle.cube.specs.Limits.{format_limits}
use Rattle.pla.specs.declared.calls.WriteCalls.{WriteCalls}
use Rattle.pla.specs.declared.fault.ReadFault.{ReadFault}
use Rattle.pla.specs.Description.{Description, described}
use Rattle.pla.specs.Fault.{fault_of}
use Rattle.espresso.specs.declared.command.Command.{Command}
use Rattle.espresso.specs.declared.command.Command.TheVariants.{Verify, Intersect, Sharp}
use Rattle.espresso.specs.declared.status.Status.{Status}
use Rattle.espresso.specs.declared.failure.Operand.{Operand}
use Rattle.espresso.specs.declared.failure.Failure.{Failure}
use Rattle.espresso.specs.declared.failure.Failure.TheVariants as failure
use Rattle.espresso.specs.Answer.{Answer, Answering, answer_of, of_one, of_two}
use Rattle.espresso.specs.Run.{AsksSecond, Intake, Intakes, IsCutShort, NotOpened, Read, Stops, Trace, all_due, trace}
use Rattle.espresso.specs.Steps.{Closes, Follows, IsReadAs, Names, PassesOn, PutsOut, PutsOutOne, PutsOutTwo, ReadsOther, ReadsSecond, Reports, StoppedBefore}
use Rattle.espresso.specs.Tool.{outcome_of, unless_faulty}
use Rattle.espresso.specs.Tool as tool
use Rattle.espresso.specs.Words.{Request, Text, takes_two}
use Rattle.espresso.proofs.Both.{one_answered, same_sizes, two_answered, two_differ, two_stopped, unopened_stands}
use Rattle.espresso.proofs.Ways.{could_not_write, ran_out}

-- ---- the first source

-- where its reading stopped the run, it was closed or has a fault
has_fault : (name : Text) (fault : Option ReadFault) (d : Description) (message : List ℕ) → unless_faulty name fault d ≡ Err message → is_some fault ≡ true
has_fault name (Some fault) d message e = refl
has_fault name None d message e = absurd (true≢false (ap is_ok e))

stops : (line : Request) (name : Text) (taken : Intake) (out : Trace) (message : List ℕ) → PassesOn line name taken out (Err message) → Stops taken
stops line name NotOpened out message h = tt
stops line name (Read bytes met) out message h = λ ending may.
    has_fault name (fault_of format_limits ending bytes) (described format_limits ending bytes) message (h.comes_to (tool.Delivered bytes ending) (refl, may))

pub stopped_before : (line : Request) (operand : Operand) (name : Text) (taken : Intake) (out : Trace) (s : Failure)
    → IsReadAs line operand name taken out (Err s) → StoppedBefore taken (Err s)
stopped_before line operand name taken out (failure.NotOpened at) h = stops line name taken out _ h.0
stopped_before line operand name taken out (failure.Faulty at fault) h = stops line name taken out _ h.0
stopped_before line operand name taken out failure.SizesDiffer h = absurd h
stopped_before line operand name taken out failure.WriteFailed h = tt
stopped_before line operand name taken out failure.OutOfMemory h = tt

-- ---- why a second one was not opened

pub why_unopened : (line : Request) (taken : Intakes) (names : Names) (out err : Trace) (status : Status) (done : Result Status Failure)
    → Closes line taken names out done → Reports names err done status → StoppedBefore taken.first done
    → Stops taken.first ⊎ IsCutShort (outcome_of line) (all_due line taken) taken out err status
why_unopened line taken names out err status (Ok x) h r s = absurd s
why_unopened line taken names out err status (Err (failure.NotOpened operand)) h r s = inl s
why_unopened line taken names out err status (Err (failure.Faulty operand fault)) h r s = inl s
why_unopened line taken names out err status (Err failure.SizesDiffer) h r s = absurd s
why_unopened line taken names out err status (Err failure.WriteFailed) h r s = inr (inr (could_not_write line taken names out err status h r))
why_unopened line taken names out err status (Err failure.OutOfMemory) h r s = inr (inl (ran_out line taken names out err status h r))

-- what stopped a run is flushed over
pub stopped_over : (taken : Intake) (done result : Result Status Failure) → IfErr done (λ s. result ≡ Err s) → StoppedBefore taken done → StoppedBefore taken result
stopped_over taken (Ok x) result same h = absurd h
stopped_over taken (Err s) result same h = subst (StoppedBefore taken) (sym same) h

-- none was asked for, as the run was stopped
pub asks_none : {S : Type 0} (asks : S → Intake → S → Type 0) (line : Request) (first : Intake) (Stopped : Type 0) (at : S) → Stopped → AsksSecond asks line first Stopped at None at
asks_none asks line first Stopped at h = (refl, λ two. h)

-- the same second source, not asked for by a reason that follows
pub asks_since : {S : Type 0} (asks : S → Intake → S → Type 0) (line : Request) (first : Intake) (P Q : Type 0) → (P → Q)
    → (before after : S) (taken : Option Intake) → AsksSecond asks line first P before taken after → AsksSecond asks line first Q before taken after
asks_since asks line first P Q f before after None h = (h.0, λ two. f (h.1 two))
asks_since asks line first P Q f before after (Some intake) h = h

-- ---- behind a first source without a fault

module _ {S : Type 0} (asks : S → Intake → S → Type 0) (line : Request) (pla : Description) where
  abbrev pub FollowsSome : S → S → Trace → Result Status Failure → Type 0
  FollowsSome before after out result = (taken : Option Intake) × Follows asks line pla before taken after out result

  -- what the line's command answers, by that command
  answer_is : (command : Command) (answering : Answering) → line.command ≡ command → answer_of command line.out line.choice ≡ answering
      → answer_of line.command line.out line.choice ≡ answering
  answer_is command answering is e = ap (λ k. answer_of k line.out line.choice) is ∙ e

  -- a command on one file
  pub follows_one : (command : Command) → line.command ≡ command → takes_two command ≡ false
      → (at : S) (out : Trace) (result : Result Status Failure) → PutsOutOne (answer_of command line.out line.choice) pla out result → FollowsSome at at out result
  follows_one command is one at out result puts = go (answer_of command line.out line.choice) refl puts
    where
      go : (answering : Answering) → answer_of command line.out line.choice ≡ answering → PutsOutOne answering pla out result → FollowsSome at at out result
      go (of_one answer) e h =
          (None, ((λ first faultless. (refl, λ two. absurd (true≢false (sym two ∙ ap takes_two is ∙ one)))), one_answered line pla answer out result (answer_is command (of_one answer) is e) h))
      go (of_two answer) e h = absurd h

  -- a command on two
  module _ (before after : S) (old mid : Option (List ℕ)) (start count : WriteCalls) where
    abbrev pub ReadsSome : Result Description Failure → Type 0
    ReadsSome result = (taken : Option Intake) × ReadsOther asks line pla before taken after (trace old mid start count) result

    -- a second source that stopped the run is not of another size
    pub other_stopped : (s : Failure) → ((taken : Option Intake) × ReadsSecond asks line before taken after (trace old mid start count) (Err s)) → ReadsSome (Err s)
    other_stopped failure.SizesDiffer (Some intake, h) = absurd h.1
    other_stopped failure.SizesDiffer (None, h) = absurd h.1
    other_stopped (failure.NotOpened operand) h = h
    other_stopped (failure.Faulty operand fault) h = h
    other_stopped failure.WriteFailed h = h
    other_stopped failure.OutOfMemory h = h

    module _ (answer : Description → Description → Answer) (is : answer_of line.command line.out line.choice ≡ of_two answer) where
      stopped_second : (s : Failure) → ((taken : Option Intake) × ReadsSecond asks line before taken after (trace old mid start count) (Err s)) → FollowsSome before after (trace old mid start count) (Err s)
      stopped_second s (Some intake, h) = (Some intake, (h.0, two_stopped line pla answer is intake old mid start count s h.1))
      stopped_second failure.OutOfMemory (None, h) = (None, (h.0, unopened_stands line pla (trace old mid start count) h.1))
      stopped_second (failure.NotOpened operand) (None, h) = absurd h.1
      stopped_second (failure.Faulty operand fault) (None, h) = absurd h.1
      stopped_second failure.SizesDiffer (None, h) = absurd h.1
      stopped_second failure.WriteFailed (None, h) = absurd h.1

      stopped_by : (s : Failure) → ReadsSome (Err s) → FollowsSome before after (trace old mid start count) (Err s)
      stopped_by failure.SizesDiffer (Some intake, (e, h, differ)) = (Some intake, (h.0, two_differ line pla answer is intake old mid start count e h.1 differ))
      stopped_by failure.SizesDiffer (None, (e, h, differ)) = absurd h.1
      stopped_by (failure.NotOpened operand) h = stopped_second (failure.NotOpened operand) h
      stopped_by (failure.Faulty operand fault) h = stopped_second (failure.Faulty operand fault) h
      stopped_by failure.WriteFailed h = stopped_second failure.WriteFailed h
      stopped_by failure.OutOfMemory h = stopped_second failure.OutOfMemory h

      answered_by : (other : Description) → ReadsSome (Ok other) → (new : Option (List ℕ)) (end : WriteCalls) (result : Result Status Failure)
          → PutsOut (answer pla other) (trace mid new count end) result → FollowsSome before after (trace old new start end) result
      answered_by other (Some intake, (h, same)) new end result puts =
          (Some intake, (h.0, two_answered line pla answer is intake old mid start count other new end result h.1 (same_sizes pla.size other.size same) puts))
      answered_by other (None, (h, same)) new end result puts = absurd h.1

    pub follows_stopped : (command : Command) → line.command ≡ command → takes_two command ≡ true → (s : Failure) → ReadsSome (Err s) → FollowsSome before after (trace old mid start count) (Err s)
    follows_stopped Verify is two s h = stopped_by _ (answer_is Verify _ is refl) s h
    follows_stopped Intersect is two s h = stopped_by _ (answer_is Intersect _ is refl) s h
    follows_stopped Sharp is two s h = stopped_by _ (answer_is Sharp _ is refl) s h
    follows_stopped _ is two s h = absurd (true≢false (sym two))

    pub follows_two : (command : Command) → line.command ≡ command → (other : Description) → ReadsSome (Ok other)
        → (new : Option (List ℕ)) (end : WriteCalls) (result : Result Status Failure)
        → PutsOutTwo (answer_of command line.out line.choice) pla other (trace mid new count end) result → FollowsSome before after (trace old new start end) result
    follows_two command is other read new end result puts = go (answer_of command line.out line.choice) refl puts
      where
        go : (answering : Answering) → answer_of command line.out line.choice ≡ answering → PutsOutTwo answering pla other (trace mid new count end) result
            → FollowsSome before after (trace old new start end) result
        go (of_one answer) e h = absurd h
        go (of_two answer) e h = answered_by answer (answer_is command (of_two answer) is e) other read new end result h

-- a source by its name
pub named : (line : Request) (operand : Operand) (name other : Text) (taken : Intake) (out : Trace) (result : Result Description Failure) → name ≡ other
    → IsReadAs line operand name taken out result → IsReadAs line operand other taken out result
named line operand name other taken out result same h = subst (λ n. IsReadAs line operand n taken out result) same h
