-- The first source of a run, and the second behind it.
use Rattle.std.proofs.Common.{◌≡◌, ℕ, Bool, cond, true, false, refl, sym, ap, subst, inl, List, [], ◌++◌, Option, Some, None, Result, Ok, Err, append-nil}
use Rattle.std.proofs.lemmas.Bool.{eq-eqb}
use Rattle.std.specs.Prelude.{◌==◌}
use Rattle.cube.specs.Size.{Size}
use Rattle.pla.specs.declared.calls.WriteCalls.{WriteCalls}
use Rattle.pla.specs.Description.{Description}
use Rattle.espresso.specs.declared.status.Status.{Status}
use Rattle.espresso.specs.declared.failure.Operand.TheVariants.{First, Second}
use Rattle.espresso.specs.declared.failure.Failure.{Failure}
use Rattle.espresso.specs.declared.failure.Failure.TheVariants as failure
use Rattle.espresso.specs.Run.{Intake, Intakes, Trace, Uncalled, echoes_due, second_due, trace}
use Rattle.espresso.specs.Steps.{Answers, FilesOf, IsReadAs, Names, PutsOut, Reports, SecondOf, Stands, StandsAt, StandsBehind, names_said}
use Rattle.espresso.specs.Answer.{Answer, Answering, answer_of, of_one, of_two}
use Rattle.espresso.specs.Tool.{Outcome, answered, first_name, reading_then, same_size, second_name, stopped, with_both, with_first}
use Rattle.espresso.specs.Messages.{sizes_message}
use Rattle.espresso.specs.Words.{Request}
use Rattle.espresso.proofs.Outputs.{appends_nothing, front_nothing}
use Rattle.espresso.proofs.Ways.{answers_stand, put_answers, stands_same, stopped_there, went_on}

-- ---- behind the first

module _ (line : Request) (pla : Description) (taken : Option Intake) (out : Trace) (result : Result Status Failure) where
  -- what stands by the command's way of answering
  abbrev StandsBy : Answering → Type 0
  StandsBy answering = StandsAt (SecondOf taken) (λ second. with_first line second.file answering pla) (second_due line taken) (names_said line) out result

  pub stands_by : (answering : Answering) → answer_of line.command line.out line.choice ≡ answering → StandsBy answering → StandsBehind line pla taken out result
  stands_by answering is h = subst StandsBy (sym is) h

-- a command on one file answered
pub one_answered : (line : Request) (pla : Description) (answer : Description → Answer) (out : Trace) (result : Result Status Failure)
    → answer_of line.command line.out line.choice ≡ of_one answer → PutsOut (answer pla) out result → StandsBehind line pla None out result
one_answered line pla answer out result is h = stands_by line pla None out result (of_one answer) is
    (answers_stand (SecondOf None) (answered (answer pla)) [] (names_said line) out result (put_answers (answer pla) out result h))

-- memory was refused before the second source was opened
pub unopened_stands : (line : Request) (pla : Description) (out : Trace) → Uncalled out → StandsBehind line pla None out (Err failure.OutOfMemory)
unopened_stands line pla out h = (inl (front_nothing out.taken out.taken_after [] h.0), ap (λ (c : WriteCalls). c.counts) h.1)

-- ---- behind the second

module _ (line : Request) (pla : Description) (answer : Description → Description → Answer) (is : answer_of line.command line.out line.choice ≡ of_two answer)
    (intake : Intake) (old mid : Option (List ℕ)) (before count : WriteCalls) where
  -- a text with nothing behind it
  behind_all : (out : Trace) (result : Result Status Failure)
      → StandsAt (SecondOf (Some intake)) (λ second. reading_then line (second_name line.files) second.file (with_both answer pla)) (echoes_due line intake ++ []) (names_said line) out result
      → StandsBehind line pla (Some intake) out result
  behind_all out result h = stands_by line pla (Some intake) out result (of_two answer) is
      (subst (λ t. StandsAt (SecondOf (Some intake)) (λ second. reading_then line (second_name line.files) second.file (with_both answer pla)) t (names_said line) out result)
      (append-nil (echoes_due line intake)) h)

  pub two_stopped : (s : Failure) → IsReadAs line Second (second_name line.files) intake (trace old mid before count) (Err s)
      → StandsBehind line pla (Some intake) (trace old mid before count) (Err s)
  two_stopped s read = behind_all _ (Err s)
      (stopped_there line Second (second_name line.files) intake (SecondOf (Some intake)) (λ x. x.file) (λ x. x.is_file) (λ _. with_both answer pla) [] (names_said line) old mid before count s refl read)

  module _ (other : Description) (new : Option (List ℕ)) (after : WriteCalls) (result : Result Status Failure)
      (read : IsReadAs line Second (second_name line.files) intake (trace old mid before count) (Ok other)) where
    two_read : Answers (with_both answer pla other) (trace mid new count after) result → StandsBehind line pla (Some intake) (trace old new before after) result
    two_read h = behind_all _ result
        (went_on line Second (second_name line.files) intake (SecondOf (Some intake)) (λ x. x.file) (λ x. x.is_file) (λ _. with_both answer pla) [] (names_said line) old mid before count other new after read result
        (answers_stand (SecondOf (Some intake)) (with_both answer pla other) [] (names_said line) (trace mid new count after) result h))

    -- the outcome by whether the sizes are the same
    both_by : (same : Bool) → same_size pla.size other.size ≡ same → (outcome : Outcome)
        → cond same (answered (answer pla other)) outcome ≡ cond (same_size pla.size other.size) (answered (answer pla other)) outcome
    both_by same e outcome = ap (λ b. cond b (answered (answer pla other)) outcome) (sym e)

    pub two_answered : same_size pla.size other.size ≡ true → PutsOut (answer pla other) (trace mid new count after) result
        → StandsBehind line pla (Some intake) (trace old new before after) result
    two_answered same h = two_read (subst (λ o. Answers o (trace mid new count after) result) (both_by true same _)
        (put_answers (answer pla other) (trace mid new count after) result h))

  -- its size is another
  pub two_differ : (other : Description) → IsReadAs line Second (second_name line.files) intake (trace old mid before count) (Ok other) → same_size pla.size other.size ≡ false
      → StandsBehind line pla (Some intake) (trace old mid before count) (Err failure.SizesDiffer)
  two_differ other read differ = two_read other mid count (Err failure.SizesDiffer) read
      (subst (λ o. Answers o (trace mid mid count count) (Err failure.SizesDiffer)) (both_by other mid count (Err failure.SizesDiffer) read false differ (stopped sizes_message))
      (record { output = appends_nothing mid; same_message = refl; same_status = refl }, refl))

-- sizes that are equal
same_number : (n : ℕ) → (n == n) ≡ true
same_number n = eq-eqb n n refl

pub same_sizes : (a b : Size) → b ≡ a → same_size a b ≡ true
same_sizes a b e = subst (λ c. same_size a c ≡ true) (sym e) (rw (same_number a.inputs, same_number a.outputs) refl)

-- ---- from the first on

module _ (line : Request) (taken : Intakes) (old mid : Option (List ℕ)) (before count : WriteCalls) where
  pub first_stopped : (s : Failure) → IsReadAs line First (first_name line.files) taken.first (trace old mid before count) (Err s)
      → Stands line taken (names_said line) (trace old mid before count) (Err s)
  first_stopped s h = stopped_there line First (first_name line.files) taken.first (FilesOf taken) (λ x. x.first) (λ x. x.is_first)
      (λ x. with_first line x.second (answer_of line.command line.out line.choice))
      (second_due line taken.second) (names_said line) old mid before count s refl h

  pub first_read : (pla : Description) (new : Option (List ℕ)) (after : WriteCalls) (result : Result Status Failure)
      → IsReadAs line First (first_name line.files) taken.first (trace old mid before count) (Ok pla)
      → StandsBehind line pla taken.second (trace mid new count after) result → Stands line taken (names_said line) (trace old new before after) result
  first_read pla new after result read h = went_on line First (first_name line.files) taken.first (FilesOf taken) (λ x. x.first) (λ x. x.is_first)
      (λ x. with_first line x.second (answer_of line.command line.out line.choice))
      (second_due line taken.second) (names_said line) old mid before count pla new after read result
      (stands_same (FilesOf taken) (SecondOf taken.second) (λ x. record { file = x.second; is_file = x.is_second })
      (λ x. with_first line x.second (answer_of line.command line.out line.choice) pla)
      (λ y. with_first line y.file (answer_of line.command line.out line.choice) pla) (λ x. refl)
      (second_due line taken.second) (names_said line) (trace mid new count after) result h)

-- ---- names

-- the last word, by names that are the same
pub reports_by : (names others : Names) (err : Trace) (done : Result Status Failure) (status : Status) → names.first ≡ others.first → names.second ≡ others.second
    → Reports names err done status → Reports others err done status
reports_by names others err done status e f h = subst (λ second. Reports (record { first = others.first; second = second }) err done status) f
    (subst (λ first. Reports (record { first = first; second = names.second }) err done status) e h)
