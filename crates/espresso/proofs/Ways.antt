-- Where a run stands, from step to step.
use Rattle.std.proofs.Common.{◌≡◌, ◌∙◌, ℕ, refl, sym, ap, subst, inl, inr, List, [], ◌++◌, Option, Result, Ok, Err, true, false, true≢false, append-nil}
use Rattle.std.specs.Prelude.{◌⊎◌, IsTrue}
use Rattle.std.specs.Io.KnownBytes.{Appends, Keeps}
use Rattle.pla.specs.declared.device.Broken.{Broken}
use Rattle.pla.specs.Description.{Description}
use Rattle.pla.specs.declared.calls.Counts.{Counts}
use Rattle.pla.specs.declared.calls.WriteCalls.{WriteCalls}
use Rattle.pla.specs.Device.{AppendsFront, TellsFlush, after_flush, one_more}
use Rattle.pla.proofs.Moves.{appends_then, front_then, front_before}
use Rattle.espresso.specs.declared.status.Status.{Status}
use Rattle.espresso.specs.declared.status.Status.TheVariants.{Fault}
use Rattle.espresso.specs.declared.failure.Operand.{Operand}
use Rattle.espresso.specs.declared.failure.Failure.{Failure}
use Rattle.espresso.specs.declared.failure.Failure.TheVariants as failure
use Rattle.espresso.specs.Messages.{closed_message, fault_message, is_answer}
use Rattle.espresso.specs.Run.{CouldNotWrite, EndsAs, Finishes, FlushBroke, FlushWent, FlushedLast, Intake, Intakes, IsFileOf, LastWriteBroke, RanOut, WroteOrFailed, Trace, Wrote, WrotePart, WrotePrefix, WroteWhole, WritesWent, echoes_due, second_due, trace}
use Rattle.espresso.specs.Steps.{Answers, Began, Closes, FilesOf, IsReadAs, Names, PassesOn, Prints, PutsOut, Reports, Stands, StandsAt, name_at}
use Rattle.espresso.specs.Answer.{Answer}
use Rattle.espresso.specs.Tool.{File, Outcome, answered, behind, outcome_of, reading_of, reading_then, unless_stopped}
use Rattle.espresso.specs.Words.{Request, Text}
use Rattle.espresso.proofs.Outputs.{appends_kept, failed_since, front_kept, front_whole}

-- ---- the reading of a source, and what follows

module _ (line : Request) (operand : Operand) (name : Text) (taken : Intake) (X : Type 0) (file : X → File) (is_file : (x : X) → IsFileOf taken (file x)) (next : X → Description → Outcome) (rest : List ℕ) (names : Names) (old mid : Option (List ℕ)) (before count : WriteCalls) where
  abbrev whole : X → Outcome
  whole x = reading_then line name (file x) (next x)

  -- the outcome by what the file comes to
  outcome_is : (x : X) (reading : Result Description (List ℕ)) → PassesOn line name taken (trace old mid before count) reading
      → whole x ≡ behind (echoes_due line taken) (unless_stopped (next x) reading)
  outcome_is x reading h = ap (λ e. behind e (unless_stopped (next x) (reading_of name (file x)))) (h.passed (file x) (is_file x))
      ∙ ap (λ r. behind (echoes_due line taken) (unless_stopped (next x) r)) (h.comes_to (file x) (is_file x))

  stops_saying : (message : List ℕ) → PassesOn line name taken (trace old mid before count) (Err message)
      → (x : X) → Prints (whole x) (trace old mid before count) message Fault
  stops_saying message h x = subst (λ o. Prints o (trace old mid before count) message Fault) (sym (outcome_is x (Err message) h))
      (record { output = subst (Appends old mid) (sym (append-nil (echoes_due line taken))) h.wrote; same_message = refl; same_status = refl })

  -- the source stopped the run
  pub stopped_there : (s : Failure) → name_at operand names ≡ name → IsReadAs line operand name taken (trace old mid before count) (Err s)
      → StandsAt X whole (echoes_due line taken ++ rest) names (trace old mid before count) (Err s)
  stopped_there (failure.NotOpened at) named h = (
    stops_saying _ (subst (λ n. PassesOn line name taken (trace old mid before count) (Err (closed_message n)))
        (sym (ap (λ o. name_at o names) h.1 ∙ named)) h.0),
    h.2,
  )
  stopped_there (failure.Faulty at fault) named h = (
    stops_saying _ (subst (λ n. PassesOn line name taken (trace old mid before count) (Err (fault_message n fault)))
        (sym (ap (λ o. name_at o names) h.1 ∙ named)) h.0),
    h.2,
  )
  stopped_there failure.SizesDiffer named h = absurd h
  stopped_there failure.WriteFailed named h = (inl (front_before old mid _ rest h.0), h.1)
  stopped_there failure.OutOfMemory named h = (inl (front_before old mid _ rest h.0), h.1)

  -- it came to a description, and the run went on
  module _ (pla : Description) (new : Option (List ℕ)) (after : WriteCalls) (read : IsReadAs line operand name taken (trace old mid before count) (Ok pla)) where
    prints_behind : (message : List ℕ) (status : Status) (x : X) → Prints (next x pla) (trace mid new count after) message status
        → Prints (whole x) (trace old new before after) message status
    prints_behind message status x h = subst (λ o. Prints o (trace old new before after) message status) (sym (outcome_is x (Ok pla) read.0))
        (record { output = appends_then old mid new _ _ read.0.wrote h.output; same_message = h.same_message; same_status = h.same_status })

    began_behind : Began X (λ x. next x pla) rest (trace mid new count after) → Began X whole (echoes_due line taken ++ rest) (trace old new before after)
    began_behind (inl h) = inl (front_then old mid new _ rest read.0.wrote h)
    began_behind (inr h) = inr (λ x. subst (λ o. AppendsFront old new o.output) (sym (outcome_is x (Ok pla) read.0))
        (front_then old mid new _ _ read.0.wrote (h x)))

    pub went_on : (result : Result Status Failure) → StandsAt X (λ x. next x pla) rest names (trace mid new count after) result
        → StandsAt X whole (echoes_due line taken ++ rest) names (trace old new before after) result
    went_on (Ok status) h = (λ x. prints_behind [] status x (h.0 x), h.1 ∙ read.1)
    went_on (Err (failure.NotOpened at)) h = (λ x. prints_behind _ Fault x (h.0 x), h.1 ∙ read.1)
    went_on (Err (failure.Faulty at fault)) h = (λ x. prints_behind _ Fault x (h.0 x), h.1 ∙ read.1)
    went_on (Err failure.SizesDiffer) h = (λ x. prints_behind _ Fault x (h.0 x), h.1 ∙ read.1)
    went_on (Err failure.WriteFailed) h = (began_behind h.0, failed_since before count after read.1 h.1)
    went_on (Err failure.OutOfMemory) h = (began_behind h.0, h.1 ∙ read.1)

-- ---- the same outcome in other words

module _ (X Y : Type 0) (at : X → Y) (outcome : X → Outcome) (other : Y → Outcome) (same : (x : X) → other (at x) ≡ outcome x) (echoes : List ℕ) (names : Names) (out : Trace) where
  prints_same : (message : List ℕ) (status : Status) → ((y : Y) → Prints (other y) out message status) → (x : X) → Prints (outcome x) out message status
  prints_same message status h x = subst (λ o. Prints o out message status) (same x) (h (at x))

  began_same : Began Y other echoes out → Began X outcome echoes out
  began_same (inl h) = inl h
  began_same (inr h) = inr (λ x. subst (λ o. WrotePrefix out o.output) (same x) (h (at x)))

  pub stands_same : (result : Result Status Failure) → StandsAt Y other echoes names out result → StandsAt X outcome echoes names out result
  stands_same (Ok status) h = (prints_same [] status h.0, h.1)
  stands_same (Err (failure.NotOpened operand)) h = (prints_same _ Fault h.0, h.1)
  stands_same (Err (failure.Faulty operand fault)) h = (prints_same _ Fault h.0, h.1)
  stands_same (Err failure.SizesDiffer) h = (prints_same _ Fault h.0, h.1)
  stands_same (Err failure.WriteFailed) h = (began_same h.0, h.1)
  stands_same (Err failure.OutOfMemory) h = (began_same h.0, h.1)

-- one outcome, whatever the files
pub answers_stand : (X : Type 0) (outcome : Outcome) (echoes : List ℕ) (names : Names) (out : Trace) (result : Result Status Failure)
    → Answers outcome out result → StandsAt X (λ _. outcome) echoes names out result
answers_stand X outcome echoes names out (Ok status) h = (λ _. h.0, h.1)
answers_stand X outcome echoes names out (Err (failure.NotOpened operand)) h = absurd h
answers_stand X outcome echoes names out (Err (failure.Faulty operand fault)) h = absurd h
answers_stand X outcome echoes names out (Err failure.SizesDiffer) h = (λ _. h.0, h.1)
answers_stand X outcome echoes names out (Err failure.WriteFailed) h = (inr (λ _. h.0), h.1)
answers_stand X outcome echoes names out (Err failure.OutOfMemory) h = (inr (λ _. h.0), h.1)

-- a command's answer, printed
pub put_answers : (answer : Answer) (out : Trace) (result : Result Status Failure) → PutsOut answer out result → Answers (answered answer) out result
put_answers answer out (Ok status) h = (record { output = h.0; same_message = refl; same_status = h.2 }, h.1)
put_answers answer out (Err (failure.NotOpened operand)) h = absurd h
put_answers answer out (Err (failure.Faulty operand fault)) h = absurd h
put_answers answer out (Err failure.SizesDiffer) h = absurd h
put_answers answer out (Err failure.WriteFailed) h = h
put_answers answer out (Err failure.OutOfMemory) h = h

-- ---- the last flush

module _ (line : Request) (taken : Intakes) (names : Names) (old mid new : Option (List ℕ)) (before count after : WriteCalls) (kept : Keeps mid new) where
  prints_kept : (outcome : Outcome) (message : List ℕ) (status : Status) → Prints outcome (trace old mid before count) message status → Prints outcome (trace old new before after) message status
  prints_kept outcome message status h = record { output = appends_kept old mid new outcome.output h.output kept; same_message = h.same_message; same_status = h.same_status }

  abbrev outcome_at : FilesOf taken → Outcome
  outcome_at files = outcome_of line files.first files.second

  abbrev echoes : List ℕ
  echoes = echoes_due line taken.first ++ second_due line taken.second

  began_kept : Began (FilesOf taken) outcome_at echoes (trace old mid before count) → Began (FilesOf taken) outcome_at echoes (trace old new before after)
  began_kept (inl h) = inl (front_kept old mid new echoes h kept)
  began_kept (inr h) = inr (λ files. front_kept old mid new _ (h files) kept)

  abbrev end : Trace
  end = trace old new before after

  -- one flush was asked for, as the last call
  flushed_last : (flush : Result (Unit {0}) Broken) → TellsFlush count after flush → count.counts.flushes ≡ before.counts.flushes → FlushedLast end
  flushed_last (Ok x) e same = (ap (λ (c : WriteCalls). c.counts.flushes) e ∙ ap one_more same, ap (λ (c : WriteCalls). c.flushed) e)
  flushed_last (Err x) e same = (ap (λ (c : WriteCalls). c.counts.flushes) e ∙ ap one_more same, ap (λ (c : WriteCalls). c.flushed) e)

  -- it leaves the writes
  writes_stay : (flush : Result (Unit {0}) Broken) → TellsFlush count after flush → after.counts.failures ≡ count.counts.failures
  writes_stay (Ok x) e = ap (λ (c : WriteCalls). c.counts.failures) e
  writes_stay (Err x) e = ap (λ (c : WriteCalls). c.counts.failures) e

  broken_stays : (flush : Result (Unit {0}) Broken) → TellsFlush count after flush → after.broken ≡ count.broken
  broken_stays (Ok x) e = ap (λ (c : WriteCalls). c.broken) e
  broken_stays (Err x) e = ap (λ (c : WriteCalls). c.broken) e

  flushes_of : count.counts ≡ before.counts → count.counts.flushes ≡ before.counts.flushes
  flushes_of same = ap (λ (c : Counts). c.flushes) same

  failures_of : count.counts ≡ before.counts → count.counts.failures ≡ before.counts.failures
  failures_of same = ap (λ (c : Counts). c.failures) same

  -- a flush that went well
  pub flush_kept : (x : Status) → after ≡ after_flush false count → Stands line taken names (trace old mid before count) (Ok x) → Closes line taken names end (Ok x)
  flush_kept x e h = (
    (
      λ files. prints_kept _ [] x (h.0 files),
      writes_stay (Ok tt) e ∙ failures_of h.1,
      ap (λ (c : WriteCalls). c.counts.failed_flushes) e ∙ ap (λ (c : Counts). c.failed_flushes) h.1,
    ),
    flushed_last (Ok tt) e (flushes_of h.1),
  )

  -- a flush that failed or not, where the run was stopped before
  pub flush_ignored : (s : Failure) (flush : Result (Unit {0}) Broken) → TellsFlush count after flush
      → Stands line taken names (trace old mid before count) (Err s) → Closes line taken names end (Err s)
  flush_ignored (failure.NotOpened operand) flush e h = ((λ files. prints_kept _ _ Fault (h.0 files), writes_stay flush e ∙ failures_of h.1), flushed_last flush e (flushes_of h.1))
  flush_ignored (failure.Faulty operand fault) flush e h = ((λ files. prints_kept _ _ Fault (h.0 files), writes_stay flush e ∙ failures_of h.1), flushed_last flush e (flushes_of h.1))
  flush_ignored failure.SizesDiffer flush e h = ((λ files. prints_kept _ _ Fault (h.0 files), writes_stay flush e ∙ failures_of h.1), flushed_last flush e (flushes_of h.1))
  flush_ignored failure.WriteFailed flush e h = (
    (began_kept h.0, inl (writes_stay flush e ∙ ap (λ (c : Counts). c.failures) h.1.0, broken_stays flush e ∙ h.1.1)),
    flushed_last flush e (ap (λ (c : Counts). c.flushes) h.1.0),
  )
  flush_ignored failure.OutOfMemory flush e h = ((began_kept h.0, writes_stay flush e ∙ failures_of h.1), flushed_last flush e (flushes_of h.1))

  -- a flush that failed, where all was written
  pub flush_failed : (x : Status) → after ≡ after_flush true count → Stands line taken names (trace old mid before count) (Ok x) → Closes line taken names end (Err failure.WriteFailed)
  flush_failed x e h =
      let whole = λ (files : FilesOf taken). appends_kept old mid new _ (h.0 files).output kept in (
        (
          inr (λ files. front_whole old new _ (whole files)),
          inr (whole, writes_stay (Err _) e ∙ failures_of h.1, ap (λ (c : WriteCalls). c.counts.failed_flushes) e ∙ ap (λ (c : Counts). one_more c.failed_flushes) h.1),
        ),
        flushed_last (Err _) e (flushes_of h.1),
      )

-- ---- the end

module _ (line : Request) (taken : Intakes) (names : Names) (out err : Trace) (status : Status) where
  finishes : (message : List ℕ) (s : Status) → ((files : FilesOf taken) → Prints (outcome_of line files.first files.second) out message s) → WroteOrFailed err message → status ≡ s
      → WritesWent out → FlushedLast out → (IsTrue (is_answer s) → FlushWent out) → Finishes (outcome_of line) taken out err status
  finishes message s h say e written flushed unbroken = record {
    outcome = λ first second is_first is_second. let p = h (record { first = first; second = second; is_first = is_first; is_second = is_second }) in record {
      output = p.output;
      message = subst (WroteOrFailed err) (sym p.same_message) say;
      same_status = e ∙ sym p.same_status;
    };
    written = written;
    flushed = flushed;
    unbroken = λ done. unbroken (subst (λ t. IsTrue (is_answer t)) e done);
  }

  beginning : Began (FilesOf taken) (λ files. outcome_of line files.first files.second) (echoes_due line taken.first ++ second_due line taken.second) out → WrotePart (outcome_of line) (echoes_due line taken.first ++ second_due line taken.second) taken out
  beginning (inl h) = inl h
  beginning (inr h) = inr (λ first second is_first is_second. h (record { first = first; second = second; is_first = is_first; is_second = is_second }))

  failing : LastWriteBroke out ⊎ (((files : FilesOf taken) → Wrote out (outcome_of line files.first files.second).output) × WritesWent out × FlushBroke out)
      → LastWriteBroke out ⊎ (WroteWhole (outcome_of line) taken out × WritesWent out × FlushBroke out)
  failing (inl h) = inl h
  failing (inr h) = inr (λ first second is_first is_second. h.0 (record { first = first; second = second; is_first = is_first; is_second = is_second }), h.1, h.2)

  pub ran_out : Closes line taken names out (Err failure.OutOfMemory) → Reports names err (Err failure.OutOfMemory) status
      → RanOut (outcome_of line) (echoes_due line taken.first ++ second_due line taken.second) taken out err status
  ran_out h r = record { beginning = beginning h.0.0; written = h.0.1; flushed = h.1; message = r.1; same_status = r.0 }

  pub could_not_write : Closes line taken names out (Err failure.WriteFailed) → Reports names err (Err failure.WriteFailed) status
      → CouldNotWrite (outcome_of line) (echoes_due line taken.first ++ second_due line taken.second) taken out err status
  could_not_write h r = record { beginning = beginning h.0.0; failed = failing h.0.1; flushed = h.1; message = r.1; same_status = r.0 }

  -- a run ends in one of the three ways
  pub ends : (done : Result Status Failure) → Closes line taken names out done → Reports names err done status → EndsAs (outcome_of line) (echoes_due line taken.first ++ second_due line taken.second) taken out err status
  ends (Ok x) h r = inl (finishes [] x h.0.0 r.1 r.0 h.0.1 h.1 (λ _. h.0.2))
  ends (Err (failure.NotOpened operand)) h r = inl (finishes _ Fault h.0.0 r.1 r.0 h.0.1 h.1 (λ e. absurd (true≢false (sym e))))
  ends (Err (failure.Faulty operand fault)) h r = inl (finishes _ Fault h.0.0 r.1 r.0 h.0.1 h.1 (λ e. absurd (true≢false (sym e))))
  ends (Err failure.SizesDiffer) h r = inl (finishes _ Fault h.0.0 r.1 r.0 h.0.1 h.1 (λ e. absurd (true≢false (sym e))))
  ends (Err failure.WriteFailed) h r = inr (inr (could_not_write h r))
  ends (Err failure.OutOfMemory) h r = inr (inl (ran_out h r))
