-- A process whose words say a line.
use Rattle.std.proofs.Common.{◌≡◌, ◌∙◌, ℕ, refl, sym, ap, subst, inl, inr, List, Option, Some, None, Result, Ok, Err}
use Rattle.std.specs.Option.{option_map_or}
use Rattle.espresso.specs.declared.line.LineFault.{LineFault}
use Rattle.pla.specs.declared.calls.WriteCalls.{WriteCalls}
use Rattle.espresso.specs.declared.line.LineFault.TheVariants.{Usage, Memory}
use Rattle.espresso.specs.declared.sources.Source.{Source}
use Rattle.espresso.specs.declared.status.Status.{Status}
use Rattle.espresso.specs.Program.{Executes, RunsLine, RunsOn, line_said, tool_on}
use Rattle.espresso.specs.Run.{HasOutcome, Intake, Trace, Wrote, WroteOrFailed, trace}
use Rattle.espresso.specs.Tool.{File, Outcome, outcome_of, refusal_of, refused}
use Rattle.espresso.specs.Words.{Request, Text, line_of}
use Rattle.espresso.proofs.Outputs.{appends_nothing}

pub executes : {O D : Type 0} (opens : Option Text → O → Source D → O → Type 0) (takes : Source D → Source D → Intake → Type 0) (words : Result (List Text) LineFault) (texts : List Text) (line : Request) (before after : O) (out err : Trace) (status : Status)
    → words ≡ Ok texts → line_of texts ≡ Some line → RunsLine opens takes line (outcome_of line) before after out err status → Executes opens takes words before after out err status
executes opens takes words texts line before after out err status is said (inl h) = inr (inl (texts, is, h))
executes opens takes words texts line before after out err status is said (inr h) =
    let same : tool_on words ≡ outcome_of line = ap tool_on is ∙ ap (λ (l : Option Request). λ (first second : File). option_map_or (λ m. outcome_of m first second) l refused) said in
    inr (inr (line, ap line_said is ∙ said, subst (λ (answer : File → File → Outcome). RunsOn opens takes line answer before after out err status) (sym same) h))

-- words that say no line, with the message of this fault
module _ {O D : Type 0} (opens : Option Text → O → Source D → O → Type 0) (takes : Source D → Source D → Intake → Type 0) (words : Result (List Text) LineFault) (before : O)
    (taken : Option (List ℕ)) (calls : WriteCalls) (err : Trace) (status : Status) where
  abbrev out : Trace
  out = trace taken taken calls calls

  refuses : (fault : LineFault) → line_said words ≡ None → ((first second : File) → tool_on words first second ≡ refusal_of fault)
      → status ≡ (refusal_of fault).status → WroteOrFailed err (refusal_of fault).message → Executes opens takes words before before out err status
  refuses fault none are same said = inl (record {
    refused = none;
    unopened = refl;
    outcome = λ first second. subst (λ (o : Outcome). HasOutcome o out err status) (sym (are first second)) (record { output = nothing fault; message = said; same_status = same });
    untouched = refl;
  })
    where
      nothing : (f : LineFault) → Wrote out (refusal_of f).output
      nothing Usage = appends_nothing taken
      nothing Memory = appends_nothing taken

  pub no_text : (fault : LineFault) → words ≡ Err fault → status ≡ (refusal_of fault).status → WroteOrFailed err (refusal_of fault).message → Executes opens takes words before before out err status
  no_text fault is = refuses fault (ap line_said is) (λ first second. ap (λ w. tool_on w first second) is)

  pub no_line : (texts : List Text) → words ≡ Ok texts → (fault : LineFault) → (fault ≡ Usage → line_of texts ≡ None)
      → status ≡ (refusal_of fault).status → WroteOrFailed err (refusal_of fault).message → Executes opens takes words before before out err status
  no_line texts is Usage none = let no = ap line_said is ∙ none refl in
      refuses Usage no (λ first second. ap (λ w. tool_on w first second) is ∙ ap (λ (l : Option Request). option_map_or (λ m. outcome_of m first second) l refused) (none refl))
  no_line texts is Memory none = λ same said. inr (inl (texts, is, record { unopened = refl; uncalled = (refl, refl); message = said; same_status = same }))
