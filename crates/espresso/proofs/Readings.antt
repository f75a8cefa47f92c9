-- How a source was read.
use Rattle.std.proofs.Common.{◌≡◌, ◌∙◌, ℕ, refl, sym, ap, subst, List, Option, Some, None, Ok, Err}
use Rattle.std.specs.Prelude.{⊤}
use Rattle.cube.specs.Limits.{format_limits}
use Rattle.pla.specs.declared.ending.Ending.{Ending}
use Rattle.pla.specs.declared.fault.ReadFault.{ReadFault}
use Rattle.pla.specs.declared.fault.ReadKind.{ReadKind}
use Rattle.pla.specs.declared.fault.ReadKind.TheVariants.{WriteFailed, OutOfMemory}
use Rattle.pla.specs.Description.{Description, description_of}
use Rattle.pla.specs.declared.calls.WriteCalls.{WriteCalls}
use Rattle.pla.specs.Device.{AllWritten, AppendsFront, LastUnwritten}
use Rattle.pla.specs.Echoes.{due}
use Rattle.pla.specs.Fault.{fault_of}
use Rattle.pla.specs.Keywords.{looked_at}
use Rattle.pla.specs.Lines.{lines_of}
use Rattle.pla.specs.Reads.{MatchCause, MayEnd}
use Rattle.std.specs.Io.KnownBytes.{Appends}
use Rattle.espresso.specs.declared.failure.Operand.{Operand}
use Rattle.espresso.specs.Messages.{fault_message}
use Rattle.espresso.specs.Run.{Read, IsFileOf, trace}
use Rattle.espresso.specs.Steps.{IsReadAs, PassesOn, failure_by}
use Rattle.espresso.specs.Tool.{File, echo_by, unless_faulty}
use Rattle.espresso.specs.Tool as tool
use Rattle.espresso.specs.Words.{Request, Text}

-- each file that was taken has these bytes
each_file : (bytes : List ℕ) (met : Option Ending) (P : File → Type 0) → ((e : Ending) → MayEnd met e → P (tool.Delivered bytes e)) → (file : File) → IsFileOf (Read bytes met) file → P file
each_file bytes met P h tool.Closed is = absurd is
each_file bytes met P h (tool.Delivered delivered e) is = subst (λ d. P (tool.Delivered d e)) (sym is.0) (h e is.1)

module _ (line : Request) (operand : Operand) (name : Text) (bytes : List ℕ) (met : Option Ending) (old mid : Option (List ℕ)) (before count : WriteCalls) where
  -- the echoes that are due, whatever the ending
  abbrev echoes : List ℕ
  echoes = due format_limits (echo_by line.eat) met bytes

  abbrev due_at : Ending → List ℕ
  due_at e = due format_limits (echo_by line.eat) (Some e) bytes

  abbrev described : Ending → Description
  described e = description_of format_limits (looked_at (lines_of e bytes))

  faulty_passes : (fault : ReadFault) → ((e : Ending) → MayEnd met e → fault_of format_limits e bytes ≡ Some fault)
      → ((e : Ending) → MayEnd met e → due_at e ≡ echoes) → Appends old mid echoes
      → PassesOn line name (Read bytes met) (trace old mid before count) (Err (fault_message name fault))
  faulty_passes fault faulty same written = record {
    wrote = written;
    passed = each_file bytes met _ same;
    comes_to = each_file bytes met _ (λ e may. ap (λ f. unless_faulty name f (described e)) (faulty e may));
  }

  -- a reading that stopped, by its cause
  pub stopped_reading : (fault : ReadFault) (kind : ReadKind)
      → ((e : Ending) → MayEnd met e → MatchCause kind (fault.line ≡ 0) (fault.line ≡ 0) (fault_of format_limits e bytes ≡ Some fault))
      → ((e : Ending) → MayEnd met e → MatchCause kind ⊤ ⊤ (due_at e ≡ echoes))
      → MatchCause kind (AppendsFront old mid echoes) (AppendsFront old mid echoes) (Appends old mid echoes)
      → MatchCause kind (LastUnwritten before count) (AllWritten before count) (AllWritten before count)
      → IsReadAs line operand name (Read bytes met) (trace old mid before count) (Err (failure_by operand fault kind))
  stopped_reading fault WriteFailed faulty same written counted = (written, counted)
  stopped_reading fault OutOfMemory faulty same written counted = (written, counted)
  stopped_reading fault _ faulty same written counted = (faulty_passes fault faulty same written, refl, counted)

  -- a reading that came to a description
  pub whole_reading : (pla : Description) → ((e : Ending) → MayEnd met e → (fault_of format_limits e bytes ≡ None) × (pla ≡ described e))
      → ((e : Ending) → MayEnd met e → due_at e ≡ echoes) → Appends old mid echoes → AllWritten before count
      → IsReadAs line operand name (Read bytes met) (trace old mid before count) (Ok pla)
  whole_reading pla answer same written counted = (
    record {
      wrote = written;
      passed = each_file bytes met _ same;
      comes_to = each_file bytes met _ (λ e may. ap (λ f. unless_faulty name f (described e)) (answer e may).0 ∙ ap (λ d. Ok d) (sym (answer e may).1));
    },
    counted,
    λ e may. (answer e may).0,
  )
