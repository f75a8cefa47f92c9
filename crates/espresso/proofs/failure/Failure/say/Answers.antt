use Rattle.std.proofs.Common.{◌∙◌, ap, sym}
use Rattle.espresso.specs.Messages.{closed_message, fault_message}
use Rattle.espresso.specs.Steps.{message_of}
use Rattle.espresso.proofs.Outputs.{wrote_or_failed}
use Rattle.espresso.proofs.failure.Failure.say.Goals as goal

pub returns-in-NotOpened : goal.returns-in-NotOpened
returns-in-NotOpened g c =
    wrote_or_failed _ _ (g.E.Output.calls c.args.err.now) (g.E.Output.calls c.say_closed.new.err) c.say_closed.result _ _ (ap closed_message c.choose.ensures ∙ ap (message_of _) (sym c.in-NotOpened.is)) c.say_closed.ensures.bytes c.say_closed.ensures.count

pub returns-in-Faulty : goal.returns-in-Faulty
returns-in-Faulty g c =
    wrote_or_failed _ _ (g.E.Output.calls c.args.err.now) (g.E.Output.calls c.say_fault.new.err) c.say_fault.result _ _ (ap (λ name. fault_message name c.in-Faulty.fault) c.choose-in-Faulty.ensures ∙ ap (message_of _) (sym c.in-Faulty.is))
    c.say_fault.ensures.bytes c.say_fault.ensures.count

pub returns-in-SizesDiffer : goal.returns-in-SizesDiffer
returns-in-SizesDiffer g c =
    wrote_or_failed _ _ (g.E.Output.calls c.args.err.now) (g.E.Output.calls c.write_bytes.new.out) c.write_bytes.result _ _ (ap (message_of _) (sym c.in-SizesDiffer.is)) c.write_bytes.ensures.bytes c.write_bytes.ensures.count

pub returns-in-WriteFailed : goal.returns-in-WriteFailed
returns-in-WriteFailed g c =
    let call = c.write_bytes-in-WriteFailed in
    wrote_or_failed _ _ (g.E.Output.calls c.args.err.now) (g.E.Output.calls call.new.out) call.result _ _ (ap (message_of _) (sym c.in-WriteFailed.is)) call.ensures.bytes call.ensures.count

pub returns-in-OutOfMemory : goal.returns-in-OutOfMemory
returns-in-OutOfMemory g c =
    let call = c.write_bytes-in-OutOfMemory in
    wrote_or_failed _ _ (g.E.Output.calls c.args.err.now) (g.E.Output.calls call.new.out) call.result _ _ (ap (message_of _) (sym c.in-OutOfMemory.is)) call.ensures.bytes call.ensures.count
