use Rattle.std.proofs.Common.{ap, sym}
use Rattle.espresso.specs.Tool.{refusal_of}
use Rattle.espresso.proofs.Outputs.{wrote_or_failed}
use Rattle.espresso.proofs.run_files.refuse.Goals as goal

pub returns-in-Usage-clause-message : goal.returns-in-Usage-clause-message
returns-in-Usage-clause-message g c =
    wrote_or_failed _ _ (g.E.Output.calls c.args.err.now) (g.E.Output.calls c.write_bytes.new.out) c.write_bytes.result _ _
    (ap (λ fault. (refusal_of fault).message) (sym c.in-Usage.is)) c.write_bytes.ensures.bytes c.write_bytes.ensures.count

pub returns-in-Memory-clause-message : goal.returns-in-Memory-clause-message
returns-in-Memory-clause-message g c =
    let call = c.write_bytes-in-Memory in
    wrote_or_failed _ _ (g.E.Output.calls c.args.err.now) (g.E.Output.calls call.new.out) call.result _ _
    (ap (λ fault. (refusal_of fault).message) (sym c.in-Memory.is)) call.ensures.bytes call.ensures.count
