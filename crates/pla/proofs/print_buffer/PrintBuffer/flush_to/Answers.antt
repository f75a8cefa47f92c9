use Rattle.std.proofs.Common.{◌≡◌, refl, ap, subst, Result, Ok, Err}
use Rattle.std.specs.Prelude.{OnErr}
use Rattle.pla.specs.Device.{Continues}
use Rattle.pla.proofs.Putting.{puts_flushed}
use Rattle.pla.proofs.print_buffer.PrintBuffer.flush_to.Goals as goal

-- what is read from an output that was left alone stays
untouched : {W A T E : Type 0} (taken : W → A) (old new : W) (done : Result T E) → OnErr done (new ≡ old) → OnErr done (taken new ≡ taken old)
untouched taken old new (Ok x) h = tt
untouched taken old new (Err e) h = ap taken h

pub returns-clause-bytes : goal.returns-clause-bytes
returns-clause-bytes g c =
    let written = subst (Continues (g.W.Output.taken c.args.out.now) c.args.done (g.W.Output.taken c.write_next-done.new.out) c.write_next-done.result) c.self.view_is c.write_next-done.ensures.bytes in
    puts_flushed _ _ c.args.self.now _ c.args.done c.write_next-done.result refl c.write_next-done.ensures.failed (untouched g.W.Output.taken c.args.out.now c.write_next-done.new.out c.args.done c.write_next-done.ensures.untouched) written
