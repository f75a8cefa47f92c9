use Rattle.std.proofs.Common.{length, take, ap, ◌∙◌, arith}
use Rattle.std.proofs.Math.Seq.{take-length}
use Rattle.pla.proofs.Putting.{used_more}
use Rattle.pla.proofs.print_buffer.PrintBuffer.append.Goals as goal

pub returns : goal.returns
returns c =
    let bytes = c.args.bytes.now in
    used_more c.args.self.now c.self.inside.bytes c.copy_from_slice.new.self _ bytes c.self.inside.used (length bytes) (omega arith) (omega (arith, ap length c.copy_from_slice.ensures.after))
    c.self.view_is (ap (take (length bytes)) c.copy_from_slice.ensures.after ∙ take-length bytes)
