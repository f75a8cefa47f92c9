use Rattle.std.proofs.Common.{arith}
use Rattle.pla.proofs.Marks.{shared_more}
use Rattle.pla.proofs.row_lines.shared_marks.Goals as goal

pub loop-k-preserved : goal.loop-k-preserved
loop-k-preserved c mask some = shared_more c.args.bytes.now c.loop-k.k c.loop-k.shared mask (omega arith) (c.loop-k.invariant mask) some
