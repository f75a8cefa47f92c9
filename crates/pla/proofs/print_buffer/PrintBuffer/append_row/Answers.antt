use Rattle.std.proofs.Common.{arith}
use Rattle.pla.specs.Text.{row_text}
use Rattle.pla.proofs.Putting.{used_more}
use Rattle.pla.proofs.print_buffer.PrintBuffer.append_row.Goals as goal

pub returns : goal.returns
returns c = used_more c.args.self.now c.self.inside.bytes c.put_row-count.new.row _ (row_text c.args.mark c.args.other c.args.cube.now) c.self.inside.used c.put_row-count.result (omega arith) c.put_row-count.ensures.fits c.self.view_is c.put_row-count.ensures.text
