use Rattle.pla.specs.Text.{row_text}
use Rattle.pla.proofs.Putting.{puts_after, puts_kept}
use Rattle.pla.proofs.print_buffer.PrintBuffer.write_next_row.Goals as goal

pub returns-clause-bytes : goal.returns-clause-bytes
returns-clause-bytes g c =
    let text = row_text c.args.mark c.args.other c.args.cube.now in
    puts_after _ _ _ _ _ _ text c.args.done c.make_room-done.result c.make_room-done.result c.make_room-done.ensures.bytes
    (puts_kept _ _ _ text c.make_room-done.result c.append_row.ensures)
