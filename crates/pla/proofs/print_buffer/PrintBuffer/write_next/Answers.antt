use Rattle.std.proofs.Common.{◌≡◌, [], arith}
use Rattle.std.proofs.lemmas.List.{nil_from_length}
use Rattle.pla.proofs.Putting.{puts_after, puts_kept, puts_past}
use Rattle.pla.proofs.print_buffer.PrintBuffer.write_next.Goals as goal

pub returns-then-bytes-gt-BUFFER_BYTES-clause-bytes : goal.returns-then-bytes-gt-BUFFER_BYTES-clause-bytes
returns-then-bytes-gt-BUFFER_BYTES-clause-bytes g c =
    let none : c.make_room-done.new.self ≡ [] = nil_from_length c.make_room-done.new.self (omega (arith, c.make_room-done.ensures.room, c.if-bytes-gt-BUFFER_BYTES.true)) in
    puts_after _ _ _ _ _ _ c.args.bytes.now c.args.done c.make_room-done.result c.write_next.result c.make_room-done.ensures.bytes
    (puts_past _ _ _ _ c.args.bytes.now c.make_room-done.result c.write_next.result none none c.write_next.ensures.bytes)

pub returns-clause-bytes : goal.returns-clause-bytes
returns-clause-bytes g c =
    puts_after _ _ _ _ _ _ c.args.bytes.now c.args.done c.make_room-done.result c.make_room-done.result c.make_room-done.ensures.bytes
    (puts_kept _ _ _ c.args.bytes.now c.make_room-done.result c.append.ensures)
