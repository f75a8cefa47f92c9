use Rattle.espresso.proofs.failure.say_fault.Goals as goal

pub returns-clause-bytes : goal.returns-clause-bytes
returns-clause-bytes g c = c.write_next.ensures.bytes _ _ (rw c.text_of_kind.ensures at (c.write_next-done-4.ensures.bytes _ _
    (c.write_next-done-3.ensures.bytes _ _ (c.write_number-done.ensures.bytes _ _
    (c.write_next-done-2.ensures.bytes _ _ (c.write_next-done.ensures.bytes _ _ c.write_bytes-done.ensures.bytes))))))
