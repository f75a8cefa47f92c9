use Rattle.std.proofs.Common.{rules, ◌≡◌, false}
use Rattle.espresso.specs.Tool.{same_size}
use Rattle.espresso.proofs.source_reading.read_other.Goals as goal

pub returns-else-inputs : goal.returns-else-inputs
returns-else-inputs g c = let read = rw c.in_ok-other.was at c.read.ensures in
    let differ : same_size c.args.pla.now.size c.in_ok-other.other.size ≡ false = search rules in
    (read.0, (c.in_ok-other.other, read.1, differ))
