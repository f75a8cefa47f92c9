use Rattle.std.proofs.Common.{Some}
use Rattle.espresso.proofs.source_reading.OptionSourceSecondSource.read.Goals as goal

pub returns : goal.returns
returns g c = let rest = c.read_second.ensures in
    (Some rest.0, ((λ first faultless. (c.requires.two, faultless, rw c.in-Some.is rest.1)), rest.2))
