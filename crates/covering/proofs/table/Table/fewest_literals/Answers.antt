use Rattle.covering.proofs.table.Table.fewest_literals.Goals as goal

pub loop-low-preserved-in-None : goal.loop-low-preserved-in-None
loop-low-preserved-in-None c = record { cover = c.loop-low.invariant.cover; fits = c.loop-low.invariant.fits; few = rw c.in-None.is at c.in_ok-cover_with_fewer_literals.ensures }

pub loop-low-preserved : goal.loop-low-preserved
loop-low-preserved c =
    let fewer = rw c.in-Some.is at c.in_ok-cover_with_fewer_literals.ensures in
    record { cover = fewer.cover; fits = fewer.fits; few = c.loop-low.invariant.few }
