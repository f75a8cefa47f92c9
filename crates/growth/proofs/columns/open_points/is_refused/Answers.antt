use Rattle.growth.proofs.Joins.{needs_no_join}
use Rattle.growth.proofs.columns.open_points.is_refused.Goals as goal

pub returns-then-meets_row-clause-refused : goal.returns-then-meets_row-clause-refused
returns-then-meets_row-clause-refused c _ =
    needs_no_join c.args.off.now c.args.cube.now c.args.point.now c.in_ok-wide.wide c.requires.cube c.requires.point c.in_ok-wide.ensures.value (c.meets_row.ensures c.if-meets_row.true)

pub returns-in-Some-clause-refused : goal.returns-in-Some-clause-refused
returns-in-Some-clause-refused c _ =
    needs_no_join c.args.off.now c.args.cube.now c.args.point.now c.in_ok-wide.wide c.requires.cube c.requires.point c.in_ok-wide.ensures.value (rw c.in-Some.is at c.row_that_meets.ensures)
