use Rattle.std.proofs.lemmas.Bool.{not-true}
use Rattle.cube.specs.Cube.{holds}
use Rattle.sums.proofs.OffSets.{outside_rows}
use Rattle.cover.proofs.outside_within_budget.is_in_region_outside_rows.Goals as goal

pub returns-then-contains : goal.returns-then-contains
returns-then-contains c = λ e.
    outside_rows (holds c.args.region.now) c.args.rows.now c.args.cube.now (c.contains.ensures.0 c.if-contains.true) (c.any_meets.ensures.0 (not-true c.any_meets.result e))
