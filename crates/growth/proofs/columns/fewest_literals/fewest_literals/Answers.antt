use Rattle.std.proofs.Common.{ap}
use Rattle.growth.proofs.FewestLiterals.{fewest_freed, all_dashes}
use Rattle.growth.proofs.columns.fewest_literals.fewest_literals.Goals as goal

pub returns : goal.returns
returns c =
    let wide = c.in_ok-wide.wide in
    fewest_freed c.args.off.now c.args.cube.now wide c.in_ok-best.best c.in_ok-best.ensures.cube c.in_ok-best.ensures.over
    (all_dashes wide.symbols c.shape.result.inputs (ap (λ d. d.symbols) c.in_ok-wide.ensures.value)) (c.in_ok-is_best_between.ensures c.if-not-branch.false)
