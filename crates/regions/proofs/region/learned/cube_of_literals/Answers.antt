use Rattle.std.proofs.Common.{◌<◌, subst}
use Rattle.rows.proofs.OneOutput.{output_cube}
use Rattle.regions.proofs.region.learned.cube_of_literals.Goals as goal

pub loop-literal-init : goal.loop-literal-init
loop-literal-init c =
    let lt = subst (λ n. c.args.output < n) c.outputs.ensures.value c.if-output-outputs.false in
    let is = output_cube c.args.shape c.args.output c.in_ok-cube.cube lt c.in_ok-cube.ensures in
    (is.has_size, is.some_output)
