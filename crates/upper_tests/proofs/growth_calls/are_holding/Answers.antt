use Rattle.std.proofs.Common.{ap, subst, ◌∙◌}
use Rattle.cube.specs.Cube.{HasSize}
use Rattle.rows.specs.Places.{behind}
use Rattle.rows.proofs.Lists.{sizes_of_cubes}
use Rattle.upper_tests.proofs.growth_calls.are_holding.Goals as goal

pub hold_cube-requires : goal.hold_cube-requires
hold_cube-requires c =
    sizes_of_cubes c.args.list.now.size c.as_slice.result.now c.as_slice.ensures.cubes c.deref.result.now (ap behind c.deref.ensures.value ∙ c.in_ok-rows.ensures) c.args.cube.now
    (subst (HasSize c.args.cube.now) (c.in_ok-same_shape.ensures ∙ c.shape.ensures.size) c.shape-2.ensures.size)
