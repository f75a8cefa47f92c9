use Rattle.std.proofs.Common.{◌∙◌, refl}
use Rattle.cube.specs.Cube.{difference}
use Rattle.rows.specs.Places.{places}
use Rattle.sums.proofs.SumStep.{AreCubes-complete_sum, Cubes-sum, sum_of_list}
use Rattle.cover.proofs.complete_sums.complete_sum.Goals as goal

pub from_cubes-requires : goal.from_cubes-requires
from_cubes-requires c =
    AreCubes-complete_sum c.shape-shape.result (difference (places c.in_ok-rows.rows.items) (places c.new.result.items)) c.in_ok-sum.sum.items c.in_ok-sum.ensures

pub returns : goal.returns
returns c =
    let size = c.args.list.now.size in
    let rows = c.in_ok-rows.rows.items in
    c.from_cubes.ensures
    ∙ Cubes-sum size c.shape-shape.result c.in_ok-sum.sum.items (difference (places rows) (places c.new.result.items)) (places c.args.list.now.cubes)
    c.shape-shape.ensures.size c.in_ok-sum.ensures
    (sum_of_list size rows rows c.new.result.items refl c.new.ensures.items ∙ c.in_ok-rows.ensures.sum)
