use Rattle.std.proofs.Common.{◌∙◌, ap, not}
use Rattle.cube.specs.Cube.{difference}
use Rattle.rows.specs.Places.{places, universal}
use Rattle.sums.proofs.SumStep.{AreCubes-complete_sum, Cubes-sum, sum_of_outside}
use Rattle.cover.proofs.list.Cover.complement.Goals as goal

pub from_cubes-requires : goal.from_cubes-requires
from_cubes-requires c =
    AreCubes-complete_sum c.shape-shape.result (difference (places c.push.new.self.items) (places c.into_cubes-subtrahend.result.items)) c.in_ok-sum.sum.items c.in_ok-sum.ensures

pub returns : goal.returns
returns c =
    c.from_cubes.ensures
    ∙ Cubes-sum c.args.self.now.size c.shape-shape.result c.in_ok-sum.sum.items (difference (places c.push.new.self.items) (places c.into_cubes-subtrahend.result.items))
    (λ p. not (places c.args.self.now.cubes p)) c.shape-shape.ensures.size c.in_ok-sum.ensures
    (sum_of_outside c.args.self.now.size c.new-minuend.result.items c.push.new.self.items c.into_cubes-subtrahend.result.items c.args.self.now.cubes c.in_ok-everything.everything
    c.new-minuend.ensures.items c.in_ok-push.ensures.items (c.in_ok-everything.ensures.value ∙ ap universal c.shape-shape.ensures.size)
    (c.into_cubes-subtrahend.ensures.value ∙ ap (λ v. v.cubes) c.in_ok-try_clone.ensures))
