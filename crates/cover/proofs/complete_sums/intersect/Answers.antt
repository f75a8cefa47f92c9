use Rattle.std.proofs.Common.{◌∙◌, ap, sym, subst}
use Rattle.cube.specs.Cube.{intersection}
use Rattle.rows.specs.Cubes.{AreCubes}
use Rattle.rows.specs.Places.{places}
use Rattle.sums.proofs.SumStep.{AreCubes-complete_sum, Cubes-sum, sum_of_both_lists}
use Rattle.cover.proofs.complete_sums.intersect.Goals as goal

pub sum_of_both-requires-clause-others : goal.sum_of_both-requires-clause-others
sum_of_both-requires-clause-others c =
    subst (λ z. AreCubes z c.into_cubes-theirs.result.items)
    (ap (λ v. v.size) c.in_ok-try_clone-2.ensures ∙ c.requires ∙ sym c.shape-shape.ensures.size) c.into_cubes-theirs.ensures.cubes

pub from_cubes-requires : goal.from_cubes-requires
from_cubes-requires c =
    AreCubes-complete_sum c.shape-shape.result (intersection (places c.into_cubes-mine.result.items) (places c.into_cubes-theirs.result.items)) c.in_ok-sum.sum.items c.in_ok-sum.ensures

pub returns : goal.returns
returns c =
    c.from_cubes.ensures
    ∙ Cubes-sum c.args.list.now.size c.shape-shape.result c.in_ok-sum.sum.items (intersection (places c.into_cubes-mine.result.items) (places c.into_cubes-theirs.result.items))
    (intersection (places c.args.list.now.cubes) (places c.args.other.now.cubes)) c.shape-shape.ensures.size c.in_ok-sum.ensures
    (sum_of_both_lists c.args.list.now.size c.into_cubes-mine.result.items c.args.list.now.cubes c.into_cubes-theirs.result.items c.args.other.now.cubes
    (c.into_cubes-mine.ensures.value ∙ ap (λ v. v.cubes) c.in_ok-try_clone.ensures) (c.into_cubes-theirs.ensures.value ∙ ap (λ v. v.cubes) c.in_ok-try_clone-2.ensures))
