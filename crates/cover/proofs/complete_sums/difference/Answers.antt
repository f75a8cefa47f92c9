use Rattle.std.proofs.Common.{◌∙◌, ap, sym, subst}
use Rattle.cube.specs.Cube.{difference}
use Rattle.cube.proofs.SumLemmas.{complete_sum-same}
use Rattle.rows.specs.Cubes.{AreCubes}
use Rattle.rows.specs.Places.{places}
use Rattle.sums.proofs.SumStep.{AreCubes-complete_sum, Cubes-sum}
use Rattle.cover.proofs.complete_sums.difference.Goals as goal

pub sum_of_difference-requires-clause-subtrahend : goal.sum_of_difference-requires-clause-subtrahend
sum_of_difference-requires-clause-subtrahend c =
    subst (λ z. AreCubes z c.into_cubes-subtrahend.result.items)
    (ap (λ v. v.size) c.in_ok-try_clone.ensures ∙ c.requires ∙ sym c.shape-shape.ensures.size) c.into_cubes-subtrahend.ensures.cubes

pub from_cubes-requires : goal.from_cubes-requires
from_cubes-requires c =
    AreCubes-complete_sum c.shape-shape.result (difference (places c.in_ok-minuend.minuend.items) (places c.into_cubes-subtrahend.result.items)) c.in_ok-sum.sum.items c.in_ok-sum.ensures

pub returns : goal.returns
returns c =
    let size = c.args.list.now.size in
    let minuend = c.in_ok-minuend.minuend.items in
    let wanted = difference (places c.args.list.now.cubes) (places c.args.other.now.cubes) in
    c.from_cubes.ensures
    ∙ Cubes-sum size c.shape-shape.result c.in_ok-sum.sum.items (difference (places minuend) (places c.into_cubes-subtrahend.result.items)) wanted
    c.shape-shape.ensures.size c.in_ok-sum.ensures
    (complete_sum-same size (difference (places minuend) (places c.into_cubes-subtrahend.result.items)) wanted
    (λ p. ap (λ l. difference (places minuend) (places l) p) (c.into_cubes-subtrahend.ensures.value ∙ ap (λ v. v.cubes) c.in_ok-try_clone.ensures) ∙ c.in_ok-minuend.ensures.places p))
