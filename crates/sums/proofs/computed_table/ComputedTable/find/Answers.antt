use Rattle.std.proofs.Common.{◌∙◌, ap}
use Rattle.cube.specs.Cube.{difference}
use Rattle.cube.specs.Sum.{complete_sum}
use Rattle.rows.specs.Places.{places}
use Rattle.sums.proofs.SumStep.{sum_of_lists}
use Rattle.sums.proofs.computed_table.ComputedTable.find.Goals as goal

pub returns : goal.returns
returns c =
    let known = c.in-Some-Some.known in
    let same = c.is_of.ensures c.if-not-is_of.false in
    c.in_ok-clone_cubes.ensures ∙ c.deref-3.ensures.value ∙ known.is_sum
    ∙ ap (λ size. complete_sum size (difference (places known.minuend.items) (places known.subtrahend.items))) same.0
    ∙ sum_of_lists c.args.shape known.minuend.items c.args.minuend.now known.subtrahend.items c.args.subtrahend.now same.1 same.2
