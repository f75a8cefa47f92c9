use Rattle.std.proofs.Common.{◌∙◌}
use Rattle.std.proofs.lemmas.Result.{IfOk-weaker}
use Rattle.rows.proofs.SumSorted.{AreCubes-same}
use Rattle.sums.proofs.SumStep.{sum_of_same}
use Rattle.sums.proofs.recursion.sum_of_difference.Goals as goal

pub difference_sum-requires-clause-minuend : goal.difference_sum-requires-clause-minuend
difference_sum-requires-clause-minuend c = AreCubes-same c.args.shape c.args.minuend.items c.in_ok-minuend.minuend.items c.in_ok-minuend.ensures.cubes c.requires.minuend

pub difference_sum-requires-clause-subtrahend : goal.difference_sum-requires-clause-subtrahend
difference_sum-requires-clause-subtrahend c = AreCubes-same c.args.shape c.args.subtrahend.items c.in_ok-subtrahend.subtrahend.items c.in_ok-subtrahend.ensures.cubes c.requires.subtrahend

pub returns : goal.returns
returns c =
    IfOk-weaker c.difference_sum.result _ _ (λ rows h. h
    ∙ sum_of_same c.args.shape c.args.minuend.items c.in_ok-minuend.minuend.items c.args.subtrahend.items c.in_ok-subtrahend.subtrahend.items c.in_ok-minuend.ensures.cubes c.in_ok-subtrahend.ensures.cubes)
    c.difference_sum.ensures
