use Rattle.std.proofs.Common.{◌∙◌, sym, subst}
use Rattle.std.proofs.lemmas.Result.{IfOk-weaker}
use Rattle.cube.specs.Cube.{IsCube}
use Rattle.rows.specs.Reduced.{HasSameCubes}
use Rattle.rows.proofs.Lists.{all_members, members_all}
use Rattle.rows.proofs.SumSorted.{AreCubes-same}
use Rattle.sums.proofs.SumStep.{sum_of_meets}
use Rattle.sums.proofs.recursion.sum_of_both.Goals as goal

pub meets-requires-clause-rows : goal.meets-requires-clause-rows
meets-requires-clause-rows c =
    AreCubes-same c.args.shape c.args.rows.items c.deref.result.now
    (subst (HasSameCubes c.args.rows.items) (sym c.deref.ensures.value) c.in_ok-mine.ensures.cubes) c.requires.rows

pub meets-requires-clause-others : goal.meets-requires-clause-others
meets-requires-clause-others c =
    AreCubes-same c.args.shape c.args.others.items c.deref-2.result.now
    (subst (HasSameCubes c.args.others.items) (sym c.deref-2.ensures.value) c.in_ok-theirs.ensures.cubes) c.requires.others

pub sum_of_difference-requires-clause-minuend : goal.sum_of_difference-requires-clause-minuend
sum_of_difference-requires-clause-minuend c =
    members_all (IsCube c.args.shape) c.in_ok-fewer.fewer.items
    (λ d h. all_members (IsCube c.args.shape) c.in_ok-met.met.items c.in_ok-met.ensures.are_cubes d (c.in_ok-fewer.ensures.within d h))

pub returns : goal.returns
returns c =
    IfOk-weaker c.sum_of_difference.result _ _ (λ rows h. h
    ∙ sum_of_meets c.args.shape c.args.rows.items c.args.others.items c.deref.result.now c.deref-2.result.now c.in_ok-met.met.items c.in_ok-fewer.fewer.items c.new.result.items
    (subst (HasSameCubes c.args.rows.items) (sym c.deref.ensures.value) c.in_ok-mine.ensures.cubes)
    (subst (HasSameCubes c.args.others.items) (sym c.deref-2.ensures.value) c.in_ok-theirs.ensures.cubes)
    c.in_ok-met.ensures c.in_ok-fewer.ensures c.new.ensures.items)
    c.sum_of_difference.ensures
