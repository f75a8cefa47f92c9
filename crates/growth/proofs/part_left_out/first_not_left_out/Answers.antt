use Rattle.std.proofs.Common.{sym, subst, ◌∙◌}
use Rattle.std.proofs.lemmas.List.{take_all}
use Rattle.cube.specs.Cube.{SameSize, IsDisjoint, holds}
use Rattle.rows.specs.Places.{places, behind}
use Rattle.cover.proofs.SumChoice.{place_of}
use Rattle.growth.proofs.LeftOut.{left_out_more}
use Rattle.growth.proofs.part_left_out.first_not_left_out.Goals as goal

pub leave_out-requires : goal.leave_out-requires
leave_out-requires c =
    let row = subst (λ d. SameSize d.now c.args.region.now) (sym c.row-item.is) (c.requires.first c.loop-row.row-index c.row-item.result c.loop-row-test.true) in
    let part = c.loop-row.invariant.size in
    (row.0 ∙ sym part.0, row.1 ∙ sym part.1)

pub loop-row-preserved : goal.loop-row-preserved
loop-row-preserved c =
    let so = c.loop-row.invariant in
    let step = c.in_ok-leave_out.ensures in
    record {
      size = (step.size.0 ∙ so.size.0, step.size.1 ∙ so.size.1);
      within = λ p here. so.within p (step.within p here);
    }

pub leave_out-requires-in-loop-row-2 : goal.leave_out-requires-in-loop-row-2
leave_out-requires-in-loop-row-2 c =
    let row = subst (λ d. SameSize d.now c.args.region.now) (sym c.row-item-in-loop-row-2.is) (c.requires.sizes c.loop-row-2.row-index c.row-item-in-loop-row-2.result c.loop-row-2-test.true) in
    let part = c.loop-row-2.invariant.size in
    (row.0 ∙ sym part.0, row.1 ∙ sym part.1)

pub loop-row-2-preserved : goal.loop-row-2-preserved
loop-row-2-preserved c =
    let so = c.loop-row-2.invariant in
    let step = c.in_ok-leave_out-2.ensures in
    record {
      size = (step.size.0 ∙ so.size.0, step.size.1 ∙ so.size.1);
      within = λ p here. so.within p (step.within p here);
      apart = left_out_more c.args.rows.now c.loop-row-2.row-index c.row-item-in-loop-row-2.result c.loop-row-2.part c.leave_out-in-loop-row-2.new.part c.loop-row-2-test.true c.row-item-in-loop-row-2.is so.apart step.within (step.apart c.if-not-branch.false);
    }

pub returns-clause-none : goal.returns-clause-none
returns-clause-none c = λ held.
    let place = place_of _ c.loop-row-2.part c.shape.ensures.is_cube in
    let apart = subst (λ l. IsDisjoint (holds c.loop-row-2.part) (places (behind l))) (take_all c.loop-row-2.row-index c.args.rows.now c.loop-row-2-test.false) c.loop-row-2.invariant.apart in
    apart place.0 place.1 (held place.0 (c.loop-row-2.invariant.within place.0 place.1))
