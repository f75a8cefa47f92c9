use Rattle.std.proofs.Common.{◌+◌, sym, subst, take}
use Rattle.std.proofs.lemmas.List.{take_all}
use Rattle.rows.specs.Places.{places}
use Rattle.sums.specs.Outside.{AreNear}
use Rattle.sums.proofs.OffSets.{near-kept, near-left}
use Rattle.sums.proofs.OverRegion.{apart_from_all}
use Rattle.sums.proofs.containing.rows_meeting_any.Goals as goal
use Rattle.sums.proofs.containing.rows_meeting_any.Goals.{then-any_meets+in_ok-push_copy, else-any_meets}

pub loop-row-preserved : goal.loop-row-preserved
loop-row-preserved c = λ size cubes.
    let s = places c.args.cubes.now in
    let rows = c.args.rows.now in
    let at = c.loop-row.row-index in
    let row = c.row-item.result in
    let meeting = c.loop-row.meeting.items in
    elim c.if-any_meets.branch [
      | then-any_meets+in_ok-push_copy w ↦
          subst (λ v. AreNear size s (take (at + 1) rows) v.items) (sym w.meeting-is)
          (near-kept size s rows at row meeting cubes c.loop-row-test.true c.row-item.is (c.loop-row.invariant size cubes) w.push_copy.new.rows.items
          w.in_ok-push_copy.ensures)
      | else-any_meets w ↦
          subst (λ v. AreNear size s (take (at + 1) rows) v.items) (sym w.meeting-is)
          (near-left size s rows at row meeting cubes c.loop-row-test.true c.row-item.is (c.loop-row.invariant size cubes)
          (apart_from_all c.args.cubes.now row (c.any_meets.ensures.0 w.if-any_meets.false)))
    ]

pub returns : goal.returns
returns c = λ size cubes.
    subst (λ l. AreNear size (places c.args.cubes.now) l c.loop-row.meeting.items) (take_all c.loop-row.row-index c.args.rows.now c.loop-row-test.false) (c.loop-row.invariant size cubes)
