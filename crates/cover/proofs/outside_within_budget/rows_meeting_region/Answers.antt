use Rattle.std.proofs.Common.{◌+◌, [], sym, subst, take}
use Rattle.std.proofs.lemmas.List.{take_all}
use Rattle.cube.specs.Cube.{holds}
use Rattle.sums.specs.Outside.{AreNear}
use Rattle.sums.proofs.OffSets.{near-none, near-kept, near-left}
use Rattle.cover.proofs.outside_within_budget.rows_meeting_region.Goals as goal
use Rattle.cover.proofs.outside_within_budget.rows_meeting_region.Goals.{then-not-disjoint+in_ok-push_copy, else-not-disjoint}

pub loop-row-init : goal.loop-row-init
loop-row-init c = λ size cubes. subst (AreNear size (holds c.args.region.now) []) (sym c.new-meeting.ensures.items) (near-none size (holds c.args.region.now))

pub loop-row-preserved : goal.loop-row-preserved
loop-row-preserved c = λ size cubes.
    let region = holds c.args.region.now in
    let rows = c.args.rows.now in
    let at = c.loop-row.row-index in
    let row = c.row-item.result in
    let meeting = c.loop-row.meeting.items in
    elim c.if-not-disjoint.branch [
      | then-not-disjoint+in_ok-push_copy w ↦
          subst (λ v. AreNear size region (take (at + 1) rows) v.items) (sym w.meeting-is)
          (near-kept size region rows at row meeting cubes c.loop-row-test.true c.row-item.is (c.loop-row.invariant size cubes) w.push_copy.new.rows.items
          w.in_ok-push_copy.ensures)
      | else-not-disjoint w ↦
          subst (λ v. AreNear size region (take (at + 1) rows) v.items) (sym w.meeting-is)
          (near-left size region rows at row meeting cubes c.loop-row-test.true c.row-item.is (c.loop-row.invariant size cubes) (c.disjoint.ensures.0 w.if-not-disjoint.false))
    ]

pub returns : goal.returns
returns c = λ size cubes.
    subst (λ l. AreNear size (holds c.args.region.now) l c.loop-row.meeting.items) (take_all c.loop-row.row-index c.args.rows.now c.loop-row-test.false) (c.loop-row.invariant size cubes)
