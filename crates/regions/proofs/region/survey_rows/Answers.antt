use Rattle.std.proofs.Common.{◌≡◌, ◌≤◌, IfNone, IfSome, length, ap, sym, subst, ◌∙◌, arith, refl}
use Rattle.std.proofs.lemmas.List.{take_all}
use Rattle.cube.specs.Cube.{SameSize, size_of}
use Rattle.rows.specs.Places.{behind, meeting}
use Rattle.regions.specs.Reason.{IsReason, AreAmong}
use Rattle.rows.proofs.Lists.{behind_member}
use Rattle.rows.proofs.Meeting.{meeting-kept, meeting-skipped}
use Rattle.regions.proofs.Reasons.{reason_of_row, among_none}
use Rattle.regions.proofs.region.survey_rows.Goals as goal
use Rattle.regions.proofs.region.survey_rows.Goals.{then-not-disjoint+else-open-eq0+in_ok-add, else-not-disjoint}

pub loop-row-init : goal.loop-row-init
loop-row-init c = record {
  none = refl;
  kept = ap behind c.new.ensures.items;
  among = subst (λ l. AreAmong l c.new.result.items) (sym c.new-2.ensures.items) (among_none c.new.result.items);
  some = λ lt. let e = ap (λ l. length l) c.new.ensures.items in absurd (omega (arith, lt, e));
}

pub returns-then-contains-clause-found : goal.returns-then-contains-clause-found
returns-then-contains-clause-found c =
    reason_of_row (behind c.args.rows.now) c.args.region.now c.row-item.result.now c.in_ok-try_clone.field-0
    (behind_member c.args.rows.now c.loop-row.row-index c.row-item.result c.loop-row-test.true c.row-item.is)
    (subst (λ x. SameSize x.now c.args.region.now) (sym c.row-item.is) (c.requires c.loop-row.row-index c.row-item.result c.loop-row-test.true))
    c.in_ok-try_clone.ensures.value (c.contains.ensures.0 c.if-contains.true)

pub returns-then-contains-clause-nearest : goal.returns-then-contains-clause-nearest
returns-then-contains-clause-nearest c = c.loop-row.invariant.among

pub returns-then-contains-clause-some : goal.returns-then-contains-clause-some
returns-then-contains-clause-some c = c.loop-row.invariant.some

pub add-requires : goal.add-requires
add-requires c = c.loop-row.invariant.among

pub loop-row-preserved : goal.loop-row-preserved
loop-row-preserved c =
    let size = subst (λ x. SameSize x.now c.args.region.now) (sym c.row-item.is) (c.requires c.loop-row.row-index c.row-item.result c.loop-row-test.true) in
    elim c.if-not-disjoint.branch [
      | then-not-disjoint+else-open-eq0+in_ok-add w ↦ record {
        none = ap (λ s. s.found) w.survey-is ∙ w.add.ensures.found ∙ c.loop-row.invariant.none;
        kept =
            ap (λ s. behind s.meeting.items) w.survey-is ∙ ap behind w.in_ok-add.ensures.meeting
            ∙ meeting-kept c.args.region.now c.args.rows.now c.loop-row.row-index c.row-item.result c.disjoint.result c.loop-row-test.true c.row-item.is size
            c.disjoint.ensures c.loop-row.survey.meeting.items c.loop-row.invariant.kept w.if-not-disjoint.true;
        among = subst (λ s. AreAmong s.nearest.items s.meeting.items) (sym w.survey-is) w.in_ok-add.ensures.nearest;
        some = λ _. subst (λ s. 1 ≤ length s.nearest.items) (sym w.survey-is) w.in_ok-add.ensures.some;
      }
      | else-not-disjoint w ↦ record {
        none = ap (λ s. s.found) w.survey-is ∙ c.loop-row.invariant.none;
        kept =
            ap (λ s. behind s.meeting.items) w.survey-is
            ∙ meeting-skipped c.args.region.now c.args.rows.now c.loop-row.row-index c.row-item.result c.disjoint.result c.loop-row-test.true c.row-item.is size
            c.disjoint.ensures c.loop-row.survey.meeting.items c.loop-row.invariant.kept w.if-not-disjoint.false;
        among = subst (λ s. AreAmong s.nearest.items s.meeting.items) (sym w.survey-is) c.loop-row.invariant.among;
        some = subst (λ s. 1 ≤ length s.meeting.items → 1 ≤ length s.nearest.items) (sym w.survey-is) c.loop-row.invariant.some;
      }
    ]

pub returns-clause-found : goal.returns-clause-found
returns-clause-found c =
    subst (λ o. IfSome o (λ d. IsReason c.args.region.now (behind c.args.rows.now) d)) (sym c.loop-row.invariant.none) _

pub returns-clause-nearest : goal.returns-clause-nearest
returns-clause-nearest c = c.loop-row.invariant.among

pub returns-clause-some : goal.returns-clause-some
returns-clause-some c = c.loop-row.invariant.some

pub returns-clause-meeting : goal.returns-clause-meeting
returns-clause-meeting c =
    let region = c.args.region.now in
    let met = c.loop-row.survey.meeting.items in
    subst (λ o. IfNone o (behind met ≡ meeting (size_of region) region (behind c.args.rows.now))) (sym c.loop-row.invariant.none)
    (c.loop-row.invariant.kept ∙ ap (λ l. meeting (size_of region) region (behind l)) (take_all c.loop-row.row-index c.args.rows.now c.loop-row-test.false))
