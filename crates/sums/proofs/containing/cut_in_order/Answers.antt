use Rattle.std.proofs.Common.{sym, subst}
use Rattle.std.proofs.lemmas.Option.{IfSome_then}
use Rattle.std.proofs.lemmas.Result.{IfOk-weaker}
use Rattle.cube.specs.Cube.{IsCube}
use Rattle.rows.specs.Cubes.{AreCubes}
use Rattle.rows.specs.Places.{places}
use Rattle.sums.specs.Containing.{Cuts}
use Rattle.sums.specs.Outside.{AreNear}
use Rattle.rows.proofs.Lists.{all_members, members_all}
use Rattle.rows.proofs.SumSorted.{AreCubes-same}
use Rattle.sums.proofs.OverRegion.{Cuts-in_order}
use Rattle.sums.proofs.containing.cut_in_order.Goals as goal

pub cut_by_rows-requires-clause-rows : goal.cut_by_rows-requires-clause-rows
cut_by_rows-requires-clause-rows c =
    let at_distance_one = c.in_ok-at_distance_one.at_distance_one.items in
    subst (AreCubes c.args.shape) (sym c.deref.ensures.value)
    (members_all (IsCube c.args.shape) at_distance_one (λ d k. all_members (IsCube c.args.shape) c.args.rows.now c.requires.rows d (c.in_ok-at_distance_one.ensures d k)))

pub rows_meeting_any-requires : goal.rows_meeting_any-requires
rows_meeting_any-requires c = record {
  size = c.args.shape;
  are_cubes = subst (AreCubes c.args.shape) (sym c.deref-2.ensures.value) (rw c.in-Some.is at c.in_ok-core.ensures.cubes);
  are_others = c.requires.rows;
}

pub cut_by_rows-requires-2-clause-rows : goal.cut_by_rows-requires-2-clause-rows
cut_by_rows-requires-2-clause-rows c =
    subst (AreCubes c.args.shape) (sym c.deref-3.ensures.value)
    (AreCubes-same c.args.shape c.in_ok-meeting.meeting.items c.in_ok-meeting-2.meeting.items c.in_ok-meeting-2.ensures (c.in_ok-meeting.ensures c.args.shape c.requires.rows).are_cubes)

pub returns : goal.returns
returns c =
    let size = c.args.shape in
    let region = c.args.region.now in
    let core = c.in-Some.core.items in
    let one = rw c.in-Some.is at c.in_ok-core.ensures.cuts in
    IfOk-weaker c.cut_by_rows-2.result _ _
    (λ o k. IfSome_then o k (λ v two.
    Cuts-in_order size region c.args.rows.now c.in_ok-at_distance_one.at_distance_one.items c.in_ok-meeting.meeting.items c.in_ok-meeting-2.meeting.items c.args.cubes.items core v.items
    c.in_ok-at_distance_one.ensures
    (subst (λ l. AreNear size (places l) c.args.rows.now c.in_ok-meeting.meeting.items) c.deref-2.ensures.value (c.in_ok-meeting.ensures size c.requires.rows))
    c.in_ok-meeting-2.ensures
    (subst (λ l. Cuts size region (places l) c.args.cubes.items core) c.deref.ensures.value one)
    (subst (λ l. Cuts size region (places l) core v.items) c.deref-3.ensures.value two)))
    c.cut_by_rows-2.ensures.cuts
