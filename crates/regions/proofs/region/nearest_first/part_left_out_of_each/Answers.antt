use Rattle.std.proofs.Common.{◌+◌, sym, subst, take}
use Rattle.std.specs.List.{AllZip}
use Rattle.std.proofs.lemmas.List.{take_all}
use Rattle.cube.specs.Cube.{HasSize, size_of}
use Rattle.regions.specs.LeftOut.{LeavesOut}
use Rattle.rows.specs.Places.{behind}
use Rattle.regions.proofs.Halves.{known_at}
use Rattle.regions.proofs.LeftOut.{leaves_out_at, all_zip_next}
use Rattle.regions.proofs.region.nearest_first.part_left_out_of_each.Goals as goal

pub loop-region-preserved : goal.loop-region-preserved
loop-region-preserved c =
    let shape = c.args.shape in
    let regions = c.args.regions.now in
    let rows = behind c.args.rows.now in
    let at = c.loop-region.region-index in
    let region = c.region-item.result in
    let lt = c.loop-region-test.true in
    let size = subst (λ d. HasSize d shape) (sym c.region-item.is) (c.requires.regions at region lt) in
    let own = leaves_out_at (size_of region) shape rows region size.0 size.1 c.in_ok-part.part c.in_ok-part.ensures.part in (
      subst (λ l. AllZip (LeavesOut shape rows) (take (at + 1) regions) l) (sym c.in_ok-push.ensures.items)
          (all_zip_next (LeavesOut shape rows) regions c.loop-region.parts.items at region c.in_ok-part.part lt c.region-item.is c.loop-region.invariant.0 own),
      known_at (size_of region) shape c.part_left_out_nearest_first.new.learned.known.items rows size.0 size.1 c.in_ok-part.ensures.known,
    )

pub returns : goal.returns
returns c =
    subst (λ l. AllZip (LeavesOut c.args.shape (behind c.args.rows.now)) l c.loop-region.parts.items)
    (take_all c.loop-region.region-index c.args.regions.now c.loop-region-test.false) c.loop-region.invariant.0
