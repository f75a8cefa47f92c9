use Rattle.std.proofs.Common.{take}
use Rattle.std.specs.List.{AllZip}
use Rattle.regions.specs.LeftOut.{LeavesOut}
use Rattle.rows.specs.Places.{behind}
use Rattle.regions.specs.Reason.{AreKnown}
use Rattle.regions.proofs.region.nearest_first.part_left_out_of_each.Given as goal

abbrev pub invariant-loop-region : goal.invariant-loop-region
invariant-loop-region l = AllZip (LeavesOut l.shape (behind l.rows)) (take l.region-index l.regions) l.parts.items
    × AreKnown l.shape l.learned.known.items (behind l.rows)
