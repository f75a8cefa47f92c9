use Rattle.std.proofs.Common.{All, sym, subst}
use Rattle.cube.specs.Cube.{SameSize, IsSubset, holds}
use Rattle.rows.specs.Places.{places, behind}
use Rattle.regions.proofs.Reasons.{sizes_among, within_among}
use Rattle.regions.proofs.region.nearest_first.part_left_out_nearest_first.Goals as goal

pub holds_by_splits-requires : goal.holds_by_splits-requires
holds_by_splits-requires c =
    subst (All (λ d. SameSize d.now c.args.region.now)) (sym c.deref.ensures.value)
    (sizes_among c.in_ok-nearest.nearest.items c.args.rows.now c.args.region.now c.requires.sizes c.in_ok-nearest.ensures)

pub returns-then-branch-clause-part : goal.returns-then-branch-clause-part
returns-then-branch-clause-part c =
    within_among c.in_ok-nearest.nearest.items c.args.rows.now (holds c.args.region.now) c.in_ok-nearest.ensures
    (subst (λ l. IsSubset (holds c.args.region.now) (places (behind l))) c.deref.ensures.value (c.in_ok-holds_by_splits.ensures c.if-branch.true))
