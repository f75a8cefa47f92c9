use Rattle.std.proofs.Common.{subst}
use Rattle.growth.specs.Growth.{LiesInOneOf}
use Rattle.minimum.proofs.CommonPlace.{common_whole}
use Rattle.minimum.proofs.essential_by_neighbours.common_place.next_list.Goals as goal

pub loop-number-preserved : goal.loop-number-preserved
loop-number-preserved c h =
    let region = c.args.region.now in
    c.loop-number.invariant (common_whole region c.args.lists.now c.loop-number.number c.index-lists-number.result c.loop-number-test.true c.index-lists-number.is
    (subst (λ l. LiesInOneOf l region) c.as_slice.ensures.value (c.lies_in_one_of.ensures.0 c.if-not-lies_in_one_of.false)) h)
