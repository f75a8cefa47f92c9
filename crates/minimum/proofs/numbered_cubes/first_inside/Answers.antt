use Rattle.std.proofs.Common.{ap, ◌∙◌}
use Rattle.std.proofs.lemmas.List.{take_all}
use Rattle.covering.specs.Table.{has}
use Rattle.minimum.proofs.RegionCandidates.{outside_next}
use Rattle.minimum.proofs.numbered_cubes.first_inside.Goals as goal

pub loop-number-preserved : goal.loop-number-preserved
loop-number-preserved c =
    outside_next c.args.cubes.now c.args.region.now c.args.numbers.now c.loop-number.number-index c.loop-number-test.true c.index-cubes-number.result
    (c.requires.below c.loop-number.number-index 0 c.loop-number-test.true) c.index-cubes-number.is c.in_default.ensures c.loop-number.invariant

pub returns : goal.returns
returns c n h = c.loop-number.invariant n (ap (has n) (take_all c.loop-number.number-index c.args.numbers.now c.loop-number-test.false) ∙ h)
