use Rattle.std.proofs.Common.{◌+◌, ◌*◌, ◌-◌}
use Rattle.sums.proofs.meets.+meets_by_thirds.Given as goal

abbrev pub decreases-meets_by_thirds : goal.decreases-meets_by_thirds
decreases-meets_by_thirds l = 2 * (l.shape.inputs - l.at) + 1

abbrev pub decreases-meets_with_both : goal.decreases-meets_with_both
decreases-meets_with_both l = 2 * (l.shape.inputs - l.at) + 2
