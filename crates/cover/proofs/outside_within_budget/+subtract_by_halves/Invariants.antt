use Rattle.std.proofs.Common.{length}
use Rattle.cover.proofs.outside_within_budget.+subtract_by_halves.Given as goal

abbrev pub decreases-subtract_by_halves : goal.decreases-subtract_by_halves
decreases-subtract_by_halves l = length l.rows.now
