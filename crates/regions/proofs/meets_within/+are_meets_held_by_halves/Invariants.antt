use Rattle.std.proofs.Common.{length}
use Rattle.regions.proofs.meets_within.+are_meets_held_by_halves.Given as goal

abbrev pub decreases-are_meets_held_by_halves : goal.decreases-are_meets_held_by_halves
decreases-are_meets_held_by_halves l = length l.rows.now
