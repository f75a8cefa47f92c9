use Rattle.std.proofs.Common.{◌+◌, ◌*◌}
use Rattle.regions.proofs.pairwise.+are_related.Given as goal

abbrev pub decreases-are_related : goal.decreases-are_related
decreases-are_related l = 2 * l.depth

abbrev pub decreases-are_related_at : goal.decreases-are_related_at
decreases-are_related_at l = 2 * l.depth + 1
