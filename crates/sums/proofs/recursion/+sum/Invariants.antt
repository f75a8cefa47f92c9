use Rattle.std.proofs.Common.{◌+◌, ◌*◌}
use Rattle.rows.specs.Parts.{live}
use Rattle.sums.proofs.recursion.+sum.Given as goal

abbrev pub decreases-difference_sum : goal.decreases-difference_sum
decreases-difference_sum l = 6 * live l.shape.inputs l.minuend.items l.subtrahend.items + 5

abbrev pub decreases-sum_by_case : goal.decreases-sum_by_case
decreases-sum_by_case l = 6 * live l.shape.inputs l.minuend.items l.subtrahend.items + 4

abbrev pub decreases-remembered_sum : goal.decreases-remembered_sum
decreases-remembered_sum l = 6 * live l.shape.inputs l.minuend.items l.subtrahend.items + 3

abbrev pub decreases-sum_by_split : goal.decreases-sum_by_split
decreases-sum_by_split l = 6 * live l.shape.inputs l.minuend.now l.subtrahend.now + 2

abbrev pub decreases-sum_at_value : goal.decreases-sum_at_value
decreases-sum_at_value l = 6 * live l.shape.inputs l.minuend.now l.subtrahend.now

abbrev pub decreases-sum_by_parts : goal.decreases-sum_by_parts
decreases-sum_by_parts l = 6 * live l.shape.inputs l.parts.one.items l.parts.other.items + 1
