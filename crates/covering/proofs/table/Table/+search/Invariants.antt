use Rattle.std.proofs.Common.{◌+◌, ◌*◌, length}
use Rattle.covering.specs.Search.{IsPruned}
use Rattle.covering.proofs.table.Table.+search.Given as goal

abbrev pub decreases-search : goal.decreases-search
decreases-search l = 5 * length l.self.live + 4

abbrev pub decreases-branch_in_fewer_columns : goal.decreases-branch_in_fewer_columns
decreases-branch_in_fewer_columns l = 5 * length l.self.now.live + 3

abbrev pub decreases-branch_renumbered : goal.decreases-branch_renumbered
decreases-branch_renumbered l = 5 * length l.self.now.live + 2

abbrev pub decreases-branch : goal.decreases-branch
decreases-branch l = 5 * length l.self.now.live + 1

abbrev pub decreases-take_or_drop : goal.decreases-take_or_drop
decreases-take_or_drop l = 5 * length l.self.now.live

abbrev pub invariant-branch-loop-alloc : goal.invariant-branch-loop-alloc
invariant-branch-loop-alloc l = IsPruned l.choice l.cutoff.columns l.cutoff.cost l.fn.self l.table

abbrev pub decreases-branch-loop-alloc : goal.decreases-branch-loop-alloc
decreases-branch-loop-alloc l = length l.table.live
