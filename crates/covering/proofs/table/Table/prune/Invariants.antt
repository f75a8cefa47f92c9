use Rattle.std.proofs.Common.{length}
use Rattle.covering.specs.Search.{IsPruned}
use Rattle.covering.proofs.table.Table.prune.Given as goal

abbrev pub invariant-loop-next : goal.invariant-loop-next
invariant-loop-next l = IsPruned l.choice l.cutoff.columns l.cutoff.cost l.fn.self l.table

abbrev pub decreases-loop-next : goal.decreases-loop-next
decreases-loop-next l = length l.table.live
