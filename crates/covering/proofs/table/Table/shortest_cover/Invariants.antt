use Rattle.std.proofs.Common.{length}
use Rattle.covering.specs.Cover.{IsCover}
use Rattle.covering.proofs.table.Table.shortest_cover.Given as goal

abbrev pub invariant-loop-columns : goal.invariant-loop-columns
invariant-loop-columns l = IsCover l.self l.cover.items

abbrev pub decreases-loop-columns : goal.decreases-loop-columns
decreases-loop-columns l = length l.cover.items
