use Rattle.std.proofs.Common.{take}
use Rattle.rows.specs.Places.{behind}
use Rattle.rows.specs.Splits.{CountsLiterals}
use Rattle.rows.proofs.literal_counts.LiteralCounts.of.Given as goal

abbrev pub invariant-loop-row : goal.invariant-loop-row
invariant-loop-row l = CountsLiterals l.inputs l.counts.zeros.items l.counts.ones.items (behind (take l.row-index l.rows))
