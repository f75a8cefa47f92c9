use Rattle.std.proofs.Common.{◌≡◌, length}
use Rattle.rows.proofs.literal_counts.LiteralCounts.of_sample.Given as goal

abbrev pub invariant-loop-k : goal.invariant-loop-k
invariant-loop-k l = (length l.counts.zeros.items ≡ l.fn.shape.inputs) × (length l.counts.ones.items ≡ l.fn.shape.inputs)
