use Rattle.std.proofs.Common.{◌-◌, ◌≤◌, length}
use Rattle.cube.specs.declared.symbol.Symbol.TheVariants.{Zero, One}
use Rattle.rows.specs.Splits.{Grows}
use Rattle.rows.proofs.literal_counts.LiteralCounts.add.Given as goal

abbrev pub invariant-loop-i : goal.invariant-loop-i
invariant-loop-i l =
    (l.from ≤ length l.row.symbols)
    × Grows Zero l.row l.from l.initial.self.zeros.items l.self.zeros.items × Grows One l.row l.from l.initial.self.ones.items l.self.ones.items

abbrev pub decreases-loop-i : goal.decreases-loop-i
decreases-loop-i l = length l.row.symbols - l.from
