use Rattle.std.proofs.Common.{◌≡◌, ◌≤◌, ℕ, length}
use Rattle.covering.specs.Lagrange.{Carries}
use Rattle.covering.specs.Table.{items_of}
use Rattle.covering.specs.Weights.{at}
use Rattle.covering.proofs.cuts.counts_of.Given as goal

abbrev pub invariant-loop-row : goal.invariant-loop-row
invariant-loop-row l = record {
  carries : Carries (items_of l.rows) l.counts.items l.number;
  most : (c : ℕ) → at l.counts.items c ≤ l.number;
  few : l.number ≤ l.row-index;
  long : length l.counts.items ≡ l.columns;
}
