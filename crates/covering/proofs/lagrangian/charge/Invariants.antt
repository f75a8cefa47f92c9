use Rattle.std.proofs.Common.{◌≡◌, ◌<◌, ◌+◌, ℕ, cond, take, length}
use Rattle.covering.specs.Table.{has}
use Rattle.covering.specs.Weights.{at}
use Rattle.covering.proofs.lagrangian.charge.Given as goal

abbrev pub invariant-loop-column : goal.invariant-loop-column
invariant-loop-column l = record {
  charged : (c : ℕ) → c < length l.loads.items → at l.loads.items c ≡ at l.initial.loads.items c + cond (has c (take l.column-index l.row)) l.weight 0;
  long : length l.loads.items ≡ length l.initial.loads.items;
}
