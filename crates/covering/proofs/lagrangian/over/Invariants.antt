use Rattle.std.proofs.Common.{◌≡◌}
use Rattle.std.specs.List.{range_with_len}
use Rattle.covering.specs.Cover.{sum_over}
use Rattle.covering.specs.Lagrange.{beyond}
use Rattle.covering.proofs.lagrangian.over.Given as goal

abbrev pub invariant-loop-column : goal.invariant-loop-column
invariant-loop-column l = l.over ≡ sum_over (beyond l.loads l.scaled_costs) (range_with_len 0 l.column)
