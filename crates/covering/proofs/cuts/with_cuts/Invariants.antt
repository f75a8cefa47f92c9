use Rattle.std.proofs.Common.{◌≡◌, ◌<◌, ◌^◌, length}
use Rattle.covering.specs.Lagrange.{Carries}
use Rattle.covering.specs.Table.{items_of}
use Rattle.covering.proofs.cuts.with_cuts.Given as goal

abbrev pub invariant-loop-cut : goal.invariant-loop-cut
invariant-loop-cut l = record {
  carries : Carries (items_of l.rows) l.loads.items l.total;
  long : length l.loads.items ≡ length l.scaled_costs;
  fits : l.total < 2 ^ 128;
}
