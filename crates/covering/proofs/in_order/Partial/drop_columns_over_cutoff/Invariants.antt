use Rattle.std.proofs.Common.{◌≡◌, length}
use Rattle.covering.specs.Search.{IsPartial, Continues}
use Rattle.covering.proofs.in_order.Partial.drop_columns_over_cutoff.Given as goal

abbrev pub invariant-loop-partial : goal.invariant-loop-partial
invariant-loop-partial l = record {
  partial : IsPartial l.choice l.cutoff.columns l.cutoff.cost l.partial.table l.partial.witness.items;
  next : Continues l.choice l.fn.self.table l.partial.table;
  rows : length l.partial.table.rows ≡ length l.fn.self.table.rows;
}

abbrev pub decreases-loop-partial : goal.decreases-loop-partial
decreases-loop-partial l = length l.partial.table.live
