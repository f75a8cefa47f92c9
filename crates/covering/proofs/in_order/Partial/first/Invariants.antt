use Rattle.std.proofs.Common.{◌≡◌, ◌≤◌, ℕ, true}
use Rattle.covering.specs.Table.{has}
use Rattle.covering.specs.Search.{IsPartial, Continues}
use Rattle.covering.proofs.in_order.Partial.first.Given as goal

abbrev pub invariant-loop-column : goal.invariant-loop-column
invariant-loop-column l = record {
  partial : IsPartial l.choice l.cutoff.columns l.cutoff.cost l.partial.table l.partial.witness.items;
  next : Continues l.choice l.fn.self.table l.partial.table;
  first : (c : ℕ) → has c l.partial.table.live ≡ true → l.column ≤ c;
}
