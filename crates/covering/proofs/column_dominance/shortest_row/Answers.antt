use Rattle.std.proofs.Common.{◌∙◌, ap}
use Rattle.covering.specs.Table.{has}
use Rattle.covering.proofs.Dominance.{has_index}
use Rattle.covering.proofs.column_dominance.shortest_row.Goals as goal
use Rattle.covering.proofs.column_dominance.shortest_row.Goals.{then-entry, else-entry}

pub loop-number-preserved : goal.loop-number-preserved
loop-number-preserved c = elim c.if-entry.branch [
  | then-entry w ↦ ap (λ n. has n c.args.among.now) w.shortest-is ∙ has_index c.args.among.now c.loop-number.number-index c.loop-number-test.true
  | else-entry w ↦ ap (λ n. has n c.args.among.now) w.shortest-is ∙ c.loop-number.invariant
]
