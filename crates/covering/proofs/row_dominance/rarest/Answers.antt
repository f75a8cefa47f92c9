use Rattle.std.proofs.Common.{◌∙◌, ap}
use Rattle.covering.specs.Table.{has}
use Rattle.covering.proofs.Dominance.{has_index}
use Rattle.covering.proofs.row_dominance.rarest.Goals as goal
use Rattle.covering.proofs.row_dominance.rarest.Goals.{then-entry, else-entry}

pub loop-column-preserved : goal.loop-column-preserved
loop-column-preserved c = elim c.if-entry.branch [
  | then-entry w ↦ ap (λ n. has n c.args.row.now) w.rarest-is ∙ has_index c.args.row.now c.loop-column.column-index c.loop-column-test.true
  | else-entry w ↦ ap (λ n. has n c.args.row.now) w.rarest-is ∙ c.loop-column.invariant
]
