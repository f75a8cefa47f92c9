use Rattle.std.proofs.Common.{◌<◌, All}
use Rattle.cover.proofs.containment.inputs_best_first.Given as goal

abbrev pub invariant-loop-i : goal.invariant-loop-i
invariant-loop-i l = All (λ p. p.1 < l.list.size.inputs) l.i-items × All (λ i. i < l.list.size.inputs) l.order.items
