use Rattle.std.proofs.Common.{IfSome, ◌<◌}
use Rattle.regions.proofs.pairwise.most_opposite_input.Given as goal

abbrev pub invariant-loop-i : goal.invariant-loop-i
invariant-loop-i l = IfSome l.best (λ i. i < l.inputs)
