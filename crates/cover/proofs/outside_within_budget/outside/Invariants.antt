use Rattle.std.proofs.Common.{ltb}
use Rattle.sums.specs.Outside.{IsRest}
use Rattle.cover.proofs.outside_within_budget.outside.Given as goal

abbrev pub invariant-loop-j : goal.invariant-loop-j
invariant-loop-j l = IsRest l.fn.list.size (λ p. ltb p.output l.j) l.fn.list.cubes l.off.items
