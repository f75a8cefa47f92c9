use Rattle.std.proofs.Common.{◌≡◌, take}
use Rattle.covering.specs.Steps.{without}
use Rattle.covering.proofs.steps.without_column.Given as goal

abbrev pub invariant-loop-x : goal.invariant-loop-x
invariant-loop-x l = l.others.items ≡ without l.column (take l.x-index l.xs)
