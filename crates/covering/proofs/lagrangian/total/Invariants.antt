use Rattle.std.proofs.Common.{◌≡◌, ◌≤◌, ◌*◌, ◌^◌, take}
use Rattle.covering.specs.Weights.{total}
use Rattle.covering.proofs.lagrangian.total.Given as goal

abbrev pub invariant-loop-weight : goal.invariant-loop-weight
invariant-loop-weight l = record { sum : l.total ≡ total (take l.weight-index l.weights); bound : l.total ≤ l.weight-index * 2 ^ 64 }
