use Rattle.std.proofs.Common.{◌≡◌, ◌≤◌, ◌*◌, ◌^◌, take}
use Rattle.covering.specs.Cover.{counted, sum_over}
use Rattle.covering.proofs.choice.total_cost.Given as goal

abbrev pub invariant-loop-column : goal.invariant-loop-column
invariant-loop-column l = record { sum : l.total ≡ sum_over (counted l.choice l.literals) (take l.column-index l.columns); bound : l.total ≤ l.column-index * 2 ^ 32 }
