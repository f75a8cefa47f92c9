use Rattle.std.proofs.Common.{◌≡◌, take, true}
use Rattle.std.specs.Prelude.{◌==◌}
use Rattle.std.specs.List.{list_all}
use Rattle.covering.specs.Cover.{counted}
use Rattle.covering.proofs.least_covers.all_cost.Given as goal

abbrev pub invariant-loop-column : goal.invariant-loop-column
invariant-loop-column l = list_all (λ c. counted l.choice l.literals c == l.same) (take l.column-index l.columns) ≡ true
