use Rattle.std.proofs.Common.{◌≡◌, take, false}
use Rattle.std.specs.List.{list_any}
use Rattle.covering.specs.Search.{is_blank}
use Rattle.covering.proofs.steps.any_blank.Given as goal

abbrev pub invariant-loop-row : goal.invariant-loop-row
invariant-loop-row l = list_any (λ row. is_blank row.items) (take l.row-index l.rows) ≡ false
