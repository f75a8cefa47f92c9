use Rattle.std.proofs.Common.{◌≡◌, take, true}
use Rattle.std.specs.List.{list_all}
use Rattle.covering.specs.Cover.{meets}
use Rattle.covering.proofs.columns.rising_meets_all.Given as goal

abbrev pub invariant-loop-row : goal.invariant-loop-row
invariant-loop-row l = list_all (λ row. meets l.columns row.items) (take l.row-index l.rows) ≡ true
