use Rattle.std.proofs.Common.{◌≡◌, take, true}
use Rattle.std.specs.List.{list_all}
use Rattle.covering.specs.Parts.{is_on_one_side}
use Rattle.covering.proofs.partition.are_apart.Given as goal

abbrev pub invariant-loop-row : goal.invariant-loop-row
invariant-loop-row l = list_all (λ row. is_on_one_side l.marks l.others row.items) (take l.row-index l.rows) ≡ true
