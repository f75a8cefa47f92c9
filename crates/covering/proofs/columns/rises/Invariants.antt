use Rattle.std.proofs.Common.{◌≡◌, drop}
use Rattle.covering.specs.Table.{is_rising}
use Rattle.covering.proofs.columns.rises.Given as goal

abbrev pub invariant-loop-x : goal.invariant-loop-x
invariant-loop-x l = is_rising l.end 0 l.row ≡ is_rising l.end l.low (drop l.x-index l.row)
