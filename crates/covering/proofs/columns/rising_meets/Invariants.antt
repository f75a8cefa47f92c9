use Rattle.std.proofs.Common.{◌≡◌, take, false}
use Rattle.covering.specs.Cover.{meets}
use Rattle.covering.proofs.columns.rising_meets.Given as goal

abbrev pub invariant-loop-column : goal.invariant-loop-column
invariant-loop-column l = meets l.columns (take l.column-index l.row) ≡ false
