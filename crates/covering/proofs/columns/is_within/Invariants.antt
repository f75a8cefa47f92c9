use Rattle.std.proofs.Common.{◌≡◌, take, true}
use Rattle.covering.specs.Reduce.{holds_all}
use Rattle.covering.proofs.columns.is_within.Given as goal

abbrev pub invariant-loop-number : goal.invariant-loop-number
invariant-loop-number l = holds_all l.other (take l.number-index l.row) ≡ true
