use Rattle.std.proofs.Common.{◌≡◌, take}
use Rattle.sums.proofs.computed_table.are_equal.Given as goal

abbrev pub invariant-loop-k : goal.invariant-loop-k
invariant-loop-k l = take l.k l.rows ≡ take l.k l.others
