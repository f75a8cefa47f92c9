use Rattle.std.proofs.Common.{◌-◌, ◌≤◌, length}
use Rattle.sums.proofs.input_groups.join_inputs.Given as goal

abbrev pub invariant-loop-from : goal.invariant-loop-from
invariant-loop-from l = l.from ≤ length l.row.symbols

abbrev pub decreases-loop-from : goal.decreases-loop-from
decreases-loop-from l = length l.row.symbols - l.from
