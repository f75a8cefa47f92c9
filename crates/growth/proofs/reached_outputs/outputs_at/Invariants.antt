use Rattle.std.proofs.Common.{take}
use Rattle.growth.specs.Growth.{AreReached}
use Rattle.growth.proofs.reached_outputs.outputs_at.Given as goal

abbrev pub invariant-loop-row : goal.invariant-loop-row
invariant-loop-row l = AreReached l.fn.region (take l.row-index l.row-items) l.here
