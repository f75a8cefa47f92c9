use Rattle.std.proofs.Common.{take}
use Rattle.covering.specs.Table.{items_of}
use Rattle.covering.specs.Reduce.{TransposeSoFar}
use Rattle.covering.proofs.transpose.transpose.Given as goal

abbrev pub invariant-loop-i : goal.invariant-loop-i
invariant-loop-i l = TransposeSoFar l.columns l.i (items_of (take l.i l.rows)) (items_of l.transpose.items)
