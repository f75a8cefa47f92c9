use Rattle.std.proofs.Common.{◌≡◌, take}
use Rattle.covering.specs.Reduce.{signature_of}
use Rattle.covering.proofs.column_dominance.signature_of.Given as goal

abbrev pub invariant-loop-row : goal.invariant-loop-row
invariant-loop-row l = l.signature ≡ signature_of (take l.row-index l.rows)
