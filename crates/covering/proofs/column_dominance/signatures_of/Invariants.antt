use Rattle.std.proofs.Common.{◌≡◌, map, take}
use Rattle.covering.specs.Table.{items_of}
use Rattle.covering.specs.Reduce.{signature_of}
use Rattle.covering.proofs.column_dominance.signatures_of.Given as goal

abbrev pub invariant-loop-rows : goal.invariant-loop-rows
invariant-loop-rows l = l.signatures.items ≡ map signature_of (items_of (take l.rows-index l.transpose))
