use Rattle.std.proofs.Common.{◌≡◌, drop}
use Rattle.std.specs.List.{list_any}
use Rattle.cube.specs.Bytes.{has_mark}
use Rattle.cube.proofs.bytes.has_any_mark.Given as goal

abbrev pub invariant-loop-b : goal.invariant-loop-b
invariant-loop-b l = list_any (has_mark l.marks l.mask) l.bytes ≡ list_any (has_mark l.marks l.mask) (drop l.b-index l.bytes)
