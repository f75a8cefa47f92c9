use Rattle.std.proofs.Common.{◌≡◌, ◌≢◌, ℕ, true, bit_and, take}
use Rattle.std.specs.List.{list_all}
use Rattle.cube.specs.Bytes.{has_mark}
use Rattle.pla.specs.declared.row_lines.TheConstants.{MARKS}
use Rattle.pla.proofs.row_lines.shared_marks.Given as goal

abbrev pub invariant-loop-k : goal.invariant-loop-k
invariant-loop-k l = (mask : ℕ) → bit_and l.shared mask ≢ 0 → list_all (has_mark MARKS mask) (take l.k l.bytes) ≡ true
