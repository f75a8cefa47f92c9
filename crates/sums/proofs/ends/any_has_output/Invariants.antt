use Rattle.std.proofs.Common.{◌≡◌, take, false, get_or}
use Rattle.std.specs.List.{list_any}
use Rattle.cube.specs.Cube.{Cube}
use Rattle.sums.proofs.ends.any_has_output.Given as goal

abbrev pub invariant-loop-row : goal.invariant-loop-row
invariant-loop-row l = list_any (λ (c : Cube). get_or c.outputs l.j false) (take l.row-index l.rows) ≡ false
