use Rattle.std.proofs.Common.{take}
use Rattle.sums.specs.Containing.{IsCut}
use Rattle.sums.proofs.containing.cut_by_row.Given as goal

abbrev pub invariant-loop-cube : goal.invariant-loop-cube
invariant-loop-cube l = IsCut l.shape l.region l.row (take l.cube-index l.cube-items) l.kept.items l.rest.items
