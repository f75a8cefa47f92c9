use Rattle.std.proofs.Common.{◌≡◌, take}
use Rattle.cover.specs.Cofactor.{cofactors}
use Rattle.cover.proofs.list.Cover.cofactor.Given as goal

abbrev pub invariant-loop-row : goal.invariant-loop-row
invariant-loop-row l = l.left.items ≡ cofactors l.self.size l.cube (take l.row-index l.row-items)
