use Rattle.std.proofs.Common.{All, take}
use Rattle.cube.specs.Cube.{IsDisjoint, holds}
use Rattle.rows.proofs.copies.is_disjoint_from_all.Given as goal

abbrev pub invariant-loop-other : goal.invariant-loop-other
invariant-loop-other l = All (λ d. IsDisjoint (holds l.row) (holds d.now)) (take l.other-index l.others)
