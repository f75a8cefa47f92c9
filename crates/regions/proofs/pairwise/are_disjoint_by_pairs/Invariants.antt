use Rattle.std.proofs.Common.{All, take}
use Rattle.cube.specs.Cube.{IsDisjoint, holds}
use Rattle.rows.specs.Places.{places, behind}
use Rattle.regions.proofs.pairwise.are_disjoint_by_pairs.Given as goal

abbrev pub invariant-loop-row : goal.invariant-loop-row
invariant-loop-row l = All (λ d. IsDisjoint (holds d.now) (places (behind l.others))) (take l.row-index l.rows)
