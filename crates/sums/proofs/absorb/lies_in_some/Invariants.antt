use Rattle.std.proofs.Common.{All, take}
use Rattle.cube.specs.Cube.{IsSubset, holds}
use Rattle.sums.proofs.absorb.lies_in_some.Given as goal

abbrev pub invariant-loop-old : goal.invariant-loop-old
invariant-loop-old l = All (λ d. IsSubset (holds l.row) (holds d) → ⊥) (take l.old-index l.kept)
