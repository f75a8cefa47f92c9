use Rattle.cube.specs.Cube.{IsCube, IsSubset, holds}
use Rattle.growth.proofs.columns.fewest_literals.with_literals_in.Given as goal

abbrev pub invariant-loop-i : goal.invariant-loop-i
invariant-loop-i l = record {
  cube : IsCube l.off.size l.freed;
  over : IsSubset (holds l.cube) (holds l.freed);
}
