use Rattle.rows.proofs.ContainmentLemmas.{KeepsUnmarked}
use Rattle.cover.proofs.containment.unmarked_cubes.Given as goal

abbrev pub invariant-loop-k : goal.invariant-loop-k
invariant-loop-k l = KeepsUnmarked l.list.size l.list.cubes l.k l.kept.items
