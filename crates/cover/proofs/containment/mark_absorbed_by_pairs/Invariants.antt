use Rattle.std.proofs.Common.{take}
use Rattle.rows.specs.Marks.{Marks}
use Rattle.cover.proofs.containment.mark_absorbed_by_pairs.Given as goal

abbrev pub invariant-loop-k : goal.invariant-loop-k
invariant-loop-k l = Marks l.list.size l.list.cubes (take l.k-index l.inner) l.outer l.initial.marks l.marks
