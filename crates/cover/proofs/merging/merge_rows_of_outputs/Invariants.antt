use Rattle.std.proofs.Common.{◌≡◌}
use Rattle.rows.specs.Places.{places}
use Rattle.cover.proofs.MergedOutputs.{AreBelow}
use Rattle.cover.proofs.merging.merge_rows_of_outputs.Given as goal

abbrev pub invariant-loop-j : goal.invariant-loop-j
invariant-loop-j l = (l.all.rows.size ≡ l.list.size) × AreBelow l.list.cubes l.j (places l.all.rows.cubes)
