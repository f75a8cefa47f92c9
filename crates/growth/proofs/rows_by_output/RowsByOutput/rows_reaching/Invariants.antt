use Rattle.growth.proofs.Reaching.{AreReaching}
use Rattle.growth.proofs.rows_by_output.RowsByOutput.rows_reaching.Given as goal

abbrev pub invariant-loop-j : goal.invariant-loop-j
invariant-loop-j l = AreReaching l.region l.self-inside.all.items l.found.items l.j
