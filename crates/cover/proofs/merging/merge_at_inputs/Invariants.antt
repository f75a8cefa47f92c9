use Rattle.cover.specs.Merging.{StandsFor}
use Rattle.cover.proofs.merging.merge_at_inputs.Given as goal

abbrev pub invariant-loop-i : goal.invariant-loop-i
invariant-loop-i l = StandsFor l.fn.rows.rows l.merged.rows
