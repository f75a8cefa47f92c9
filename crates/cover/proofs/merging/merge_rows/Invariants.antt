use Rattle.cover.specs.Merging.{StandsFor}
use Rattle.cover.proofs.merging.merge_rows.Given as goal

abbrev pub invariant-loop : goal.invariant-loop
invariant-loop l = StandsFor l.list l.merged
