use Rattle.std.proofs.Common.{take}
use Rattle.rows.specs.Reduced.{IsWithoutAbsorbed}
use Rattle.sums.proofs.absorb.drop_absorbed_by.Given as goal

abbrev pub invariant-loop-row : goal.invariant-loop-row
invariant-loop-row l = IsWithoutAbsorbed (take l.row-index l.rows) l.others l.kept.items
