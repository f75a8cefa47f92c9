use Rattle.std.proofs.Common.{take}
use Rattle.rows.specs.Reduced.{IsAbsorbed}
use Rattle.sums.proofs.absorb.absorb_sorted.Given as goal

abbrev pub invariant-loop-row : goal.invariant-loop-row
invariant-loop-row l = IsAbsorbed (take l.row-index l.rows) l.kept.items
