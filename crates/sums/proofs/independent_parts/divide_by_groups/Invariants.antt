use Rattle.std.proofs.Common.{take}
use Rattle.sums.specs.Apart.{IsDivided}
use Rattle.sums.proofs.independent_parts.divide_by_groups.Given as goal

abbrev pub invariant-loop-row : goal.invariant-loop-row
invariant-loop-row l = IsDivided l.groups (take l.row-index l.rows) l.one.items l.other.items
