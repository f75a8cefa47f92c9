use Rattle.std.proofs.Common.{All, take}
use Rattle.sums.specs.Apart.{IsFree}
use Rattle.sums.proofs.ends.has_row_without_literals.Given as goal

abbrev pub invariant-loop-row : goal.invariant-loop-row
invariant-loop-row l = All (λ c. IsFree c → ⊥) (take l.row-index l.rows)
