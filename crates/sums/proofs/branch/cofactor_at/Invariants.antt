use Rattle.std.proofs.Common.{◌≡◌, ◌++◌, drop}
use Rattle.cube.specs.Pattern.{agrees}
use Rattle.rows.specs.Parts.{freed}
use Rattle.sums.proofs.branch.cofactor_at.Given as goal

abbrev pub invariant-loop-row : goal.invariant-loop-row
invariant-loop-row l = l.branch.items ++ freed l.i (λ s. agrees s l.value) (drop l.row-index l.rows) ≡ freed l.i (λ s. agrees s l.value) l.rows
