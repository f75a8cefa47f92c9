use Rattle.std.proofs.Common.{◌≡◌, ◌++◌, drop, true}
use Rattle.rows.specs.Parts.{freed}
use Rattle.sums.proofs.branch.smoothing_at.Given as goal

abbrev pub invariant-loop-row : goal.invariant-loop-row
invariant-loop-row l = l.all.items ++ freed l.i (λ s. true) (drop l.row-index l.rows) ≡ freed l.i (λ s. true) l.rows
