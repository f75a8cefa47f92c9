use Rattle.std.proofs.Common.{◌≡◌, ◌<◌, ◌-◌, ℕ, length}
use Rattle.std.specs.Prelude.{None}
use Rattle.covering.specs.Choices.{best_choice}
use Rattle.covering.proofs.exhaustive.least_cover_plain.Given as goal

abbrev pub invariant-loop-best : goal.invariant-loop-best
invariant-loop-best l = (j : ℕ) → j < l.size → best_choice l.choice l.table j ≡ None

abbrev pub decreases-loop-best : goal.decreases-loop-best
decreases-loop-best l = length l.table.live - l.size
