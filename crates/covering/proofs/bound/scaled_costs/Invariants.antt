use Rattle.std.proofs.Common.{◌≡◌, ◌<◌, ℕ, length, get_or, ◌+◌, ◌*◌}
use Rattle.covering.specs.Cover.{counted}
use Rattle.covering.proofs.bound.scaled_costs.Given as goal

abbrev pub invariant-loop-column : goal.invariant-loop-column
invariant-loop-column l = record { long : length l.costs.items ≡ length l.literals; done : (k : ℕ) → k < l.column → get_or l.costs.items k 0 ≡ l.one + l.each * counted l.choice l.literals k }
