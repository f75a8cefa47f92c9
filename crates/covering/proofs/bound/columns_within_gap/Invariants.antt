use Rattle.std.proofs.Common.{◌≡◌, ◌<◌, ℕ, length, get_or, ◌-◌, false}
use Rattle.std.specs.Prelude.{nat_le}
use Rattle.covering.specs.Weights.{at}
use Rattle.covering.proofs.bound.columns_within_gap.Given as goal

abbrev pub invariant-loop-column : goal.invariant-loop-column
invariant-loop-column l = record { long : length l.keep.items ≡ length l.scaled_costs; done : (k : ℕ) → k < l.column → get_or l.keep.items k false ≡ nat_le (at l.scaled_costs k - at l.loads k) l.gap }
