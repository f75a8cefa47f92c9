use Rattle.std.proofs.Common.{◌≡◌, ◌<◌, ℕ, length, get_or}
use Rattle.covering.specs.Parts.{pick}
use Rattle.covering.proofs.renumber.columns_of.Given as goal

abbrev pub invariant-loop-i : goal.invariant-loop-i
invariant-loop-i l = record { long : length l.columns.items ≡ length l.numbers; done : (k : ℕ) → k < l.i → get_or l.columns.items k 0 ≡ pick l.live (get_or l.numbers k 0) }
