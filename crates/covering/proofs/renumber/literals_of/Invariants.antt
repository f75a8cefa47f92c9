use Rattle.std.proofs.Common.{◌≡◌, ◌<◌, ℕ, length, get_or, slice_index_or}
use Rattle.covering.proofs.renumber.literals_of.Given as goal

abbrev pub invariant-loop-i : goal.invariant-loop-i
invariant-loop-i l = record { long : length l.kept.items ≡ length l.live; done : (k : ℕ) → k < l.i → get_or l.kept.items k 0 ≡ slice_index_or l.literals (get_or l.live k 0) 0 }
