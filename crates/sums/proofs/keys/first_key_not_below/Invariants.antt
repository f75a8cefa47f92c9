use Rattle.std.proofs.Common.{ℕ, ◌<◌, ◌≤◌, get_or}
use Rattle.sums.proofs.keys.first_key_not_below.Given as goal

abbrev pub invariant-loop-at : goal.invariant-loop-at
invariant-loop-at l = (j : ℕ) → l.from ≤ j → j < l.at → get_or l.keys j 0 < l.key
