use Rattle.std.proofs.Common.{◌≡◌, ◌<◌, ℕ, length, get_or, not, false}
use Rattle.covering.specs.Search.{marked}
use Rattle.covering.proofs.marks.others.Given as goal

abbrev pub invariant-loop-c : goal.invariant-loop-c
invariant-loop-c l = record { long : length l.others.items ≡ l.end; done : (k : ℕ) → k < l.c → get_or l.others.items k false ≡ not (marked l.marks k) }
