use Rattle.std.proofs.Common.{◌≡◌, ◌≤◌, take, length}
use Rattle.cube.proofs.words.copied_words_of_any_number.Given as goal

abbrev pub invariant-loop-k : goal.invariant-loop-k
invariant-loop-k l = (l.copy.items ≡ take l.k l.words) × (length l.words ≤ l.copy.capacity)
