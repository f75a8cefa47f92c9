use Rattle.std.proofs.Common.{◌≡◌, ℕ, ◌<◌, ◌≤◌, get_or, length}
use Rattle.cube.proofs.words.zip_words.Given as goal

abbrev pub invariant-loop-k : goal.invariant-loop-k
invariant-loop-k g l = record {
  room : length l.a ≤ l.words.capacity;
  len : length l.words.items ≡ l.k;
  done : (j : ℕ) → j < l.k → goal.F-post g l.op j (get_or l.a j 0) (get_or l.b j 0) (get_or l.words.items j 0);
}
