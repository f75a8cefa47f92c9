use Rattle.std.proofs.Common.{◌≡◌, ℕ, ◌<◌, get_or, length, bit_and}
use Rattle.cube.proofs.words.put_common_word_by_word.Given as goal

abbrev pub invariant-loop-k : goal.invariant-loop-k
invariant-loop-k l = record {
  len : length l.words ≡ length l.a;
  done : (j : ℕ) → j < l.k → j < length l.a → get_or l.words j 0 ≡ bit_and (get_or l.a j 0) (get_or l.b j 0);
}
