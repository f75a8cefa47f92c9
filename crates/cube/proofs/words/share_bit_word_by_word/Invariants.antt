use Rattle.std.proofs.Common.{◌≡◌, ℕ, ◌<◌, get_or, bit_and}
use Rattle.cube.proofs.words.share_bit_word_by_word.Given as goal

abbrev pub invariant-loop-k : goal.invariant-loop-k
invariant-loop-k l = (j : ℕ) → j < l.k → bit_and (get_or l.a j 0) (get_or l.b j 0) ≡ 0
