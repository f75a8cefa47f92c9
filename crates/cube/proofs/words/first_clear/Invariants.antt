use Rattle.std.proofs.Common.{◌≡◌, ℕ, ◌<◌, ◌≤◌, ◌*◌, ◌/◌}
use Rattle.cube.specs.Words.{bit_of_words}
use Rattle.cube.proofs.words.first_clear.Given as goal

abbrev pub invariant-loop-w : goal.invariant-loop-w
invariant-loop-w l = record {
  started : l.from / 64 ≤ l.w;
  set : (k : ℕ) → l.from ≤ k → k < 64 * l.w → bit_of_words l.words k ≡ 1;
}
