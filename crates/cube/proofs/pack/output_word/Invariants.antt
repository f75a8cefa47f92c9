use Rattle.std.proofs.Common.{◌≡◌, ℕ, ◌+◌, ◌*◌, ◌<◌, ◌≤◌, get_or, false}
use Rattle.std.specs.Int.{bit_at}
use Rattle.cube.specs.Packing.{bit_of}
use Rattle.cube.proofs.pack.output_word.Given as goal

abbrev pub invariant-loop-k : goal.invariant-loop-k
invariant-loop-k l = record {
  done : (q : ℕ) → q < l.k → bit_at l.word q ≡ bit_of (get_or l.outputs (64 * l.w + q) false);
  clear : (p : ℕ) → p < 64 → l.k ≤ p → bit_at l.word p ≡ 0;
}
