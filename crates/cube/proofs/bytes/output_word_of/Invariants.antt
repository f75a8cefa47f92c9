use Rattle.std.proofs.Common.{◌≡◌, ℕ, ◌+◌, ◌*◌, ◌<◌, ◌≤◌, get_or}
use Rattle.std.specs.Int.{bit_at}
use Rattle.cube.specs.Bytes.{has_mark}
use Rattle.cube.specs.Packing.{bit_of}
use Rattle.cube.proofs.bytes.output_word_of.Given as goal

abbrev pub invariant-loop-k : goal.invariant-loop-k
invariant-loop-k l = record {
  within : l.k ≤ l.count;
  done : (q : ℕ) → q + l.k < l.count → bit_at l.word q ≡ bit_of (has_mark l.marks l.mask (get_or l.bytes (64 * l.w + (q + l.k)) 0));
  clear : (p : ℕ) → p < 64 → l.count ≤ p + l.k → bit_at l.word p ≡ 0;
}
