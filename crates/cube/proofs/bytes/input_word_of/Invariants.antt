use Rattle.std.proofs.Common.{◌≡◌, ℕ, ◌+◌, ◌*◌, ◌<◌, ◌≤◌, get_or, true, false}
use Rattle.std.specs.Int.{bit_at}
use Rattle.cube.specs.Pattern.{agrees}
use Rattle.cube.specs.Bytes.{byte_symbol}
use Rattle.cube.specs.Packing.{bit_of}
use Rattle.cube.proofs.bytes.input_word_of.Given as goal

abbrev pub invariant-loop-k : goal.invariant-loop-k
invariant-loop-k l = record {
  within : l.k ≤ l.count;
  low : (q : ℕ) → q + l.k < l.count → bit_at l.word (2 * q) ≡ bit_of (agrees (byte_symbol (get_or l.bytes (32 * l.w + (q + l.k)) 0)) false);
  high : (q : ℕ) → q + l.k < l.count → bit_at l.word (2 * q + 1) ≡ bit_of (agrees (byte_symbol (get_or l.bytes (32 * l.w + (q + l.k)) 0)) true);
  set : (p : ℕ) → p < 64 → 2 * l.count ≤ p + 2 * l.k → bit_at l.word p ≡ 1;
}
