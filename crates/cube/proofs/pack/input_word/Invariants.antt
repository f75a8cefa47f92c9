use Rattle.std.proofs.Common.{◌≡◌, ℕ, ◌+◌, ◌*◌, ◌<◌, ◌≤◌, get_or, true, false}
use Rattle.std.specs.Int.{bit_at}
use Rattle.cube.specs.declared.symbol.Symbol.TheVariants.{Dash}
use Rattle.cube.specs.Pattern.{agrees}
use Rattle.cube.specs.Packing.{bit_of}
use Rattle.cube.proofs.pack.input_word.Given as goal

abbrev pub invariant-loop-k : goal.invariant-loop-k
invariant-loop-k l = record {
  low : (q : ℕ) → q < l.k → bit_at l.word (2 * q) ≡ bit_of (agrees (get_or l.symbols (32 * l.w + q) Dash) false);
  high : (q : ℕ) → q < l.k → bit_at l.word (2 * q + 1) ≡ bit_of (agrees (get_or l.symbols (32 * l.w + q) Dash) true);
  set : (p : ℕ) → p < 64 → 2 * l.k ≤ p → bit_at l.word p ≡ 1;
}
