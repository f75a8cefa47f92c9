use Rattle.std.proofs.Common.{◌≡◌, ℕ, ◌+◌, ◌-◌, ◌<◌, ◌≤◌, length, get_or, map}
use Rattle.cube.specs.Bytes.{byte_symbol, has_mark}
use Rattle.cube.specs.Packing.{IsInputWord, IsOutputWord}
use Rattle.cube.proofs.bytes.words_of.Given as goal

abbrev pub invariant-loop-w : goal.invariant-loop-w
invariant-loop-w l = record {
  room : l.inputs_end + l.outputs_end ≤ l.words.capacity;
  len : length l.words.items ≡ l.w;
  inputs : (v : ℕ) → v < l.w → v < l.inputs_end → IsInputWord (map byte_symbol l.inputs) v (get_or l.words.items v 0);
  outputs : (v : ℕ) → v < l.w → l.inputs_end ≤ v → IsOutputWord (map (has_mark l.marks l.mask) l.outputs) (v - l.inputs_end) (get_or l.words.items v 0);
}
