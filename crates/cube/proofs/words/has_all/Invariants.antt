use Rattle.std.proofs.Common.{◌≡◌, ℕ, ◌<◌, ◌+◌, ◌*◌, get_or}
use Rattle.std.specs.Int.{bit_at}
use Rattle.cube.proofs.words.has_all.Given as goal

abbrev pub invariant-loop-w : goal.invariant-loop-w
invariant-loop-w l = (v k : ℕ) → v < l.w → k < 64 → 64 * v + k < l.len → bit_at (get_or l.words v 0) k ≡ 1
