use Rattle.std.proofs.Common.{◌≡◌, ℕ, ◌*◌, ◌/◌, ◌<◌, ◌≤◌, false}
use Rattle.cube.specs.Literals.{is_beyond}
use Rattle.cube.proofs.cube.Cube.next_beyond.Given as goal

abbrev pub invariant-loop-w : goal.invariant-loop-w
invariant-loop-w l = record {
  started : l.from / 32 ≤ l.w;
  before : (k : ℕ) → l.from ≤ k → k < 32 * l.w → is_beyond l.self l.other k ≡ false;
}
