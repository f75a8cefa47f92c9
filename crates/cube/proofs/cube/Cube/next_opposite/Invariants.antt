use Rattle.std.proofs.Common.{◌≡◌, ℕ, ◌*◌, ◌/◌, ◌<◌, ◌≤◌, false}
use Rattle.cube.specs.Literals.{is_opposite}
use Rattle.cube.proofs.cube.Cube.next_opposite.Given as goal

abbrev pub invariant-loop-w : goal.invariant-loop-w
invariant-loop-w l = record {
  started : l.from / 32 ≤ l.w;
  before : (k : ℕ) → l.from ≤ k → k < 32 * l.w → is_opposite l.self l.other k ≡ false;
}
