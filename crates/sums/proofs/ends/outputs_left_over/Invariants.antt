use Rattle.std.proofs.Common.{◌≡◌, ℕ, ◌<◌, ◌&&◌, not, length, get_or, false}
use Rattle.std.specs.List.{list_any}
use Rattle.cube.specs.Cube.{Cube}
use Rattle.sums.proofs.ends.outputs_left_over.Given as goal

abbrev pub invariant-loop-j : goal.invariant-loop-j
invariant-loop-j l = record {
  len : length l.bits.items ≡ l.j;
  each : (k : ℕ) → k < l.j → get_or l.bits.items k false
      ≡ (list_any (λ (c : Cube). get_or c.outputs k false) l.minuend && not (list_any (λ (c : Cube). get_or c.outputs k false) l.subtrahend));
}
