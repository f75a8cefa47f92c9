use Rattle.std.proofs.Common.{◌≡◌, ◌<◌, ◌≤◌, ◌*◌, ◌^◌, ℕ, take, length}
use Rattle.covering.specs.Table.{items_of}
use Rattle.covering.specs.Weights.{at, load}
use Rattle.covering.proofs.lagrangian.lagrangian.Given as goal

abbrev pub invariant-loop-i : goal.invariant-loop-i
invariant-loop-i l = record {
  loads : (c : ℕ) → c < length l.scaled_costs → at l.loads.items c ≡ load c (items_of (take l.i l.rows)) (take l.i l.weights);
  bound : (c : ℕ) → at l.loads.items c ≤ l.i * 2 ^ 64;
  long : length l.loads.items ≡ length l.scaled_costs;
}
