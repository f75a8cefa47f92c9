use Rattle.std.proofs.Common.{◌≡◌, ◌<◌, ◌≤◌, ℕ, length}
use Rattle.covering.specs.Cuts.{raised}
use Rattle.covering.specs.Weights.{at}
use Rattle.covering.proofs.cuts.charge_halves.Given as goal

abbrev pub invariant-loop-column : goal.invariant-loop-column
invariant-loop-column l = record {
  done : (c : ℕ) → c < l.column → at l.loads.items c ≡ raised l.weight (at l.initial.loads.items c) (at l.counts c);
  rest : (c : ℕ) → l.column ≤ c → at l.loads.items c ≡ at l.initial.loads.items c;
  long : length l.loads.items ≡ length l.initial.loads.items;
}
