use Rattle.std.proofs.Common.{◌≡◌, ℕ, ◌<◌, true, false, [], get_or}
use Rattle.minimum.proofs.points.rounds.cubes_left_out.Given as goal

abbrev pub invariant-loop-k : goal.invariant-loop-k
invariant-loop-k l = record {
  size : l.left.size ≡ l.list.size;
  none : l.left.cubes ≡ [] → (j : ℕ) → j < l.k → get_or l.are_held.items j false ≡ true;
}
