use Rattle.std.proofs.Common.{ℕ, ◌<◌, ◌≤◌, length, take, get_or}
use Rattle.cube.specs.Size.{Size}
use Rattle.rows.specs.Cubes.{AreCubes}
use Rattle.rows.specs.Reduced.{IsMeets}
use Rattle.sums.proofs.keys.meets_by_keys.Given as goal

abbrev pub invariant-loop-k : goal.invariant-loop-k
invariant-loop-k l = record {
  from : l.from ≤ length l.other_keys;
  below : (j i : ℕ) → j < l.from → l.k ≤ i → i < length l.keys → get_or l.other_keys j 0 < get_or l.keys i 0;
  meets : (size : Size) → AreCubes size l.rows → AreCubes size l.others → IsMeets size (take l.k l.rows) l.others l.all.items;
}
