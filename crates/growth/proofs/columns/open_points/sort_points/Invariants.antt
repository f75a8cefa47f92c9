use Rattle.std.proofs.Common.{◌≡◌, ℕ, ◌<◌, ◌≤◌, ◌⊎◌, length, take}
use Rattle.std.specs.List.{All, Contains}
use Rattle.cube.specs.Cube.{holds, IsSubset}
use Rattle.cover.specs.Marks.{cube_at}
use Rattle.growth.specs.Dominating.{NeedsNoJoin}
use Rattle.growth.proofs.columns.open_points.sort_points.Given as goal

abbrev pub invariant-loop-k : goal.invariant-loop-k
invariant-loop-k l = record {
  start : take (length l.excluded) l.numbers.items ≡ l.excluded;
  after : length l.excluded ≤ length l.numbers.items;
  below : All (λ k. k < length l.points) l.numbers.items;
  within : All (λ k. k < length l.points) l.inside.items;
  inside : All (λ k. IsSubset (holds (cube_at l.points k)) (holds l.best)) l.inside.items;
  rest : (k : ℕ) → Contains (take l.k-index l.candidates) k → (Contains l.numbers.items k ⊎ Contains l.inside.items k) ⊎ NeedsNoJoin l.off l.cube (cube_at l.points k);
  refusing : length l.refusing.items ≡ length l.points;
}
