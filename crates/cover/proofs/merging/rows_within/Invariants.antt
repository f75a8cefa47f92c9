use Rattle.std.proofs.Common.{◌≡◌, ◌&&◌, take}
use Rattle.cube.specs.Cube.{Place, holds}
use Rattle.rows.specs.Places.{places}
use Rattle.cover.proofs.merging.rows_within.Given as goal

abbrev pub invariant-loop-k : goal.invariant-loop-k
invariant-loop-k l = (l.part.rows.size ≡ l.list.size) × ((p : Place) → places l.part.rows.cubes p ≡ (places (take l.k l.list.cubes) p && holds l.only p))
