use Rattle.std.proofs.Common.{◌≡◌, take, filter}
use Rattle.rows.specs.Places.{places}
use Rattle.cover.specs.NotHeld.{is_not_held}
use Rattle.cover.proofs.complete_sums.rows_not_held.Given as goal

abbrev pub invariant-loop-k : goal.invariant-loop-k
invariant-loop-k l = l.kept.items ≡ filter (is_not_held l.list.size (places l.list.cubes)) (take l.k l.rows)
