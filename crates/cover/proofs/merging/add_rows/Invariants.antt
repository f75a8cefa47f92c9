use Rattle.std.proofs.Common.{All, vec_len}
use Rattle.cube.specs.Cube.{IsCube}
use Rattle.cover.proofs.MergedRows.{AddsRest}
use Rattle.cover.proofs.merging.add_rows.Given as goal

abbrev pub invariant-loop-row : goal.invariant-loop-row
invariant-loop-row l = AddsRest l.initial.all.rows l.fn.more.rows.cubes l.waiting.items l.all.rows × All (IsCube l.initial.all.rows.size) l.waiting.items

abbrev pub decreases-loop-row : goal.decreases-loop-row
decreases-loop-row l = vec_len l.waiting
