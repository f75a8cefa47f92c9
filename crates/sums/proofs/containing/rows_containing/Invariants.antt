use Rattle.std.proofs.Common.{◌≡◌, take, filter}
use Rattle.cube.specs.Cube.{size_of}
use Rattle.rows.specs.Contained.{is_within}
use Rattle.sums.proofs.containing.rows_containing.Given as goal

abbrev pub invariant-loop-cube : goal.invariant-loop-cube
invariant-loop-cube l = l.kept.items ≡ filter (is_within (size_of l.region) l.region) (take l.cube-index l.cubes)
