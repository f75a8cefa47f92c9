use Rattle.std.proofs.Common.{◌≡◌, not, ◌&&◌, false, take}
use Rattle.std.specs.List.{list_any}
use Rattle.cube.specs.Cube.{size_of}
use Rattle.rows.specs.Contained.{is_within}
use Rattle.sums.proofs.containing.lies_in_larger.Given as goal

abbrev pub invariant-loop-other : goal.invariant-loop-other
invariant-loop-other l = list_any (λ d. is_within (size_of l.cube) l.cube d && not (is_within (size_of l.cube) d l.cube)) (take l.other-index l.cubes) ≡ false
