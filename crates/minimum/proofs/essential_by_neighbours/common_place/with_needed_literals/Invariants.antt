use Rattle.cube.specs.Cube.{SameSize}
use Rattle.minimum.proofs.essential_by_neighbours.common_place.with_needed_literals.Given as goal

abbrev pub invariant-loop-i : goal.invariant-loop-i
invariant-loop-i l = SameSize l.wide l.region
