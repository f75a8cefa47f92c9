use Rattle.minimum.specs.AsNeeded.{IsKnown}
use Rattle.minimum.proofs.as_needed.add_points.Given as goal

abbrev pub invariant-loop-part : goal.invariant-loop-part
invariant-loop-part l = IsKnown l.choice l.sets l.essential.cubes l.known
