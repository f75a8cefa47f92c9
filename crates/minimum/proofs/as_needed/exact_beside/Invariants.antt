use Rattle.minimum.specs.AsNeeded.{IsKnown}
use Rattle.minimum.proofs.as_needed.exact_beside.Given as goal

abbrev pub ghost-cover_of_points : goal.ghost-cover_of_points
ghost-cover_of_points g a = g.lists

abbrev pub invariant-loop : goal.invariant-loop
invariant-loop g l = IsKnown l.choice g.lists l.essential.cubes l.known
