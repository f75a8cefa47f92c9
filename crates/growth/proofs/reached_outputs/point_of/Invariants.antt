use Rattle.growth.specs.Growth.{IsPartOf}
use Rattle.growth.proofs.reached_outputs.point_of.Given as goal

abbrev pub invariant-loop-i : goal.invariant-loop-i
invariant-loop-i l = IsPartOf l.cube l.point
