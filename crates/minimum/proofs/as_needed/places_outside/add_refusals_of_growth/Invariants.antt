use Rattle.cube.specs.Cube.{IsCube}
use Rattle.minimum.specs.AsNeeded.{AreOutside}
use Rattle.minimum.proofs.as_needed.places_outside.add_refusals_of_growth.Given as goal

abbrev pub invariant-loop-i : goal.invariant-loop-i
invariant-loop-i l = record {
  is_cube : IsCube l.all.size l.cube;
  outside : AreOutside l.all l.outside;
}
