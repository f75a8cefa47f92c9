use Rattle.minimum.proofs.AsNeeded.{ArePartsOf}
use Rattle.minimum.proofs.as_needed.places_outside.parts_not_held.Given as goal

abbrev pub invariant-loop-part : goal.invariant-loop-part
invariant-loop-part l = ArePartsOf l.list l.cubes l.part-index l.parts.items
