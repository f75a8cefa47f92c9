use Rattle.minimum.specs.AsNeeded.{AreOutside}
use Rattle.minimum.proofs.as_needed.places_outside.add_refusals.Given as goal

abbrev pub invariant-loop-part : goal.invariant-loop-part
invariant-loop-part l = AreOutside l.all l.outside
