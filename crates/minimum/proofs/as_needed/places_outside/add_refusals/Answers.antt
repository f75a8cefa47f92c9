use Rattle.std.proofs.Common.{sym, subst}
use Rattle.minimum.specs.AsNeeded.{AreOutside}
use Rattle.minimum.proofs.as_needed.places_outside.add_refusals.Goals as goal
use Rattle.minimum.proofs.as_needed.places_outside.add_refusals.Goals.{then-are_apart+in_ok-add_grown, else-are_apart}

pub loop-part-preserved : goal.loop-part-preserved
loop-part-preserved c = elim c.if-are_apart.branch [
  | then-are_apart+in_ok-add_grown w ↦ subst (AreOutside c.args.all.now) (sym w.outside-is) w.in_ok-add_grown.ensures
  | else-are_apart w ↦ subst (AreOutside c.args.all.now) (sym w.outside-is) c.loop-part.invariant
]
