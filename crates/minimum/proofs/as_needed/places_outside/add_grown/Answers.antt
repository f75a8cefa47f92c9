use Rattle.std.proofs.Common.{sym, subst}
use Rattle.cube.specs.Cube.{HasSize}
use Rattle.minimum.specs.AsNeeded.{AreOutside}
use Rattle.minimum.proofs.AsNeeded.{on_ok_two, outside_grown}
use Rattle.minimum.proofs.as_needed.places_outside.add_grown.Goals as goal

pub add_copy-requires : goal.add_copy-requires
add_copy-requires c = subst (HasSize c.in_ok-cube.field-0.cube) (sym c.requires.outside.size) c.in_ok-cube.ensures.grown.settled.is_cube.has_size

pub returns : goal.returns
returns c =
    let all = c.args.all.now in
    on_ok_two c.add_copy.result _ _ (AreOutside all c.add_copy.new.list)
    (λ size cubes. outside_grown all c.args.outside.now c.add_copy.new.list c.args.part.now c.in_ok-cube.field-0.cube c.in_ok-cube.ensures.grown c.requires.apart size cubes c.requires.outside)
    c.add_copy.ensures.size c.add_copy.ensures.cubes
