use Rattle.std.proofs.Common.{Result, Ok, Err, OnOk}
use Rattle.minimum.proofs.Neighbours.{adds_both}
use Rattle.minimum.proofs.essential_by_neighbours.neighbours.add_neighbours.Goals as goal

both : {T E P Q R : Type 0} (r : Result T E) → (P → Q → R) → OnOk r P → OnOk r Q → OnOk r R
both (Ok x) f p q = f p q
both (Err e) f p q = tt

pub returns : goal.returns
returns c =
    both c.add_meeting-2.result
    (λ second to_new. adds_both c.args.prime.now c.args.row.now c.in_ok-neighbour_by_inputs.field-0 c.in_ok-neighbour_by_outputs.field-0 c.args.near.now.items c.add_meeting.new.near.items c.add_meeting-2.new.near.items
    c.in_ok-neighbour_by_inputs.ensures.none c.in_ok-neighbour_by_inputs.ensures.some c.in_ok-neighbour_by_outputs.ensures.none c.in_ok-neighbour_by_outputs.ensures.some
    c.in_ok-add_meeting.ensures.size second c.in_ok-add_meeting.ensures.places to_new)
    c.add_meeting-2.ensures.size c.add_meeting-2.ensures.places
