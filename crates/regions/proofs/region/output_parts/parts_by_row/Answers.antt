use Rattle.std.proofs.Common.{sym}
use Rattle.regions.proofs.OutputParts.{size_left, parts_of}
use Rattle.regions.proofs.region.output_parts.parts_by_row.Goals as goal

pub has_outputs_beyond-requires-2 : goal.has_outputs_beyond-requires-2
has_outputs_beyond-requires-2 c =
    let size = size_left c.args.region.now c.args.row.now c.in_ok-rest.rest c.requires c.in_ok-rest.ensures.value in
    (sym size.0, sym size.1)

pub without_outputs-requires-2-clause-size : goal.without_outputs-requires-2-clause-size
without_outputs-requires-2-clause-size c =
    let size = size_left c.args.region.now c.args.row.now c.in_ok-rest.rest c.requires c.in_ok-rest.ensures.value in
    (sym size.0, sym size.1)

pub returns : goal.returns
returns c = parts_of c.args.region.now c.args.row.now c.in_ok-rest.rest c.in_ok-part.part c.requires c.in_ok-rest.ensures.value c.in_ok-part.ensures.value
