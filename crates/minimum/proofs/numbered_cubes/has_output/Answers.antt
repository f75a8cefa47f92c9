use Rattle.std.proofs.Common.{◌∙◌, ap, false, get_or, sym}
use Rattle.std.proofs.lemmas.Option.{get_or_from_slice_get}
use Rattle.cover.proofs.ContainmentLemmas.{cube_at-is}
use Rattle.minimum.proofs.numbered_cubes.has_output.Goals as goal

pub returns : goal.returns
returns c =
    let j = c.args.j in
    let cube = c.index-as_slice-number.result in
    let at = c.index-as_slice-number.is ∙ ap (λ l. get_or l c.args.number cube) c.as_slice.ensures.value in
    sym (get_or_from_slice_get cube.outputs j c.output.result false c.output.ensures)
    ∙ ap (λ d. get_or d.outputs j false) (cube_at-is c.args.list.now.cubes c.args.number cube c.requires.below at)
