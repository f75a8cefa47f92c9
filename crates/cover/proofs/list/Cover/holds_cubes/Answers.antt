use Rattle.std.proofs.Common.{◌∙◌, ap, map, is_none}
use Rattle.std.proofs.lemmas.Result.{IfOk-weaker}
use Rattle.regions.proofs.LeftOut.{nones_if_held}
use Rattle.cover.proofs.list.Cover.holds_cubes.Goals as goal

pub returns : goal.returns
returns c =
    IfOk-weaker c.are_none.result _ _
    (λ held h. h ∙ ap (map is_none) c.deref.ensures.value
    ∙ nones_if_held c.args.self.now.size c.args.self.now.cubes c.args.cubes.now c.in_ok-parts.parts.items c.requires
    c.in_ok-parts.ensures.held c.in_ok-parts.ensures.left_out)
    c.are_none.ensures
