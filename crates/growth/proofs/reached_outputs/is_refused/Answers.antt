use Rattle.std.proofs.Common.{not, false, ap, sym, ◌∙◌}
use Rattle.std.proofs.Math.Bool.{not-not}
use Rattle.std.proofs.lemmas.Option.{get_or_from_slice_get}
use Rattle.growth.specs.Growth.{on_side}
use Rattle.growth.proofs.reached_outputs.is_refused.Goals as goal

pub returns-in-Inside : goal.returns-in-Inside
returns-in-Inside c rows p same =
    ap (λ side. on_side side rows p) c.in-Inside.is ∙ same ∙ get_or_from_slice_get c.args.reached.now.outputs c.args.j c.output.result false c.output.ensures ∙ sym (not-not c.output.result)

pub returns-in-Outside : goal.returns-in-Outside
returns-in-Outside c rows p same =
    ap (λ side. on_side side rows p) c.in-Outside.is
    ∙ ap not (same ∙ get_or_from_slice_get c.args.reached.now.outputs c.args.j c.output-in-Outside.result false c.output-in-Outside.ensures)
