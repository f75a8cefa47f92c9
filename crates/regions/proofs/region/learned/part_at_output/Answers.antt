use Rattle.std.proofs.Common.{◌∙◌, ◌<◌, false, get_or, ap, sym, subst}
use Rattle.std.proofs.lemmas.Bool.{false≢true, and_parts}
use Rattle.std.proofs.lemmas.Option.{get_or_from_slice_get}
use Rattle.std.proofs.lemmas.Result.{IfOk-weaker}
use Rattle.cube.specs.Pattern.{matches}
use Rattle.regions.proofs.Halves.{part_within, part_whole, part_none}
use Rattle.rows.proofs.OneOutput.{output_cube}
use Rattle.regions.proofs.region.learned.part_at_output.Goals as goal

pub returns-clause-within : goal.returns-clause-within
returns-clause-within c =
    let size = c.shape-shape.ensures.size in
    let lt : c.args.output < c.shape-shape.result.outputs = subst (λ n. c.args.output < n) size.1 c.requires in
    IfOk-weaker c.meet.result _ _ (part_within c.shape-shape.result c.args.region.now c.in_ok-all.all c.args.output size lt c.in_ok-all.ensures) c.meet.ensures.places

pub returns-clause-whole : goal.returns-clause-whole
returns-clause-whole c =
    let size = c.shape-shape.ensures.size in
    let lt : c.args.output < c.shape-shape.result.outputs = subst (λ n. c.args.output < n) size.1 c.requires in
    IfOk-weaker c.meet.result _ _ (part_whole c.shape-shape.result c.args.region.now c.in_ok-all.all c.args.output size lt c.in_ok-all.ensures) c.meet.ensures.places

pub returns-clause-none : goal.returns-clause-none
returns-clause-none c =
    let size = c.shape-shape.ensures.size in
    let lt : c.args.output < c.shape-shape.result.outputs = subst (λ n. c.args.output < n) size.1 c.requires in
    IfOk-weaker c.meet.result _ _ (part_none c.shape-shape.result c.args.region.now c.in_ok-all.all c.args.output size lt c.in_ok-all.ensures) c.meet.ensures.none

pub meet-requires : goal.meet-requires
meet-requires c =
    let size = c.shape-shape.ensures.size in
    let lt = subst (λ n. c.args.output < n) size.1 c.requires in
    let all = output_cube c.shape-shape.result c.args.output c.in_ok-all.all lt c.in_ok-all.ensures in
    (size.0 ∙ sym all.has_size.0, size.1 ∙ sym all.has_size.1)

pub returns-then-not-output-clause-none : goal.returns-then-not-output-clause-none
returns-then-not-output-clause-none c = λ p at h.
    let outputs = c.args.region.now.outputs in
    let on = (and_parts (matches c.args.region.now.symbols p.point) (get_or outputs p.output false) h).1 in
    false≢true (sym (ap (λ j. get_or outputs j false) at ∙ get_or_from_slice_get outputs c.args.output false false c.if-not-output.ensures) ∙ on)
