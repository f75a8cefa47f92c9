use Rattle.std.proofs.Common.{◌<◌, ◌∙◌, sym, subst}
use Rattle.std.proofs.lemmas.Result.{IfOk-weaker}
use Rattle.cube.specs.Size.{Size}
use Rattle.cover.proofs.MergedOutputs.{only_output}
use Rattle.cover.proofs.merging.merge_rows_of_output.Goals as goal

pub returns-clause-places : goal.returns-clause-places
returns-clause-places c =
    let size = c.shape.result in
    let lt = subst (λ (z : Size). c.args.j < z.outputs) (sym c.shape.ensures.size) c.requires in
    IfOk-weaker c.merge_at_inputs.result _ _
    (λ merged h p. h.places p ∙ c.in_ok-rows.ensures.places p ∙ only_output size c.args.list.now.cubes c.shape.ensures.cubes c.args.j c.in_ok-only.only lt c.in_ok-only.ensures p)
    c.merge_at_inputs.ensures
