use Rattle.std.proofs.Common.{◌∙◌, false, ap, sym}
use Rattle.std.proofs.lemmas.Option.{get_or_from_slice_get}
use Rattle.rows.proofs.Chosen.{kept_or_not, all_kept}
use Rattle.growth.proofs.rows_by_output.rows_with_output.Goals as goal
use Rattle.growth.proofs.rows_by_output.rows_with_output.Goals.{then-output+else-len-most+in_ok-push, else-output}

pub loop-row-preserved : goal.loop-row-preserved
loop-row-preserved c =
    let row = c.row-item.result in
    let has = sym (get_or_from_slice_get row.now.outputs c.args.j c.output.result false c.output.ensures) in
    let step = kept_or_not _ c.args.rows.now c.loop-row.row-index row row c.loop-row-test.true c.row-item.is _ c.loop-row.invariant _ has in
    elim c.if-output.branch [
      | then-output+else-len-most+in_ok-push w ↦ ap (λ v. v.items) w.found-is ∙ step.0 _ w.if-output.true w.in_ok-push.ensures.items
      | else-output w ↦ ap (λ v. v.items) w.found-is ∙ step.1 w.if-output.false
    ]

pub returns : goal.returns
returns c = all_kept _ _ _ _ c.loop-row-test.false c.loop-row.invariant
