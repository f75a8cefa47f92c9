use Rattle.std.proofs.Common.{◌∙◌, sym, ap, true, false, get_or}
use Rattle.std.proofs.lemmas.List.Folds.{list_any_at}
use Rattle.std.proofs.lemmas.Option.{get_or_from_slice_get}
use Rattle.cube.specs.Cube.{Cube}
use Rattle.sums.proofs.SumEnds.{none_up_to}
use Rattle.sums.proofs.ends.any_has_output.Goals as goal

pub returns-then-output : goal.returns-then-output
returns-then-output c =
    let j = c.args.j in
    let own = get_or_from_slice_get c.row-item.result.outputs j true false c.if-output.ensures in
    sym (list_any_at (λ (d : Cube). get_or d.outputs j false) c.args.rows.now c.loop-row.row-index c.row-item.result c.loop-row-test.true
    (ap (λ d. get_or d.outputs j false) (sym c.row-item.is) ∙ own))

pub loop-row-preserved : goal.loop-row-preserved
loop-row-preserved c =
    let j = c.args.j in
    let own = get_or_from_slice_get c.row-item.result.outputs j false false c.if-output.ensures in
    none_up_to (λ (d : Cube). get_or d.outputs j false) c.args.rows.now c.loop-row.row-index c.row-item.result c.loop-row-test.true c.row-item.is c.loop-row.invariant own
