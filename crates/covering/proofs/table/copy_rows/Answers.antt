use Rattle.std.proofs.Common.{◌∙◌, ◌∷◌, ◌++◌, [], take, sym, ap}
use Rattle.std.proofs.lemmas.List.{map-append, take_all}
use Rattle.covering.specs.Table.{items_of}
use Rattle.covering.proofs.Rows.{take_items}
use Rattle.covering.proofs.table.copy_rows.Goals as goal

pub loop-row-preserved : goal.loop-row-preserved
loop-row-preserved c =
    let i = c.loop-row.row-index in
    ap items_of c.in_ok-push.ensures.items ∙ map-append (λ v. v.items) c.loop-row.kept.items (c.in_ok-copy_of.field-0 ∷ []) ∙ ap (λ ys. ys ++ c.in_ok-copy_of.field-0.items ∷ []) c.loop-row.invariant
    ∙ ap (λ x. items_of (take i c.args.rows.now) ++ x ∷ []) (c.in_ok-copy_of.ensures ∙ c.deref.ensures.value) ∙ sym (take_items c.args.rows.now i c.row-item.result c.loop-row-test.true c.row-item.is)

pub returns : goal.returns
returns c = c.loop-row.invariant ∙ ap items_of (take_all c.loop-row.row-index c.args.rows.now c.loop-row-test.false)
