use Rattle.std.proofs.Common.{◌≡◌, ◌∙◌, length, ap, arith}
use Rattle.std.specs.Prelude.{filter}
use Rattle.covering.specs.Table.{items_of}
use Rattle.covering.specs.Search.{marked}
use Rattle.covering.proofs.Rows.{changed_more, changed_all}
use Rattle.covering.proofs.TransposeSteps.{length_items}
use Rattle.covering.proofs.marks.retain_marked_in_rows.Goals as goal

pub loop-row-init : goal.loop-row-init
loop-row-init c = ap items_of c.deref_mut-row-items.ensures.value

pub loop-row-preserved : goal.loop-row-preserved
loop-row-preserved c =
    let old = c.args.rows.now.items in
    let long : length c.loop-row.row-items ≡ length old = c.loop-row.auto.row-items ∙ ap length c.deref_mut-row-items.ensures.value in
    changed_more (filter (marked c.args.keep.now)) (items_of old) c.loop-row.row-items c.loop-row.row-index c.row-item.result c.retain_marked.new.columns
    (omega (arith, c.loop-row.auto.row-items, c.loop-row-test.true)) (omega (arith, c.loop-row.auto.row-items, c.loop-row-test.true, long, length_items old))
    c.retain_marked.ensures c.loop-row.invariant

pub returns : goal.returns
returns c =
    let old = c.args.rows.now.items in
    let long : length c.loop-row.row-items ≡ length old = c.loop-row.auto.row-items ∙ ap length c.deref_mut-row-items.ensures.value in
    changed_all (filter (marked c.args.keep.now)) old c.loop-row.row-items c.loop-row.row-index c.args.rows.now.len long
    (omega (arith, long, c.loop-row.auto.row-items, c.loop-row-test.false)) (omega (arith, c.loop-row.auto.row-items, c.deref_mut-row-items.ensures.len)) c.loop-row.invariant
