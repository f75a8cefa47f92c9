use Rattle.std.proofs.Common.{rules, ◌≡◌, ◌≤◌, ◌∙◌, ◌+◌, ◌^◌, ◌<◌, arith, length, slice_index_or}
use Rattle.std.proofs.lemmas.List.{get_or_default, length-set}
use Rattle.covering.specs.Weights.{at}
use Rattle.covering.proofs.Charges.{charged_put, charged_past, rising_new}
use Rattle.covering.proofs.lagrangian.charge.Goals.{then-column-len, else-column-len}
use Rattle.covering.proofs.lagrangian.charge.Goals as goal

pub overflow_add-index_mut : goal.overflow_add-index_mut
overflow_add-index_mut c =
    let column = slice_index_or c.args.row.now c.loop-column.column-index 0 in
    let small : column < length c.loop-column.loads.items = (let here = c.if-column-len.true in let is = c.len.ensures in let k = c.loop-column.loads.ok in omega arith) in
    let charged = c.loop-column.invariant.charged column small in
    let new = rising_new 0 c.loop-column.column-index c.args.row.now c.requires.rises c.loop-column-test.true in
    let laid2 = rw new at charged in
    let value = c.index_mut.ensures.value ∙ get_or_default c.loop-column.loads.items column c.index_mut.result.now 0 small in
    let room = c.requires.fits column in
    let is = c.from.ensures in
    let fits : c.index_mut.result.now + c.from.result < 2 ^ 128 = omega arith in
    search (rules, fits)

pub loop-column-preserved : goal.loop-column-preserved
loop-column-preserved c = elim c.if-column-len.branch [
  | then-column-len w ↦ (
      let column = slice_index_or c.args.row.now c.loop-column.column-index 0 in
      let small : column < length c.loop-column.loads.items = (let here = w.if-column-len.true in let is = c.len.ensures in omega arith) in
      let value = w.index_mut.ensures.value ∙ get_or_default c.loop-column.loads.items column w.index_mut.result.now 0 small in
      let is = w.from.ensures in
      let sum : at c.loop-column.loads.items column + c.args.weight ≡ w.index_mut.result.now + w.from.result = omega arith in
      rw w.loads-is (record {
        charged = charged_put c.loop-column.loads.items c.args.loads.now.items c.args.row.now c.loop-column.column-index c.args.weight (w.index_mut.result.now + w.from.result) c.requires.rises c.loop-column-test.true small c.loop-column.invariant.charged sum;
        long = length-set c.loop-column.loads.items column (w.index_mut.result.now + w.from.result) ∙ c.loop-column.invariant.long;
      }))
  | else-column-len w ↦ (
      let past : length c.loop-column.loads.items ≤ slice_index_or c.args.row.now c.loop-column.column-index 0 = (let here = w.if-column-len.false in let is = c.len.ensures in omega arith) in
      rw w.loads-is (record {
        charged = charged_past c.loop-column.loads.items c.args.loads.now.items c.args.row.now c.loop-column.column-index c.args.weight c.requires.rises c.loop-column-test.true past c.loop-column.invariant.charged;
        long = c.loop-column.invariant.long;
      }))
]
