use Rattle.std.proofs.Common.{◌≡◌, ◌≢◌, ◌∙◌, ◌+◌, [], true, sym, ap, subst, arith}
use Rattle.covering.specs.Table.{items_of, has}
use Rattle.covering.specs.Search.{marked}
use Rattle.covering.specs.Reduce.{row_at, RowDominanceSoFar, UnmarksDominatingRows, IsTranspose}
use Rattle.covering.proofs.TransposeSteps.{length_items}
use Rattle.covering.proofs.Dominance.{stay_next, stay_skip, stay_done}
use Rattle.covering.proofs.row_dominance.row_dominance.Goals as goal
use Rattle.covering.proofs.row_dominance.row_dominance.Goals.{then-is_marked, else-is_marked}

pub loop-number-preserved : goal.loop-number-preserved
loop-number-preserved c =
    let rows = items_of c.args.rows.now in
    let transpose = items_of c.args.transpose.now in
    let number = c.loop-number.number in
    let wide = length_items c.args.transpose.now in
    let mark = c.is_marked.ensures ∙ ap (λ ms. marked ms number) c.deref.ensures.value in
    elim c.if-is_marked.branch [
      | then-is_marked w ↦ (
          let some = subst (λ row. row ≢ []) (sym w.entry.ensures) (c.requires.filled number c.loop-number-test.true) in
          let stands : has w.rarest-column.result (row_at rows number) ≡ true = subst (λ row. has w.rarest-column.result row ≡ true) w.entry.ensures (w.rarest-column.ensures some) in
          subst (λ marks. RowDominanceSoFar rows (number + 1) marks.items) (sym w.stay-is)
          (stay_next rows number c.loop-number.stay.items c.loop-number.invariant transpose w.rarest-column.result w.unmark_dominating_rows.new.stay.items (let long = length_items c.args.rows.now in let below = c.loop-number-test.true in omega arith) (sym mark ∙ w.if-is_marked.true)
          (subst (λ n. IsTranspose n rows transpose) (sym wide) c.requires.transpose) (let below = c.requires.within number w.rarest-column.result stands in omega arith) stands
          (subst (λ among. UnmarksDominatingRows rows number among c.loop-number.stay.items w.unmark_dominating_rows.new.stay.items) w.entry-among.ensures w.unmark_dominating_rows.ensures)))
      | else-is_marked w ↦ subst (λ marks. RowDominanceSoFar rows (number + 1) marks.items) (sym w.stay-is) (stay_skip rows number c.loop-number.stay.items c.loop-number.invariant (sym mark ∙ w.if-is_marked.false))
    ]

pub returns : goal.returns
returns c = stay_done (items_of c.args.rows.now) c.loop-number.number c.loop-number.stay.items c.loop-number.invariant (let long = length_items c.args.rows.now in let past = c.loop-number-test.false in omega arith)
