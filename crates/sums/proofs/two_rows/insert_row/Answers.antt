use Rattle.std.proofs.Common.{◌∙◌, ap, sym, drop, length, arith}
use Rattle.rows.specs.Parts.{drop_below, begins_with}
use Rattle.sums.proofs.SumTwo.{merged-there, merged-inserted, merged-pushed}
use Rattle.sums.proofs.two_rows.insert_row.Goals as goal
use Rattle.sums.proofs.two_rows.insert_row.Goals.{then-at-len+in_ok-push, else-at-len+in_ok-insert}

pub returns-then-is_there : goal.returns-then-is_there
returns-then-is_there c =
    sym (merged-there c.args.row c.args.rows.items
    (ap (begins_with c.args.row) (sym (c.first_row_not_below-at.ensures.rest ∙ ap (drop_below c.args.row) c.deref.ensures.value)) ∙ sym c.first_row_not_below-at.ensures.equal ∙ c.if-is_there.true))

pub returns : goal.returns
returns c =
    let row = c.args.row in
    let rows = c.args.rows.items in
    let at = c.first_row_not_below-at.result.0 in
    let here = c.deref.ensures.value in
    let left = ap (drop at) (sym here) ∙ c.first_row_not_below-at.ensures.rest ∙ ap (drop_below row) here in
    let out = ap (λ l. begins_with row (drop at l)) (sym here) ∙ sym c.first_row_not_below-at.ensures.equal ∙ c.if-is_there.false in
    elim c.if-at-len.branch [
      | then-at-len+in_ok-push w ↦
          ap (λ v. v.items) w.all-is ∙ w.in_ok-push.ensures.items ∙ merged-pushed row rows at (omega (arith, w.if-at-len.true)) left out
      | else-at-len+in_ok-insert w ↦
          ap (λ v. v.items) w.all-is ∙ w.in_ok-insert.ensures.items ∙ merged-inserted row rows at (omega (arith, c.first_row_not_below-at.ensures.bound, ap length here)) left out
    ]
