use Rattle.std.proofs.Common.{◌≡◌, ◌∙◌, length, sym, ap, subst, arith}
use Rattle.std.specs.List.{list_all}
use Rattle.covering.specs.Table.{IsTable, AreRows, items_of, is_row}
use Rattle.covering.proofs.Rising.{rows_pass, rows_fail, fresh_table, fresh_made}
use Rattle.covering.proofs.table.Table.new.Goals as goal

pub invariant_of-result : goal.invariant_of-result
invariant_of-result c =
    let long : c.len-columns.result ≡ length c.args.weights.items = omega (arith, c.len-columns.ensures, c.args.weights.ok) in
    let pass : AreRows (length c.args.weights.items) (items_of c.args.rows.items) = subst (λ n. AreRows n (items_of c.args.rows.items)) long
    (rows_pass c.len-columns.result c.args.rows.items (sym (c.are_rows.ensures ∙ ap (list_all (λ row. is_row c.len-columns.result row.items)) c.deref.ensures.value) ∙ c.if-not-are_rows.false)) in
    subst IsTable (sym (fresh_made c.len-columns.result _ _ _ _ long c.new.ensures.items c.in_ok-numbers.ensures)) (fresh_table (items_of c.args.rows.items) c.args.weights.items pass)

pub returns : goal.returns
returns c =
    let long : c.len-columns.result ≡ length c.args.weights.items = omega (arith, c.len-columns.ensures, c.args.weights.ok) in (
      subst (λ n. AreRows n (items_of c.args.rows.items)) long
          (rows_pass c.len-columns.result c.args.rows.items (sym (c.are_rows.ensures ∙ ap (list_all (λ row. is_row c.len-columns.result row.items)) c.deref.ensures.value) ∙ c.if-not-are_rows.false)),
      fresh_made c.len-columns.result _ _ _ _ long c.new.ensures.items c.in_ok-numbers.ensures,
    )

pub returns-then-not-are_rows : goal.returns-then-not-are_rows
returns-then-not-are_rows c =
    let long : c.len-columns.result ≡ length c.args.weights.items = omega (arith, c.len-columns.ensures, c.args.weights.ok) in
    subst (λ n. AreRows n (items_of c.args.rows.items) → ⊥) long
    (rows_fail c.len-columns.result c.args.rows.items (sym (c.are_rows.ensures ∙ ap (list_all (λ row. is_row c.len-columns.result row.items)) c.deref.ensures.value) ∙ c.if-not-are_rows.true))
