use Rattle.std.proofs.Common.{◌∙◌, sym, ap, subst}
use Rattle.std.specs.List.{list_all}
use Rattle.covering.specs.declared.choice.Choice.TheVariants.{First}
use Rattle.covering.specs.Table.{IsTable, items_of, table_of}
use Rattle.covering.specs.Search.{marked}
use Rattle.covering.specs.Steps.{with_rows}
use Rattle.covering.specs.Reduce.{LeavesNoDominatingRow, Shrinks, rows_from}
use Rattle.covering.proofs.Reduced.{some_left_out, row_dominance_shrinks, row_dominance_table}
use Rattle.covering.proofs.table.Table.drop_dominating_rows.Goals as goal

pub invariant_of-self : goal.invariant_of-self
invariant_of-self c =
    let own = c.self.inside in
    let t = table_of own.columns own.taken.items own.live.items (items_of own.rows.items) own.literals.items in
    let stay = c.in_ok-stay.stay.items in
    let marks = subst (λ rs. LeavesNoDominatingRow (items_of rs) stay) c.deref.ensures.value c.in_ok-stay.ensures in
    let rows = c.retain_marked_rows.ensures ∙ ap (λ ks. rows_from (marked ks) 0 t.rows) c.deref-3.ensures.value in
    subst (λ rs. IsTable (with_rows t rs)) (sym rows) (row_dominance_table First t stay c.self.invariant marks)

pub returns : goal.returns
returns c = λ choice.
    let own = c.self.inside in
    let t = table_of own.columns own.taken.items own.live.items (items_of own.rows.items) own.literals.items in
    let stay = c.in_ok-stay.stay.items in
    let marks = subst (λ rs. LeavesNoDominatingRow (items_of rs) stay) c.deref.ensures.value c.in_ok-stay.ensures in
    let rows = c.retain_marked_rows.ensures ∙ ap (λ ks. rows_from (marked ks) 0 t.rows) c.deref-3.ensures.value in
    let fewer = some_left_out t stay marks (sym (ap (list_all (λ mark. mark)) c.deref-2.ensures.value) ∙ sym c.is_full.ensures ∙ c.if-is_full.false) in
    subst (λ u. Shrinks choice u (with_rows t (items_of c.retain_marked_rows.new.rows.items))) c.self.view_is (subst (λ rs. Shrinks choice t (with_rows t rs)) (sym rows) (row_dominance_shrinks choice t stay marks fewer))
