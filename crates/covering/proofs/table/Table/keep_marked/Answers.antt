use Rattle.std.proofs.Common.{◌≡◌, ◌∙◌, false, refl, sym, ap, subst, map}
use Rattle.std.specs.Prelude.{filter}
use Rattle.std.specs.List.{list_any}
use Rattle.covering.specs.Table.{Table, items_of, IsTable, table_of}
use Rattle.covering.specs.Search.{is_blank, marked}
use Rattle.covering.proofs.Branches.{kept_table}
use Rattle.covering.proofs.Rows.{any_items}
use Rattle.covering.proofs.Made.{table_same}
use Rattle.covering.proofs.table.Table.keep_marked.Goals as goal

pub returns-then-any_blank : goal.returns-then-any_blank
returns-then-any_blank c =
    let test = filter (marked c.args.keep.now) in
    let rows = c.retain_marked_in_rows.ensures ∙ ap (λ (t : Table). map test t.rows) c.table.view_is in
    sym (c.any_blank.ensures ∙ any_items is_blank c.deref.result.now ∙ ap (λ rs. list_any is_blank (items_of rs)) c.deref.ensures.value ∙ ap (list_any is_blank) rows) ∙ c.if-any_blank.true

pub invariant_of-table : goal.invariant_of-table
invariant_of-table c =
    let own = c.table.inside in
    let t = table_of own.columns own.taken.items own.live.items (items_of own.rows.items) own.literals.items in
    let some : list_any is_blank (map (filter (marked c.args.keep.now)) t.rows) ≡ false =
    sym (c.any_blank.ensures ∙ any_items is_blank c.deref.result.now ∙ ap (λ rs. list_any is_blank (items_of rs)) c.deref.ensures.value ∙ ap (list_any is_blank) c.retain_marked_in_rows.ensures) ∙ c.if-any_blank.false in
    subst IsTable (sym (table_same t.columns _ _ _ _ _ _ _ _ refl c.retain_marked.ensures c.retain_marked_in_rows.ensures refl)) (kept_table (marked c.args.keep.now) t c.table.invariant some)
