use Rattle.std.proofs.Common.{◌≡◌, ◌∙◌, refl, sym, subst}
use Rattle.covering.specs.Table.{IsTable, items_of, table_of}
use Rattle.covering.proofs.Made.{table_same}
use Rattle.covering.proofs.table.Table.copy.Goals as goal
use Rattle.covering.proofs.table.Table.copy.Goals.{In_ok-rows}

same : (c : In_ok-rows) → table_of c.args.self.now.columns c.in_ok-taken.taken.items c.in_ok-live.live.items (items_of c.in_ok-rows.rows.items) c.args.self.now.weights ≡ c.args.self.now
same c = table_same c.args.self.now.columns _ _ _ _ _ _ _ _ (c.in_ok-taken.ensures ∙ c.taken_columns.ensures.value) (c.in_ok-live.ensures ∙ c.live_columns.ensures.value) (c.in_ok-rows.ensures ∙ c.row_lists.ensures.value) refl

pub with-requires : goal.with-requires
with-requires c = subst IsTable (sym (same (goal.at.with-requires c).In_ok-rows)) c.taken_columns.ensures.table
