use Rattle.std.proofs.Common.{◌∙◌, not, refl, ap}
use Rattle.std.specs.Prelude.{filter}
use Rattle.covering.specs.Table.{has}
use Rattle.covering.specs.Steps.{put, without}
use Rattle.covering.proofs.Made.{table_same, take_made_table}
use Rattle.covering.proofs.table.Table.take.Goals as goal

pub with-requires : goal.with-requires
with-requires c =
    take_made_table c.args.self.now _ c.args.column c.taken_columns.ensures.table c.requires
    (table_same c.args.self.now.columns _ _ _ _ _ _ _ _
    (c.in_ok-taken.ensures ∙ ap (put c.args.column) c.taken_columns.ensures.value)
    (c.in_ok-live.ensures ∙ ap (without c.args.column) c.live_columns.ensures.value)
    (c.in_ok-rows.ensures ∙ ap (filter (λ row. not (has c.args.column row))) c.row_lists.ensures.value)
    refl)
