use Rattle.std.proofs.Common.{◌≡◌, ◌∙◌, refl, sym, ap, subst}
use Rattle.std.proofs.lemmas.Result.{IfOk-weaker}
use Rattle.std.specs.Prelude.{filter}
use Rattle.covering.specs.Table.{IsTable, items_of, table_of}
use Rattle.covering.specs.Search.{marked}
use Rattle.covering.specs.Parts.{part_of}
use Rattle.covering.proofs.Made.{table_same}
use Rattle.covering.proofs.Sides.{part_table}
use Rattle.covering.proofs.table.Table.part.Goals as goal
use Rattle.covering.proofs.table.Table.part.Goals.{In_ok-rows}

same : (c : In_ok-rows) → table_of c.args.self.now.columns c.args.taken.items c.in_ok-live.live.items (items_of c.in_ok-rows.rows.items) c.args.self.now.weights ≡ part_of (marked c.args.marks.now) c.args.taken.items c.args.self.now
same c = table_same c.args.self.now.columns _ _ _ _ _ _ _ _ refl (c.in_ok-live.ensures ∙ ap (filter (marked c.args.marks.now)) c.live_columns.ensures.value) (c.in_ok-rows.ensures ∙ ap (filter _) c.row_lists.ensures.value) refl

pub with-requires : goal.with-requires
with-requires c = subst IsTable (sym (same (goal.at.with-requires c).In_ok-rows)) (part_table (marked c.args.marks.now) c.args.taken.items c.args.self.now c.row_lists.ensures.table c.requires.rises c.requires.taken)

pub returns : goal.returns
returns c = IfOk-weaker c.with.result _ _ (λ u h. h ∙ same (goal.at.returns c).In_ok-rows) c.with.ensures
