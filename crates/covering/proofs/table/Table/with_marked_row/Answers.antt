use Rattle.std.proofs.Common.{◌≡◌, ◌∙◌, true, sym, ap, subst}
use Rattle.std.specs.Prelude.{filter}
use Rattle.covering.specs.Table.{has, RisesFrom}
use Rattle.covering.specs.Search.{marked}
use Rattle.covering.proofs.Sets.{filter_parts, filter_rises}
use Rattle.covering.proofs.table.Table.with_marked_row.Goals as goal
use Rattle.covering.proofs.table.Table.with_marked_row.Goals.{In_ok-row}

row : (c : In_ok-row) → c.in_ok-row.row.items ≡ filter (marked c.args.marks.now) c.args.self.now.live
row c = c.in_ok-row.ensures ∙ ap (filter (marked c.args.marks.now)) c.live_columns.ensures.value

pub with_row-requires-clause-rises : goal.with_row-requires-clause-rises
with_row-requires-clause-rises c = subst (RisesFrom 0) (sym (row (goal.at.with_row-requires-clause-rises c).In_ok-row)) (filter_rises (marked c.args.marks.now) 0 c.args.self.now.live c.live_columns.ensures.table.live_rises)

pub with_row-requires-clause-within : goal.with_row-requires-clause-within
with_row-requires-clause-within c n h = (filter_parts (marked c.args.marks.now) n c.args.self.now.live (subst (λ xs. has n xs ≡ true) (row (goal.at.with_row-requires-clause-within c).In_ok-row) h)).0
