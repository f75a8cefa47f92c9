use Rattle.std.proofs.Common.{◌≡◌, ◌∙◌, true, subst, map}
use Rattle.std.specs.Prelude.{MatchOption, filter}
use Rattle.std.specs.List.{list_any}
use Rattle.covering.specs.Table.{Table}
use Rattle.covering.specs.Search.{is_blank, keep_columns, marked}
use Rattle.covering.proofs.Partials.{drops_column}
use Rattle.covering.proofs.table.Table.drop_live.Goals as goal

pub returns : goal.returns
returns c =
    let keep = c.deref.result.now in
    let left = subst (λ (t : Table). MatchOption c.keep_marked.result (list_any is_blank (map (filter (marked keep)) t.rows) ≡ true) (λ u. u ≡ keep_columns (marked keep) t)) c.in_ok-copy.ensures.copy c.keep_marked.ensures in
    drops_column c.args.self.now keep c.columns.result c.args.column c.in_ok-copy.ensures.table c.columns.ensures.count (c.deref.ensures.value ∙ c.in_ok-keep.ensures) c.keep_marked.result left
